-- The checks of functions that aren't given up, while more are; and why those of them are proved that are open by their
-- size.
use Rattle.std.proofs.Common.{◌≡◌, ◌∙◌, ◌⊎◌, ℕ, ◌+◌, ◌<◌, ◌≤◌, Bool, true, false, List, Some, inl, inr}
use Rattle.std.proofs.Common.{length, slice_get, slice_index_or, refl, sym, ap, subst, arith, below_more}
use Rattle.std.specs.Prelude.{IsTrue}
use Rattle.std.proofs.lemmas.Bool.{false≢true}
use Rattle.std.proofs.lemmas.Option.{same_Some, slice_get_within}
use Rattle.pp_gate.proofs.Places.{at_read, at_some}
use Rattle.pp_graph.specs.Rows.{marked}
use Rattle.pp_prog.specs.declared.check.Check.{Check}
use Rattle.pp_prog.specs.declared.program.Program.{Program}
use Rattle.pp_checks.specs.Closed.{Closed}
use Rattle.pp_checks.specs.Plan.{IsPlanOf, Plan}
use Rattle.pp_induct.specs.declared.ends.CheckEnd.{CheckEnd}
use Rattle.pp_induct.specs.declared.ends.CheckEnd.TheVariants.{Proved, Exhausted, Open}
use Rattle.pp_induct.specs.declared.ends.Why.TheVariants.{Size}
use Rattle.pp_induct.specs.declared.limits.Limits.{Limits}
use Rattle.pp_induct.specs.Reports.{AreEnds, IsEnd, IsExhaustedIn, IsProvedIn}
use Rattle.pp_induct.specs.Verdicts.{IsProvedOrExhausted}
use Rattle.pp_induction.specs.Ends.{AreSettled, IsSettled, NoGuessFails, NoRunFails}
use Rattle.pp_induction.proofs.Good.{good_never_fail}
use Rattle.pp_sound.specs.Sound.{IsCheckOf}
use Rattle.pp_sound.proofs.Owners.{owner_within}
use Rattle.pp_verify.specs.GivenUp.{AreGivenUp, OfCheck, GivesUpOthers, GivesUpUnless, HasHope, HasNoGuess, HasProof}
use Rattle.pp_verify.specs.GivenUp.{HasTriedSize, HoldsOfOthers, IsAsked, IsGivenUp, IsLargeAt, IsLargeEnd}

-- an end that is open by its size isn't settled
large_unsettled : (e : CheckEnd) → IsLargeEnd e → IsProvedOrExhausted e → ⊥
large_unsettled e large (inl proved) =
    let no : Open large.0 Size ≡ Proved proved.0 = sym large.1 ∙ proved.1 in cc
large_unsettled e large (inr exhausted) =
    let no : Open large.0 Size ≡ Exhausted exhausted.0 = sym large.1 ∙ exhausted.1 in cc

-- a check of which nothing is asked is one of a function that is given up, or isn't open by its size
given_up_or : (ends : List CheckEnd) (marks : List Bool) (i c : ℕ) → (IsAsked ends marks i c → ⊥)
    → IsGivenUp marks i ⊎ (IsLargeAt ends c → ⊥)
given_up_or ends marks i c never = by (marked marks i) refl
  where
    by : (b : Bool) → marked marks i ≡ b → IsGivenUp marks i ⊎ (IsLargeAt ends c → ⊥)
    by true e = inl e
    by false e = inr (λ large. never (large, λ h. false≢true (sym e ∙ h)))

-- what holds of the end that was read at a place holds of the end there
pub at_end : (ends : List CheckEnd) (n : ℕ) (read : CheckEnd) → n < length ends → read ≡ slice_index_or ends n read
    → (P : CheckEnd → Type 0) → P read → (end : CheckEnd) → slice_get ends n ≡ Some end → P end
at_end ends n read lt is P holds end at =
    subst P (same_Some read end (sym (at_read ends n read lt is) ∙ at)) holds

module _ (p : Program) (ends : List CheckEnd) where
  -- what holds of the checks of the other functions holds where more are given up
  pub more_given_up : (P : OfCheck) (n : ℕ) (marks after : List Bool)
      → ((g : ℕ) → IsGivenUp marks g → IsGivenUp after g)
      → HoldsOfOthers p ends P n marks → HoldsOfOthers p ends P n after
  more_given_up P n marks after kept holds c check end lt listed at = elim (holds c check end lt listed at) [
    | inl given ↦ inl (kept check.function.0 given)
    | inr is ↦ inr is
  ]

  module _ (P : OfCheck) (before : List Bool) where
    pub none_yet : AreGivenUp p before → GivesUpOthers p ends P 0 before before
    none_yet marks = record {
      marks = marks;
      kept = λ g h. h;
      others = λ c check end lt listed at. absurd (omega (arith, lt));
    }

    -- after all checks
    pub all_passed : (n : ℕ) (after : List Bool) → length p.checks ≤ n → GivesUpOthers p ends P n before after
        → GivesUpOthers p ends P (length p.checks) before after
    all_passed n after all so = record {
      marks = so.marks;
      kept = so.kept;
      others = λ c check end lt listed at. so.others c check end (omega (arith, lt, all)) listed at;
    }

    -- one more check, which is one of function number i
    module _ (n i : ℕ) (marks : List Bool) (so : GivesUpOthers p ends P n before marks) (own : IsCheckOf p i n) where
      others_more : (after : List Bool) → ((g : ℕ) → IsGivenUp marks g → IsGivenUp after g)
          → ((end : CheckEnd) → slice_get ends n ≡ Some end → IsGivenUp after i ⊎ P i (record { 0 = n }) end)
          → HoldsOfOthers p ends P (n + 1) after
      others_more after kept last c check end lt listed at =
          below_more (λ (k : ℕ). (other : Check) (e : CheckEnd) → slice_get p.checks k ≡ Some other
          → slice_get ends k ≡ Some e → IsGivenUp after other.function.0 ⊎ P other.function.0 (record { 0 = k }) e) n
          (λ k less other e. more_given_up P n marks after kept so.others k other e less)
          (λ other e is there.
          let same : other ≡ own.check = same_Some other own.check (sym is ∙ own.listed) in
          let owner : i ≡ other.function.0 = sym (ap (λ (k : Check). k.function.0) same ∙ own.owner) in
          subst (λ (j : ℕ). IsGivenUp after j ⊎ P j (record { 0 = n }) e) owner (last e there)) c lt check end listed at

      -- its function is given up unless there is hope, and then it is as it has to be
      pub one_more : (hope : Bool) (after : List Bool) → GivesUpUnless p hope i marks after
          → (IsTrue hope → (end : CheckEnd) → slice_get ends n ≡ Some end → P i (record { 0 = n }) end)
          → GivesUpOthers p ends P (n + 1) before after
      one_more hope after step is = record {
        marks = step.marks;
        kept = λ g h. step.kept g (so.kept g h);
        others = others_more after step.kept (λ end at. elim step.given_up [
          | inl hoped ↦ inr (is hoped end at)
          | inr given ↦ inl given
        ]);
      }

      -- or nothing is asked of it
      pub one_passed : (IsAsked ends marks i n → ⊥)
          → ((end : CheckEnd) → (IsLargeEnd end → ⊥) → P i (record { 0 = n }) end)
          → GivesUpOthers p ends P (n + 1) before marks
      one_passed never is = record {
        marks = so.marks;
        kept = so.kept;
        others = others_more marks (λ g h. h) (λ end at. elim (given_up_or ends marks i n never) [
          | inl given ↦ inl given
          | inr small ↦ inr (is end (λ large. small (end, at, large)))
        ]);
      }

-- the functions that aren't given up
module _ (plan : Plan) (p : Program) (is_plan : IsPlanOf plan p) (limits : Limits) (ends : List CheckEnd)
    (one_each : length ends ≡ length p.checks) (are : AreEnds p limits ends) (marks : List Bool)
    (given_up : AreGivenUp p marks) (hope : HoldsOfOthers p ends (HasHope p limits) (length p.checks) marks)
    (guesses : HoldsOfOthers p ends (HasNoGuess p limits) (length p.checks) marks) where
  -- each check of their cones is settled
  cone_settled : (i : ℕ) → i < length p.functions → (IsGivenUp marks i → ⊥) → AreSettled p i
  cone_settled i within unmarked g c lt cone own =
      let at = at_some ends c.0 (omega (arith, one_each, slice_get_within p.checks c.0 own.check own.listed)) in
      by at.0 at.1
    where
      check : Check
      check = own.check

      inside : c.0 < length p.checks
      inside = slice_get_within p.checks c.0 own.check own.listed

      still : IsGivenUp marks check.function.0 → ⊥
      still h = unmarked (given_up.callers i g within cone (subst (IsGivenUp marks) own.owner h))

      no_guess : (end : CheckEnd) → slice_get ends c.0 ≡ Some end → IsLargeEnd end
          → NoGuessFails p check.function.0 c limits.rounds
      no_guess end at large = elim (guesses c.0 check end inside own.listed at) [
        | inl given ↦ absurd (still given)
        | inr none ↦ none large
      ]

      settled : (end : CheckEnd) → slice_get ends c.0 ≡ Some end → IsEnd p limits check.function.0 c end
          → HasHope p limits check.function.0 c end → IsSettled p check.function.0 c
      settled end at is (inl (inl proved)) =
          let h : IsProvedIn p limits check.function.0 c proved.0 =
          subst (IsEnd p limits check.function.0 c) proved.1 is in
          (proved.0, limits.depth, inl h.proved.guesses)
      settled end at is (inl (inr exhausted)) =
          let h : IsExhaustedIn p limits check.function.0 c exhausted.0 =
          subst (IsEnd p limits check.function.0 c) exhausted.1 is in
          (exhausted.0, limits.depth, inr h.exhausted)
      settled end at is (inr large) = (limits.rounds, limits.depth, inl (no_guess end at large.0))

      by : (end : CheckEnd) → slice_get ends c.0 ≡ Some end → IsSettled p g c
      by end at = elim (hope c.0 check end inside own.listed at) [
        | inl given ↦ absurd (still given)
        | inr has ↦ subst (λ (j : ℕ). IsSettled p j c) own.owner
            (settled end at (are c.0 check end own.listed at) has)
      ]

  -- so each of their checks that is open by its size is proved
  module _ (tried : HoldsOfOthers p ends (HasTriedSize p limits) (length p.checks) marks) (c i : ℕ) (check : Check)
      (end : CheckEnd) (lt : c < length p.checks) (listed : slice_get p.checks c ≡ Some check)
      (at : slice_get ends c ≡ Some end) (owner : check.function.0 ≡ i) (unmarked : IsGivenUp marks i → ⊥)
      (large : IsLargeEnd end) where
    holds_here : (P : OfCheck) → HoldsOfOthers p ends P (length p.checks) marks → P i (record { 0 = c }) end
    holds_here P holds =
        let told = holds c check end lt listed at in
        elim (subst (λ (j : ℕ). IsGivenUp marks j ⊎ P j (record { 0 = c }) end) owner told) [
          | inl given ↦ absurd (unmarked given)
          | inr is ↦ is
        ]

    no_run_fails : NoRunFails p i (record { 0 = c }) limits.rounds
    no_run_fails =
        let own : IsCheckOf p i c = record { check = check; listed = listed; owner = owner } in
        good_never_fail plan p is_plan i (cone_settled i (owner_within p i c own) unmarked) i (record { 0 = c })
        (inl refl) limits.rounds

    is_open : HasHope p limits i (record { 0 = c }) end → Closed p.types p.functions i limits.rounds limits.depth → ⊥
    is_open (inl done) = absurd (large_unsettled end large done)
    is_open (inr here) = here.1

    is_proved : IsProvedIn p limits i (record { 0 = c }) limits.rounds
    is_proved = record {
      tried = holds_here (HasTriedSize p limits) tried large;
      proved = record {
        guesses = holds_here (HasNoGuess p limits) guesses large;
        runs = λ f args called low. no_run_fails f args called;
      };
      open_still = is_open (holds_here (HasHope p limits) hope);
    }

  pub others_are_proved : HoldsOfOthers p ends (HasTriedSize p limits) (length p.checks) marks
      → HoldsOfOthers p ends (HasProof p limits) (length p.checks) marks
  others_are_proved tried c check end lt listed at = by (marked marks check.function.0) refl
    where
      by : (b : Bool) → marked marks check.function.0 ≡ b
          → IsGivenUp marks check.function.0 ⊎ HasProof p limits check.function.0 (record { 0 = c }) end
      by true e = inl e
      by false e =
          inr (is_proved tried c check.function.0 check end lt listed at refl (λ h. false≢true (sym e ∙ h)))
