-- What is supposed in each round holds in values that obey the steps in the world of the answers.
use Rattle.std.proofs.Common.{◌≡◌, ◌≤◌, ◌<◌, ℕ, suc, ◌+◌, Bool, true, false, List, [], ◌∷◌, ◌++◌, length, refl, sym}
use Rattle.std.proofs.Common.{subst, arith}
use Rattle.std.specs.Prelude.{nat_eq, nat_lt, if◌then◌else◌, Some, slice_get}
use Rattle.std.proofs.lemmas.Bool.{eqb-true}
use Rattle.pp_prog.specs.declared.expr.Function.{Function}
use Rattle.pp_prog.specs.declared.id.CtorId.{CtorId}
use Rattle.pp_prog.specs.declared.types.Ctor.{Ctor}
use Rattle.pp_prog.specs.declared.value.Value.{Value}
use Rattle.pp_guess_runs.specs.Answers.{Answers}
use Rattle.pp_steps.proofs.Counting.{zero_plus}
use Rattle.pp_steps.specs.declared.step.OpenCall.{OpenCall}
use Rattle.pp_steps.specs.declared.step.Step.{Step}
use Rattle.pp_steps.specs.declared.step.Step.TheVariants as steps
use Rattle.pp_steps.specs.Guesses.{GuessSteps, Standing, agreeing, agreeing_with, all_agreeing, all_unfolded}
use Rattle.pp_steps.specs.Guesses.{calls_before, calls_from, grown, one_unfolded, standing}
use Rattle.pp_steps.specs.Guesses.{unfolded_call, with_agreement}
use Rattle.pp_steps.specs.Meaning.{Obeys, Values, answer_of}
use Rattle.pp_steps.specs.Piece.{Piece, after, joined, plain}
use Rattle.pp_steps_run.specs.Told.{AllOf, IsMade, On}
use Rattle.pp_steps_run.proofs.Pieces.{all_join, made_left, made_right, obeys_left, obeys_right}
use Rattle.pp_guess_steps.proofs.Ties.{IsHonest, unfolded_on}
use Rattle.pp_guess_steps.specs.OpenCalls.{world}
use Rattle.pp_guess_steps.proofs.Pairs.{agreeing_on}

-- each call's answer stands right behind the number that tells whether it has one, and no answer stands alone
abbrev pub Paired : List Step → Type 0
Paired [] = Unit {0}
Paired (steps.HasAnswer c ∷ []) = ⊥
Paired (steps.HasAnswer c ∷ steps.Answer d ∷ ss) = (c ≡ d) × Paired ss
Paired (steps.HasAnswer c ∷ steps.HasAnswer d ∷ ss) = ⊥
Paired (steps.HasAnswer d ∷ steps.Open s ∷ ss) = ⊥
Paired (steps.HasAnswer d ∷ steps.Int n ∷ ss) = ⊥
Paired (steps.HasAnswer d ∷ steps.Bool b ∷ ss) = ⊥
Paired (steps.HasAnswer d ∷ steps.Not a ∷ ss) = ⊥
Paired (steps.HasAnswer d ∷ steps.Both a b ∷ ss) = ⊥
Paired (steps.HasAnswer d ∷ steps.Choose c a b ∷ ss) = ⊥
Paired (steps.HasAnswer d ∷ steps.Unary op a ∷ ss) = ⊥
Paired (steps.HasAnswer d ∷ steps.Binary op a b ∷ ss) = ⊥
Paired (steps.HasAnswer d ∷ steps.Construct c fields ∷ ss) = ⊥
Paired (steps.HasAnswer d ∷ steps.IsCtor c n a ∷ ss) = ⊥
Paired (steps.HasAnswer d ∷ steps.CtorField c i a ∷ ss) = ⊥
Paired (steps.HasAnswer d ∷ steps.Field a i ∷ ss) = ⊥
Paired (steps.HasAnswer d ∷ steps.IsAlike a b ∷ ss) = ⊥
Paired (steps.HasAnswer d ∷ steps.GoesDown a b ∷ ss) = ⊥
Paired (steps.Answer c ∷ ss) = ⊥
Paired (steps.Open s ∷ ss) = Paired ss
Paired (steps.Int n ∷ ss) = Paired ss
Paired (steps.Bool b ∷ ss) = Paired ss
Paired (steps.Not a ∷ ss) = Paired ss
Paired (steps.Both a b ∷ ss) = Paired ss
Paired (steps.Choose c a b ∷ ss) = Paired ss
Paired (steps.Unary op a ∷ ss) = Paired ss
Paired (steps.Binary op a b ∷ ss) = Paired ss
Paired (steps.Construct c fields ∷ ss) = Paired ss
Paired (steps.IsCtor c n a ∷ ss) = Paired ss
Paired (steps.CtorField c i a ∷ ss) = Paired ss
Paired (steps.Field a i ∷ ss) = Paired ss
Paired (steps.IsAlike a b ∷ ss) = Paired ss
Paired (steps.GoesDown a b ∷ ss) = Paired ss

pub less_than : (r n : ℕ) → suc r ≤ n → r < n
less_than r n h = omega (arith, h)

pub less_before : (r n : ℕ) → suc r ≤ n → r ≤ n
less_before r n h = omega (arith, h)

module _ (ctors : List Ctor) (functions : List Function) (W : Answers) (field : CtorId → ℕ → Value) (N : ℕ)
    (ρ : Values) where
  abbrev Made : {A : Type 0} → ℕ → Piece A → Type 0
  Made k x = IsMade ctors (world functions W field N) ρ k x

  abbrev Does_all : ℕ → List Step → Type 0
  Does_all k ss = Obeys ctors (world functions W field N) ρ k ss

  abbrev Honest : Standing → Type 0
  Honest = IsHonest ctors functions W field N ρ

  pub honest_from : (k : ℕ) (ss : List Step) → Does_all k ss → Paired ss → AllOf Honest (standing k ss)
  honest_from k [] h p = tt
  honest_from k (steps.HasAnswer c ∷ []) h p = absurd p
  honest_from k (steps.HasAnswer c ∷ steps.Answer d ∷ ss) h p = (
    record {
      has = λ on. h.0 on;
      result =
          subst (λ (e : OpenCall). On ρ e.reach → (u : Value)
          → answer_of (world functions W field N) ρ e
          ≡ Some u → ρ (suc k) ≡ u) (sym p.0) h.1.0;
    },
    honest_from (suc (suc k)) ss h.1.1 p.1,
  )
  honest_from k (steps.HasAnswer c ∷ steps.HasAnswer d ∷ ss) h p = absurd p
  honest_from k (steps.HasAnswer d ∷ steps.Open s ∷ ss) h p = absurd p
  honest_from k (steps.HasAnswer d ∷ steps.Int n ∷ ss) h p = absurd p
  honest_from k (steps.HasAnswer d ∷ steps.Bool b ∷ ss) h p = absurd p
  honest_from k (steps.HasAnswer d ∷ steps.Not a ∷ ss) h p = absurd p
  honest_from k (steps.HasAnswer d ∷ steps.Both a b ∷ ss) h p = absurd p
  honest_from k (steps.HasAnswer d ∷ steps.Choose c a b ∷ ss) h p = absurd p
  honest_from k (steps.HasAnswer d ∷ steps.Unary op a ∷ ss) h p = absurd p
  honest_from k (steps.HasAnswer d ∷ steps.Binary op a b ∷ ss) h p = absurd p
  honest_from k (steps.HasAnswer d ∷ steps.Construct c fields ∷ ss) h p = absurd p
  honest_from k (steps.HasAnswer d ∷ steps.IsCtor c n a ∷ ss) h p = absurd p
  honest_from k (steps.HasAnswer d ∷ steps.CtorField c i a ∷ ss) h p = absurd p
  honest_from k (steps.HasAnswer d ∷ steps.Field a i ∷ ss) h p = absurd p
  honest_from k (steps.HasAnswer d ∷ steps.IsAlike a b ∷ ss) h p = absurd p
  honest_from k (steps.HasAnswer d ∷ steps.GoesDown a b ∷ ss) h p = absurd p
  honest_from k (steps.Answer c ∷ ss) h p = absurd p
  honest_from k (steps.Open s ∷ ss) h p = honest_from (suc k) ss h.1 p
  honest_from k (steps.Int n ∷ ss) h p = honest_from (suc k) ss h.1 p
  honest_from k (steps.Bool b ∷ ss) h p = honest_from (suc k) ss h.1 p
  honest_from k (steps.Not a ∷ ss) h p = honest_from (suc k) ss h.1 p
  honest_from k (steps.Both a b ∷ ss) h p = honest_from (suc k) ss h.1 p
  honest_from k (steps.Choose c a b ∷ ss) h p = honest_from (suc k) ss h.1 p
  honest_from k (steps.Unary op a ∷ ss) h p = honest_from (suc k) ss h.1 p
  honest_from k (steps.Binary op a b ∷ ss) h p = honest_from (suc k) ss h.1 p
  honest_from k (steps.Construct c fields ∷ ss) h p = honest_from (suc k) ss h.1 p
  honest_from k (steps.IsCtor c n a ∷ ss) h p = honest_from (suc k) ss h.1 p
  honest_from k (steps.CtorField c i a ∷ ss) h p = honest_from (suc k) ss h.1 p
  honest_from k (steps.Field a i ∷ ss) h p = honest_from (suc k) ss h.1 p
  honest_from k (steps.IsAlike a b ∷ ss) h p = honest_from (suc k) ss h.1 p
  honest_from k (steps.GoesDown a b ∷ ss) h p = honest_from (suc k) ss h.1 p

  before_honest : (n : ℕ) (cs : List Standing) → AllOf Honest cs → AllOf Honest (calls_before n cs)
  before_honest n [] h = tt
  before_honest n (c ∷ cs) h = by (nat_lt c.has n) (before_honest n cs h.1)
    where
      by : (b : Bool) → AllOf Honest (calls_before n cs)
          → AllOf Honest (if b then c ∷ calls_before n cs else calls_before n cs)
      by true r = (h.0, r)
      by false r = r

  from_honest : (n : ℕ) (cs : List Standing) → AllOf Honest cs → AllOf Honest (calls_from n cs)
  from_honest n [] h = tt
  from_honest n (c ∷ cs) h = by (nat_lt c.has n) (from_honest n cs h.1)
    where
      by : (b : Bool) → AllOf Honest (calls_from n cs)
          → AllOf Honest (if b then calls_from n cs else c ∷ calls_from n cs)
      by true r = r
      by false r = (h.0, r)

  -- ---- agreement

  one_pair : (b : Bool) (c d : Standing) → Honest c → Honest d → nat_eq c.call.callee.0 d.call.callee.0 ≡ b
      → (k t : ℕ) → Made k (if b then agreeing k c d t else plain [] [] t)
      → AllOf (On ρ) (if b then agreeing k c d t else plain [] [] t).out
  one_pair true c d hc hd e k t h = agreeing_on ctors functions W field N ρ c d hc hd e k t h
  one_pair false c d hc hd e k t h = tt

  with_on : (c : Standing) → Honest c → (ds : List Standing) → AllOf Honest ds → (k t : ℕ)
      → Made k (agreeing_with k c ds t) → AllOf (On ρ) (agreeing_with k c ds t).out
  with_on c hc [] hs k t h = tt
  with_on c hc (d ∷ ds) hs k t h =
      let w = world functions W field N in
      let x = if nat_eq c.call.callee.0 d.call.callee.0 then agreeing k c d t else plain [] [] t in
      let y = agreeing_with (after k x) c ds t in
      let z : Piece (List ℕ) = plain [] (x.out ++ y.out) t in
      let h1 = made_right ctors w ρ k x (joined y z) h in
      all_join (On ρ) x.out y.out
      (one_pair (nat_eq c.call.callee.0 d.call.callee.0) c d hc hs.0 refl k t (made_left ctors w ρ k x (joined y z) h))
      (with_on c hc ds hs.1 (after k x) t (made_left ctors w ρ (after k x) y z h1))

  all_on : (olds : List Standing) → AllOf Honest olds → (cs : List Standing) → AllOf Honest cs → (k t : ℕ)
      → Made k (all_agreeing k olds cs t) → AllOf (On ρ) (all_agreeing k olds cs t).out
  all_on olds ho [] hs k t h = tt
  all_on olds ho (c ∷ cs) hs k t h =
      let w = world functions W field N in
      let x = agreeing_with k c olds t in
      let y = all_agreeing (after k x) (olds ++ c ∷ []) cs t in
      let z : Piece (List ℕ) = plain [] (x.out ++ y.out) t in
      let h1 = made_right ctors w ρ k x (joined y z) h in
      all_join (On ρ) x.out y.out
      (with_on c hs.0 olds ho k t (made_left ctors w ρ k x (joined y z) h))
      (all_on (olds ++ c ∷ []) (all_join Honest olds (c ∷ []) ho (hs.0, tt)) cs hs.1 (after k x) t
      (made_left ctors w ρ (after k x) y z h1))

  module _ where
    made_of : {A : Type 0} (k : ℕ) (x : Piece A) → Does_all k x.steps → Made k x
    made_of k x h = record { steps = h }

    pub agreement_on : (n : ℕ) (g : GuessSteps) → Does_all 0 (with_agreement n g).steps → Paired g.steps
        → AllOf (On ρ) g.supposed → AllOf (On ρ) (with_agreement n g).supposed
    agreement_on n g h p on =
        let w = world functions W field N in
        let k = length g.steps in
        let x = all_agreeing k (calls_before n (standing 0 g.steps)) (calls_from n (standing 0 g.steps)) g.true_one in
        let honest = honest_from 0 g.steps (obeys_left ctors w ρ 0 g.steps x.steps h) p in
        all_join (On ρ) g.supposed x.out on
        (all_on (calls_before n (standing 0 g.steps)) (before_honest n (standing 0 g.steps) honest)
        (calls_from n (standing 0 g.steps)) (from_honest n (standing 0 g.steps) honest) k g.true_one
        (made_of k x (subst (λ i. Does_all i x.steps) (zero_plus k) (obeys_right ctors w ρ 0 g.steps x.steps h))))

    -- ---- calls that are unfolded

    one_on : (r : ℕ) → r < N → (b : Bool) (c : Standing) → Honest c → nat_eq c.call.wait r ≡ b → (k : ℕ)
        → Made k (one_unfolded functions b k c) → AllOf (On ρ) (one_unfolded functions b k c).out
    one_on r early false c hc e k h = tt
    one_on r early true c hc e k h =
        let w = world functions W field N in
        let x = unfolded_call functions k c in
        let z : Piece (List ℕ) = plain [] (x.out ∷ []) 0 in (
          unfolded_on ctors functions W field N ρ c hc
              (subst (λ i. i < N) (sym (eqb-true c.call.wait r e)) early) k
              (slice_get functions c.call.callee.0) refl (made_left ctors w ρ k x z h),
          tt,
        )

    unfold_on : (r : ℕ) → r < N → (cs : List Standing) → AllOf Honest cs → (k : ℕ) → Made k
        (all_unfolded functions r k cs)
        → AllOf (On ρ) (all_unfolded functions r k cs).out
    unfold_on r early [] hs k h = tt
    unfold_on r early (c ∷ cs) hs k h =
        let w = world functions W field N in
        let x = one_unfolded functions (nat_eq c.call.wait r) k c in
        let y = all_unfolded functions r (after k x) cs in
        let z : Piece (List ℕ) = plain [] (x.out ++ y.out) 0 in
        let h1 = made_right ctors w ρ k x (joined y z) h in
        all_join (On ρ) x.out y.out
        (one_on r early (nat_eq c.call.wait r) c hs.0 refl k (made_left ctors w ρ k x (joined y z) h))
        (unfold_on r early cs hs.1 (after k x) (made_left ctors w ρ (after k x) y z h1))

    -- ---- rounds

    -- the steps of a round with those of the calls that it unfolds, before their agreement
    abbrev pub unfolded_steps : ℕ → GuessSteps → List Step
    unfolded_steps r g = g.steps ++ (all_unfolded functions r (length g.steps) (standing 0 g.steps)).steps

    pub grown_on : (r : ℕ) → r < N → (g : GuessSteps) → Does_all 0 (grown functions r g).steps → Paired g.steps
        → Paired (unfolded_steps r g) → AllOf (On ρ) g.supposed → AllOf (On ρ) (grown functions r g).supposed
    grown_on r early g h p q on =
        let w = world functions W field N in
        let k = length g.steps in
        let x = all_unfolded functions r k (standing 0 g.steps) in
        let mid : GuessSteps = record {
          steps = g.steps ++ x.steps;
          arguments = g.arguments;
          fails = g.fails;
          true_one = g.true_one;
          supposed = g.supposed ++ x.out;
        } in
        let y = all_agreeing (length mid.steps) (calls_before k (standing 0 mid.steps))
        (calls_from k (standing 0 mid.steps))
        g.true_one in
        let hm = obeys_left ctors w ρ 0 mid.steps y.steps h in
        let honest = honest_from 0 g.steps (obeys_left ctors w ρ 0 g.steps x.steps hm) p in
        agreement_on k mid h q
        (all_join (On ρ) g.supposed x.out on
        (unfold_on r early (standing 0 g.steps) honest k
        (made_of k x (subst (λ i. Does_all i x.steps) (zero_plus k) (obeys_right ctors w ρ 0 g.steps x.steps hm)))))
