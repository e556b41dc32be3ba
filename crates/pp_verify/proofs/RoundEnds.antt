-- The ends of a check, round after round.
use Rattle.std.proofs.Common.{◌≡◌, ℕ, zero, suc, ◌+◌, ◌<◌, ◌≤◌, Bool, true, false, refl, arith, below_more, inl, inr}
use Rattle.std.specs.Prelude.{List, [], ◌∷◌, nat_lt}
use Rattle.std.proofs.lemmas.Bool.{and_parts, ltb-false, ltb-true}
use Rattle.std.proofs.lemmas.List.Elements.{All-cons, All-nil, Contains-append_right}
use Rattle.pp_clause.specs.declared.spent.Spent.{Spent}
use Rattle.pp_prog.specs.declared.id.CheckId.{CheckId}
use Rattle.pp_prog.specs.declared.program.Program.{Program}
use Rattle.pp_prog.specs.declared.sort.Sort.{Sort}
use Rattle.pp_prog.specs.declared.types.Ctor.{Ctor}
use Rattle.pp_prog.specs.declared.value.Value.{Value}
use Rattle.pp_prog.specs.Values.{height}
use Rattle.pp_prog.specs.Sorts.{has_sort, have_sorts, param_sorts}
use Rattle.pp_checks.specs.Closed.{AreUpTo, Closed}
use Rattle.pp_estimate_laws.proofs.Estimates.{grows_with_rounds}
use Rattle.pp_evidence.specs.Evidence.{IsSearchEvidence}
use Rattle.pp_induct.specs.declared.ends.CheckEnd.TheVariants.{Exhausted, Invalid, Proved}
use Rattle.pp_induct.specs.declared.ends.Why.TheVariants.{Lemmas, Size}
use Rattle.pp_induct.specs.declared.limits.Limits.{Limits}
use Rattle.pp_induct.specs.Reports.{IsBegun, IsEnd, IsFronted, IsGuessed, IsOutOfLemmas, IsSearched, IsSearchedTo}
use Rattle.pp_induct.specs.Reports.{IsTooLarge, IsTried, size_of}
use Rattle.pp_induction.specs.Ends.{GuessFails, NoGuessFails, NoLowRunFails, NoRunFails}
use Rattle.pp_sound.specs.Counterexample.{AreLow, IsCounterexample}
use Rattle.pp_verify.proofs.Repeated.{guess_fails_after, repeated_are_alike}
use Rattle.pp_verify.specs.Laws.{IsAlikeAfter}
use Rattle.pp_verify.specs.Rounds.{HasSearchedBefore, IsRepeated, open_before, round_before}

-- where values of these sorts are up to the height, lists of such values are
are_low : (ctors : List Ctor) (args : List Value) (sorts : List Sort) (h : ℕ) → AreUpTo ctors sorts h
    → have_sorts ctors args sorts ≡ true → AreLow h args
are_low ctors [] sorts h up_to have = All-nil (λ v. height v ≤ h)
are_low ctors (v ∷ vs) [] h up_to have = cc
are_low ctors (v ∷ vs) (s ∷ ss) h up_to have =
    let p = and_parts (has_sort ctors v s) _ have in
    All-cons (λ w. height w ≤ h) v vs (up_to s (0, omega arith, refl) v p.0)
    (are_low ctors vs ss h (λ t has. up_to t (Contains-append_right (s ∷ []) ss t has)) p.1)

-- a round whose runs are those of the round before finds nothing either
module _ {p : Program} {limits : Limits} {i : ℕ} {c : CheckId} where
  pub repeated_is_searched : (round : ℕ) → HasSearchedBefore p limits i c round → IsBegun p limits i c round
      → IsRepeated p.functions i round → HasSearchedBefore p limits i c (round + 1)
  repeated_is_searched zero before begun nests = absurd nests
  repeated_is_searched (suc n) before begun nests = record {
    each = below_more (IsSearchedTo p limits i c) (suc n) before.each
        (record {
          begun = begun;
          none = alike.runs.0 last.none;
          open_still = λ closed. last.open_still (alike.closed.1 closed);
        });
    not_plain = λ first. before.not_plain (omega arith);
    guessed = λ word. below_more (GuessFails p i c) (suc n) (before.guessed word)
        (guess_fails_after p i c n nests (before.guessed word n (omega arith)));
  }
    where
      last : IsSearchedTo p limits i c n
      last = before.each n (omega arith)

      alike : IsAlikeAfter p i c n limits.depth
      alike = repeated_are_alike p i n nests c limits.depth

-- no arguments up to the depth fail the check with less fuel than that of the next round
none_before : {p : Program} {limits : Limits} {i : ℕ} {c : CheckId} {round : ℕ} → HasSearchedBefore p limits i c round
    → (k : ℕ) → k < round → (args : List Value) → IsCounterexample p i c k limits.depth args → ⊥
none_before before k lt args failing =
    (before.each k lt).none failing.function args failing.called failing.low failing.fails

-- a round that is too large isn't begun
pub open_by_size : (p : Program) (limits : Limits) (i : ℕ) (c : CheckId) (round : ℕ)
    → HasSearchedBefore p limits i c round → IsTooLarge p limits i c round → IsEnd p limits i c (open_before round Size)
open_by_size p limits i c zero before large = (tt, large, tt)
open_by_size p limits i c (suc n) before large =
    (before.each n (omega arith), large, λ word. before.guessed word n (omega arith))

-- what stands behind the end of a check in a round that is begun, after rounds that found nothing
module _ {p : Program} {limits : Limits} {i : ℕ} {c : CheckId} {round : ℕ}
    (before : HasSearchedBefore p limits i c round) (begun : IsBegun p limits i c round) where
  is_tried : IsTried p limits i c round
  is_tried = record { round = begun.round; size = inl begun.size }

  searched_before : (n : ℕ) → HasSearchedBefore p limits i c n → IsSearched p limits i c (round_before n)
  searched_before zero before = tt
  searched_before (suc n) before = before.each n (omega arith)

  pub open_by_search : (s : Spent) → IsSearchEvidence p i c round limits.depth limits.lemmas s
      → IsEnd p limits i c (open_before round (Lemmas s))
  open_by_search s evidence = (searched_before round before, by round begun evidence, guessed_by round before)
    where
      by : (n : ℕ) → IsBegun p limits i c n → IsSearchEvidence p i c n limits.depth limits.lemmas s
          → IsOutOfLemmas p limits i c (round_before n) s
      by zero begun evidence = record { begun = begun; evidence = evidence }
      by (suc n) begun evidence = inl (record { begun = begun; evidence = evidence })

      guessed_by : (n : ℕ) → HasSearchedBefore p limits i c n → IsGuessed p limits i c (round_before n) (Lemmas s)
      guessed_by zero before = tt
      guessed_by (suc n) before = λ word. inr (before.guessed word n (omega arith))

  pub invalid_by : (args : List Value) → IsCounterexample p i c round limits.depth args
      → IsEnd p limits i c (Invalid args round)
  invalid_by args fails = record {
    tried = is_tried;
    fails = fails;
    least = λ k lt. none_before before k lt args;
    first = λ k lt small. none_before before k lt;
  }

  module _ (none : (args : List Value) → IsCounterexample p i c round limits.depth args → ⊥) where
    no_low_run_fails : NoLowRunFails p i c round limits.depth
    no_low_run_fails f args called low fails =
        none args (record { function = f; called = called; low = low; fails = fails })

    -- in a closed function all arguments are low
    pub exhausted_by : Closed p.types p.functions i round limits.depth → IsEnd p limits i c (Exhausted round)
    exhausted_by closed = record {
      tried = is_tried;
      exhausted = record { closed = closed; runs = no_run_fails };
      first = λ k lt small earlier. (before.each k lt).open_still earlier;
    }
      where
        no_run_fails : NoRunFails p i c round
        no_run_fails f args called =
            no_low_run_fails f args called
            (are_low p.types.ctors args (param_sorts f.params) limits.depth (closed.low f called.function)
            called.arguments)

    pub is_searched : (Closed p.types p.functions i round limits.depth → ⊥) → IsSearchedTo p limits i c round
    is_searched still = record { begun = begun; none = no_low_run_fails; open_still = still }

-- the end of a check where the next round is left to the fronts
module _ {p : Program} {limits : Limits} {i : ℕ} {c : CheckId} {round : ℕ}
    (before : HasSearchedBefore p limits i c round) (fronted : IsFronted p limits i c round) where
  -- a round that isn't too large comes before it
  small_is_before : (k : ℕ) → size_of p limits i c k ≤ limits.gates → k < round
  small_is_before k small = by (nat_lt k round) refl
    where
      by : (b : Bool) → nat_lt k round ≡ b → k < round
      by true e = ltb-true k round e
      by false e =
          let later = grows_with_rounds p.types p.functions p.checks c.0 round k limits.depth (ltb-false k round e) in
          absurd (omega (arith, later, small, fronted.size))

  -- and each round from it on is left to the fronts
  tried_from : (n : ℕ) → round ≤ n → n ≤ limits.rounds → IsTried p limits i c n
  tried_from n from asked =
      let later = grows_with_rounds p.types p.functions p.checks c.0 round n limits.depth from in
      record { round = asked; size = inr (omega (arith, later, fronted.large)) }

  -- arguments fail the check in no round that was searched
  fails_from : (args : List Value) (n : ℕ) → IsCounterexample p i c n limits.depth args → round ≤ n
  fails_from args n fails = by (nat_lt n round) refl
    where
      by : (b : Bool) → nat_lt n round ≡ b → round ≤ n
      by true e = absurd (none_before before n (ltb-true n round e) args fails)
      by false e = ltb-false n round e

  pub invalid_by_fronts : (args : List Value) (n : ℕ) → n ≤ limits.rounds
      → IsCounterexample p i c n limits.depth args
      → ((k : ℕ) → k < n → IsCounterexample p i c k limits.depth args → ⊥) → IsEnd p limits i c (Invalid args n)
  invalid_by_fronts args n asked fails least = record {
    tried = tried_from n (fails_from args n fails) asked;
    fails = fails;
    least = least;
    first = λ k lt small others failing. none_before before k (small_is_before k small) others failing;
  }

  module _ (n : ℕ) (from : round ≤ n) (asked : n ≤ limits.rounds) (runs : NoRunFails p i c n) where
    pub exhausted_by_fronts : Closed p.types p.functions i n limits.depth → IsEnd p limits i c (Exhausted n)
    exhausted_by_fronts closed = record {
      tried = tried_from n from asked;
      exhausted = record { closed = closed; runs = runs };
      first = λ k lt small earlier. (before.each k (small_is_before k small)).open_still earlier;
    }

    pub proved_by_fronts : (Closed p.types p.functions i n limits.depth → ⊥) → NoGuessFails p i c n
        → IsEnd p limits i c (Proved n)
    proved_by_fronts still guesses = record {
      tried = tried_from n from asked;
      proved = record { guesses = guesses; runs = λ f args called low. runs f args called };
      open_still = still;
    }
