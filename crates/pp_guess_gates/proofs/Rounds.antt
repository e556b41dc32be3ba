-- Each round weighs less than the arguments, the visit of the own frame, and the pairs of its calls.
use Rattle.std.proofs.Common.{◌≡◌, ℕ, zero, suc, ◌+◌, ◌*◌, ◌<◌, ◌≤◌, List, [], ◌++◌, map, length, Some, refl}
use Rattle.std.proofs.Common.{ap, ◌∙◌, subst, arith, length-append}
use Rattle.std.specs.Prelude.{slice_get}
use Rattle.pp_prog.specs.declared.expr.Function.{Function}
use Rattle.pp_prog.specs.declared.id.CheckId.{CheckId}
use Rattle.pp_prog.specs.declared.program.Program.{Program}
use Rattle.pp_prog.specs.Sorts.{param_sorts}
use Rattle.pp_estimate.specs.Estimates.{inputs, own_frame}
use Rattle.pp_steps.specs.Frames.{numbers}
use Rattle.pp_steps.specs.Guesses.{GuessSteps, Standing, all_agreeing, all_unfolded, calls_before, calls_from}
use Rattle.pp_steps.specs.Guesses.{guess_steps, standing, with_agreement}
use Rattle.pp_steps.specs.Sorted.{AllSorted, Sorts}
use Rattle.pp_steps_run.specs.Told.{AllOf}
use Rattle.pp_steps_run.proofs.Pieces.{all_left, all_right}
use Rattle.pp_guess_steps.proofs.Labels.{base_labelled, guess_labelled, unfolded_labelled}
use Rattle.pp_guess_steps.proofs.OwnFrame.{A, base}
use Rattle.pp_guess_steps.proofs.Sorting.{IsCallSorted, standing_sorted}
use Rattle.pp_guess_steps.proofs.CallsPaired.{base_paired, guess_paired, unfolded_paired}
use Rattle.pp_guess_gates.proofs.Freeing.{round_unfolds}
use Rattle.pp_guess_gates.proofs.Pairs.{pairs_few, pairs_split, pairs_worth}
use Rattle.pp_guess_gates.proofs.Pieces.{sorted_first, sorted_rest, weight, weight_of_both}
use Rattle.pp_guess_gates.proofs.Prices.{Prices, worth}
use Rattle.pp_guess_gates.proofs.Reserves.{left_in}
use Rattle.pp_guess_gates.proofs.Runs.{base_light}
use Rattle.pp_guess_steps.proofs.StandingAgree.{mid, splits_before, splits_from, standing_at, with_stands}

-- the arguments are the same in all rounds
pub arguments_same : (p : Program) (f : Function) (check : CheckId) (r : ℕ)
    → (guess_steps p.functions f check r).arguments ≡ (A p.functions f check).out
arguments_same p f check zero = refl
arguments_same p f check (suc r) = arguments_same p f check r

module _ (p : Program) (σ : Sorts) (ψ : Prices) (n : ℕ) where
  abbrev Called : Standing → Type 0
  Called = IsCallSorted p σ

  -- the steps of a round, its supposed numbers and the constant weigh at most so much, and the pairs of these calls
  record IsRound (r : ℕ) (g : GuessSteps) (most : ℕ) (calls : List Standing) : Type 0 where
    few : weight p.types σ ψ (left_in p ψ n r) 0 g.steps + length g.supposed + 1 ≤ most + pairs_worth p [] calls

  agreement_light : (r i : ℕ) (g : GuessSteps) (most : ℕ) (olds news : List Standing)
      → calls_before i (standing 0 g.steps) ≡ olds → calls_from i (standing 0 g.steps) ≡ news
      → standing 0 g.steps ≡ olds ++ news → AllOf Called (standing 0 g.steps) → IsRound r g most olds
      → IsRound r (with_agreement i g) most (standing 0 (with_agreement i g).steps)
  agreement_light r i g most olds news before from all s h =
      let left = left_in p ψ n r in
      let k = length g.steps in
      let x = all_agreeing k (calls_before i (standing 0 g.steps)) (calls_from i (standing 0 g.steps)) g.true_one in
      let y = all_agreeing k olds news g.true_one in
      let same : x ≡ y =
      ap (λ cs. all_agreeing k cs (calls_from i (standing 0 g.steps)) g.true_one) before
      ∙ ap (λ cs. all_agreeing k olds cs g.true_one) from in
      let both = subst (AllOf Called) all s in
      let pairs = pairs_few p σ ψ left k olds news g.true_one (all_left Called olds news both)
      (all_right Called olds news both) in
      let weights : weight p.types σ ψ left k x.steps ≡ weight p.types σ ψ left k y.steps =
      ap (λ z. weight p.types σ ψ left k z.steps) same in
      let outs : length x.out ≡ length y.out = ap (λ z. length z.out) same in
      let sum_is = weight_of_both p.types σ ψ left 0 g.steps x.steps in
      let start : 0 + k ≡ k = omega arith in
      let at = ap (λ j. weight p.types σ ψ left j x.steps) start in
      let supposed = length-append g.supposed x.out in
      let few = h.few in
      let split = pairs_split p [] olds news in
      let calls : pairs_worth p [] (standing 0 (with_agreement i g).steps) ≡ pairs_worth p [] (olds ++ news) =
      ap (pairs_worth p []) (with_stands i g ∙ all) in
      record { few = omega arith }

  module _ (i : ℕ) (f : Function) (is : slice_get p.functions i ≡ Some f) (check : CheckId)
      (args : map σ (numbers 0 (param_sorts f.params)) ≡ param_sorts f.params) where
    abbrev most : ℕ
    most = 2 * inputs p.types 1 (param_sorts f.params) + worth ψ (own_frame p.types p.functions f n 1).events

    round_light : (r : ℕ) → r ≤ n → AllSorted p.types σ 0 (guess_steps p.functions f check r).steps
        → IsRound r (guess_steps p.functions f check r) most (standing 0 (guess_steps p.functions f check r).steps)
    round_light zero le m =
        let b = base p.functions f check in
        let sorted = sorted_first p.types σ 0 b.steps _ m in
        let few = base_light p σ ψ n 0 i f is check args sorted in
        agreement_light 0 0 b most [] (standing 0 b.steps) (splits_before [] b.steps) (splits_from [] b.steps) refl
        (standing_sorted p σ 0 b.steps sorted (base_paired p.functions f check) (base_labelled p.functions f check))
        (record { few = omega arith })
    round_light (suc r) le m =
        let g = guess_steps p.functions f check r in
        let k = length g.steps in
        let x = all_unfolded p.functions r k (standing 0 g.steps) in
        let b = mid p.functions r g in
        let sorted = sorted_first p.types σ 0 b.steps _ m in
        let before = sorted_first p.types σ 0 g.steps x.steps sorted in
        let start : 0 + k ≡ k = omega arith in
        let added = subst (λ j. AllSorted p.types σ j x.steps) start (sorted_rest p.types σ 0 g.steps x.steps sorted) in
        let less : r < n = omega arith in
        let h = round_light r (omega arith) before in
        let few = h.few in
        let unfolds = round_unfolds p σ ψ n r less g.steps
        (standing_sorted p σ 0 g.steps before (guess_paired p.functions f check r)
        (guess_labelled p.functions f check r)) added in
        let supposed = length-append g.supposed x.out in
        agreement_light (suc r) k b most (standing 0 g.steps) (standing k x.steps) (splits_before g.steps x.steps)
        (splits_from g.steps x.steps) (standing_at g.steps x.steps)
        (standing_sorted p σ 0 b.steps sorted (unfolded_paired p.functions f check r)
        (unfolded_labelled p.functions f check r)) (record { few = omega arith })

    -- the last round, in which nothing is left for its calls but their prices
    pub last_light : AllSorted p.types σ 0 (guess_steps p.functions f check n).steps
        → weight p.types σ ψ (left_in p ψ n n) 0 (guess_steps p.functions f check n).steps
        + length (guess_steps p.functions f check n).supposed + 1
        ≤ most + pairs_worth p [] (standing 0 (guess_steps p.functions f check n).steps)
    last_light m = (round_light n (omega arith) m).few
