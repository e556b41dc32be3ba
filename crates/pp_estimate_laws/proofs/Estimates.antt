-- The laws of estimates.
use Rattle.std.proofs.Common.{◌≡◌, ◌∙◌, ◌≤◌, ◌+◌, ◌*◌, ℕ, suc, List, [], ◌∷◌, length, Option, Some}
use Rattle.std.proofs.Common.{None, ap, subst}
use Rattle.std.specs.Prelude.{slice_get}
use Rattle.pp_prog.specs.declared.check.Check.{Check}
use Rattle.pp_prog.specs.declared.expr.Function.{Function}
use Rattle.pp_prog.specs.declared.sort.Sort.{Sort}
use Rattle.pp_prog.specs.declared.types.TypeTable.{TypeTable}
use Rattle.pp_prog.specs.Sizes.{bits, height_at}
use Rattle.pp_prog.specs.Sorts.{param_sorts}
use Rattle.pp_estimate.specs.Estimates.{flat_of, inputs, instances}
use Rattle.pp_estimate.specs.Estimates.{own_frame, pairs, rounds_at, rounds_of, shapes_to, single}
use Rattle.pp_estimate.specs.Estimates.{widths_at}
use Rattle.pp_estimate.specs.Events.{Event, calls, looks}
use Rattle.pp_estimate_laws.proofs.Frames.{own_frame_grows}
use Rattle.pp_estimate_laws.proofs.Growth.{EventsGrow, ShapesGrow, of_sort}
use Rattle.pp_estimate_laws.proofs.Numbers.{below_grows, below_same, below_top, cut_grows, le_same, more_below}
use Rattle.pp_estimate_laws.proofs.Numbers.{plus_grows, suc_grows, sum_grows, times_grow}
use Rattle.pp_estimate_laws.proofs.Sizes.{bits_grow, height_grows}
use Rattle.pp_estimate_laws.specs.Laws.{GrowsWithDepth, GrowsWithRounds, SumsRounds}

shapes_to_grow : (d e : ℕ) (ss : List Sort) → d ≤ e → ShapesGrow (shapes_to d ss) (shapes_to e ss)
shapes_to_grow d e [] h = tt
shapes_to_grow d e (s ∷ ss) h = (
  of_sort s (height_at d s) (height_at e s)
      (height_grows d e s h),
  shapes_to_grow d e ss h,
)

module _ (types : TypeTable) (functions : List Function) where
  inputs_grow : (d e : ℕ) (ss : List Sort) → d ≤ e → inputs types d ss ≤ inputs types e ss
  inputs_grow d e ss h =
      sum_grows (λ (s : Sort). 4 * (32 + bits types d s)) (λ (s : Sort). 4 * (32 + bits types e s)) ss
      (λ s. times_grow 4 4 _ _ (le_same 4) (plus_grows 32 32 _ _ (le_same 32) (bits_grow types d e s h)))

  -- the instances depend on looks, calls and comparisons alone
  instances_same : (a b : List Event) → EventsGrow a b → instances types functions a ≡ instances types functions b
  instances_same a b h =
      let data_ = length types.datatypes in
      let one = below_same data_ (λ (d : ℕ). looks a d * (256 + 8 * flat_of types d))
      (λ (d : ℕ). looks b d * (256 + 8 * flat_of types d))
      (λ d. ap (λ (n : ℕ). n * (256 + 8 * flat_of types d)) (h.looks d)) in
      let two = below_same data_ (λ (d : ℕ). pairs (looks a d) * (64 + 4 * flat_of types d))
      (λ (d : ℕ). pairs (looks b d) * (64 + 4 * flat_of types d))
      (λ d. ap (λ (n : ℕ). pairs n * (64 + 4 * flat_of types d)) (h.looks d)) in
      let three = below_same (length functions)
      (λ (g : ℕ). pairs (calls a g) * (64 + 4 * widths_at (slice_get functions g)))
      (λ (g : ℕ). pairs (calls b g) * (64 + 4 * widths_at (slice_get functions g)))
      (λ g. ap (λ (n : ℕ). pairs n * (64 + 4 * widths_at (slice_get functions g))) (h.calls g)) in
      let four = below_same data_ (looks a) (looks b) h.looks in
      together one two three h.compares four
    where
      together : {a b c d e f g h i j : ℕ} → a ≡ b → c ≡ d → e ≡ f → g ≡ h → i ≡ j
          → a + c + e + g * 128 * i ≡ b + d + f + h * 128 * j
      together p q r s t = cc

  single_grows : (f : Function) (n d e : ℕ) → d ≤ e → single types functions f n d ≤ single types functions f n e
  single_grows f n d e h =
      let events = own_frame_grows types functions f n (shapes_to d (param_sorts f.params))
      (shapes_to e (param_sorts f.params))
      (shapes_to_grow d e (param_sorts f.params) h) in
      let same = instances_same _ _ events in
      plus_grows _ _ _ _ (times_grow 2 2 _ _ (le_same 2)
      (plus_grows _ _ _ _ (inputs_grow d e (param_sorts f.params) h) events.costs))
      (subst (λ (k : ℕ). instances types functions (own_frame types functions f n d).events ≤ k) same (le_same _))

  rounds_at_grow : (o : Option Function) (n d e : ℕ) → d ≤ e
      → rounds_at types functions o n d ≤ rounds_at types functions o n e
  rounds_at_grow None n d e h = le_same 0
  rounds_at_grow (Some f) n d e h =
      below_grows (suc n) (λ (r : ℕ). single types functions f r d) (λ (r : ℕ). single types functions f r e)
      (λ r. single_grows f r d e h)

  rounds_of_grow : (o : Option Check) (n d e : ℕ) → d ≤ e
      → rounds_of types functions o n d ≤ rounds_of types functions o n e
  rounds_of_grow None n d e h = le_same 0
  rounds_of_grow (Some check) n d e h = rounds_at_grow (slice_get functions check.function.0) n d e h

  rounds_at_more : (o : Option Function) (n m d : ℕ) → n ≤ m
      → rounds_at types functions o n d ≤ rounds_at types functions o m d
  rounds_at_more None n m d h = le_same 0
  rounds_at_more (Some f) n m d h = more_below (suc n) (suc m) (λ (r : ℕ). single types functions f r d)
      (suc_grows n m h)

  rounds_of_more : (o : Option Check) (n m d : ℕ) → n ≤ m
      → rounds_of types functions o n d ≤ rounds_of types functions o m d
  rounds_of_more None n m d h = le_same 0
  rounds_of_more (Some check) n m d h = rounds_at_more (slice_get functions check.function.0) n m d h

pub grows_with_depth : GrowsWithDepth
grows_with_depth types functions checks c n d e h =
    cut_grows _ _ (rounds_of_grow types functions (slice_get checks c) n d e h)

pub grows_with_rounds : GrowsWithRounds
grows_with_rounds types functions checks c n m d h =
    cut_grows _ _ (rounds_of_more types functions (slice_get checks c) n m d h)

pub sums_rounds : SumsRounds
sums_rounds types functions checks c n d check f here there low =
    below_top _ low ∙ ap (λ (o : Option Check). rounds_of types functions o n d) here ∙ ap
    (λ (o : Option Function). rounds_at types functions o n d) there
