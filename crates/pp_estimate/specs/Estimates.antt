-- The estimate of a round: how large its circuit is at most. All sums and products are cut at the greatest number of
-- 64 bits: `estimate` is the exact number wherever that is less. Source: own.
use Rattle.std.specs.Prelude.{ℕ, zero, suc, ◌+◌, ◌-◌, ◌*◌, ◌/◌, List, map, sum, length, Option, Some, None, slice_get}
use Rattle.pp_prog.specs.declared.check.Check.{Check}
use Rattle.pp_prog.specs.declared.expr.Function.{Function}
use Rattle.pp_prog.specs.declared.sort.Sort.{Sort}
use Rattle.pp_prog.specs.declared.types.TypeTable.{TypeTable}
use Rattle.pp_prog.specs.Sizes.{bits, flat, height_at, width}
use Rattle.pp_prog.specs.Sorts.{param_sorts}
use Rattle.pp_estimate.specs.declared.shape.Shape.{Shape}
use Rattle.pp_estimate.specs.Cut.{cut}
use Rattle.pp_estimate.specs.Events.{Event, calls, compares, cost, looks}
use Rattle.pp_estimate.specs.Frames.{Frame, frame, own_calls}
use Rattle.pp_estimate.specs.Visits.{shape}

-- how many pairs there are of k things
abbrev pub pairs : ℕ → ℕ
pairs k = k * (k - 1) / 2

-- the sum over the numbers below n
abbrev pub sum_below : ℕ → (ℕ → ℕ) → ℕ
sum_below zero f = 0
sum_below (suc n) f = sum_below n f + f n

-- the parameters up to depth d
abbrev pub shapes_to : ℕ → List Sort → List Shape
shapes_to d = map (λ (s : Sort). shape s (height_at d s))

module _ (types : TypeTable) where
  -- `A`: the inputs of the arguments
  abbrev pub inputs : ℕ → List Sort → ℕ
  inputs d ss = sum (map (λ (s : Sort). 4 * (32 + bits types d s)) ss)

  abbrev pub flat_of : ℕ → ℕ
  flat_of d = flat types (record { 0 = d })

abbrev pub widths : Function → ℕ
widths f = sum (map width (param_sorts f.params)) + width f.result

abbrev pub widths_at : Option Function → ℕ
widths_at None = 0
widths_at (Some f) = widths f

module _ (types : TypeTable) (functions : List Function) where
  -- the parts of `B`: each look at a datatype; each pair of looks at one; each pair of calls of one function; and
  -- each comparison with each look
  abbrev pub by_looks : List Event → ℕ
  by_looks es = sum_below (length types.datatypes) (λ d. looks es d * (256 + 8 * flat_of types d))

  abbrev pub by_pairs : List Event → ℕ
  by_pairs es = sum_below (length types.datatypes) (λ d. pairs (looks es d) * (64 + 4 * flat_of types d))

  abbrev pub by_calls : List Event → ℕ
  by_calls es = sum_below (length functions) (λ g. pairs (calls es g) * (64 + 4 * widths_at (slice_get functions g)))

  abbrev pub all_looks : List Event → ℕ
  all_looks es = sum_below (length types.datatypes) (looks es)

  -- `B`: the instances of the axioms of named nodes
  abbrev pub instances : List Event → ℕ
  instances es = by_looks es + by_pairs es + by_calls es + compares es * 128 * all_looks es

  -- the run's own frame of f in round n, on arguments up to depth d
  abbrev pub own_frame : Function → ℕ → ℕ → Frame
  own_frame f n d = frame types (own_calls types functions n) f (shapes_to d (param_sorts f.params))

  -- one round by itself
  abbrev pub single : Function → ℕ → ℕ → ℕ
  single f n d =
      let events = (own_frame f n d).events in
      2 * (inputs types d (param_sorts f.params) + cost events) + instances events

  -- the rounds from 0 to n, since a session keeps the gates of its earlier rounds
  abbrev pub rounds : Function → ℕ → ℕ → ℕ
  rounds f n d = sum_below (suc n) (λ r. single f r d)

  abbrev pub rounds_at : Option Function → ℕ → ℕ → ℕ
  rounds_at None n d = 0
  rounds_at (Some f) n d = rounds f n d

  abbrev pub rounds_of : Option Check → ℕ → ℕ → ℕ
  rounds_of None n d = 0
  rounds_of (Some check) n d = rounds_at (slice_get functions check.function.0) n d

  -- the estimate of round n and depth d, for a check in the list
  abbrev pub estimate : List Check → ℕ → ℕ → ℕ → ℕ
  estimate checks c n d = cut (rounds_of (slice_get checks c) n d)
