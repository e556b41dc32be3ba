-- Frames of functions, with fuel: what a call weighs. Source: own.
use Rattle.std.specs.Prelude.{ℕ, zero, suc, Bool, true, false, List, [], ◌∷◌, ◌++◌, map, Option, Some, None, slice_get}
use Rattle.pp_prog.specs.declared.expr.Expr.{Expr}
use Rattle.pp_prog.specs.declared.expr.Function.{Function}
use Rattle.pp_prog.specs.declared.id.CheckId.{CheckId}
use Rattle.pp_prog.specs.declared.types.TypeTable.{TypeTable}
use Rattle.pp_prog.specs.Results.{call_result}
use Rattle.pp_prog.specs.Sizes.{height_at}
use Rattle.pp_estimate.specs.declared.shape.Shape.{Shape}
use Rattle.pp_estimate.specs.Events.{Event, work}
use Rattle.pp_estimate.specs.Visits.{Calls, Visit, all_events, compared, shape, shape_of, visit, visit_of, visits, word}

-- a frame: the shape of its value, the components of its measure, and the events of its precondition, its measure
-- list, its body and its postcondition
pub record Frame : Type 0 where
  pub shape : Shape
  pub measure : List Shape
  pub events : List Event

module _ (types : TypeTable) (calls : Calls) where
  abbrev pub pre_events : Option Expr → List Shape → List Event
  pre_events None args = []
  pre_events (Some pre) args = (visit_of types calls pre [] args).events

  -- the visits of the components of a measure, which see no measure themselves
  abbrev pub components : List Expr → List Shape → List Visit
  components es args = visits (map (visit_of types calls) es) [] args

  -- the claim of a postcondition sees the result after the parameters
  abbrev pub post_events : Option (CheckId × Expr) → List Shape → List Shape → Shape → List Event
  post_events None old args result = []
  post_events (Some post) old args result = (visit_of types calls post.1 old (args ++ result ∷ [])).events

  -- what is evaluated before the body: the precondition and the measure list
  abbrev pub contract_events : Function → List Shape → List Event
  contract_events f args = pre_events f.pre args ++ all_events (components f.measure args)

  abbrev pub frame : Function → List Shape → Frame
  frame f args =
      let measure = map shape_of (components f.measure args) in
      let body = visit_of types calls f.body measure args in
      record {
        shape = shape f.result body.shape.height;
        measure = measure;
        events = contract_events f args ++ body.events ++ post_events f.post measure args body.shape;
      }

  abbrev pub frame_at : Option Function → List Shape → Frame
  frame_at None args = record { shape = word; measure = []; events = [] }
  frame_at (Some f) args = frame f args

-- what a call with no fuel left gives: a datatype has the height 1
abbrev pub unfinished : Option Function → Shape
unfinished f = shape (call_result f) (height_at 1 (call_result f))

module _ (types : TypeTable) (functions : List Function) where
  -- calls from a called frame, with fuel n: with none left a call weighs 32
  abbrev pub inner_calls : ℕ → Calls
  inner_calls zero g check old args = visit (unfinished (slice_get functions g.0)) (work 32 ∷ [])
  inner_calls (suc n) g check old args =
      let f = frame_at types (inner_calls n) (slice_get functions g.0) args in
      visit f.shape (f.events ++ compared types check f.measure old)

  abbrev pub contract_at : Option Function → List Shape → List Event
  contract_at None args = []
  contract_at (Some f) args = contract_events types (inner_calls 0) f args

  abbrev pub measure_at : Option Function → List Shape → List Shape
  measure_at None args = []
  measure_at (Some f) args = map shape_of (components types (inner_calls 0) f.measure args)

  -- calls from the run's own frame: with no fuel left also the called function's precondition and measure list are
  -- visited, and the measure is compared
  abbrev pub own_calls : ℕ → Calls
  own_calls zero g check old args =
      let f = slice_get functions g.0 in
      visit (unfinished f) (work 32 ∷ contract_at f args ++ compared types check (measure_at f args) old)
  own_calls (suc n) g check old args = inner_calls (suc n) g check old args

  -- calls from the run's own frame, or from a called one
  abbrev pub calls_from : Bool → ℕ → Calls
  calls_from true n = own_calls n
  calls_from false n = inner_calls n
