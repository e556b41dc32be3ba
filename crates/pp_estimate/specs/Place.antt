-- What a visit gives where it stands: specs/Visits and specs/Frames at the program and the fuel of a place, in short
-- words for the contracts of src/visit.rt and src/frames.rt. This is of the making: no public clause speaks of a place.
-- Source: own.
use Rattle.std.specs.Prelude.{List, slice_get}
use Rattle.pp_prog.specs.declared.expr.Case.{Case}
use Rattle.pp_prog.specs.declared.expr.Expr.{Expr}
use Rattle.pp_prog.specs.declared.id.FunctionId.{FunctionId}
use Rattle.pp_estimate.specs.declared.counts.Counts.{Counts}
use Rattle.pp_estimate.specs.declared.memo.Framed.{Framed}
use Rattle.pp_estimate.specs.declared.memo.Memo.{Memo}
use Rattle.pp_estimate.specs.declared.place.Place.{Place}
use Rattle.pp_estimate.specs.declared.shape.Shape.{Shape}
use Rattle.pp_estimate.specs.Counted.{MemoOf, Sound, framed}
use Rattle.pp_estimate.specs.Events.{Event}
use Rattle.pp_estimate.specs.Frames.{Frame, calls_from, contract_at, frame_at, inner_calls, measure_at}
use Rattle.pp_estimate.specs.Visits.{Arm, Calls, Visiting, visit_case, visit_of}

-- calls from the place
abbrev pub place_calls : Place → Calls
place_calls p = calls_from p.types.now p.functions.now p.own p.fuel

-- the visit of an expression there
abbrev pub place_visit : Place → Expr → Visiting
place_visit p = visit_of p.types.now (place_calls p)

-- the visit of a case there
abbrev pub place_arm : Place → Case → Arm
place_arm p = visit_case p.types.now (place_calls p)

-- a frame, counted
abbrev pub place_framed : Place → Frame → Framed
place_framed p = framed p.types.now p.functions.now

-- the frame of the called function g, with the fuel of the place, counted
abbrev pub place_called : Place → FunctionId → List Shape → Framed
place_called p g args =
    place_framed p
    (frame_at p.types.now (inner_calls p.types.now p.functions.now p.fuel) (slice_get p.functions.now g.0) args)

-- the events of the contract of function g, with no fuel
abbrev pub place_contract : Place → FunctionId → List Shape → List Event
place_contract p g args = contract_at p.types.now p.functions.now (slice_get p.functions.now g.0) args

-- the components of its measure
abbrev pub place_measure : Place → FunctionId → List Shape → List Shape
place_measure p g args = measure_at p.types.now p.functions.now (slice_get p.functions.now g.0) args

-- what is known is true of the place's program
abbrev pub IsMemo : Place → Memo → Type 0
IsMemo p = MemoOf p.types.now p.functions.now

-- what holds while a visit counts
abbrev pub IsSound : Place → Memo → Counts → Type 0
IsSound p = Sound p.types.now p.functions.now
