-- How a stop is seen from outside of the frame where it comes. Source: own.
use Rattle.std.specs.Prelude.{Option, Some, None}
use Rattle.pp_prog.specs.declared.id.FunctionId.{FunctionId}
use Rattle.pp_eval.specs.declared.outcome.Halt.{Halt}
use Rattle.pp_eval.specs.declared.outcome.Halt.TheVariants.{Memory, Stopped}
use Rattle.pp_eval.specs.declared.outcome.Stop.{Stop}
use Rattle.pp_eval.specs.Part.{raised}

-- a stop in the frame of this function, or in the run's own, as it is seen from the run's own
abbrev pub seen : Option FunctionId → Stop → Stop
seen None stop = stop
seen (Some g) stop = raised g stop

-- want of memory stays what it is
abbrev pub seen_halt : Option FunctionId → Halt → Halt
seen_halt called Memory = Memory
seen_halt called (Stopped stop) = Stopped (seen called stop)
