-- How a halt inside a called frame is seen from outside. Source: own.
use Rattle.pp_prog.specs.declared.id.FunctionId.{FunctionId}
use Rattle.pp_eval.specs.declared.outcome.Halt.{Halt}
use Rattle.pp_eval.specs.declared.outcome.Halt.TheVariants.{Memory, Stopped}
use Rattle.pp_eval.specs.Part.{raised}

-- want of memory stays what it is
abbrev pub raised_halt : FunctionId → Halt → Halt
raised_halt g Memory = Memory
raised_halt g (Stopped s) = Stopped (raised g s)
