use Rattle.pp_prog.specs.Sorts.{param_sorts}
use Rattle.pp_build.proofs.ManyUnknown.{OpenedTo}
use Rattle.pp_build.proofs.unknown.open_all.Given as goal

abbrev pub invariant-loop-param : goal.invariant-loop-param
invariant-loop-param g l =
    OpenedTo g.D.Domain.sense l.table l.fn.domain l.fn.circuit (param_sorts l.params) l.depth l.param-index l.domain
    l.circuit l.symbols
