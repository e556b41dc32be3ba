use Rattle.std.proofs.Common.{◌++◌, drop}
use Rattle.pp_declared.specs.Listed.{objects_in}
use Rattle.pp_declared.specs.Shown.{SameNames, units_of}
use Rattle.pp_declared.proofs.imports.objects_of.Given as goal

abbrev pub invariant-loop-unit : goal.invariant-loop-unit
invariant-loop-unit l =
    SameNames (l.objects ++ objects_in (units_of (drop l.unit-index l.units))) (objects_in (units_of l.units))
