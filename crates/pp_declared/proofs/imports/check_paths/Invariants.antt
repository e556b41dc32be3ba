use Rattle.std.proofs.Common.{◌≡◌, ◌+◌, drop}
use Rattle.pp_declared.specs.Declare.{imports_checked}
use Rattle.pp_declared.specs.Listed.{imports_in, imports_from}
use Rattle.pp_declared.specs.Shown.{units_of}
use Rattle.pp_declared.proofs.imports.check_paths.Given as goal

abbrev pub invariant-loop-i : goal.invariant-loop-i
invariant-loop-i l = imports_checked l.objects (imports_in (units_of l.units))
    ≡ imports_checked l.objects (imports_from (l.i + 1) (units_of (drop l.i l.units)))
