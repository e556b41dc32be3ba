use Rattle.std.proofs.Common.{◌≡◌, drop, map}
use Rattle.pp_declared.specs.Declare.{imports_checked}
use Rattle.pp_declared.specs.Listed.{import_in}
use Rattle.pp_tree.specs.Shown.{import_of}
use Rattle.pp_declared.proofs.imports.check_unit.Given as goal

abbrev pub invariant-loop-import : goal.invariant-loop-import
invariant-loop-import l =
    imports_checked l.objects (map (import_in l.source) (map import_of l.imports))
    ≡ imports_checked l.objects (map (import_in l.source) (map import_of (drop l.import-index l.imports)))
