use Rattle.std.proofs.Common.{◌≡◌, ◌++◌, drop, map}
use Rattle.pp_declared.specs.Declares.{field_names}
use Rattle.pp_declared.specs.Shown.{class_ins}
use Rattle.pp_declared.proofs.ctors.all_field_names.Given as goal

abbrev pub invariant-loop-c : goal.invariant-loop-c
invariant-loop-c l = map field_names (class_ins l.classes)
    ≡ l.all ++ map field_names (class_ins (drop l.c-index l.classes))
