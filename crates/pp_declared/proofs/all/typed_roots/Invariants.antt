use Rattle.std.proofs.Common.{◌≡◌, ◌++◌, drop, map}
use Rattle.pp_declared.specs.Declares.{typed_root}
use Rattle.pp_declared.specs.Shown.{class_ins}
use Rattle.pp_declared.proofs.all.typed_roots.Given as goal

abbrev pub invariant-loop-i : goal.invariant-loop-i
invariant-loop-i l = map typed_root (class_ins l.classes) ≡ l.roots ++ map typed_root (class_ins (drop l.i l.classes))
