use Rattle.std.proofs.Common.{◌≡◌, [], drop, length}
use Rattle.pp_declared.specs.Declare.{ctors_after}
use Rattle.pp_declared.specs.Shown.{class_ins}
use Rattle.pp_declared.proofs.ctors.all_ctors.Given as goal

abbrev pub invariant-loop-i : goal.invariant-loop-i
invariant-loop-i l =
    (ctors_after (class_ins l.roots.classes.now) [] (class_ins l.classes)
    ≡ ctors_after (class_ins l.roots.classes.now) l.counted.ctors (class_ins (drop l.i l.classes)))
    × (l.counted.roots ≡ length l.roots.classes.now)
