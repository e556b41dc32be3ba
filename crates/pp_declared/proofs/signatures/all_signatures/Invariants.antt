use Rattle.std.proofs.Common.{◌≡◌, [], drop, map}
use Rattle.pp_declared.specs.Declare.{signatures_after}
use Rattle.pp_declared.specs.Declares.{typed_root}
use Rattle.pp_declared.specs.Shown.{class_ins, def_ins}
use Rattle.pp_declared.proofs.signatures.all_signatures.Given as goal

abbrev pub invariant-loop-i : goal.invariant-loop-i
invariant-loop-i l =
    signatures_after (map typed_root (class_ins l.roots.classes.now)) [] (def_ins l.defs)
    ≡ signatures_after (map typed_root (class_ins l.roots.classes.now)) l.signatures (def_ins (drop l.i l.defs))
