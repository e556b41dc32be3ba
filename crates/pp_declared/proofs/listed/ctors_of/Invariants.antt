use Rattle.std.proofs.Common.{◌≡◌, ◌++◌, drop}
use Rattle.pp_declared.specs.Listed.{ctors_of}
use Rattle.pp_declared.specs.Shown.{decl_ins, class_ins}
use Rattle.pp_declared.proofs.listed.ctors_of.Given as goal

abbrev pub invariant-loop-decl : goal.invariant-loop-decl
invariant-loop-decl l =
    ctors_of (decl_ins l.decls) ≡ class_ins l.ctors ++ ctors_of (decl_ins (drop l.decl-index l.decls))
