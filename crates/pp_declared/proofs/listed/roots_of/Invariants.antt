use Rattle.std.proofs.Common.{◌≡◌, ◌++◌, drop}
use Rattle.pp_declared.specs.Listed.{roots_of}
use Rattle.pp_declared.specs.Shown.{decl_ins, class_ins}
use Rattle.pp_declared.proofs.listed.roots_of.Given as goal

abbrev pub invariant-loop-decl : goal.invariant-loop-decl
invariant-loop-decl l =
    roots_of (decl_ins l.decls) ≡ class_ins l.roots ++ roots_of (decl_ins (drop l.decl-index l.decls))
