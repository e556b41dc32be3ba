use Rattle.std.proofs.Common.{◌≡◌, ◌++◌, drop}
use Rattle.pp_declared.specs.Listed.{defs_of}
use Rattle.pp_declared.specs.Shown.{decl_ins, def_ins}
use Rattle.pp_declared.proofs.listed.defs_of.Given as goal

abbrev pub invariant-loop-decl : goal.invariant-loop-decl
invariant-loop-decl l = defs_of (decl_ins l.decls) ≡ def_ins l.defs ++ defs_of (decl_ins (drop l.decl-index l.decls))
