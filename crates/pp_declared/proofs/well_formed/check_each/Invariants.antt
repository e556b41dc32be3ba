use Rattle.std.proofs.Common.{◌≡◌, drop}
use Rattle.pp_declared.specs.Declare.{all_checked}
use Rattle.pp_declared.specs.Shown.{decl_ins}
use Rattle.pp_declared.proofs.well_formed.check_each.Given as goal

abbrev pub invariant-loop-decl : goal.invariant-loop-decl
invariant-loop-decl l = all_checked (decl_ins l.decls) ≡ all_checked (decl_ins (drop l.decl-index l.decls))
