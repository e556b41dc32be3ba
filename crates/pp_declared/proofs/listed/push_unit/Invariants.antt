use Rattle.std.proofs.Common.{◌≡◌, ◌++◌, map, drop}
use Rattle.pp_declared.specs.Listed.{decl_in}
use Rattle.pp_declared.specs.Shown.{decl_ins}
use Rattle.pp_tree.specs.Shown.{decl_of}
use Rattle.pp_declared.proofs.listed.push_unit.Given as goal

abbrev pub invariant-loop-decl : goal.invariant-loop-decl
invariant-loop-decl l =
    decl_ins l.initial.decls ++ map (decl_in l.source) (map decl_of l.decl-items)
    ≡ decl_ins l.decls ++ map (decl_in l.source) (map decl_of (drop l.decl-index l.decl-items))
