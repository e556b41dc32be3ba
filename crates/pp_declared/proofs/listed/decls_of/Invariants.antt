use Rattle.std.proofs.Common.{◌≡◌, ◌+◌, ◌++◌, drop}
use Rattle.pp_declared.specs.Listed.{decls_in, decls_from}
use Rattle.pp_declared.specs.Shown.{decl_ins, units_of}
use Rattle.pp_declared.proofs.listed.decls_of.Given as goal

abbrev pub invariant-loop-i : goal.invariant-loop-i
invariant-loop-i l = decls_in (units_of l.units)
    ≡ decl_ins l.decls ++ decls_from (l.i + 1) (units_of (drop l.i l.units))
