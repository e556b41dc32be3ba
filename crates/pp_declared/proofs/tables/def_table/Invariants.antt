use Rattle.std.proofs.Common.{drop}
use Rattle.pp_declared.specs.Shown.{def_ins}
use Rattle.pp_declared.proofs.Left.{DefsLeft}
use Rattle.pp_declared.proofs.tables.def_table.Given as goal

abbrev pub invariant-loop-d : goal.invariant-loop-d
invariant-loop-d l = DefsLeft (def_ins l.defs) (def_ins (drop l.d-index l.defs)) l.table l.d-index
