use Rattle.std.proofs.Common.{drop}
use Rattle.pp_declared.specs.Shown.{class_ins}
use Rattle.pp_declared.proofs.Left.{ClassesLeft}
use Rattle.pp_declared.proofs.tables.class_table.Given as goal

abbrev pub invariant-loop-c : goal.invariant-loop-c
invariant-loop-c l = ClassesLeft (class_ins l.classes) (class_ins (drop l.c-index l.classes)) l.table l.c-index
