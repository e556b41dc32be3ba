use Rattle.std.proofs.Common.{drop}
use Rattle.pp_print.proofs.Pending.{IsAdding}
use Rattle.pp_print.proofs.value.add_fields.Given as goal

abbrev pub invariant-loop-i : goal.invariant-loop-i
invariant-loop-i l = IsAdding l.fn.pending l.pending (drop l.i l.rest)
