use Rattle.std.proofs.Common.{◌++◌, string_bytes}
use Rattle.pp_print.specs.Pending.{work_left}
use Rattle.pp_print.specs.Values.{value_text}
use Rattle.pp_print.proofs.Pending.{IsPrinting}
use Rattle.pp_print.proofs.value.push_value.Given as goal

abbrev pub invariant-loop-piece : goal.invariant-loop-piece
invariant-loop-piece l =
    IsPrinting l.ctors (string_bytes l.initial.out ++ value_text l.ctors l.value) l.pending (string_bytes l.out)

abbrev pub decreases-loop-piece : goal.decreases-loop-piece
decreases-loop-piece l = work_left l.pending
