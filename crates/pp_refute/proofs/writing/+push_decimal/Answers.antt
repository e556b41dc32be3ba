use Rattle.std.proofs.Common.{arith}
use Rattle.pp_refute.proofs.Written.{decimal_more, decimal_one}
use Rattle.pp_refute.proofs.writing.+push_decimal.Goals.{then-number-ge10+in_ok-push_decimal, else-number-ge10}
use Rattle.pp_refute.proofs.writing.+push_decimal.Goals as goal

pub returns : goal.returns
returns t c =
    elim c.if-number-ge10.branch [
      | then-number-ge10+in_ok-push_decimal w ↦
          rw (c.in_ok-push.ensures.items, w.text-is, w.in_ok-push_decimal.ensures)
          (decimal_more c.args.text.now.items c.args.number (omega arith) (omega arith))
      | else-number-ge10 w ↦ rw (c.in_ok-push.ensures.items, w.text-is)
          (decimal_one c.args.text.now.items c.args.number (omega arith))
    ]
