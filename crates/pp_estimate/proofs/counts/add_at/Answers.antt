use Rattle.std.proofs.Common.{◌∙◌, List, ℕ, get_or, ap, arith}
use Rattle.pp_estimate.specs.Counted.{plus}
use Rattle.pp_estimate.proofs.Sums.{add_past, set_add}
use Rattle.pp_estimate.proofs.counts.add_at.Goals as goal

pub returns-then-i-len : goal.returns-then-i-len
returns-then-i-len c =
    c.set.ensures ∙ set_add c.args.counts.now c.args.i c.saturating_add-sum.result c.args.more
    (omega (arith, c.if-i-len.true, c.len.ensures))
    (c.saturating_add-sum.ensures ∙ ap (λ (l : List ℕ). plus (get_or l c.args.i 0) c.args.more) c.as_slice.ensures)

pub returns-else-i-len : goal.returns-else-i-len
returns-else-i-len c =
    add_past c.args.counts.now c.args.i c.args.more (omega (arith, c.if-i-len.false, c.len.ensures))
