use Rattle.std.proofs.Common.{◌∙◌, ap, arith, drop}
use Rattle.pp_stack.proofs.Stacking.{is_compared, not_compared}
use Rattle.pp_stack.proofs.stacks.Stacks.compare.Goals as goal

pub returns-then-branch : goal.returns-then-branch
returns-then-branch c =
    is_compared c.args.self.now c.args.ctors.now c.args.check c.args.first c.in-Some.check c.in-Some-measured.count
    c.behind-new.result.now c.behind-old.result.now c.in-Some.is c.in-Some-measured.is
    (c.behind-new.ensures ∙ ap (drop c.args.first) c.as_slice.ensures)
    (c.behind-old.ensures ∙ ap (drop c.saturating_sub.result) c.as_slice-2.ensures
    ∙ ap (λ n. drop n c.args.self.now.measures) (omega arith))
    c.in_ok-is_below.field-0 c.in_ok-is_below.ensures c.if-branch.true

pub returns-else-branch : goal.returns-else-branch
returns-else-branch c =
    not_compared c.args.self.now c.args.ctors.now c.args.check c.args.first c.in-Some.check c.in-Some-measured.count
    c.behind-new.result.now c.behind-old.result.now c.in-Some.is c.in-Some-measured.is
    (c.behind-new.ensures ∙ ap (drop c.args.first) c.as_slice.ensures)
    (c.behind-old.ensures ∙ ap (drop c.saturating_sub.result) c.as_slice-2.ensures
    ∙ ap (λ n. drop n c.args.self.now.measures) (omega arith))
    c.in_ok-is_below.field-0 c.in_ok-is_below.ensures c.if-branch.false
