use Rattle.std.proofs.Common.{◌∙◌, sym, subst}
use Rattle.pp_checks.proofs.Descending.{MarkPlain, all_plain, more_plain, none_plain}
use Rattle.pp_checks.proofs.plain.plains_of.Goals as goal

pub loop-f-init : goal.loop-f-init
loop-f-init c =
    subst (λ l. MarkPlain c.args.functions.now 0 c.args.checks l) (sym c.in_ok-plains.ensures) (none_plain
    c.args.functions.now c.args.checks)

pub loop-f-preserved : goal.loop-f-preserved
loop-f-preserved c =
    more_plain c.args.functions.now c.loop-f.f-index c.f-item.result c.args.checks c.loop-f.plains
    c.mark_all.new.plains c.as_slice.result.now c.loop-f-test.true c.f-item.is (c.as_slice.ensures
    ∙ c.in_ok-found.ensures) c.loop-f.invariant c.mark_all.ensures.size c.mark_all.ensures.marks

pub returns : goal.returns
returns c =
    all_plain c.args.functions.now c.loop-f.f-index c.args.checks c.loop-f.plains c.loop-f-test.false
    c.loop-f.invariant
