use Rattle.std.proofs.Common.{◌∙◌, arith}
use Rattle.pp_translation.specs.Patterns.{pattern_at}
use Rattle.pp_translate.proofs.Each.{each_turn, each_all}
use Rattle.pp_translate.proofs.patterns.+patterns.Goals as goal

pub each_at-loop-i-preserved : goal.each_at-loop-i-preserved
each_at-loop-i-preserved t c =
    let pushed = c.in_ok-push.ensures.ok in
    let made = c.in_ok-pattern_at.ensures in
    let least = c.min-count.ensures in
    each_turn (pattern_at c.args.typed.now c.args.numbers.now.roots) c.args.patterns.now c.args.sorts.now c.loop-i.i
    c.min-count.result
    c.index-patterns-i.result c.index-sorts-i.result c.loop-i-test.true least c.index-patterns-i.is c.index-sorts-i.is
    c.loop-i.invariant cc

pub each_at-returns : goal.each_at-returns
each_at-returns t c =
    let least = c.min-count.ensures in
    c.loop-i.invariant ∙ each_all (pattern_at c.args.typed.now c.args.numbers.now.roots) c.args.patterns.now
    c.args.sorts.now c.loop-i.i (omega arith)
