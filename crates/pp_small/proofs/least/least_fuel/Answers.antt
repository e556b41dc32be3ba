use Rattle.std.proofs.Common.{◌≡◌, arith, below_more, true}
use Rattle.pp_small.specs.Failing.{FailWith}
use Rattle.pp_small.proofs.least.least_fuel.Goals as goal

pub returns-then-branch-clause-least : goal.returns-then-branch-clause-least
returns-then-branch-clause-least c = record {
  fails = c.in_ok-fails_with.ensures.0 c.if-branch.true;
  least = c.loop-less.invariant;
}

pub loop-less-preserved : goal.loop-less-preserved
loop-less-preserved c =
    let p = c.args.program.now in
    below_more (λ m. FailWith p c.args.function.0 c.args.check c.args.args.now m → ⊥) c.loop-less.less
    c.loop-less.invariant
    (λ is. let yes : c.in_ok-fails_with.field-0 ≡ true = c.in_ok-fails_with.ensures.1 is in cc)

pub returns-clause-least : goal.returns-clause-least
returns-clause-least c = record {
  fails = c.requires.fails;
  least = λ m less. c.loop-less.invariant m (omega arith);
}
