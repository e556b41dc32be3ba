use Rattle.pp_build.proofs.Reading.{are_at_turn, below_at}
use Rattle.pp_build.proofs.registers.at_all.Goals as goal

pub register-requires : goal.register-requires
register-requires g c = below_at _ c.args.numbers.now _ c.requires c.loop-number-test.true

pub loop-number-preserved : goal.loop-number-preserved
loop-number-preserved g c =
    are_at_turn _ c.args.numbers.now _ _ _ _ c.loop-number-test.true c.loop-number.invariant c.register.ensures
    c.in_ok-push.ensures.ok
