use Rattle.pp_symbolic.proofs.Conjunction.{joins_turn, literals_later}
use Rattle.pp_symbolic.proofs.guessed.all_true.Goals as goal

pub loop-number-preserved : goal.loop-number-preserved
loop-number-preserved g c =
    let now = c.loop-number.invariant in
    let gate = c.in_ok-all.ensures in
    joins_turn _ _ _ c.args.numbers.now _ _ _ _ _ _ _ now c.loop-number-test.true
    (c.literal_at-one.ensures.stands (literals_later _ _ _ _ _ _ _ now c.requires.registers)) gate.adds gate.stands
