use Rattle.pp_bits.proofs.Growing.{Gives_before}
use Rattle.pp_bits.proofs.Sums.{inverted_value, difference_turn}
use Rattle.pp_bits.proofs.sum.sub_borrow.Goals as goal

pub returns-clause-value : goal.returns-clause-value
returns-clause-value c = λ s gives.
    let sum = c.in_ok-difference.ensures in
    let before = Gives_before _ _ _ sum.adds s gives in
    difference_turn s _ _ _ _ _ _ _ _
    (inverted_value s _ _ _ _ _ c.requires.same (c.truth-one.ensures.stands.value s before) c.deref.ensures.value
    (c.in_ok-inverted.ensures.stands.value s before)) c.negated-borrow.ensures (sum.value s gives)
