use Rattle.pp_bits.proofs.Growing.{Gives_before}
use Rattle.pp_bits.proofs.Sums.{full_sum}
use Rattle.pp_bits.proofs.sum.full_add.Goals as goal

pub returns-clause-value : goal.returns-clause-value
returns-clause-value c = λ s gives.
    let next = c.in_ok-next.ensures in
    rw (next.stands.value s gives, c.in_ok-sum.ensures.stands.value s (Gives_before _ _ 1 next.adds s gives))
    (full_sum _ _ _)
