use Rattle.pp_closure.proofs.amounts.is_exact.Goals as goal

pub returns-else-is_exact_part : goal.returns-else-is_exact_part
returns-else-is_exact_part c ρ adds holds is =
    c.turned.ensures.back ρ
    (c.is_exact_part-else-is_exact_part.ensures ρ (c.turned.ensures.adds ρ adds) holds is)
