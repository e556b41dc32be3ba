use Rattle.pp_products.proofs.Quotients.{Divides_resized}
use Rattle.pp_products.proofs.quotient.divide.Goals as goal

pub returns-clause-value : goal.returns-clause-value
returns-clause-value c = λ s gives some.
    Divides_resized s _ _ _ _ _ _ c.deref.ensures.value (c.in_ok-remainder.ensures.value s gives)
    (c.in_ok-quotient.ensures.value s gives some)
