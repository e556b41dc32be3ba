use Rattle.pp_closure.proofs.Equals.{are_one}
use Rattle.pp_closure.proofs.equality.are_equal.Goals as goal

pub returns-then-same : goal.returns-then-same
returns-then-same c v sorts a b holds = are_one _ _ (c.same.ensures v.values holds c.if-same.true)
