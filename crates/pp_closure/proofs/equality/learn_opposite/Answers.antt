use Rattle.pp_closure.proofs.Equals.{differ_where, opposite}
use Rattle.pp_closure.proofs.equality.learn_opposite.Goals as goal

pub returns-then-are_truths : goal.returns-then-are_truths
returns-then-are_truths c v sorts left right says holds =
    let differ = differ_where _ _ _ _ says (c.is.ensures v.values holds c.if-is.true) in
    c.learn_not.ensures v.values
    (opposite _ v _ _ (c.are_truths.ensures v sorts c.if-are_truths.true) sorts left right differ) holds
