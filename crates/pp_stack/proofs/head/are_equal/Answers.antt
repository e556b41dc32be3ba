use Rattle.std.proofs.Common.{sym}
use Rattle.std.proofs.lemmas.Result.{IfOk-weaker}
use Rattle.pp_store.specs.Values.{value_of}
use Rattle.pp_stack.proofs.Heading.{equal_is}
use Rattle.pp_stack.proofs.head.are_equal.Goals as goal

pub returns : goal.returns
returns c =
    IfOk-weaker c.same.result _ _
    (λ b is. sym (equal_is (value_of c.args.store.now c.args.x) (value_of c.args.store.now c.args.y) b is))
    c.same.ensures
