use Rattle.std.proofs.Common.{◌≡◌}
use Rattle.pp_eval.specs.Equality.{equal}
use Rattle.pp_eval.proofs.Trees.{one_answer, trees}
use Rattle.pp_eval.proofs.equality.are_equal.Goals as goal

pub returns : goal.returns
returns c =
    one_answer (c.args.u.now ≡ c.args.v.now) c.same.result (equal c.args.u.now c.args.v.now) c.same.ensures
    (trees.same c.args.u.now c.args.v.now)
