use Rattle.pp_instances.specs.Decides.{agree_all}
use Rattle.pp_instances.proofs.member.same_args.Goals as goal

pub returns : goal.returns
returns c = agree_all c.are_all_same.result c.args.xs.now c.args.ys.now c.are_all_same.ensures
