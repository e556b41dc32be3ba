use Rattle.pp_instances.specs.Uses.{param_types}
use Rattle.pp_list.proofs.Joined.{one_more}
use Rattle.pp_instances.proofs.mentions.add_params.Goals as goal

pub loop-param-preserved : goal.loop-param-preserved
loop-param-preserved c =
    one_more param_types c.args.params.now c.loop-param.param-index c.param-item.result c.args.found.now
    c.loop-param-test.true c.param-item.is c.loop-param.invariant c.in_ok-add_types.ensures
