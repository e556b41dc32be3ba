use Rattle.pp_instances.specs.Uses.{ctor_mentions}
use Rattle.pp_list.proofs.Joined.{one_more}
use Rattle.pp_instances.proofs.mentions.add_root.Goals as goal

pub loop-ctor-preserved : goal.loop-ctor-preserved
loop-ctor-preserved c =
    one_more (ctor_mentions c.args.r) c.args.ctors.now c.loop-ctor.ctor-index c.ctor-item.result c.args.found.now
    c.loop-ctor-test.true c.ctor-item.is c.loop-ctor.invariant c.in_ok-add_ctor.ensures
