use Rattle.pp_declared.proofs.NextCtor.{few_params_at}
use Rattle.pp_declared.proofs.all.typed_roots.Goals as goal

pub count-requires : goal.count-requires
count-requires c = few_params_at c.args.classes.now c.loop-i.i _ c.loop-i-test.true c.requires
