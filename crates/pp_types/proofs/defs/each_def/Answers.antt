use Rattle.pp_types.proofs.EachDef.{few_at}
use Rattle.pp_types.proofs.defs.each_def.Goals as goal

pub definition-requires : goal.definition-requires
definition-requires c = few_at c.args.defs.now c.loop-i.i _ c.requires.few c.loop-i-test.true
