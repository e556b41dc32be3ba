use Rattle.pp_declared.proofs.NextCtor.{few_at_def}
use Rattle.pp_declared.proofs.signatures.all_signatures.Goals as goal

pub signature-requires : goal.signature-requires
signature-requires c = few_at_def c.args.defs.now c.loop-i.i _ c.loop-i-test.true c.requires
