use Rattle.pp_mono.proofs.Few.{few_defs}
use Rattle.pp_mono.proofs.making.members_of.Goals as goal

pub instances-requires : goal.instances-requires
instances-requires c = record { few_defs = few_defs c.args.typed.now c.requires }
