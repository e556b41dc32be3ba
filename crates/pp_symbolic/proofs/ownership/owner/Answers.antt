use Rattle.pp_symbolic.proofs.Owners.{owner_in_range, owner_of}
use Rattle.pp_symbolic.proofs.ownership.owner.Goals as goal

pub function-requires : goal.function-requires
function-requires c = owner_in_range c.args.program.now _ _ _ c.checks.ensures.all c.requires

pub returns : goal.returns
returns c = owner_of c.args.program.now _ _ _ c.checks.ensures.all c.requires _ c.function.ensures
