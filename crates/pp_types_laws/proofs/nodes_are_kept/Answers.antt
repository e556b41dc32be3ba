use Rattle.pp_types_laws.proofs.Sizes.{typing_nodes}
use Rattle.pp_types_laws.proofs.nodes_are_kept.Goals as goal

pub returns : goal.returns
returns c units t h = typing_nodes units t h
