use Rattle.pp_types_laws.proofs.Sites.{typing_apart}
use Rattle.pp_types_laws.proofs.typings_are_apart.Goals as goal

pub returns : goal.returns
returns c units t apart h = typing_apart units t apart h
