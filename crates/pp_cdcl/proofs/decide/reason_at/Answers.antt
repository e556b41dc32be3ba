use Rattle.pp_cdcl.proofs.Moves.{reason_some, reason_is}
use Rattle.pp_cdcl.proofs.decide.reason_at.Goals as goal

pub unwrap-requires : goal.unwrap-requires
unwrap-requires c = reason_some _ _ _ _ _ c.requires.apart c.requires.assumed c.requires.missing c.requires.place

pub returns : goal.returns
returns c = reason_is _ _ _ _ _ _ c.requires.missing c.requires.place c.unwrap.ensures
