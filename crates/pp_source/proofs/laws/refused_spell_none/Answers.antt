use Rattle.pp_source.proofs.Excluded.{refused_spell_none}
use Rattle.pp_source.proofs.laws.refused_spell_none.Goals as goal

pub returns : goal.returns
returns c = refused_spell_none
