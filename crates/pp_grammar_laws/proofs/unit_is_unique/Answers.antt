use Rattle.pp_grammar_laws.proofs.Unique.{unique}
use Rattle.pp_grammar_laws.proofs.unit_is_unique.Goals as goal

pub returns : goal.returns
returns c = unique
