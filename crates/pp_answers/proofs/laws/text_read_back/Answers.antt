use Rattle.pp_answers.proofs.Texts.{text_read_back}
use Rattle.pp_answers.proofs.laws.text_read_back.Goals as goal

pub returns : goal.returns
returns c = text_read_back
