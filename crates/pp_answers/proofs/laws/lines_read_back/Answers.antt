use Rattle.pp_answers.proofs.Readings.{lines_read_back}
use Rattle.pp_answers.proofs.laws.lines_read_back.Goals as goal

pub returns : goal.returns
returns c = lines_read_back
