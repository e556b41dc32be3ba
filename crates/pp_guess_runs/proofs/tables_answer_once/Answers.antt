use Rattle.pp_guess_runs.proofs.Tables.{tables_answer_once}
use Rattle.pp_guess_runs.proofs.tables_answer_once.Goals as goal

pub returns : goal.returns
returns c = tables_answer_once
