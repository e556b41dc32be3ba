use Rattle.pp_line_contents.proofs.Newlines.{counts_end_once, lines_end_once}
use Rattle.pp_line_contents.proofs.lines_end_once.Goals as goal

pub returns-clause-lines : goal.returns-clause-lines
returns-clause-lines c = lines_end_once

pub returns-clause-counts : goal.returns-clause-counts
returns-clause-counts c = counts_end_once
