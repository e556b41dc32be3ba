use Rattle.pp_line_contents.proofs.Heads.{counts_are_heads, lines_are_heads}
use Rattle.pp_line_contents.proofs.lines_are_heads.Goals as goal

pub returns-clause-lines : goal.returns-clause-lines
returns-clause-lines c = lines_are_heads

pub returns-clause-counts : goal.returns-clause-counts
returns-clause-counts c = counts_are_heads
