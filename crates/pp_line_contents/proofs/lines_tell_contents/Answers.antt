use Rattle.pp_line_contents.proofs.Law.{lines_tell_contents}
use Rattle.pp_line_contents.proofs.lines_tell_contents.Goals as goal

pub returns : goal.returns
returns c = lines_tell_contents
