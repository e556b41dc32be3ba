use Rattle.pp_line_contents.proofs.Texts.{texts_tell_lines}
use Rattle.pp_line_contents.proofs.texts_tell_lines.Goals as goal

pub returns : goal.returns
returns c = texts_tell_lines
