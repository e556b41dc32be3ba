use Rattle.pp_line_contents.proofs.Made.{made_texts_tell_contents}
use Rattle.pp_line_contents.proofs.made_texts_tell_contents.Goals as goal

pub returns : goal.returns
returns c = made_texts_tell_contents
