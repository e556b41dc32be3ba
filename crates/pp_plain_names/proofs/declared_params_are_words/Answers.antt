use Rattle.pp_plain_names.proofs.Names.{declared_params_are_words}
use Rattle.pp_plain_names.proofs.declared_params_are_words.Goals as goal

pub returns : goal.returns
returns c = declared_params_are_words
