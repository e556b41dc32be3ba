use Rattle.pp_ordinary.proofs.Fit.{typing_fit}
use Rattle.pp_ordinary.proofs.typings_are_fit.Goals as goal

pub returns : goal.returns
returns c texts units typed are spells h = typing_fit texts units typed are spells h
