use Rattle.std.proofs.Common.{◌∙◌, sym}
use Rattle.pp_bounded_trees.proofs.Found.{found_at}
use Rattle.pp_bounded_trees.proofs.look.find.Goals as goal

pub returns : goal.returns
returns c = c.at.ensures ∙ sym (found_at _ _ _ c.place_of.ensures)
