use Rattle.pp_named_contents.proofs.Blank.{plain_blank, tree_blank}
use Rattle.pp_named_contents.proofs.known.blank.Goals as goal

pub returns-in_ok-name-in-Tree : goal.returns-in_ok-name-in-Tree
returns-in_ok-name-in-Tree c = rw c.in-Tree.is (tree_blank _ _ 0 _ c.in_ok-name-in-Tree.ensures.stands)

pub returns-in_ok-plain-in_default : goal.returns-in_ok-plain-in_default
returns-in_ok-plain-in_default c = plain_blank _ _ _ c.in_ok-plain-in_default.ensures.blank
