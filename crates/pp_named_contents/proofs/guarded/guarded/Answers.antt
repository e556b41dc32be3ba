use Rattle.pp_domain.proofs.PlainSymbols.{no_tree_is_word}
use Rattle.pp_named_contents.proofs.Guarding.{plain_grows, plain_guarded, plain_room, tree_guarded}
use Rattle.pp_named_contents.proofs.guarded.guarded.Goals as goal

pub masked_plain-requires-clause-room : goal.masked_plain-requires-clause-room
masked_plain-requires-clause-room c =
    plain_room _ _ (no_tree_is_word _ c.in_default.not-Tree) c.requires.room

pub returns-in_err-plain-in_default-clause-grows : goal.returns-in_err-plain-in_default-clause-grows
returns-in_err-plain-in_default-clause-grows c =
    plain_grows _ _ _ (no_tree_is_word _ c.in_default.not-Tree) c.masked_plain.ensures.grows

pub returns-in_ok-name-in-Tree-clause-guarded : goal.returns-in_ok-name-in-Tree-clause-guarded
returns-in_ok-name-in-Tree-clause-guarded c =
    rw c.in-Tree.is (tree_guarded _ _ _ _ _ 0 _ c.in_ok-name-in-Tree.ensures.masked)

pub returns-in_ok-plain-in_default-clause-grows : goal.returns-in_ok-plain-in_default-clause-grows
returns-in_ok-plain-in_default-clause-grows c =
    plain_grows _ _ _ (no_tree_is_word _ c.in_default.not-Tree) c.masked_plain.ensures.grows

pub returns-in_ok-plain-in_default-clause-guarded : goal.returns-in_ok-plain-in_default-clause-guarded
returns-in_ok-plain-in_default-clause-guarded c =
    plain_guarded _ _ _ _ _ _ c.in_ok-plain-in_default.ensures.masked
