use Rattle.pp_domain.proofs.PlainSymbols.{no_tree_is_word}
use Rattle.pp_domain.proofs.UnknownSymbols.{plain_moves, plain_unknown, tree_unknown}
use Rattle.pp_domain.proofs.operations.unknown.Goals as goal

pub returns-in_ok-tree-in-Tree-clause-answer : goal.returns-in_ok-tree-in-Tree-clause-answer
returns-in_ok-tree-in-Tree-clause-answer g c = rw c.in-Tree.is
    (tree_unknown _ _ g.met.D.Domain.lawful _ _ _ c.requires.fits _ _ _ _ _
    c.in_ok-tree-in-Tree.ensures.moves c.in_ok-tree-in-Tree.ensures.looks c.in_ok-tree-in-Tree.ensures.answer)

pub returns-in_err-plain-in_default-clause-moves : goal.returns-in_err-plain-in_default-clause-moves
returns-in_err-plain-in_default-clause-moves g c =
    plain_moves _ _ g.met.D.Domain.lawful _ _ _ c.requires.fits _ _ (no_tree_is_word _ c.in_default.not-Tree)
    c.unknown_plain.ensures.grows c.unknown_plain.ensures.circuit

pub returns-in_ok-plain-in_default-clause-moves : goal.returns-in_ok-plain-in_default-clause-moves
returns-in_ok-plain-in_default-clause-moves g c =
    plain_moves _ _ g.met.D.Domain.lawful _ _ _ c.requires.fits _ _ (no_tree_is_word _ c.in_default.not-Tree)
    c.unknown_plain.ensures.grows c.unknown_plain.ensures.circuit

pub returns-in_ok-plain-in_default-clause-answer : goal.returns-in_ok-plain-in_default-clause-answer
returns-in_ok-plain-in_default-clause-answer g c =
    plain_unknown _ _ g.met.D.Domain.lawful _ _ _ c.requires.fits _ _ _ (no_tree_is_word _ c.in_default.not-Tree)
    c.unknown_plain.ensures.grows c.unknown_plain.ensures.circuit c.in_ok-plain-in_default.ensures.unknown
