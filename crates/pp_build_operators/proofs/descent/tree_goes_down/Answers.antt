use Rattle.std.proofs.Common.{◌∙◌, arith, sym}
use Rattle.pp_gate.proofs.Growing.{Grows_more}
use Rattle.pp_build_operators.proofs.Descents.{free_descent, freed_moves, tree_descent}
use Rattle.pp_build_operators.proofs.descent.tree_goes_down.Goals as goal

pub returns-then-exact-clause-answer : goal.returns-then-exact-clause-answer
returns-then-exact-clause-answer g c =
    tree_descent _ _ (sym c.requires.exact ∙ c.if-exact.true) _ _ _ _ _ _ _ c.in_ok-told.ensures.answer

pub returns-in_err-down-clause-moves : goal.returns-in_err-down-clause-moves
returns-in_err-down-clause-moves g c =
    freed_moves _ _ g.met.D.Domain.lawful (sym c.requires.exact ∙ c.if-exact.false) _ _ _ _ _ _ _
    c.in_ok-told.ensures.moves
    (Grows_more _ _ _ 1 1 2 c.in_ok-free.ensures.grows c.in_err-down.ensures.adds.grows (omega arith))
    c.in_err-down.ensures.adds.circuit

pub returns-clause-moves : goal.returns-clause-moves
returns-clause-moves g c =
    freed_moves _ _ g.met.D.Domain.lawful (sym c.requires.exact ∙ c.if-exact.false) _ _ _ _ _ _ _
    c.in_ok-told.ensures.moves
    (Grows_more _ _ _ 1 1 2 c.in_ok-free.ensures.grows c.in_ok-down.ensures.adds.grows (omega arith))
    c.in_ok-down.ensures.adds.circuit

pub returns-clause-answer : goal.returns-clause-answer
returns-clause-answer g c =
    free_descent _ _ g.met.D.Domain.lawful (sym c.requires.exact ∙ c.if-exact.false) _ _ _ _ _ _ _ _ _ _ _ _
    c.in_ok-told.ensures.moves c.in_ok-told.ensures.looks c.in_ok-told.ensures.answer c.in_ok-free.ensures.grows
    c.in_ok-free.ensures.circuit c.in_ok-free.ensures.of c.in_ok-free.ensures.input c.in_ok-free.ensures.var
    c.in_ok-free.ensures.value c.in_ok-down.ensures.adds c.in_ok-down.ensures.stands
