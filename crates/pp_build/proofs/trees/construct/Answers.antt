use Rattle.std.proofs.Common.{arith}
use Rattle.pp_domain.proofs.Composition.{Moves_none, Moves_weaker}
use Rattle.pp_build.proofs.Performing.{leaves_by, room_for}
use Rattle.pp_build.proofs.TreeSteps.{can_construct, construct_count, construct_performed}
use Rattle.pp_build.proofs.trees.construct.Goals as goal

pub construct-requires-clause-fields : goal.construct-requires-clause-fields
construct-requires-clause-fields g c =
    can_construct _ _ _ _ _ _ _ _ c.in_ok-symbols.ensures c.requires.can

pub construct-requires-clause-room : goal.construct-requires-clause-room
construct-requires-clause-room g c =
    room_for _ _ _ _ _ _ _
    (construct_count _ _ _ _ _ _ _)
    c.requires.can

pub returns-in_err-symbols-clause-moves : goal.returns-in_err-symbols-clause-moves
returns-in_err-symbols-clause-moves g c can = Moves_weaker _ _ _ _ _ _ 0 _
    (Moves_none _ _ g.met.D.Domain.lawful _ _ c.requires.fits) (omega arith)

pub returns-in_err-tree-clause-moves : goal.returns-in_err-tree-clause-moves
returns-in_err-tree-clause-moves g c =
    leaves_by _ _ _ _ _ _ _ _ _
    (construct_count _ _ _ _ _ _ _)
    c.construct.ensures.moves

pub returns-clause-moves : goal.returns-clause-moves
returns-clause-moves g c =
    leaves_by _ _ _ _ _ _ _ _ _
    (construct_count _ _ _ _ _ _ _)
    c.construct.ensures.moves

pub returns-clause-performs : goal.returns-clause-performs
returns-clause-performs g c =
    construct_performed _ _ _ _ _ _ _ _ c.construct.ensures.moves _ _ _ _ c.in_ok-symbols.ensures
    c.in_ok-tree.ensures.answer
