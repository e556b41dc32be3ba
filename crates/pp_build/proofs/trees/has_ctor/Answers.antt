use Rattle.std.proofs.Common.{sym}
use Rattle.pp_build.proofs.Operands.{not_other, tree_of}
use Rattle.pp_build.proofs.Performing.{look_leaves, look_room}
use Rattle.pp_build.proofs.TreeSteps.{test_count, test_performed}
use Rattle.pp_build.proofs.trees.has_ctor.Goals as goal

pub is_ctor-requires-clause-tree : goal.is_ctor-requires-clause-tree
is_ctor-requires-clause-tree g c =
    let can = c.requires.can in
    (tree_of _ _ _ can.sorts can.heights _ _ _ _ can.registers c.in-Tree.ensures can.sorted.0.operand).0

pub is_ctor-requires-clause-ctor : goal.is_ctor-requires-clause-ctor
is_ctor-requires-clause-ctor g c =
    let can = c.requires.can in
    let of = (tree_of _ _ _ can.sorts can.heights _ _ _ _ can.registers c.in-Tree.ensures can.sorted.0.operand).1 in
    (can.sorted.0.ctor, can.sorted.0.stands, sym of)

pub returns-in_ok-has-in-Tree-clause-performs : goal.returns-in_ok-has-in-Tree-clause-performs
returns-in_ok-has-in-Tree-clause-performs g c =
    test_performed _ _ _ _ _ _ _ _ c.in_ok-has-in-Tree.ensures.moves _ _ _ _ _ c.in-Tree.ensures
    c.in_ok-has-in-Tree.ensures.answer

pub returns-in_default : goal.returns-in_default
returns-in_default g c =
    let can = c.requires.can in
    absurd (not_other _ _ _ can.sorts can.heights _ _ _ _ can.registers c.register.ensures can.sorted.0.operand
    c.in_default.not-Tree)

pub is_ctor-requires-clause-room : goal.is_ctor-requires-clause-room
is_ctor-requires-clause-room g c =
    look_room _ _ _ _ _ _ _ _ c.in-Tree.ensures (test_count _ _ _ _ _ _ _ _ _ c.in-Tree.ensures) c.requires.can

pub returns-in_err-has-in-Tree-clause-moves : goal.returns-in_err-has-in-Tree-clause-moves
returns-in_err-has-in-Tree-clause-moves g c =
    look_leaves _ _ _ _ _ _ _ _ c.in-Tree.ensures (test_count _ _ _ _ _ _ _ _ _ c.in-Tree.ensures) _ _
    c.in_err-has-in-Tree.ensures.moves c.in_err-has-in-Tree.ensures.still

pub returns-in_ok-has-in-Tree-clause-moves : goal.returns-in_ok-has-in-Tree-clause-moves
returns-in_ok-has-in-Tree-clause-moves g c =
    look_leaves _ _ _ _ _ _ _ _ c.in-Tree.ensures (test_count _ _ _ _ _ _ _ _ _ c.in-Tree.ensures) _ _
    c.in_ok-has-in-Tree.ensures.moves c.in_ok-has-in-Tree.ensures.still
