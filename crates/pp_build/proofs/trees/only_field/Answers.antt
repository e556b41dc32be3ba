use Rattle.pp_build.proofs.Operands.{not_other, tree_of}
use Rattle.pp_build.proofs.Performing.{look_leaves, look_room}
use Rattle.pp_build.proofs.TreeSteps.{only_field_count, only_datatype, only_field_performed, only_has, only_is}
use Rattle.pp_build.proofs.trees.only_field.Goals as goal

pub data_of-requires : goal.data_of-requires
data_of-requires g c =
    let can = c.requires.can in
    (tree_of _ _ _ can.sorts can.heights _ _ _ _ can.registers c.in-Tree.ensures can.sorted.operand).0

pub datatype-requires : goal.datatype-requires
datatype-requires g c = only_datatype _ _ _ _ _ _ _ _ _ c.data_of.ensures c.in-Tree.ensures c.requires.can

pub field-requires-clause-tree : goal.field-requires-clause-tree
field-requires-clause-tree g c =
    let can = c.requires.can in
    (tree_of _ _ _ can.sorts can.heights _ _ _ _ can.registers c.in-Tree.ensures can.sorted.operand).0

pub field-requires-clause-ctor : goal.field-requires-clause-ctor
field-requires-clause-ctor g c =
    only_is _ _ _ _ _ _ _ _ _ c.data_of.ensures c.in-Tree.ensures _ c.datatype.ensures c.requires.can

pub field-requires-clause-place : goal.field-requires-clause-place
field-requires-clause-place g c =
    only_has _ _ _ _ _ _ _ _ _ c.data_of.ensures c.in-Tree.ensures _ c.datatype.ensures c.requires.can

pub returns-in_ok-field-in-Tree-clause-performs : goal.returns-in_ok-field-in-Tree-clause-performs
returns-in_ok-field-in-Tree-clause-performs g c =
    only_field_performed _ _ _ _ _ _ _ _ _ c.data_of.ensures c.in-Tree.ensures _ c.datatype.ensures
    _ _ _ c.in_ok-field-in-Tree.ensures.moves _ c.in_ok-field-in-Tree.ensures.answer

pub returns-in_default : goal.returns-in_default
returns-in_default g c =
    let can = c.requires.can in
    absurd (not_other _ _ _ can.sorts can.heights _ _ _ _ can.registers c.register.ensures can.sorted.operand
    c.in_default.not-Tree)

pub field-requires-clause-room : goal.field-requires-clause-room
field-requires-clause-room g c =
    look_room _ _ _ _ _ _ _ _ c.in-Tree.ensures (only_field_count _ _ _ _ _ _ _ _ c.in-Tree.ensures) c.requires.can

pub returns-in_err-field-in-Tree-clause-moves : goal.returns-in_err-field-in-Tree-clause-moves
returns-in_err-field-in-Tree-clause-moves g c =
    look_leaves _ _ _ _ _ _ _ _ c.in-Tree.ensures (only_field_count _ _ _ _ _ _ _ _ c.in-Tree.ensures) _ _
    c.in_err-field-in-Tree.ensures.moves c.in_err-field-in-Tree.ensures.still

pub returns-in_ok-field-in-Tree-clause-moves : goal.returns-in_ok-field-in-Tree-clause-moves
returns-in_ok-field-in-Tree-clause-moves g c =
    look_leaves _ _ _ _ _ _ _ _ c.in-Tree.ensures (only_field_count _ _ _ _ _ _ _ _ c.in-Tree.ensures) _ _
    c.in_ok-field-in-Tree.ensures.moves c.in_ok-field-in-Tree.ensures.still
