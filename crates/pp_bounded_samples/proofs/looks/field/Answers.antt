use Rattle.std.proofs.Common.{arith}
use Rattle.pp_bounded_samples.proofs.FieldReading.{field_sort, looked}
use Rattle.pp_bounded_samples.proofs.looks.field.Goals as goal

pub field-requires-clause-room : goal.field-requires-clause-room
field-requires-clause-room c = λ new. (let most = c.in_ok-room.ensures in omega arith)

pub field-requires-clause-place : goal.field-requires-clause-place
field-requires-clause-place c =
    field_sort c.args.table.now c.args.ctor c.args.tree.now.of c.args.place c.requires.look.ctor c.requires.place

pub returns-clause-looked : goal.returns-clause-looked
returns-clause-looked c =
    let own =
    field_sort c.args.table.now c.args.ctor c.args.tree.now.of c.args.place c.requires.look.ctor c.requires.place in
    let read = c.in_ok-symbol.ensures.answer own.0 own.1 in looked _ _ _ _ _ _ _ _ c.field.ensures.moves read.looks

pub returns-clause-symbol : goal.returns-clause-symbol
returns-clause-symbol c =
    let own =
    field_sort c.args.table.now c.args.ctor c.args.tree.now.of c.args.place c.requires.look.ctor c.requires.place in
    let read = c.in_ok-symbol.ensures.answer own.0 own.1 in record { sort = own.0; is = read.of }
