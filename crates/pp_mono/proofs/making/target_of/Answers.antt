use Rattle.std.proofs.Common.{map, arith}
use Rattle.std.proofs.lemmas.List.{length-map}
use Rattle.pp_concrete_types.proofs.Rooms.{has_room, owned}
use Rattle.pp_instances.specs.declared.member.Decl.TheVariants.{Root}
use Rattle.pp_mono.proofs.Datatypes.{are_datatypes}
use Rattle.pp_order.proofs.Laws.{listed_members_differ}
use Rattle.pp_translation.specs.Numbers.{stands_for}
use Rattle.pp_mono.proofs.making.target_of.Goals as goal

pub numbers_of-requires-clause-room : goal.numbers_of-requires-clause-room
numbers_of-requires-clause-room c =
    let all = c.requires in
    let same = length-map c.args.roots.now (stands_for Root) in
    has_room c.args.typed.now all.sorted (map (stands_for Root) c.args.roots.now) (omega (arith, same, all.few_roots))

pub numbers_of-requires-clause-owned : goal.numbers_of-requires-clause-owned
numbers_of-requires-clause-owned c = owned c.args.typed.now c.requires.sorted

pub numbers_of-requires-clause-once : goal.numbers_of-requires-clause-once
numbers_of-requires-clause-once c =
    let all = c.requires in
    let differ = listed_members_differ c.args.typed.now all.members c.args.functions.now c.args.roots.now all.listed in
    (differ.1, differ.0)

pub table_of-requires-clause-closed : goal.table_of-requires-clause-closed
table_of-requires-clause-closed c = are_datatypes c.args.typed.now c.args.functions.now c.args.roots.now c.requires
