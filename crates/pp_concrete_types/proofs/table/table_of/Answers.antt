use Rattle.std.proofs.Common.{length, map, ap, ◌∙◌, arith}
use Rattle.std.proofs.lemmas.List.{length-map}
use Rattle.pp_concrete_types.proofs.IsTable.{are_table}
use Rattle.pp_concrete_types.proofs.Rooms.{has_room}
use Rattle.pp_concrete_types.proofs.table.table_of.Goals as goal
use Rattle.pp_instances.specs.declared.member.Decl.TheVariants.{Root}
use Rattle.pp_translation.specs.Numbers.{ctors, stands_for}

pub datatypes_of-requires : goal.datatypes_of-requires
datatypes_of-requires c =
    let few = c.requires.few in
    let size = length-map c.args.roots.now (stands_for Root) in
    has_room c.args.typed.now c.requires.sorted (map (stands_for Root) c.args.roots.now) (omega arith)

pub ctors_of-requires : goal.ctors_of-requires
ctors_of-requires c =
    let few = c.requires.few in
    let size = length-map c.args.roots.now (stands_for Root) in
    let same = ap length c.requires.numbered in
    omega arith

pub of-requires : goal.of-requires
of-requires c =
    let typed = c.args.typed.now in
    are_table typed c.args.roots.now c.requires.sorted c.requires.closed c.requires.few
    c.in_ok-datatypes.datatypes c.in_ok-ctors.ctors c.in_ok-datatypes.ensures
    (c.in_ok-ctors.ensures ∙ ap (ctors typed) c.requires.numbered)
