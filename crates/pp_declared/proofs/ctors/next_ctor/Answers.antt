use Rattle.std.proofs.Common.{◌∙◌, sym}
use Rattle.std.proofs.lemmas.Bool.{ltb-true}
use Rattle.pp_names.specs.Find.{owners_of}
use Rattle.pp_declared.proofs.NextCtor.{room_for}
use Rattle.pp_declared.proofs.ctors.next_ctor.Goals as goal

pub returns-clause-room : goal.returns-clause-room
returns-clause-room c =
    room_for c.typed_ctor.result c.in_ok-root.root (owners_of c.args.before.now.ctors) c.typed_ctor.ensures.root
    (ltb-true _ _ (sym c.has_room.ensures ∙ c.if-not-has_room.false))
