use Rattle.std.proofs.Common.{◌≡◌, true, map, sym, subst}
use Rattle.std.proofs.lemmas.List.{length-map}
use Rattle.pp_steps.specs.Meaning.{has_ctor}
use Rattle.pp_closure.proofs.Fielded.{whole_is}
use Rattle.pp_closure.proofs.wholes.is_whole.Goals as goal

pub returns-then-has_shape : goal.returns-then-has_shape
returns-then-has_shape c v holds is =
    let of = v.values c.args.whole.of in
    let has = c.has_shape.ensures v.values holds c.if-has_shape.true in
    whole_is v.missing c.args.whole.ctor of (map v.values c.args.fields.now)
    (subst (λ n. has_ctor c.args.whole.ctor n of ≡ true) (sym (length-map c.args.fields.now v.values)) has)
    (c.are_fields.ensures v holds is)
