use Rattle.std.proofs.Common.{◌∙◌, ap, sym}
use Rattle.std.specs.Prelude.{option_copied}
use Rattle.pp_typed.specs.Put.{put}
use Rattle.pp_rules.specs.Elab.{agreed, typed}
use Rattle.pp_rules.specs.Shapes.{field_place, field_sort}
use Rattle.pp_typed.specs.declared.expr.TypedKind.TheVariants as kind
use Rattle.pp_typing.proofs.Told.{selected_at}
use Rattle.pp_typing.specs.Views.{env_of}
use Rattle.pp_typing.proofs.name.selected.Goals as goal
use Rattle.pp_fault.proofs.Parts.{same_ok, tells_along}

pub returns : goal.returns
returns c =
    let env = env_of c.args.context.now in
    let at = c.args.at in
    let base = c.args.base in
    let ctor = c.in-Some.ctor in
    let field = c.in-Some-field_place.field in
    let s = c.in-Some-field_sort.sort.now in
    let of = c.in_ok-of.of in
    let root = ap (λ e. e.of) (sym c.get.ensures) ∙ c.in-Root.is in
    let f = sym c.only_ctor.ensures ∙ c.in-Some.is in
    let g = ap (λ d. field_place d ctor c.args.name.now) (sym c.declared-declared.ensures) ∙ sym c.field_place.ensures
    ∙ c.in-Some-field_place.is in
    let h = ap (λ d. field_sort d ctor field) (sym c.declared-declared.ensures) ∙ sym c.field_sort.ensures
    ∙ ap option_copied c.in-Some-field_sort.is in
    let sort = ap (λ l. put l s) (sym c.as_slice.ensures) ∙ sym c.in_ok-of.ensures in
    let t = ap (λ z. typed env at z (kind.Field base field)) sort
    ∙ ap (λ z. typed env at of (kind.Field base z)) (same_ok field c.in_ok-number.field-0 c.in_ok-number.ensures)
    ∙ ap (λ b. typed env at of (kind.Field b c.in_ok-number.field-0)) (sym c.base.view_is) ∙ sym c.in_ok-e.ensures in
    tells_along c.agreed.result _ _
    (selected_at env at c.args.expected.now c.args.name.now base c.in-Root.root c.in-Root.args ctor field s
    root f g h ∙ ap (agreed env c.args.expected.now c.args.name.now) t)
    c.agreed.ensures
