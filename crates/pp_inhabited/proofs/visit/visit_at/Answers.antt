use Rattle.std.proofs.Common.{◌≡◌, ◌∙◌, ◌<◌, ◌+◌, ◌*◌, length, sym, arith, ap, subst, false, true, Contains}
use Rattle.std.proofs.lemmas.List.Elements.{Contains-get_or}
use Rattle.pp_inhabited.specs.Settled.{IsClosedAtPlace}
use Rattle.pp_inhabited.specs.Table.{all_live, look}
use Rattle.pp_inhabited.proofs.Written.{row_written}
use Rattle.pp_typed.specs.declared.typed.TypedCtor.{TypedCtor}
use Rattle.pp_inhabited.proofs.visit.visit_at.Goals as goal

pub returns : goal.returns
returns c =
    let roots = c.args.roots.now in
    let ctors = c.args.ctors.now in
    let rows = c.args.rows.now in
    let ctor = c.index-ctors-c.result in
    let mask = c.args.mask in
    let small = c.requires.mask in
    let size = c.requires.size in
    let has : Contains ctors ctor =
    subst (Contains ctors) (sym c.index-ctors-c.is) (Contains-get_or ctors c.args.c ctor c.requires.within) in
    let owner : ctor.root < length roots =
    subst (λ (k : TypedCtor). k.root < length roots) (sym c.index-ctors-c.is)
    (c.requires.owners c.args.c ctor c.requires.within) in
    let live : all_live roots rows mask ctor.fields ≡ true =
    ap (all_live roots rows mask) (sym c.as_slice-3.ensures)
    ∙ ap (λ l. all_live roots l mask c.as_slice-3.result.now) (sym c.as_slice-2.ensures)
    ∙ sym c.all_live.ensures ∙ c.if-not-all_live.false in
    let unwritten : look rows ctor.root mask ≡ false = ap (λ l. look l ctor.root mask) (sym c.as_slice.ensures)
    ∙ sym c.look.ensures ∙ c.if-look.false in
    let within : 16 * ctor.root + mask < length rows = omega (arith, size) in
    row_written roots ctors rows c.set.new.self ctor mask (IsClosedAtPlace roots ctors c.args.c mask) c.requires.few
    c.requires.sound has small live unwritten within c.set.ensures
