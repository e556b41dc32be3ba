use Rattle.std.proofs.Common.{arith, ◌<◌, ◌∙◌, length, ap, sym, subst}
use Rattle.pp_typed.specs.declared.declared.Declared.{Declared}
use Rattle.pp_names.specs.Find.{ctors_of, owners_of}
use Rattle.pp_names.proofs.Grouped.{group_within, group_places}
use Rattle.pp_names.proofs.names.Names.ctors_of.Goals as goal

pub index-requires : goal.index-requires
index-requires c =
    let n = c.self.inside in
    let root : c.args.root < length n.declared.roots =
    subst (λ (d : Declared). c.args.root < length d.roots) (sym c.self.view_is) c.requires in
    let within = group_within n.by_root.items (length n.declared.roots) c.args.root (owners_of n.declared.ctors) root
    c.self.invariant.1 in
    grind (arith, within, n.by_root.ok)

pub returns : goal.returns
returns c =
    let n = c.self.inside in
    let root : c.args.root < length n.declared.roots =
    subst (λ (d : Declared). c.args.root < length d.roots) (sym c.self.view_is) c.requires in
    c.as_slice.ensures.value
    ∙ group_places n.by_root.items (length n.declared.roots) c.args.root
    (owners_of n.declared.ctors) c.index.result.now root c.self.invariant.1 c.index.ensures
    ∙ ap (λ (d : Declared). ctors_of d c.args.root) c.self.view_is
