-- Printed names tell the functions and the datatypes of a program apart.
use Rattle.std.proofs.Common.{◌≡◌, ◌∙◌, ℕ, zero, suc, ◌+◌, List, [], ◌∷◌, Some, refl, sym, ap}
use Rattle.std.proofs.lemmas.Option.{same_Some}
use Rattle.std.specs.Prelude.{slice_get}
use Rattle.pp_instances.specs.declared.member.Decl.TheVariants.{Root}
use Rattle.pp_instances.specs.declared.member.Instance.{Instance}
use Rattle.pp_members.proofs.Proper.{members_are_proper}
use Rattle.pp_mono.specs.Concrete.{function_members, root_members}
use Rattle.pp_order.proofs.Laws.{listed_names_differ}
use Rattle.pp_prog.specs.declared.types.Datatype.{Datatype}
use Rattle.pp_translation.specs.Numbers.{count_of, datatypes_from, stands_for}
use Rattle.pp_typed.specs.declared.typed.TypedCtor.{TypedCtor}
use Rattle.pp_legible.proofs.Functions.{names_tell}
use Rattle.pp_legible.specs.Laws.{NamesDiffer}

-- a datatype has the name of the instance at its place
datatype_named : (all : List TypedCtor) (first : ℕ) (is : List Instance) (k : ℕ) (d : Datatype)
    → slice_get (datatypes_from all first is) k ≡ Some d
    → (i : Instance) × (slice_get is k ≡ Some i) × (i.name ≡ d.name)
datatype_named all first [] k d at = cc
datatype_named all first (i ∷ is) zero d at = (i, refl, ap (λ (t : Datatype). t.name) (same_Some _ _ at))
datatype_named all first (i ∷ is) (suc k) d at =
    datatype_named all (first + count_of all (stands_for Root i)) is k d at

pub printed_names_differ : NamesDiffer
printed_names_differ typed texts p sorted c =
    let names = listed_names_differ typed c.members c.functions c.roots sorted
    (λ m has. members_are_proper typed c.members sorted c.instances m has) c.listed in (
      names_tell typed texts (root_members c.roots) (function_members c.functions) c.functions p.functions names.0
          c.has_functions,
      λ i j a b here there same.
          let x = datatype_named typed.ctors 0 c.roots i a (ap (λ l. slice_get l i) (sym c.has_datatypes) ∙ here) in
          let y = datatype_named typed.ctors 0 c.roots j b (ap (λ l. slice_get l j) (sym c.has_datatypes) ∙ there) in
          names.1 i j x.0 y.0 x.1 y.1 (x.2 ∙ same ∙ sym y.2),
    )
