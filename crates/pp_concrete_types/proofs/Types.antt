-- The types of the fields of datatypes are datatypes.
use Rattle.std.proofs.Common.{◌≡◌, ⊎_elim, ℕ, zero, suc, ◌<◌, true, if◌then◌else◌, List, [], ◌∷◌, map, length, refl}
use Rattle.std.proofs.Common.{sym, ap, ◌∙◌, subst, eq-eqb}
use Rattle.std.specs.Prelude.{Some, slice_get, Contains}
use Rattle.std.specs.Option.{option_map}
use Rattle.std.proofs.lemmas.Bool.{lt-ltb}
use Rattle.std.proofs.lemmas.List.Elements.{Contains-append_cases, Contains-append_left, Contains-append_right}
use Rattle.std.proofs.lemmas.List.Elements.{Contains-push}
use Rattle.std.proofs.lemmas.Option.{none-some, same_Some, slice_get-map, slice_get_within}
use Rattle.pp_list.specs.Joined.{joined}
use Rattle.pp_concrete_types.proofs.Lists.{contained, stands}
use Rattle.pp_concrete_types.specs.Datatypes.{AreDatatypes}
use Rattle.pp_instances.proofs.Kept.{nothing_in}
use Rattle.pp_instances.proofs.Mentioned.{types_root}
use Rattle.pp_instances.specs.Same.{place_of}
use Rattle.pp_instances.specs.Uses.{at_args, ctor_mentions, root_at, types_in, types_of}
use Rattle.pp_instances.specs.declared.member.Member.{Member}
use Rattle.pp_prog.specs.Table.{is_sort}
use Rattle.pp_prog.specs.declared.types.Datatype.{Datatype}
use Rattle.pp_translation.specs.Numbers.{program_sort, sort_of_layer}
use Rattle.pp_typed.specs.Put.{put}
use Rattle.pp_typed.specs.declared.sort.GenericSort.{GenericSort}
use Rattle.pp_typed.specs.declared.sort.GenericSort.TheOpen as layer
use Rattle.pp_typed.specs.declared.sort.GenericSort.TheVariants as sort
use Rattle.pp_typed.specs.declared.sort.GenericSort.TheViews.{out-GenericSort, roll-GenericSort, roll-out-GenericSort}
use Rattle.pp_typed.specs.declared.typed.Typed.{Typed}
use Rattle.pp_typed.specs.declared.typed.TypedCtor.{TypedCtor}
use Rattle.pp_validity.proofs.Known.{HasTypes}
use Rattle.pp_validity.proofs.Placed.{placed}
use Rattle.pp_validity.proofs.Types.{types_put}
use Rattle.pp_validity.proofs.Within.{Within}

pub in_mapped : {A B : Type 0} (f : A → B) (xs : List A) (x : A) → Contains xs x → Contains (map f xs) (f x)
in_mapped f xs x c = contained (map f xs) c.0 (f x) (slice_get-map f xs c.0 ∙ ap (option_map f) (stands xs x c))

pub in_joined : {A B : Type 0} (f : A → List B) (xs : List A) (i : ℕ) (x : A) (y : B) → slice_get xs i ≡ Some x
    → Contains (f x) y → Contains (joined (map f xs)) y
in_joined f [] i x y h c = absurd (none-some _ h)
in_joined f (z ∷ xs) zero x y h c =
    Contains-append_left (f z) (joined (map f xs)) y (subst (λ w. Contains (f w) y) (sym (same_Some _ _ h)) c)
in_joined f (z ∷ xs) (suc i) x y h c = Contains-append_right (f z) (joined (map f xs)) y (in_joined f xs i x y h c)

pub from_joined : {A B : Type 0} (f : A → List B) (xs : List A) (y : B) → Contains (joined (map f xs)) y
    → (x : A) × Contains xs x × Contains (f x) y
from_joined f [] y c = absurd (nothing_in y c)
from_joined {A} f (x ∷ xs) y c =
    ⊎_elim (λ (here : Contains (f x) y). (x, contained (x ∷ xs) 0 x refl, here))
    (λ (later : Contains (joined (map f xs)) y). more (from_joined f xs y later))
    (Contains-append_cases (f x) (joined (map f xs)) y c)
  where
    more : (z : A) × Contains xs z × Contains (f z) y → (z : A) × Contains (x ∷ xs) z × Contains (f z) y
    more q = (q.0, contained (x ∷ xs) (suc q.1.0) q.0 (stands xs q.0 q.1), q.2)

module _ (ms : List Member) where
  -- a root with its arguments is one of the types that it is made of, and so are those of its arguments
  pub root_has : (r : ℕ) (args : List GenericSort) → HasTypes ms (sort.Root r args) → Contains ms (root_at r args)
  root_has r args h =
      h (root_at r args) (subst (λ (l : List Member). Contains l (root_at r args)) (sym (types_root r args))
      (Contains-append_left (root_at r args ∷ []) (types_of args) (root_at r args) (Contains-push [] (root_at r args))))

  pub args_have : (r : ℕ) (args : List GenericSort) → HasTypes ms (sort.Root r args) → (i : ℕ) (a : GenericSort)
      → slice_get args i ≡ Some a → HasTypes ms a
  args_have r args h i a at m c =
      h m (subst (λ (l : List Member). Contains l m) (sym (types_root r args))
      (Contains-append_right (root_at r args ∷ []) (types_of args) m (in_joined types_in args i a m at c)))

  -- the sort of the program that a sort is, whose types are members, is one of its sorts
  pub sort_is : (datatypes : List Datatype) → length datatypes ≡ length ms → (s : GenericSort) → HasTypes ms s
      → is_sort datatypes (program_sort ms s) ≡ true
  sort_is datatypes size s h = by (out-GenericSort s) refl
    where
      by : (y : layer.GenericSort-F GenericSort) → out-GenericSort s ≡ y → is_sort datatypes (sort_of_layer ms y) ≡ true
      by layer.Int e = refl
      by layer.Bool e = refl
      by (layer.Param i) e = refl
      by (layer.Root r args) e =
          let m = root_at r args in
          let is : s ≡ sort.Root r args =
          sym (roll-out-GenericSort s) ∙ ap roll-GenericSort e ∙ sort.rolls-Root r args in
          let there = root_has r args (subst (HasTypes ms) is h) in
          let within = slice_get_within ms (place_of ms m) m (placed ms m there) in
          lt-ltb (place_of ms m) (length datatypes) (subst (λ n. place_of ms m < n) (sym size) within)

module _ (typed : Typed) (roots : List Member) (are : AreDatatypes typed roots) where
  -- a root that is a datatype at its arguments is made of datatypes
  pub root_types : (r : ℕ) (args : List GenericSort) → Contains roots (root_at r args)
      → HasTypes roots (sort.Root r args)
  root_types r args there m c =
      let all = root_at r args ∷ types_of args in
      let whole : Contains all m = subst (λ (l : List Member). Contains l m) (types_root r args) c in
      by whole.0 (stands all m whole)
    where
      by : (i : ℕ) → slice_get (root_at r args ∷ types_of args) i ≡ Some m → Contains roots m
      by zero at = subst (Contains roots) (same_Some _ _ at) there
      by (suc i) at =
          let a = from_joined types_in args m (contained (types_of args) i m at) in
          are.arguments (root_at r args) m a.0 there a.1 a.2

  -- a datatype's root has this constructor, of which each field is made of datatypes
  pub field_types : (k : TypedCtor) (args : List GenericSort) (s : GenericSort) → Contains typed.ctors k
      → Contains roots (root_at k.root args) → Contains k.fields s → HasTypes roots (put args s)
  field_types k args s has there own =
      types_put roots args (λ a c n d. are.arguments (root_at k.root args) n a there c d) s within
    where
      mentioned : (n : Member) → Contains (types_in s) n → Contains (ctor_mentions k.root k) n
      mentioned n c =
          subst (λ b. Contains (if b then types_of k.fields else []) n) (sym (eq-eqb k.root k.root refl))
          (in_joined types_in k.fields own.0 s n (stands k.fields s own) c)

      within : Within roots args (types_in s)
      within n c =
          are.fields (root_at k.root args) (at_args args n) there
          (in_mapped (at_args args) (joined (map (ctor_mentions k.root) typed.ctors)) n
          (in_joined (ctor_mentions k.root) typed.ctors has.0 k n (stands typed.ctors k has) (mentioned n c)))
