-- The sorts of the functions of the program are in range.
use Rattle.std.proofs.Common.{◌≡◌, ℕ, suc, ◌+◌, nat_lt, Bool, true, List, [], ◌∷◌, map, length, refl, sym}
use Rattle.std.proofs.Common.{ap, ◌∙◌, subst, arith}
use Rattle.std.specs.Prelude.{Some, Contains, slice_get}
use Rattle.std.specs.List.{list_all}
use Rattle.std.proofs.lemmas.Bool.{and_from, lt-ltb}
use Rattle.std.proofs.lemmas.Option.{same_Some, slice_get_within}
use Rattle.pp_list.specs.Joined.{joined}
use Rattle.pp_instances.proofs.Mentioned.{types_root}
use Rattle.pp_instances.specs.Same.{place_of}
use Rattle.pp_instances.specs.Uses.{function_at, param_types, root_at, types_in, types_of}
use Rattle.pp_instances.specs.declared.member.Decl.TheVariants.{Root}
use Rattle.pp_instances.specs.declared.member.Instance.{Instance}
use Rattle.pp_instances.specs.declared.member.Member.{Member}
use Rattle.pp_known.proofs.Known.{signature_at}
use Rattle.pp_known.proofs.Listed.{args_have_types, declared, function_of_member, root_place, signature_within}
use Rattle.pp_known.specs.SettingOf.{AreTranslated, IsSettingOf}
use Rattle.pp_members.proofs.Lists.{first_in}
use Rattle.pp_members.proofs.Put.{put_in_range}
use Rattle.pp_members.proofs.Sorts.{all_at}
use Rattle.pp_prog.specs.Table.{is_sort}
use Rattle.pp_prog.specs.Valid.{is_in_range}
use Rattle.pp_prog.specs.declared.expr.Function.{Function as ProgramFunction}
use Rattle.pp_prog.specs.declared.sort.Sort.{Sort}
use Rattle.pp_translation.specs.Numbers.{count_of, datatypes_from, program_sort, sort_at, stands_for}
use Rattle.pp_translation.specs.Setting.{Setting}
use Rattle.pp_translation.specs.declared.frame.CheckAt.{CheckAt}
use Rattle.pp_typed.specs.InRange.{AreInRange, IsInRange, int_in_range, bool_in_range, param_in_range, root_in_range}
use Rattle.pp_typed.specs.InRange.{more_in_range}
use Rattle.pp_typed.specs.Sorted.{param_sorts}
use Rattle.pp_typed.specs.WellSorted.{IsDef}
use Rattle.pp_typed.specs.declared.sort.GenericSort.{GenericSort}
use Rattle.pp_typed.specs.declared.typed.Typed.{Typed}
use Rattle.pp_typed.specs.declared.typed.TypedCtor.{TypedCtor}
use Rattle.pp_typed.specs.declared.typed.TypedDef.{TypedDef}
use Rattle.pp_typed.specs.declared.typed.TypedParam.{TypedParam}
use Rattle.pp_validity.proofs.Ground.{ground_int, ground_bool, ground_root}
use Rattle.pp_validity.proofs.Known.{HasTypes}
use Rattle.pp_validity.proofs.Types.{types_put}
use Rattle.pp_validity.proofs.Within.{Within, in_left, in_right}

-- what holds at each place holds of all
pub all_pass : {A : Type 0} (p : A → Bool) (xs : List A) → ((n : ℕ) (x : A) → slice_get xs n ≡ Some x → p x ≡ true)
    → list_all p xs ≡ true
all_pass p [] h = refl
all_pass p (x ∷ xs) h = and_from (p x) (list_all p xs) (h 0 x refl) (all_pass p xs (λ n y at. h (suc n) y at))

as_many : (all : List TypedCtor) (first : ℕ) (rs : List Instance) → length (datatypes_from all first rs) ≡ length rs
as_many all first [] = refl
as_many all first (i ∷ is) = ap suc (as_many all (first + count_of all (stands_for Root i)) is)

module _ (typed : Typed) (ms : List Member) (fs rs : List Instance) (set : Setting)
    (s : IsSettingOf typed ms fs rs set) where
  abbrev Is : Sort → Type 0
  Is z = is_sort set.types.datatypes z ≡ true

  root_is_sort : (r : ℕ) (args : List GenericSort) → Contains ms (root_at r args)
      → nat_lt (place_of set.roots (root_at r args)) (length set.types.datatypes) ≡ true
  root_is_sort r args has =
      let p = root_place typed ms fs rs set s r args has in
      let many : length set.types.datatypes ≡ length rs = ap length s.datatypes ∙ as_many typed.ctors 0 rs in
      let within = slice_get_within rs (place_of set.roots (root_at r args)) p.i p.at in
      lt-ltb (place_of set.roots (root_at r args)) (length set.types.datatypes) (omega (arith, many, within))

  -- a sort without parameters, the types of which are members
  ground_is_sort : {p : GenericSort} → IsInRange typed.roots 0 p → HasTypes ms p → Is (program_sort set.roots p)
  ground_is_sort (int_in_range is) h =
      ap (λ z. is_sort set.types.datatypes (program_sort set.roots z)) is ∙ ap (is_sort set.types.datatypes)
      (ground_int set.roots [])
  ground_is_sort (bool_in_range is) h =
      ap (λ z. is_sort set.types.datatypes (program_sort set.roots z)) is ∙ ap (is_sort set.types.datatypes)
      (ground_bool set.roots [])
  ground_is_sort (param_in_range i is lt) h = absurd (omega (arith, lt))
  ground_is_sort (root_in_range r root args is at all each) h =
      let there : Contains ms (root_at r args) =
      h (root_at r args) (subst (λ (l : List Member). Contains l (root_at r args))
      (sym (ap types_in is ∙ types_root r args)) (first_in (root_at r args) (types_of args))) in
      ap (λ z. is_sort set.types.datatypes (program_sort set.roots z)) is ∙ ap (is_sort set.types.datatypes)
      (ground_root set.roots [] r args) ∙ root_is_sort r args there

  module _ (f : ℕ) (d : TypedDef) (args : List GenericSort) (at : slice_get typed.defs f ≡ Some d)
      (has : Contains ms (function_at f args)) where
    sort_of_function : (p : GenericSort) → IsInRange typed.roots d.type_params p → Within ms args (types_in p)
        → Is (sort_at set.roots args p)
    sort_of_function p range within =
        let m = function_of_member typed ms fs rs set s f args has in
        let count : length args ≡ d.type_params =
        m.all ∙ ap (λ (z : TypedDef). z.type_params) (same_Some _ _ (sym m.declared ∙ at)) in
        ground_is_sort (put_in_range args typed.roots d.type_params 0 m.ground count range)
        (types_put ms args (args_have_types typed ms fs rs set s (function_at f args) has) p within)

    sorts_of_function : (ps : List TypedParam) → AreInRange typed.roots d.type_params (param_sorts ps)
        → Within ms args (joined (map param_types ps))
        → list_all (is_sort set.types.datatypes) (map (sort_at set.roots args) (param_sorts ps)) ≡ true
    sorts_of_function [] h within = refl
    sorts_of_function (p ∷ ps) (more_in_range here more) within =
        and_from _ _ (sort_of_function p.of here
        (in_left ms args (types_in p.of) (joined (map param_types ps)) within))
        (sorts_of_function ps more (in_right ms args (types_in p.of) (joined (map param_types ps)) within))

  module _ (texts : List (List ℕ)) (all : List ProgramFunction) (cs : List CheckAt)
      (t : AreTranslated typed texts fs set all cs) where
    pub function_in_range : (n : ℕ) (i : Instance) (g : ProgramFunction) → slice_get fs n ≡ Some i
        → slice_get all n ≡ Some g
        → is_in_range set.types.datatypes g ≡ true
    function_in_range n i g at found =
        let e = declared typed ms fs rs set s n i at in
        let d = e.0 in
        let has = s.listed.functions.only n i at in
        let def = all_at (IsDef typed) typed.defs i.number d s.well.defs e.1 in
        let sig = signature_at typed ms fs rs set s texts all cs t n i d at e.1 in
        let within = signature_within typed ms fs rs set s i.number d i.args e.1 has in
        let params = joined (map param_types d.params) in
        let result = types_in d.result in
        subst (λ (z : ProgramFunction). is_in_range set.types.datatypes z ≡ true)
        (same_Some _ _ (sym sig.found ∙ found))
        (and_from _ _
        (ap (list_all (is_sort set.types.datatypes)) sig.params
        ∙ sorts_of_function i.number d i.args e.1 has d.params def.params (in_left ms i.args params result within))
        (ap (is_sort set.types.datatypes) sig.result ∙ sort_of_function i.number d i.args e.1 has d.result def.result
        (in_right ms i.args params result within)))
