-- Each datatype of a program has a value.
use Rattle.std.proofs.Common.{◌≡◌, ℕ, zero, suc, ◌+◌, List, [], ◌∷◌, map, drop, drop-cons, length, get_or, refl, sym}
use Rattle.std.proofs.Common.{ap, ◌∙◌, subst, arith}
use Rattle.std.specs.Prelude.{Option, Some, None, slice_get, unwrap_or, Contains}
use Rattle.std.proofs.lemmas.List.{drop_all}
use Rattle.std.proofs.lemmas.Option.{none-some, same_Some, unwrap_or-slice_get}
use Rattle.pp_concrete_types.proofs.Lists.{contained, stands}
use Rattle.pp_concrete_types.proofs.Places.{place_is, root_stands}
use Rattle.pp_concrete_types.proofs.Rooms.{ctor_is}
use Rattle.pp_concrete_types.proofs.Types.{args_have, field_types, root_has, root_types}
use Rattle.pp_concrete_types.proofs.Values.{Values, int_value, more_values, no_values, tree_value, truth_value}
use Rattle.pp_concrete_types.specs.Datatypes.{AreDatatypes}
use Rattle.pp_generic.proofs.Putting.{put_bool, put_int, put_param, put_root}
use Rattle.pp_instances.specs.Same.{place_of}
use Rattle.pp_instances.specs.Uses.{root_at}
use Rattle.pp_instances.specs.declared.member.Decl.TheVariants.{Function, Root}
use Rattle.pp_instances.specs.declared.member.Instance.{Instance}
use Rattle.pp_instances.specs.declared.member.Member.{Member}
use Rattle.pp_members.specs.Proper.{IsProper, of_function, of_root}
use Rattle.pp_prog.specs.Table.{HasValue}
use Rattle.pp_prog.specs.declared.sort.Sort.{Sort}
use Rattle.pp_prog.specs.declared.sort.Sort.TheVariants as prog
use Rattle.pp_prog.specs.declared.types.Ctor.{Ctor}
use Rattle.pp_translation.specs.Numbers.{ctor_at, ctor_number, ctors, data_number, decl_number, program_sort}
use Rattle.pp_translation.specs.Numbers.{sort_of_layer, stands_for}
use Rattle.pp_typed.specs.InRange.{AreInRange, IsInRange, int_in_range, bool_in_range, param_in_range, root_in_range}
use Rattle.pp_typed.specs.InRange.{none_in_range, more_in_range}
use Rattle.pp_typed.specs.Put.{put}
use Rattle.pp_typed.specs.Value as typed_value
use Rattle.pp_typed.specs.Value.{an_int, a_truth, a_param, a_tree, params_from}
use Rattle.pp_typed.specs.WellSorted.{IsWellSorted}
use Rattle.pp_typed.specs.declared.sort.GenericSort.{GenericSort}
use Rattle.pp_typed.specs.declared.sort.GenericSort.TheVariants as sort
use Rattle.pp_typed.specs.declared.typed.Typed.{Typed}
use Rattle.pp_typed.specs.declared.typed.TypedCtor.{TypedCtor}
use Rattle.pp_typed.specs.declared.typed.TypedRoot.{TypedRoot}
use Rattle.pp_validity.proofs.Ground.{each_put, ground_int, ground_bool, ground_root}
use Rattle.pp_validity.proofs.Ground.{puts_puts}
use Rattle.pp_validity.proofs.Known.{HasTypes}
use Rattle.pp_validity.proofs.Patterns.{map_map, mapped}
use Rattle.pp_validity.proofs.Placed.{ctor_found}

-- the type parameters put at arguments are the arguments
params_put : (args : List GenericSort) (i n : ℕ) → i + n ≡ length args → map (put args) (params_from i n) ≡ drop i args
params_put args i zero e = sym (drop_all i args (omega arith))
params_put args i (suc n) e =
    let p = sort.Param i in
    let here = put_param args i ∙ unwrap_or-slice_get args i p in
    let next : i + 1 ≡ suc i = omega arith in
    ap (λ s. s ∷ map (put args) (params_from (i + 1) n)) here
    ∙ ap (λ l. get_or args i p ∷ l) (params_put args (i + 1) n (omega arith) ∙ ap (λ j. drop j args) next)
    ∙ sym (drop-cons args i p (omega arith))

module _ (typed : Typed) (sorted : IsWellSorted typed) (roots : List Member) (are : AreDatatypes typed roots) where
  abbrev own_ctors : List Ctor
  own_ctors = ctors typed roots

  -- the sort of the program has a value, and each sort has
  abbrev V : GenericSort → Type 0
  V s = HasValue own_ctors (program_sort roots s)

  abbrev Vs : List GenericSort → Type 0
  Vs ss = Values own_ctors (map (program_sort roots) ss)

  -- the types that a sort is made of are datatypes, and those of each sort are
  abbrev T : GenericSort → Type 0
  T = HasTypes roots

  abbrev Ts : List GenericSort → Type 0
  Ts ss = (i : ℕ) (s : GenericSort) → slice_get ss i ≡ Some s → T s

  has_value : (s : GenericSort) (t : Sort) → program_sort roots s ≡ t → HasValue own_ctors t → V s
  has_value s t is v = subst (HasValue own_ctors) (sym is) v

  int_has : (s : GenericSort) → s ≡ sort.Int → V s
  int_has s is = has_value s prog.Int (ap (program_sort roots) is ∙ ground_int roots []) (int_value own_ctors)

  bool_has : (s : GenericSort) → s ≡ sort.Bool → V s
  bool_has s is = has_value s prog.Bool (ap (program_sort roots) is ∙ ground_bool roots []) (truth_value own_ctors)

  param_has : (i : ℕ) → V (sort.Param i)
  param_has i = has_value (sort.Param i) prog.Int (ap (sort_of_layer roots) (sort.outs-Param i)) (int_value own_ctors)

  -- a root has a value at arguments at which the fields of one of its constructors have values
  tree_has : (c : TypedCtor) (args : List GenericSort) → Contains typed.ctors c → Contains roots (root_at c.root args)
      → Vs (map (put args) c.fields) → V (sort.Root c.root args)
  tree_has c args has there vs =
      let k = ctor_at typed roots (place_of roots (root_at c.root args)) args c in
      let found = ctor_found typed roots has.0 c args (stands typed.ctors c has) there in
      let fields = subst (Values own_ctors) (sym (map_map (program_sort roots) (put args) c.fields)) vs in
      has_value (sort.Root c.root args) (prog.Tree k.of) (ground_root roots [] c.root args)
      (tree_value own_ctors (ctor_number typed.ctors roots has.0 args).0 k found fields)

  fields_in_range : (c : TypedCtor) (root : TypedRoot) → Contains typed.ctors c
      → slice_get typed.roots c.root ≡ Some root → AreInRange typed.roots root.type_params c.fields
  fields_in_range c root has at =
      let is = ctor_is typed sorted c has in
      let same = same_Some _ _ (sym is.declared ∙ at) in
      subst (λ (r : TypedRoot). AreInRange typed.roots r.type_params c.fields) same is.fields

  -- a finite value, at arguments that have values
  module _ (args : List GenericSort) (own : (i : ℕ) (a : GenericSort) → slice_get args i ≡ Some a → V a) where
    own_has : (i : ℕ) (o : Option GenericSort) → slice_get args i ≡ o → V (unwrap_or o (sort.Param i))
    own_has i None at = param_has i
    own_has i (Some a) at = own i a at

    -- the sorts of the fields, first at the arguments of the root and then at these, are made of datatypes
    fields_have : (c : TypedCtor) (inner : List GenericSort) (n : ℕ) → Contains typed.ctors c
        → Contains roots (root_at c.root (map (put args) inner)) → AreInRange typed.roots n c.fields → n ≡ length inner
        → (s : GenericSort) → Contains (map (put inner) c.fields) s → T (put args s)
    fields_have c inner n has there range whole =
        mapped (put inner) c.fields (λ f. T (put args f))
        (λ f own_field. subst T (sym (each_put args inner c.fields range whole f own_field))
        (field_types typed roots are c (map (put args) inner) f has there own_field))

    mutual
      value_at : (s : GenericSort) → typed_value.HasValue typed.roots typed.ctors s → T (put args s) → V (put args s)
      value_at s (an_int is) h = int_has (put args s) (ap (put args) is ∙ put_int args)
      value_at s (a_truth is) h = bool_has (put args s) (ap (put args) is ∙ put_bool args)
      value_at s (a_param i is) h =
          subst V (sym (ap (put args) is ∙ put_param args i)) (own_has i (slice_get args i) refl)
      value_at s (a_tree c root inner is has at many fields) h =
          let outer = map (put args) inner in
          let same : put args s ≡ sort.Root c.root outer = ap (put args) is ∙ put_root args c.root inner in
          let there = root_has roots c.root outer (subst T same h) in
          let range = fields_in_range c root has at in
          let whole = sym many in
          let types = fields_have c inner root.type_params has there range whole in
          let vs = values_at (map (put inner) c.fields) fields types in
          subst V (sym same) (tree_has c outer has there (subst Vs (puts_puts args inner c.fields range whole) vs))

      values_at : (ss : List GenericSort) → typed_value.HaveValues typed.roots typed.ctors ss
          → ((s : GenericSort) → Contains ss s → T (put args s)) → Vs (map (put args) ss)
      values_at [] typed_value.no_values h = no_values own_ctors
      values_at (s ∷ ss) (typed_value.more_values v vs) h =
          more_values own_ctors (value_at s v (h s (contained (s ∷ ss) 0 s refl)))
          (values_at ss vs (λ t c. h t (contained (s ∷ ss) (suc c.0) t (stands ss t c))))

  mutual
    -- a sort without type parameters that is made of datatypes has a value
    pub ground_has : (s : GenericSort) → IsInRange typed.roots 0 s → T s → V s
    ground_has s (int_in_range is) h = int_has s is
    ground_has s (bool_in_range is) h = bool_has s is
    ground_has s (param_in_range i is lt) h = absurd (omega arith)
    ground_has s (root_in_range r root args is at many each) h =
        let params = params_from 0 root.type_params in
        let all = ap (sort.Root r) (params_put args 0 root.type_params (omega arith)) in
        let same : put args (sort.Root r params) ≡ s = put_root args r params ∙ all ∙ sym is in
        let own = grounds_have args each (args_have roots r args (subst T is h)) in
        let value = (sorted.roots r root at).inhabited in
        subst V same (value_at args own (sort.Root r params) value (subst T (sym same) h))

    grounds_have : (ss : List GenericSort) → AreInRange typed.roots 0 ss → Ts ss
        → (i : ℕ) (s : GenericSort) → slice_get ss i ≡ Some s → V s
    grounds_have [] none_in_range h i t at = absurd (none-some _ at)
    grounds_have (s ∷ ss) (more_in_range here more) h zero t at =
        subst V (same_Some _ _ at) (ground_has s here (h 0 s refl))
    grounds_have (s ∷ ss) (more_in_range here more) h (suc i) t at = grounds_have ss more (λ j. h (suc j)) i t at

no_function : {r f : ℕ} → Root r ≡ Function f → ⊥
no_function h = cc

module _ (typed : Typed) (sorted : IsWellSorted typed) (ris : List Instance)
    (are : AreDatatypes typed (map (stands_for Root) ris)) where
  abbrev instances : List Member
  instances = map (stands_for Root) ris

  proper_has : (r : ℕ) (args : List GenericSort) → Contains instances (root_at r args)
      → IsProper typed (root_at r args) → HasValue (ctors typed instances) (prog.Tree (data_number instances r args))
  proper_has r args there (of_function f d sorts is at many range) =
      absurd (no_function (ap (λ (m : Member). m.of) is))
  proper_has r args there (of_root q root sorts is at many range) =
      let same = ap (λ (m : Member). sort.Root (decl_number m.of) m.args) is in
      subst (HasValue (ctors typed instances)) (ground_root instances [] r args)
      (ground_has typed sorted instances are (sort.Root r args) (root_in_range q root sorts same at many range)
      (root_types typed instances are r args there))

  -- the datatype of an instance has a value
  pub datatype_has : (d : ℕ) (i : Instance) → slice_get ris d ≡ Some i
      → HasValue (ctors typed instances) (prog.Tree (record { 0 = d }))
  datatype_has d i at =
      let m = root_at i.number i.args in
      let here = root_stands typed ris d i i.number at refl in
      let there = contained instances d m here in
      let place = place_is instances d m are.once here in
      subst (λ n. HasValue (ctors typed instances) (prog.Tree (record { 0 = n }))) place
      (proper_has i.number i.args there (are.proper m there))
