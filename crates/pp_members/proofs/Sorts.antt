-- The sort of a sorted expression is in range, and so are the sorts of the values that a pattern binds.
use Rattle.std.proofs.Common.{◌≡◌, ℕ, nat_eq, Bool, true, false, List, [], ◌∷◌, ◌++◌, map, length, sym, ap, ◌∙◌}
use Rattle.std.proofs.Common.{subst}
use Rattle.std.specs.Prelude.{Some, All, slice_get}
use Rattle.std.proofs.lemmas.List.Elements.{All-filter, All-head, All-contains}
use Rattle.std.proofs.lemmas.Option.{same_Some}
use Rattle.pp_list.proofs.Lists.{element}
use Rattle.pp_members.proofs.Put.{at_in_range, put_in_range, puts_in_range}
use Rattle.pp_tree.specs.declared.operator.UnaryOp.{UnaryOp}
use Rattle.pp_tree.specs.declared.operator.UnaryOp.TheVariants.{Neg, Not, Flip}
use Rattle.pp_typed.specs.InRange.{IsInRange, AreInRange, int_in_range, bool_in_range, param_in_range, root_in_range}
use Rattle.pp_typed.specs.InRange.{none_in_range, more_in_range}
use Rattle.pp_typed.specs.Operators.{unary_sort}
use Rattle.pp_typed.specs.Put.{put}
use Rattle.pp_typed.specs.Sorted.{Binds, BindEach, IsSorted, binds_any, binds_int, binds_bool, binds_ctor, bind_none}
use Rattle.pp_typed.specs.Sorted.{bind_more, ctors_of, own_value, sorted_int, sorted_bool, sorted_local, sorted_call}
use Rattle.pp_typed.specs.Sorted.{sorted_construct, sorted_field, sorted_unary, sorted_binary, sorted_if, sorted_match}
use Rattle.pp_typed.specs.Sorted.{sorted_val, sorted_assert, more_cases}
use Rattle.pp_typed.specs.WellSorted.{IsCtor, IsDef, IsWellSorted}
use Rattle.pp_typed.specs.declared.expr.TypedExpr.{TypedExpr}
use Rattle.pp_typed.specs.declared.pattern.TypedPattern.{TypedPattern}
use Rattle.pp_typed.specs.declared.sort.GenericSort.{GenericSort}
use Rattle.pp_typed.specs.declared.sort.GenericSort.TheOpen as layer
use Rattle.pp_typed.specs.declared.sort.GenericSort.TheVariants as sort
use Rattle.pp_typed.specs.declared.sort.GenericSort.TheViews.{out-GenericSort}
use Rattle.pp_typed.specs.declared.typed.Typed.{Typed}
use Rattle.pp_typed.specs.declared.typed.TypedCtor.{TypedCtor}
use Rattle.pp_typed.specs.declared.typed.TypedRoot.{TypedRoot}
use Rattle.pp_typed_forms.proofs.Operators.{gives_in_range}

abbrev pub Layer : Type 0
Layer = layer.GenericSort-F GenericSort

-- what stands at a place of a list of which all is known
pub all_at : {A : Type 0} (P : A → Type 0) (xs : List A) (i : ℕ) (x : A) → All P xs → slice_get xs i ≡ Some x → P x
all_at P xs i x all h =
    All-contains P xs x all (element xs i x h)

pub append_in_range : {roots : List TypedRoot} {n : ℕ} {a b : List GenericSort} → AreInRange roots n a
    → AreInRange roots n b → AreInRange roots n (a ++ b)
append_in_range none_in_range q = q
append_in_range (more_in_range here more) q = more_in_range here (append_in_range more q)

-- the arguments of a root that is in range
pub record IsRootInRange (roots : List TypedRoot) (n r : ℕ) (args : List GenericSort) : Type 0 where
  pub root : TypedRoot
  pub declared : slice_get roots r ≡ Some root
  pub all : length args ≡ root.type_params
  pub each : AreInRange roots n args

module _ (roots : List TypedRoot) (n : ℕ) where
  by_layer : {s : GenericSort} {a b : Layer} (t : GenericSort) → s ≡ t → out-GenericSort t ≡ a → out-GenericSort s ≡ b
      → a ≡ b
  by_layer t is x y = sym x ∙ sym (ap out-GenericSort is) ∙ y

  pub root_parts : {s : GenericSort} (r : ℕ) (args : List GenericSort) → IsInRange roots n s → s ≡ sort.Root r args
      → IsRootInRange roots n r args
  root_parts r args (int_in_range is) e =
      let no : layer.Int ≡ layer.Root r args =
      by_layer sort.Int is sort.outs-Int (ap out-GenericSort e ∙ sort.outs-Root r args) in cc
  root_parts r args (bool_in_range is) e =
      let no : layer.Bool ≡ layer.Root r args =
      by_layer sort.Bool is sort.outs-Bool (ap out-GenericSort e ∙ sort.outs-Root r args) in cc
  root_parts r args (param_in_range i is lt) e =
      let no : layer.Param i ≡ layer.Root r args =
      by_layer (sort.Param i) is (sort.outs-Param i) (ap out-GenericSort e ∙ sort.outs-Root r args) in cc
  root_parts r args (root_in_range q root parts is declared all each) e =
      let same : layer.Root q parts ≡ layer.Root r args =
      by_layer (sort.Root q parts) is (sort.outs-Root q parts) (ap out-GenericSort e ∙ sort.outs-Root r args) in
      let number : q ≡ r = cc in
      let are : parts ≡ args = cc in
      record {
        root = root;
        declared = ap (slice_get roots) (sym number) ∙ declared;
        all = ap length (sym are) ∙ all;
        each = subst (AreInRange roots n) are each;
      }

  unary_in_range : {s : GenericSort} (op : UnaryOp) → s ≡ unary_sort op → IsInRange roots n s
  unary_in_range Neg h = int_in_range h
  unary_in_range Not h = bool_in_range h
  unary_in_range Flip h = int_in_range h

  own_in_range : (b : Bool) {s : GenericSort} → IsInRange roots n s → AreInRange roots n (own_value b s)
  own_in_range true h = more_in_range h none_in_range
  own_in_range false h = none_in_range

module _ (typed : Typed) (well : IsWellSorted typed) (params : ℕ) where
  abbrev In : GenericSort → Type 0
  In = IsInRange typed.roots params

  abbrev AreIn : List GenericSort → Type 0
  AreIn = AreInRange typed.roots params

  -- the fields of a constructor at the arguments of a root
  fields_in_range : (k : TypedCtor) (args : List GenericSort) → IsCtor typed k
      → IsRootInRange typed.roots params k.root args → AreIn (map (put args) k.fields)
  fields_in_range k args c root =
      puts_in_range args typed.roots c.owner.type_params params root.each
      (root.all ∙ ap (λ (z : TypedRoot). z.type_params) (same_Some _ _ (sym root.declared ∙ c.declared))) c.fields

  only_ctor : (k : TypedCtor) → ctors_of typed.ctors k.root ≡ k ∷ [] → IsCtor typed k
  only_ctor k only =
      All-head (IsCtor typed) k [] (subst (All (IsCtor typed)) only
      (All-filter (λ (c : TypedCtor). nat_eq c.root k.root) (IsCtor typed) typed.ctors well.ctors))

  mutual
    pub bound_in_range : {s : GenericSort} {p : TypedPattern} {bound : List GenericSort} → Binds typed s p bound → In s
        → AreIn bound
    bound_in_range {p = p} (binds_any is) h = own_in_range typed.roots params p.binds h
    bound_in_range {p = p} (binds_int n is e range) h = own_in_range typed.roots params p.binds h
    bound_in_range {p = p} (binds_bool b is e) h = own_in_range typed.roots params p.binds h
    bound_in_range {p = p} (binds_ctor c k args parts is declared e each) h =
        append_in_range (own_in_range typed.roots params p.binds h)
        (each_bound_in_range each (fields_in_range k args (all_at (IsCtor typed) typed.ctors c k well.ctors declared)
        (root_parts typed.roots params k.root args h e)))

    pub each_bound_in_range : {ss : List GenericSort} {ps : List TypedPattern} {bound : List GenericSort}
        → BindEach typed ss ps bound → AreIn ss → AreIn bound
    each_bound_in_range bind_none h = none_in_range
    each_bound_in_range (bind_more here more) (more_in_range s ss) =
        append_in_range (bound_in_range here s) (each_bound_in_range more ss)

  mutual
    pub sort_in_range : {scope : List GenericSort} {e : TypedExpr} → IsSorted typed params scope e → AreIn scope
        → In e.of
    sort_in_range (sorted_int n is of range) scope = int_in_range of
    sort_in_range (sorted_bool b is of) scope = bool_in_range of
    sort_in_range {e = e} (sorted_local i is at) scope = at_in_range typed.roots params scope i e.of at
    sort_in_range (sorted_call f d sorts args is declared all in_range args_sorted of) scope =
        subst In (sym of) (put_in_range sorts typed.roots d.type_params params in_range all
        (all_at (IsDef typed) typed.defs f d well.defs declared).result)
    sort_in_range (sorted_construct c k root sorts args is declared root_declared all in_range args_sorted of) scope =
        root_in_range k.root root sorts of root_declared all in_range
    sort_in_range (sorted_field j k sorts s is base_sorted base_is only at of) scope =
        let c = only_ctor k only in
        let root = root_parts typed.roots params k.root sorts (sort_in_range base_sorted scope) base_is in
        subst In (sym of)
        (put_in_range sorts typed.roots c.owner.type_params params root.each
        (root.all ∙ ap (λ (z : TypedRoot). z.type_params) (same_Some _ _ (sym root.declared ∙ c.declared)))
        (at_in_range typed.roots c.owner.type_params c.fields j s at))
    sort_in_range (sorted_unary op is sorted operand of) scope = unary_in_range typed.roots params op of
    sort_in_range (sorted_binary {a = a} op is left right operates) scope =
        subst In (sym operates.1) (gives_in_range typed.roots params op a.of (sort_in_range left scope))
    sort_in_range (sorted_if is test is_bool left left_is right right_is) scope =
        subst In left_is (sort_in_range left scope)
    sort_in_range (sorted_match is matched (more_cases binds guard body body_is rest)) scope =
        subst In body_is (sort_in_range body
        (append_in_range scope (bound_in_range binds (sort_in_range matched scope))))
    sort_in_range (sorted_val is bound rest rest_is) scope =
        subst In rest_is (sort_in_range rest
        (append_in_range scope (more_in_range (sort_in_range bound scope) none_in_range)))
    sort_in_range (sorted_assert is test is_bool rest rest_is) scope = subst In rest_is (sort_in_range rest scope)
