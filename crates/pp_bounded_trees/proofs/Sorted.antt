-- The values of a sort up to a height.
use Rattle.std.proofs.Common.{◌≡◌, ℕ, suc, ◌+◌, ◌≤◌, true, List, [], ◌∷◌, map, Some}
use Rattle.std.proofs.Common.{refl, ap, ◌∙◌, arith, slice_get}
use Rattle.std.proofs.lemmas.Bool.{and_from, and_parts}
use Rattle.pp_prog.specs.declared.id.CtorId.{CtorId}
use Rattle.pp_prog.specs.declared.id.DataId.{DataId}
use Rattle.pp_prog.specs.declared.sort.Sort.{Sort}
use Rattle.pp_prog.specs.declared.sort.Sort.TheVariants as sort
use Rattle.pp_prog.specs.declared.types.Ctor.{Ctor}
use Rattle.pp_prog.specs.declared.types.TypeTable.{TypeTable}
use Rattle.pp_prog.specs.declared.value.Value.{Value}
use Rattle.pp_prog.specs.declared.value.Value.TheVariants.{Tree}
use Rattle.pp_prog.specs.Sorts.{has_sort, have_sorts}
use Rattle.pp_prog.specs.Values.{greatest, height}
use Rattle.pp_prog.proofs.Values.{height_of_tree}
use Rattle.pp_prog.proofs.ValueSorts.{IsTree, tree_has_sort, tree_value}
use Rattle.pp_bounded_trees.specs.Possible.{AreValuesUpTo, IsValueUpTo}

module _ (types : TypeTable) where
  -- lists of values
  pub values_up_to : (h : ℕ) (ss : List Sort) (vs : List Value) → have_sorts types.ctors vs ss ≡ true
      → greatest (map height vs) ≤ h → AreValuesUpTo types h ss vs
  values_up_to h [] [] have low = tt
  values_up_to h [] (v ∷ vs) have low = cc
  values_up_to h (s ∷ ss) [] have low = cc
  values_up_to h (s ∷ ss) (v ∷ vs) have low =
      let p = and_parts (has_sort types.ctors v s) _ have in (
        record { sort = p.0; most = omega arith },
        values_up_to h ss vs p.1 (omega arith),
      )

  pub up_to_values : (h : ℕ) (ss : List Sort) (vs : List Value) → AreValuesUpTo types h ss vs
      → (have_sorts types.ctors vs ss ≡ true) × (greatest (map height vs) ≤ h)
  up_to_values h [] [] are = (refl, omega arith)
  up_to_values h [] (v ∷ vs) are = absurd are
  up_to_values h (s ∷ ss) [] are = absurd are
  up_to_values h (s ∷ ss) (v ∷ vs) are =
      let rest = up_to_values h ss vs are.1 in (
        and_from (has_sort types.ctors v s) _ are.0.sort rest.0,
        (let one = are.0.most in let more = rest.1 in omega arith),
      )

  -- the fields of a value up to a height are one less high
  pub fields_up_to : (h : ℕ) (d : DataId) (v : Value) → IsValueUpTo types (suc h) (sort.Tree d) v
      → (t : IsTree types.ctors d v) × AreValuesUpTo types h t.entry.fields t.fields
  fields_up_to h d v is =
      let t = tree_value types.ctors d v is.sort in
      let high : height v ≡ greatest (map height t.fields) + 1 = ap height t.is ∙ height_of_tree t.ctor t.fields in
      let most = is.most in
      (t, values_up_to h t.entry.fields t.fields t.sorts (omega arith))

  pub tree_up_to : (h : ℕ) (c : CtorId) (k : Ctor) (vs : List Value) → slice_get types.ctors c.0 ≡ Some k
      → AreValuesUpTo types h k.fields vs → IsValueUpTo types (suc h) (sort.Tree k.of) (Tree c vs)
  tree_up_to h c k vs at are =
      let p = up_to_values h k.fields vs are in
      let high = height_of_tree c vs in
      let low = p.1 in record { sort = tree_has_sort types.ctors c k vs at p.0; most = omega arith }

  pub no_tree : (d : DataId) (v : Value) → IsValueUpTo types 0 (sort.Tree d) v → ⊥
  no_tree d v is =
      let t = tree_value types.ctors d v is.sort in
      let high : height v ≡ greatest (map height t.fields) + 1 = ap height t.is ∙ height_of_tree t.ctor t.fields in
      let most = is.most in omega arith
