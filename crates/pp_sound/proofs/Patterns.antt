-- What a pattern binds has the sorts that it says.
use Rattle.std.proofs.Common.{◌≡◌, Bool, true, List, [], ◌∷◌, ◌++◌, map, Some, slice_get, refl}
use Rattle.std.proofs.Common.{sym, ap, ◌∙◌, subst}
use Rattle.std.specs.Prelude.{nat_eq}
use Rattle.std.proofs.lemmas.Bool.{and_parts, eqb-true}
use Rattle.pp_list.proofs.With.{With, elements}
use Rattle.pp_prog.proofs.Induction.{each_pattern, pattern_under}
use Rattle.pp_prog.specs.declared.expr.Pattern.{Pattern}
use Rattle.pp_prog.specs.declared.expr.Pattern.TheFolds.{fold-roll-Pattern, map-Pattern}
use Rattle.pp_prog.specs.declared.expr.Pattern.TheOpen as pattern
use Rattle.pp_prog.specs.declared.expr.Pattern.TheViews.{roll-Pattern}
use Rattle.pp_prog.specs.declared.id.CtorId.{CtorId}
use Rattle.pp_prog.specs.declared.sort.Sort.{Sort}
use Rattle.pp_prog.specs.declared.sort.Sort.TheVariants as sort
use Rattle.pp_prog.specs.declared.types.Ctor.{Ctor}
use Rattle.pp_prog.specs.declared.value.Value.{Value}
use Rattle.pp_prog.specs.declared.value.Value.TheFolds.{map-Value}
use Rattle.pp_prog.specs.declared.value.Value.TheOpen as value
use Rattle.pp_prog.specs.declared.value.Value.TheViews.{out-Value}
use Rattle.pp_prog.specs.Fits.{Fitting, fit, fit_fields, fit_step, fit_tree}
use Rattle.pp_prog.specs.PatternSorts.{Binding, bind_fields, bind_step, bind_tree, bound_sorts, then_bind}
use Rattle.pp_prog.specs.Sorts.{has_sort, has_step, same_sort}
use Rattle.pp_prog.proofs.PatternFits.{before_is, both_are, if_some, int_binds, truth_binds}
use Rattle.pp_prog.proofs.ValueSorts.{Has, Have, have_more, have_one, level_has, tree_is}
use Rattle.pp_sound.proofs.Binding.{bind_then, none_binds}

module _ (ctors : List Ctor) where
  -- what is bound at a value of the sort has the sorts that are said
  abbrev Fine : Fitting → Binding → Type 0
  Fine f b = (s : Sort) (ss : List Sort) → b s ≡ Some ss → (v : Value) → Has ctors s v → (vs : List Value)
      → f v ≡ Some vs → Have ctors ss vs

  abbrev FineAt : Pattern → Type 0
  FineAt p = Fine (fit p) (bound_sorts ctors p)

  none_bound : (ss : List Sort) (vs : List Value) → [] ≡ ss → [] ≡ vs → Have ctors ss vs
  none_bound ss vs e f = subst (λ l. Have ctors l vs) e (subst (Have ctors []) f refl)

  fields_fine : (ys : List (With FineAt)) (ts ss : List Sort)
      → bind_fields (map (bound_sorts ctors) (elements ys)) ts ≡ Some
      ss → (ws vs : List Value) → Have ctors ts ws
      → fit_fields (map fit (elements ys)) ws ≡ Some vs → Have ctors ss vs
  fields_fine [] [] ss b [] vs h f = none_bound ss vs (cc) (cc)
  fields_fine [] [] ss b (w ∷ ws) vs h f = cc
  fields_fine [] (t ∷ ts) ss b ws vs h f = cc
  fields_fine (y ∷ ys) [] ss b ws vs h f = cc
  fields_fine (y ∷ ys) (t ∷ ts) ss b [] vs h f = cc
  fields_fine (y ∷ ys) (t ∷ ts) ss b (w ∷ ws) vs h f =
      let rest = bind_fields (map (bound_sorts ctors) (elements ys)) ts in
      let m = bind_then (bound_sorts ctors y.0 t) (λ here. then_bind rest (λ more. Some (here ++ more))) ss b in
      let n = bind_then rest (λ more. Some (m.0 ++ more)) ss m.2 in
      let q = both_are (fit y.0 w) (fit_fields (map fit (elements ys)) ws) vs f in
      let k = and_parts (has_sort ctors w t) _ h in
      let sorts : m.0 ++ n.0 ≡ ss = cc (n.2) in
      subst (λ l. Have ctors l vs) sorts (subst (Have ctors (m.0 ++ n.0)) q.4
      (have_more ctors m.0 n.0 q.0 q.1 (y.1 t m.0 m.1 w k.0 q.0 q.2) (fields_fine ys ts n.0 n.1 ws q.1 k.1 q.3)))

  tree_fine : (c : CtorId) (ys : List (With FineAt)) (s : Sort) (ss : List Sort)
      → bind_tree (slice_get ctors c.0) (map (bound_sorts ctors) (elements ys)) s ≡ Some ss
      → (o : value.Value-F Value) → has_step ctors (map-Value Value (Sort → Bool) (has_sort ctors) o) s ≡ true
      → (vs : List Value) → fit_tree c (map fit (elements ys)) o ≡ Some vs → Have ctors ss vs
  tree_fine c ys s ss b (value.Int n) h vs f = cc
  tree_fine c ys s ss b (value.Bool n) h vs f = cc
  tree_fine c ys s ss b (value.Tree d fields) h vs f =
      let m = if_some (nat_eq c.0 d.0) _ vs f in
      let k = tree_is (slice_get ctors d.0) (map (has_sort ctors) fields) s h in
      let known : slice_get ctors c.0 ≡ Some k.0 = ap (slice_get ctors) (eqb-true c.0 d.0 m.0) ∙ k.1 in
      let bound = if_some (same_sort (sort.Tree k.0.of) s) _ ss
      (sym (ap (λ o. bind_tree o (map (bound_sorts ctors) (elements ys)) s) known) ∙ b) in
      fields_fine ys k.0.fields ss bound.1 fields vs k.3 m.1

  level : (y : pattern.Pattern-F (With FineAt)) → Fine (fit_step (map-Pattern Pattern Fitting fit
      (pattern_under y))) (bind_step ctors
      (map-Pattern Pattern Binding (bound_sorts ctors) (pattern_under y)))
  level pattern.Any s ss b v h vs f = none_bound ss vs (cc) (cc)
  level (pattern.Bind q) s ss b v h vs f =
      let m = bind_then (bound_sorts ctors q.0 s) (λ more. Some (s ∷ more)) ss b in
      let n = before_is (v ∷ []) (fit q.0 v) vs f in
      let sorts : s ∷ m.0 ≡ ss = cc (m.2) in
      subst (λ l. Have ctors l vs) sorts (subst (Have ctors (s ∷ m.0)) n.2
      (have_more ctors (s ∷ []) m.0 (v ∷ []) n.0 (have_one ctors s v h) (q.1 s m.0 m.1 v h n.0 n.1)))
  level (pattern.Int n) s ss b v h vs f = none_bound ss vs (none_binds _ ss b).1 (int_binds n (out-Value v) vs f)
  level (pattern.Bool a) s ss b v h vs f = none_bound ss vs (none_binds _ ss b).1 (truth_binds a (out-Value v) vs f)
  level (pattern.Ctor c ys) s ss b v h vs f = tree_fine c ys s ss b (out-Value v) (level_has ctors v s h) vs f

  at_level : (y : pattern.Pattern-F (With FineAt)) → FineAt (roll-Pattern (pattern_under y))
  at_level y =
      let z = pattern_under y in
      let one = fold-roll-Pattern Fitting fit_step z in
      let two = fold-roll-Pattern Binding (bind_step ctors) z in
      subst (λ f. Fine f (bound_sorts ctors (roll-Pattern z))) (sym one)
      (subst (λ b. Fine (fit_step (map-Pattern Pattern Fitting fit z)) b) (sym two) (level y))

  -- what a pattern binds at a value of its sort has the sorts that it says
  pub pattern_fine : (p : Pattern) → FineAt p
  pattern_fine = each_pattern FineAt at_level
