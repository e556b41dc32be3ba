-- The steps of a pattern of a sort are well sorted.
use Rattle.std.proofs.Common.{◌≡◌, ℕ, suc, ◌+◌, List, [], ◌∷◌, ◌++◌, length, map, Some}
use Rattle.std.proofs.Common.{slice_get, refl, sym, ap, ◌∙◌, subst, arith}
use Rattle.std.proofs.lemmas.Bool.{and_parts}
use Rattle.std.specs.Prelude.{◌&&◌}
use Rattle.pp_list.proofs.With.{With, elements}
use Rattle.pp_prog.proofs.Induction.{each_pattern, pattern_under}
use Rattle.pp_prog.specs.declared.expr.Pattern.{Pattern}
use Rattle.pp_prog.specs.declared.expr.Pattern.TheFolds.{fold-roll-Pattern, map-Pattern}
use Rattle.pp_prog.specs.declared.expr.Pattern.TheOpen as pattern
use Rattle.pp_prog.specs.declared.expr.Pattern.TheViews.{roll-Pattern}
use Rattle.pp_prog.specs.declared.id.CtorId.{CtorId}
use Rattle.pp_prog.specs.declared.sort.Sort.{Sort}
use Rattle.pp_prog.specs.declared.sort.Sort.TheVariants as sort
use Rattle.pp_prog.specs.declared.types.Ctor.{Ctor}
use Rattle.pp_prog.specs.declared.types.TypeTable.{TypeTable}
use Rattle.pp_prog.specs.PatternSorts.{Binding, bind_fields, bind_step, bound_sorts, then_bind}
use Rattle.pp_prog.specs.Sorts.{is_int, same_sort}
use Rattle.pp_prog.proofs.ValueSorts.{one_sort}
use Rattle.pp_sound.proofs.Binding.{bind_then, none_binds, tree_binds}
use Rattle.pp_steps.proofs.Counting.{plus_zero, zero_plus}
use Rattle.pp_steps.specs.declared.step.Step.{Step}
use Rattle.pp_steps.specs.declared.step.Step.TheVariants as steps
use Rattle.pp_steps.specs.Patterns.{Fitting, Matching, equals, fit_fields, fitting, fitting_step}
use Rattle.pp_steps.specs.Sorted.{AllSorted, Sorts}
use Rattle.pp_steps_sorted.proofs.Assigned.{AllAssigned, assigned_parts}
use Rattle.pp_steps_sorted.proofs.Pieces.{AreBool, AreOf, Makes, bool_join, of_join, sorted_join}
use Rattle.pp_steps_sorted.proofs.Steps.{equal_makes, select_makes}

plus_suc : (j i : ℕ) → suc j + i ≡ j + suc i
plus_suc j i = omega arith

module _ (types : TypeTable) (σ : Sorts) where
  -- the steps from number k on are well sorted, the tests are truth values, and what is bound has these sorts
  pub record IsFitSorted (k : ℕ) (x : Fitting) (ss : List Sort) : Type 0 where
    pub sorted : AllSorted types σ k x.steps
    pub tests : AreBool types σ x.tests
    pub bound : AreOf types σ ss x.bound

  -- so it is at a value of each sort of the pattern, where the steps have the sorts that follow from their operands
  abbrev Fits : Matching → Binding → Type 0
  Fits m b =
      (k t : ℕ) (s : Sort) (ss : List Sort) → σ t ≡ s → b s ≡ Some ss → AllAssigned types σ k (m k t).steps
      → IsFitSorted k (m k t) ss

  abbrev FitsAt : Pattern → Type 0
  FitsAt p = Fits (fitting p) (bound_sorts types.ctors p)

  abbrev matchings : List (With FitsAt) → List Matching
  matchings ys = map fitting (elements ys)

  abbrev bindings : List (With FitsAt) → List Binding
  bindings ys = map (bound_sorts types.ctors) (elements ys)

  equals_fits : (s : Step) (r : Sort) (k t : ℕ) → Makes types σ r k s → σ t ≡ r
      → AllAssigned types σ k (equals s k t).steps → IsFitSorted k (equals s k t) []
  equals_fits s r k t h e all =
      let it = h all.0 in
      let test = equal_makes types σ k t (suc k) (it.1 ∙ sym e) all.1.0 in
      record { sorted = (it.0, (test.0, tt)); tests = (test.1, tt); bound = refl }

  -- a list of elements binds at a list of sorts that is as long
  binds_length : (ys : List (With FitsAt)) (ts ss : List Sort) → bind_fields (bindings ys) ts ≡ Some ss
      → length (matchings ys) ≡ length ts
  binds_length [] [] ss h = refl
  binds_length [] (t ∷ ts) ss h = cc
  binds_length (y ∷ ys) [] ss h = cc
  binds_length (y ∷ ys) (t ∷ ts) ss h =
      let rest = bind_fields (bindings ys) ts in
      let m = bind_then (bound_sorts types.ctors y.0 t) (λ here. then_bind rest (λ more. Some (here ++ more))) ss h in
      let n = bind_then rest (λ more. Some (m.0 ++ more)) ss m.2 in
      ap suc (binds_length ys ts n.0 n.1)

  module _ (c : CtorId) (ctor : Ctor) (is : slice_get types.ctors c.0 ≡ Some ctor) where
    fields_fit : (ys : List (With FitsAt)) (ts ss : List Sort) → bind_fields (bindings ys) ts ≡ Some ss → (j k t : ℕ)
        → σ t ≡ sort.Tree ctor.of
        → ((i : ℕ) (r : Sort) → slice_get ts i ≡ Some r → slice_get ctor.fields (j + i) ≡ Some r)
        → AllAssigned types σ k (fit_fields c j (matchings ys) k t).steps
        → IsFitSorted k (fit_fields c j (matchings ys) k t) ss
    fields_fit [] [] ss h j k t e at all = record { sorted = tt; tests = tt; bound = cc }
    fields_fit [] (r ∷ rs) ss h j k t e at all = absurd (cc)
    fields_fit (y ∷ ys) [] ss h j k t e at all = absurd (cc)
    fields_fit (y ∷ ys) (r ∷ rs) ss h j k t e at all =
        let rest = bind_fields (bindings ys) rs in
        let m = bind_then (bound_sorts types.ctors y.0 r) (λ here. then_bind rest (λ more. Some (here ++ more))) ss h in
        let n = bind_then rest (λ more. Some (m.0 ++ more)) ss m.2 in
        let x = fitting y.0 (suc k) k in
        let next = suc k + length x.steps in
        let z = fit_fields c (suc j) (matchings ys) next t in
        let there : slice_get ctor.fields j ≡ Some r = subst (λ i. slice_get ctor.fields i ≡ Some r) (plus_zero j)
        (at 0 r refl) in
        let field = select_makes types σ c ctor j t k r is e there all.0 in
        let both = assigned_parts types σ (suc k) x.steps z.steps all.1 in
        let a = y.1 (suc k) k r m.0 field.1 m.1 both.0 in
        let b = fields_fit ys rs n.0 n.1 (suc j) next t e
        (λ i q g. subst (λ i. slice_get ctor.fields i ≡ Some q) (sym (plus_suc j i)) (at (suc i) q g)) both.1 in
        let all_bound : m.0 ++ n.0 ≡ ss = cc (n.2) in
        record {
          sorted = (field.0, sorted_join types σ (suc k) x.steps z.steps a.sorted b.sorted);
          tests = bool_join types σ x.tests z.tests a.tests b.tests;
          bound = of_join types σ m.0 n.0 x.bound z.bound a.bound b.bound ∙ all_bound;
        }

  level : (y : pattern.Pattern-F (With FitsAt))
      → Fits (fitting_step (map-Pattern Pattern Matching fitting (pattern_under y)))
      (bind_step types.ctors (map-Pattern Pattern Binding (bound_sorts types.ctors) (pattern_under y)))
  level pattern.Any k t s ss e h all = record { sorted = tt; tests = tt; bound = cc }
  level (pattern.Bind inner) k t s ss e h all =
      let m = bind_then (bound_sorts types.ctors inner.0 s) (λ more. Some (s ∷ more)) ss h in
      let a = inner.1 k t s m.0 e m.1 all in
      let x = fitting inner.0 k t in
      let all_bound : s ∷ m.0 ≡ ss = cc (m.2) in
      record {
        sorted = a.sorted;
        tests = a.tests;
        bound = of_join types σ (s ∷ []) m.0 (t ∷ []) x.bound (ap (λ u. u ∷ []) e) a.bound ∙ all_bound;
      }
  level (pattern.Int n) k t s ss e h all =
      let b = none_binds (same_sort sort.Int s && is_int n) ss h in
      let p = and_parts (same_sort sort.Int s) (is_int n) b.0 in
      let int : σ t ≡ sort.Int = e ∙ sym (one_sort sort.Int s p.0) in
      subst (IsFitSorted k (equals (steps.Int n) k t)) b.1
      (equals_fits (steps.Int n) sort.Int k t (λ is. ((is, p.1), is)) int all)
  level (pattern.Bool v) k t s ss e h all =
      let b = none_binds (same_sort sort.Bool s) ss h in
      let truth : σ t ≡ sort.Bool = e ∙ sym (one_sort sort.Bool s b.0) in
      subst (IsFitSorted k (equals (steps.Bool v) k t)) b.1
      (equals_fits (steps.Bool v) sort.Bool k t (λ is. (is, is)) truth all)
  level (pattern.Ctor c ys) k t s ss e h all =
      let tree = tree_binds (slice_get types.ctors c.0) (bindings ys) s ss h in
      let operand : σ t ≡ sort.Tree tree.0.of = e ∙ sym tree.2 in
      let a = fields_fit c tree.0 tree.1 ys tree.0.fields ss tree.3 0 (suc k) t operand
      (λ i r g. subst (λ n. slice_get tree.0.fields n ≡ Some r) (sym (zero_plus i)) g) all.1 in
      let count = binds_length ys tree.0.fields ss tree.3 in
      record {
        sorted =
            ((record { ctor = tree.0; stands = tree.1; operand = operand; fields = count }, all.0), a.sorted);
        tests = (all.0, a.tests);
        bound = a.bound;
      }

  at_level : (y : pattern.Pattern-F (With FitsAt)) → FitsAt (roll-Pattern (pattern_under y))
  at_level y =
      let z = pattern_under y in
      let one = fold-roll-Pattern Matching fitting_step z in
      let two = fold-roll-Pattern Binding (bind_step types.ctors) z in
      subst (λ m. Fits m (bound_sorts types.ctors (roll-Pattern z))) (sym one)
      (subst (λ b. Fits (fitting_step (map-Pattern Pattern Matching fitting z)) b) (sym two) (level y))

  -- the steps of a pattern
  pub pattern_fits : (p : Pattern) → FitsAt p
  pattern_fits = each_pattern FitsAt at_level
