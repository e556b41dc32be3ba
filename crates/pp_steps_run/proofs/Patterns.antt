-- The steps of a pattern tell whether a value fits it, and what it binds.
use Rattle.std.proofs.Common.{◌≡◌, ℕ, suc, ◌+◌, Bool, true, false, List, [], ◌∷◌, ◌++◌, length, map, Option, Some, None}
use Rattle.std.proofs.Common.{refl, sym, ap, ◌∙◌, subst, arith}
use Rattle.std.specs.Prelude.{◌&&◌, if◌then◌else◌, nat_eq, slice_get}
use Rattle.std.specs.Ordering.{int_eq}
use Rattle.std.proofs.lemmas.Bool.{eq-eqb, eqb-true}
use Rattle.pp_list.proofs.With.{With, elements}
use Rattle.pp_prog.proofs.Induction.{each_pattern, pattern_under}
use Rattle.pp_prog.specs.declared.expr.Pattern.{Pattern}
use Rattle.pp_prog.specs.declared.expr.Pattern.TheFolds.{fold-roll-Pattern, map-Pattern}
use Rattle.pp_prog.specs.declared.expr.Pattern.TheOpen as pattern
use Rattle.pp_prog.specs.declared.expr.Pattern.TheViews.{roll-Pattern}
use Rattle.pp_prog.specs.declared.id.CtorId.{CtorId}
use Rattle.pp_prog.specs.declared.types.Ctor.{Ctor}
use Rattle.pp_prog.specs.declared.value.Value.{Value}
use Rattle.pp_prog.specs.declared.value.Value.TheOpen as layer
use Rattle.pp_prog.specs.declared.value.Value.TheVariants.{Int, Bool as Truth}
use Rattle.pp_prog.specs.declared.value.Value.TheViews.{out-Value}
use Rattle.pp_prog.specs.Fits as run
use Rattle.pp_prog.specs.Fits.{bound_before, bound_both, fit, fit_bool, fit_int, fit_step, fit_tree, fits_if}
use Rattle.pp_eval.specs.Equality.{equal}
use Rattle.pp_eval.proofs.Uneven.{uneven}
use Rattle.pp_steps.specs.declared.step.Step.{Step}
use Rattle.pp_steps.specs.declared.step.Step.TheVariants as steps
use Rattle.pp_steps.specs.Meaning.{Missing, Obeys, Values, bit, ctor_field, ctor_field_in, has_ctor_in}
use Rattle.pp_steps.specs.Patterns.{Fitting, Matching, fit_fields, fitting, fitting_step}
use Rattle.pp_steps_run.specs.Told.{AllOf, AreValues, Off, On, SomeOf, here, there}
use Rattle.pp_steps_run.proofs.Operators.{equal_int, equal_truth}
use Rattle.pp_steps_run.proofs.Pieces.{all_join, bit_truth, obeys_left, obeys_right, some_left, some_right}

module _ (ρ : Values) where
  -- the tests are all true exactly where the value fits, and the bound numbers have the values that it binds
  abbrev Tells : Fitting → Option (List Value) → Type 0
  Tells x None = SomeOf (Off ρ) x.tests
  Tells x (Some vs) = AllOf (On ρ) x.tests × AreValues ρ x.bound vs

  pub record IsFitting (x : Fitting) (o : Option (List Value)) : Type 0 where
    pub told : Tells x o

  pub are_more : (ks ls : List ℕ) (vs ws : List Value) → AreValues ρ ks vs → AreValues ρ ls ws
      → AreValues ρ (ks ++ ls) (vs ++ ws)
  are_more [] ls [] ws h g = g
  are_more [] ls (v ∷ vs) ws h g = absurd h
  are_more (k ∷ ks) ls [] ws h g = absurd h
  are_more (k ∷ ks) ls (v ∷ vs) ws h g = (h.0, are_more ks ls vs ws h.1 g)

  -- one test
  fits_test : (k : ℕ) (ss : List Step) (b : Bool) → bit (ρ k) ≡ b → IsFitting
      (record { steps = ss; tests = k ∷ []; bound = [] }) (fits_if b)
  fits_test k ss true h = record { told = ((h, tt), tt) }
  fits_test k ss false h = record { told = here h }

  int_fits : (k : ℕ) (ss : List Step) (n : _) (o : layer.Value-F Value)
      → bit (ρ k) ≡ Rattle.pp_eval.specs.Equality.equal_layer (layer.Int n) o
      → IsFitting (record { steps = ss; tests = k ∷ []; bound = [] }) (fit_int n o)
  int_fits k ss n (layer.Int m) h = fits_test k ss (int_eq n m) h
  int_fits k ss n (layer.Bool b) h = record { told = here h }
  int_fits k ss n (layer.Tree c fields) h = record { told = here h }

  truth_fits : (k : ℕ) (ss : List Step) (a : Bool) (o : layer.Value-F Value)
      → bit (ρ k) ≡ Rattle.pp_eval.specs.Equality.equal_layer (layer.Bool a) o
      → IsFitting (record { steps = ss; tests = k ∷ []; bound = [] }) (fit_bool a o)
  truth_fits k ss a (layer.Int m) h = record { told = here h }
  truth_fits k ss a (layer.Bool b) h = fits_test k ss _ h
  truth_fits k ss a (layer.Tree c fields) h = record { told = here h }

  -- what a pattern binds before the rest
  bind_first : (x : Fitting) (t : ℕ) (v : Value) (o : Option (List Value)) → ρ t ≡ v → IsFitting x o
      → IsFitting (record { steps = x.steps; tests = x.tests; bound = t ∷ x.bound }) (bound_before (v ∷ []) o)
  bind_first x t v None e h = record { told = h.told }
  bind_first x t v (Some vs) e h = record { told = (h.told.0, (e, h.told.1)) }

  -- two fittings, one after another
  both_fit : (x y : Fitting) (ss : List Step) (o q : Option (List Value)) → IsFitting x o → IsFitting y q
      → IsFitting (record { steps = ss; tests = x.tests ++ y.tests; bound = x.bound ++ y.bound }) (bound_both o q)
  both_fit x y ss None q h g = record { told = some_left (Off ρ) x.tests y.tests h.told }
  both_fit x y ss (Some vs) None h g = record { told = some_right (Off ρ) x.tests y.tests g.told }
  both_fit x y ss (Some vs) (Some ws) h g = record {
    told = (all_join (On ρ) x.tests y.tests h.told.0 g.told.0, are_more x.bound y.bound vs ws h.told.1 g.told.1);
  }

module _ (ctors : List Ctor) (missing : Missing) (ρ : Values) where
  abbrev Follows : ℕ → List Step → Type 0
  Follows k ss = Obeys ctors missing ρ k ss

  -- the steps of the pattern tell how it fits
  abbrev pub IsTested : Pattern → Type 0
  IsTested p = (k t : ℕ) (v : Value) → ρ t ≡ v → Follows k (fitting p k t).steps → IsFitting ρ (fitting p k t)
      (fit p v)

  abbrev steps_of : List (With IsTested) → List Matching
  steps_of ps = map fitting (elements ps)

  abbrev fits_of : List (With IsTested) → List (Value → Option (List Value))
  fits_of ps = map fit (elements ps)

  -- a field of a value with the constructor
  field_there : (c d : CtorId) (j : ℕ) (all : List Value) (w : Value) → nat_eq c.0 d.0 ≡ true
      → slice_get all j ≡ Some w
      → (u : Value) → out-Value u ≡ layer.Tree d all → ctor_field missing c j u ≡ w
  field_there c d j all w same is u e =
      ap (ctor_field_in (missing.field c j) c j) e ∙ rw (same, is) refl

  fields_fit : (c d : CtorId) (all : List Value) (t : ℕ) → nat_eq c.0 d.0 ≡ true → out-Value (ρ t) ≡ layer.Tree d all
      → (ps : List (With IsTested)) (fs : List Value) (j k : ℕ) → length (steps_of ps) ≡ length fs
      → ((i : ℕ) → slice_get all (j + i) ≡ slice_get fs i)
      → Follows k (fit_fields c j (steps_of ps) k t).steps
      → IsFitting ρ (fit_fields c j (steps_of ps) k t) (run.fit_fields (fits_of ps) fs)
  fields_fit c d all t same e [] [] j k few at h = record { told = (tt, tt) }
  fields_fit c d all t same e [] (f ∷ fs) j k few at h = absurd (let z : 0 ≡ suc (length fs) = few in omega arith)
  fields_fit c d all t same e (p ∷ ps) [] j k few at h =
      absurd (let z : suc (length (steps_of ps)) ≡ 0 = few in omega arith)
  fields_fit c d all t same e (p ∷ ps) (f ∷ fs) j k few at h =
      let x = fitting p.0 (suc k) k in
      let y = fit_fields c (suc j) (steps_of ps) (suc k + length x.steps) t in
      let zero_j : j + 0 ≡ j = omega arith in
      let here_is : slice_get all j ≡ Some f = ap (slice_get all) (sym zero_j) ∙ at 0 in
      let one = p.1 (suc k) k f (h.0 ∙ field_there c d j all f same here_is (ρ t) e)
      (obeys_left ctors missing ρ (suc k) x.steps y.steps h.1) in
      let few_more : length (steps_of ps) ≡ length fs = let z : suc (length (steps_of ps)) ≡ suc
      (length fs) = few in omega arith in
      let rest = fields_fit c d all t same e ps fs (suc j) (suc k + length x.steps) few_more
      (λ i. let n : suc j + i ≡ j + suc i = omega arith in ap (slice_get all) n ∙ at (suc i))
      (obeys_right ctors missing ρ (suc k) x.steps y.steps h.1) in
      both_fit ρ x y _ _ _ one rest

apart : (a b : ℕ) → nat_eq a b ≡ false → a ≡ b → ⊥
apart a b h e = let z : nat_eq a b ≡ true = eq-eqb a b e in absurd (cc)

same_length : {A B C : Type 0} (f : A → B) (g : A → C) (xs : List A) → length (map f xs) ≡ length (map g xs)
same_length f g [] = refl
same_length f g (x ∷ xs) = ap suc (same_length f g xs)

module _ (ctors : List Ctor) (missing : Missing) (ρ : Values) where
  module _ (c : CtorId) (ps : List (With (IsTested ctors missing ρ))) (k t : ℕ) where
    abbrev Inner : Fitting
    Inner = fit_fields c 0 (steps_of ctors missing ρ ps) (suc k) t

    abbrev Whole : Fitting
    Whole = record {
      steps = steps.IsCtor c
          (length (steps_of ctors missing ρ ps)) t ∷ Inner.steps;
      tests = k ∷ Inner.tests;
      bound = Inner.bound;
    }

    whole_fits : (o : Option (List Value)) → On ρ k → IsFitting ρ Inner o → IsFitting ρ Whole o
    whole_fits None on h = record { told = there h.told }
    whole_fits (Some vs) on h = record { told = ((on, h.told.0), h.told.1) }

    by_cases : (d : CtorId) (fields : List Value) → out-Value (ρ t) ≡ layer.Tree d fields
        → Follows ctors missing ρ (suc k) Inner.steps
        → (a b : Bool) → nat_eq c.0 d.0 ≡ a → nat_eq (length (steps_of ctors missing ρ ps)) (length fields) ≡ b
        → bit (ρ k) ≡ (a && b)
        → IsFitting ρ Whole (if a then run.fit_fields (fits_of ctors missing ρ ps) fields else None)
    by_cases d fields e h true true p q on =
        whole_fits (run.fit_fields (fits_of ctors missing ρ ps) fields) on
        (fields_fit ctors missing ρ c d fields t p e ps fields 0 (suc k) (eqb-true _ _ q)
        (λ i. ap (slice_get fields) (zero_plus i)) h)
      where
        zero_plus : (i : ℕ) → 0 + i ≡ i
        zero_plus i = omega arith
    by_cases d fields e h true false p q on =
        subst (IsFitting ρ Whole)
        (sym (uneven _ fields
        (λ z. apart _ _ q (same_length fitting fit (elements ps) ∙ z))))
        (record { told = here on })
    by_cases d fields e h false b p q on = record { told = here on }

    tree_fits : (o : layer.Value-F Value) → out-Value (ρ t) ≡ o → Follows ctors missing ρ (suc k) Inner.steps
        → bit (ρ k) ≡ has_ctor_in c (length (steps_of ctors missing ρ ps)) o → IsFitting ρ Whole
        (fit_tree c (fits_of ctors missing ρ ps) o)
    tree_fits (layer.Int n) e h on = record { told = here on }
    tree_fits (layer.Bool b) e h on = record { told = here on }
    tree_fits (layer.Tree d fields) e h on = by_cases d fields e h _ _ refl refl on

  level : (y : pattern.Pattern-F (With (IsTested ctors missing ρ))) (k t : ℕ) (v : Value) → ρ t ≡ v
      → Follows ctors missing ρ k (fitting_step (map-Pattern Pattern Matching fitting (pattern_under y)) k t).steps
      → IsFitting ρ (fitting_step (map-Pattern Pattern Matching fitting (pattern_under y)) k t)
      (fit_step (map-Pattern Pattern run.Fitting fit (pattern_under y)) v)
  level pattern.Any k t v e h = record { told = (tt, tt) }
  level (pattern.Bind inner) k t v e h = bind_first ρ (fitting inner.0 k t) t v (fit inner.0 v) e (inner.1 k t v e h)
  level (pattern.Int n) k t v e h = int_fits ρ (suc k) _ n (out-Value v)
      (ap bit h.1.0 ∙ bit_truth _ ∙ ap (λ u. equal u (ρ t)) h.0 ∙ ap (equal (Int n)) e ∙ equal_int n v)
  level (pattern.Bool b) k t v e h = truth_fits ρ (suc k) _ b (out-Value v)
      (ap bit h.1.0 ∙ bit_truth _ ∙ ap (λ u. equal u (ρ t)) h.0 ∙ ap (equal (Truth b)) e ∙ equal_truth b v)
  level (pattern.Ctor c ps) k t v e h =
      subst (λ u. IsFitting ρ (Whole c ps k t) (fit_tree c (fits_of ctors missing ρ ps) (out-Value u))) e
      (tree_fits c ps k t (out-Value (ρ t)) refl h.1 (ap bit h.0 ∙ bit_truth _))

  at_level : (y : pattern.Pattern-F (With (IsTested ctors missing ρ)))
      → IsTested ctors missing ρ (roll-Pattern (pattern_under y))
  at_level y =
      let one = fold-roll-Pattern Matching fitting_step (pattern_under y) in
      let two = fold-roll-Pattern run.Fitting fit_step (pattern_under y) in
      subst (λ (f : Matching). (k t : ℕ) (v : Value) → ρ t ≡ v → Follows ctors missing ρ k (f k t).steps
      → IsFitting ρ (f k t) (fit (roll-Pattern (pattern_under y)) v)) (sym one)
      (subst (λ (f : run.Fitting). (k t : ℕ) (v : Value) → ρ t ≡ v → Follows ctors missing ρ k
      (fitting_step (map-Pattern Pattern Matching fitting (pattern_under y)) k t).steps
      → IsFitting ρ (fitting_step (map-Pattern Pattern Matching fitting (pattern_under y)) k t) (f v)) (sym two)
      (level y))

  -- the steps of a pattern tell how it fits
  pub pattern_tested : (p : Pattern) → IsTested ctors missing ρ p
  pattern_tested = each_pattern (IsTested ctors missing ρ) at_level
