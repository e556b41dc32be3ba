-- Patterns: their steps and tests take at most twice what their events cost.
use Rattle.std.proofs.Common.{◌≡◌, ℕ, suc, ◌+◌, ◌*◌, ◌-◌, ◌≤◌, min, List, [], ◌∷◌, ◌++◌, map, length, Option, Some}
use Rattle.std.proofs.Common.{None, refl, sym, ap, ◌∙◌, subst, arith, length-append}
use Rattle.std.proofs.lemmas.Option.{same_Some}
use Rattle.std.proofs.Math.Nat.{add-zero, zero-add}
use Rattle.std.specs.Prelude.{slice_get}
use Rattle.pp_list.proofs.With.{With, elements}
use Rattle.pp_list.specs.Joined.{joined}
use Rattle.pp_prog.specs.declared.expr.Pattern.{Pattern}
use Rattle.pp_prog.specs.declared.expr.Pattern.TheOpen as pattern
use Rattle.pp_prog.specs.declared.id.CtorId.{CtorId}
use Rattle.pp_prog.specs.declared.sort.Sort.{Sort}
use Rattle.pp_prog.specs.declared.sort.Sort.TheVariants as sort
use Rattle.pp_prog.specs.declared.types.Ctor.{Ctor}
use Rattle.pp_prog.specs.declared.types.TypeTable.{TypeTable}
use Rattle.pp_prog.specs.PatternSorts as sorts
use Rattle.pp_prog.specs.PatternSorts.{bind_fields, bound_sorts, then_bind}
use Rattle.pp_prog.specs.Results.{fields_of_ctor, tree_result}
use Rattle.pp_prog.specs.Sizes.{height_at}
use Rattle.pp_sound.proofs.Binding.{bind_then, none_binds, tree_binds}
use Rattle.pp_estimate.specs.declared.shape.Shape.{Shape}
use Rattle.pp_estimate.specs.Events.{Event, cost}
use Rattle.pp_estimate.specs.Visits.{Binding, bind_each, bound, look_at, node, part, pattern_events}
use Rattle.pp_estimate_laws.proofs.Growth.{cost_of_both}
use Rattle.pp_estimate_laws.proofs.Sizes.{height_grows}
use Rattle.pp_steps.proofs.Counting.{add_suc}
use Rattle.pp_steps.specs.Gates.{Heights, equality_gates}
use Rattle.pp_steps.specs.Patterns.{Fitting, Matching, fit_fields, fitting}
use Rattle.pp_steps.specs.Sorted.{Selects, Sorts}
use Rattle.pp_steps_gates.proofs.Pieces.{IsMade, gates, gates_of_both, made_first, made_rest}
use Rattle.pp_steps_gates.proofs.Scopes.{Are, IsOf}
use Rattle.pp_steps_gates.proofs.PatternLevels.{PatternCovers, PatternLevelCovers, pattern_by_levels}
use Rattle.pp_steps_gates.proofs.Aligned.{aligned_join}

module _ (types : TypeTable) (σ : Sorts) (η : Heights) where
  -- The steps of a pattern begin at number k: what they bind is of these shapes and sorts, and its steps and tests take
  -- at most twice what the events cost.
  pub record IsMatched (k : ℕ) (f : Fitting) (hs : List Shape) (ss : List Sort) (es : List Event) : Type 0 where
    pub bound : Are types σ η f.bound hs ss
    pub few : gates types σ η k f.steps + length f.tests ≤ 2 * cost es

  abbrev Matches : Matching → Binding → List Event → sorts.Binding → Type 0
  Matches f b es g =
      (k t : ℕ) (h : Shape) (s : Sort) (l : List Sort) → IsOf types σ η t h s → g s ≡ Some l
      → IsMade types σ η k (f k t).steps → IsMatched k (f k t) (b h) l es

  fields_match : (c : CtorId) (k : Ctor) → slice_get types.ctors c.0 ≡ Some k
      → (ps : List (With (PatternCovers types Matches))) (j : ℕ) (ss : List Sort)
      → ((i : ℕ) → slice_get k.fields (j + i) ≡ slice_get ss i) → (n t : ℕ) (h : Shape) → η t ≤ h.height
      → (l : List Sort) → bind_fields (map (bound_sorts types.ctors) (elements ps)) ss ≡ Some l
      → IsMade types σ η n (fit_fields c j (map fitting (elements ps)) n t).steps
      → IsMatched n (fit_fields c j (map fitting (elements ps)) n t)
      (bind_each h (map (bound types.ctors) (elements ps)) ss) l
      (joined (map (pattern_events types.ctors) (elements ps)))
  fields_match c k is [] j [] at n t h low l e m =
      let same : [] ≡ l = same_Some [] l e in
      record { bound = subst (λ z. Are types σ η [] [] z) same tt; few = omega arith }
  fields_match c k is [] j (s ∷ ss) at n t h low l e m = let no : None ≡ Some l = e in cc
  fields_match c k is (p ∷ ps) j [] at n t h low l e m = let no : None ≡ Some l = e in cc
  fields_match c k is (p ∷ ps) j (s ∷ ss) at n t h low l e m =
      let inner = map (bound_sorts types.ctors) (elements ps) in
      let here = bind_then (bound_sorts types.ctors p.0 s)
      (λ a. then_bind (bind_fields inner ss) (λ more. Some (a ++ more))) l e in
      let rest = bind_then (bind_fields inner ss) (λ more. Some (here.0 ++ more)) l here.2 in
      let x = fitting p.0 (suc n) n in
      let i = suc n + length x.steps in
      let y = fit_fields c (suc j) (map fitting (elements ps)) i t in
      let made : Selects types σ c j t (σ n) = m.0.0 in
      let same : made.ctor ≡ k = same_Some made.ctor k (sym made.stands ∙ is) in
      let found : slice_get k.fields j ≡ Some (σ n) =
      subst (λ (z : Ctor). slice_get z.fields j ≡ Some (σ n)) same made.field in
      let sort_is : σ n ≡ s = same_Some (σ n) s (sym found ∙ ap (slice_get k.fields) (sym (add-zero j)) ∙ at 0) in
      let height_is : η n ≡ height_at (η t - 1) (σ n) = m.0.1 in
      let less : η t - 1 ≤ h.height - 1 = omega arith in
      let up : η n ≤ height_at (h.height - 1) s =
      subst (λ z. η n ≤ height_at (h.height - 1) z) sort_is
      (subst (λ z. z ≤ height_at (h.height - 1) (σ n)) (sym height_is)
      (height_grows (η t - 1) (h.height - 1) (σ n) less)) in
      let w = part h s in
      let hx = p.1 (suc n) n w s here.0 (record { has = record { sort = sort_is; height = up }; shape = refl }) here.1
      (made_first types σ η (suc n) x.steps y.steps m.1) in
      let hy = fields_match c k is ps (suc j) ss (λ a. ap (slice_get k.fields) (sym (add_suc j a)) ∙ at (suc a))
      i t h low rest.0 rest.1 (made_rest types σ η (suc n) x.steps y.steps m.1) in
      let few_x = hx.few in
      let few_y = hy.few in
      let gates_are = gates_of_both types σ η (suc n) x.steps y.steps in
      let tests_are = length-append x.tests y.tests in
      let rest_events = joined (map (pattern_events types.ctors) (elements ps)) in
      let cost_is = cost_of_both (pattern_events types.ctors p.0) rest_events in
      record {
        bound = subst (λ z. Are types σ η (x.bound ++ y.bound)
            (bound types.ctors p.0 w ++ bind_each h (map (bound types.ctors) (elements ps)) ss) z)
            (same_Some (here.0 ++ rest.0) l rest.2)
            (aligned_join (IsOf types σ η) x.bound (bound types.ctors p.0 w) here.0 y.bound _ rest.0 hx.bound hy.bound);
        few = omega arith;
      }

  pattern_level : (y : pattern.Pattern-F (With (PatternCovers types Matches))) → PatternLevelCovers types Matches y
  pattern_level pattern.Any k t h s l of e m =
      let same : [] ≡ l = same_Some [] l e in
      record { bound = subst (λ z. Are types σ η [] [] z) same tt; few = omega arith }
  pattern_level (pattern.Bind inner) k t h s l of e m =
      let q = bind_then (bound_sorts types.ctors inner.0 s) (λ more. Some (s ∷ more)) l e in
      let x = fitting inner.0 k t in
      let hx = inner.1 k t h s q.0 of q.1 m in
      let few = hx.few in
      let cost_is = cost_of_both (node 0) (pattern_events types.ctors inner.0) in
      record {
        bound = subst (λ z. Are types σ η (t ∷ x.bound) (h ∷ bound types.ctors inner.0 h) z)
            (same_Some (s ∷ q.0) l q.2) (of, hx.bound);
        few = omega arith;
      }
  pattern_level (pattern.Int n) k t h s l of e m =
      let same = (none_binds _ l e).1 in
      let int : σ k ≡ sort.Int = m.0.0.0 in
      let gates_are = ap (equality_gates types (min (η k) (η t))) int in
      record { bound = subst (λ z. Are types σ η [] [] z) same tt; few = omega arith }
  pattern_level (pattern.Bool b) k t h s l of e m =
      let same = (none_binds _ l e).1 in
      let bit : σ k ≡ sort.Bool = m.0.0 in
      let gates_are = ap (equality_gates types (min (η k) (η t))) bit in
      record { bound = subst (λ z. Are types σ η [] [] z) same tt; few = omega arith }
  pattern_level (pattern.Ctor c ps) k t h s l of e m =
      let q = tree_binds (slice_get types.ctors c.0) (map (bound_sorts types.ctors) (elements ps)) s l e in
      let x = fit_fields c 0 (map fitting (elements ps)) (suc k) t in
      let hx = fields_match c q.0 q.1 ps 0 q.0.fields (λ i. ap (slice_get q.0.fields) (zero-add i)) (suc k) t h
      of.has.height l q.3 m.1 in
      let few = hx.few in
      let events = joined (map (pattern_events types.ctors) (elements ps)) in
      let r = tree_result (slice_get types.ctors c.0) in
      let one_is = cost_of_both (node 0 ++ look_at r) events in
      let two_is = cost_of_both (node 0) (look_at r) in
      record {
        bound = subst (λ (z : Option Ctor). Are types σ η x.bound
            (bind_each h (map (bound types.ctors) (elements ps)) (fields_of_ctor z)) l) (sym q.1) hx.bound;
        few = omega arith;
      }

  pub pattern_matches : (p : Pattern) → PatternCovers types Matches p
  pattern_matches = pattern_by_levels types Matches pattern_level
