-- Patterns: their steps and tests weigh at most what their events are worth.
use Rattle.std.proofs.Common.{◌≡◌, ℕ, suc, ◌+◌, ◌*◌, ◌≤◌, List, [], ◌∷◌, ◌++◌, map, length, Option, Some, None, refl}
use Rattle.std.proofs.Common.{sym, ap, ◌∙◌, subst, arith, length-append}
use Rattle.std.proofs.lemmas.Option.{same_Some}
use Rattle.std.proofs.Math.Nat.{add-zero, zero-add}
use Rattle.std.specs.Prelude.{slice_get}
use Rattle.pp_list.proofs.With.{With, elements}
use Rattle.pp_list.specs.Joined.{joined}
use Rattle.pp_prog.specs.declared.expr.Pattern.{Pattern}
use Rattle.pp_prog.specs.declared.expr.Pattern.TheOpen as pattern
use Rattle.pp_prog.specs.declared.id.CtorId.{CtorId}
use Rattle.pp_prog.specs.declared.sort.Sort.{Sort}
use Rattle.pp_prog.specs.declared.types.Ctor.{Ctor}
use Rattle.pp_prog.specs.declared.types.TypeTable.{TypeTable}
use Rattle.pp_prog.specs.PatternSorts as sorts
use Rattle.pp_prog.specs.PatternSorts.{bind_fields, bound_sorts, then_bind}
use Rattle.pp_prog.specs.Results.{fields_of_ctor, tree_result}
use Rattle.pp_prog.specs.Sizes.{by_sort}
use Rattle.pp_sound.proofs.Binding.{bind_then, none_binds, tree_binds}
use Rattle.pp_estimate.specs.declared.shape.Shape.{Shape}
use Rattle.pp_estimate.specs.Events.{Event}
use Rattle.pp_estimate.specs.Visits.{Binding, bind_each, bound, look_at, node, part, pattern_events}
use Rattle.pp_steps.proofs.Counting.{add_suc}
use Rattle.pp_steps.specs.declared.step.OpenCall.{OpenCall}
use Rattle.pp_steps.specs.Patterns.{Fitting, Matching, fit_fields, fitting}
use Rattle.pp_steps.specs.Sorted.{AllSorted, Distinguishes, Selects, Sorts}
use Rattle.pp_steps_gates.proofs.PatternLevels.{PatternCovers, PatternLevelCovers, pattern_by_levels}
use Rattle.pp_steps_gates.proofs.Aligned.{aligned_join}
use Rattle.pp_guess_gates.proofs.Operators.{equal_low}
use Rattle.pp_guess_gates.proofs.Pieces.{sorted_first, sorted_rest, weight, weight_of_both}
use Rattle.pp_guess_gates.proofs.Prices.{Prices, look_price, worth, worth_of_both, worth_of_look}
use Rattle.pp_guess_gates.proofs.Scopes.{Are, IsOf}

module _ (types : TypeTable) (σ : Sorts) (ψ : Prices) (left : OpenCall → ℕ) where
  -- The steps of a pattern begin at number k: what they bind is of these shapes and sorts, and its steps and tests
  -- weigh at most what the events are worth, and `less` less.
  pub record IsMatched (less k : ℕ) (f : Fitting) (hs : List Shape) (ss : List Sort) (es : List Event) : Type 0 where
    pub bound : Are σ f.bound hs ss
    pub few : weight types σ ψ left k f.steps + 2 * length f.tests + less ≤ worth ψ es

  abbrev Matches : Matching → Binding → List Event → sorts.Binding → Type 0
  Matches f b es g =
      (k t : ℕ) (h : Shape) (s : Sort) (l : List Sort) → IsOf σ t h s → g s ≡ Some l
      → AllSorted types σ k (f k t).steps → IsMatched 16 k (f k t) (b h) l es

  fields_match : (c : CtorId) (k : Ctor) → slice_get types.ctors c.0 ≡ Some k
      → (ps : List (With (PatternCovers types Matches))) (j : ℕ) (ss : List Sort)
      → ((i : ℕ) → slice_get k.fields (j + i) ≡ slice_get ss i) → (n t : ℕ) (h : Shape) (l : List Sort)
      → bind_fields (map (bound_sorts types.ctors) (elements ps)) ss ≡ Some l
      → AllSorted types σ n (fit_fields c j (map fitting (elements ps)) n t).steps
      → IsMatched 0 n (fit_fields c j (map fitting (elements ps)) n t)
      (bind_each h (map (bound types.ctors) (elements ps)) ss) l
      (joined (map (pattern_events types.ctors) (elements ps)))
  fields_match c k is [] j [] at n t h l e m =
      let same : [] ≡ l = same_Some [] l e in
      record { bound = subst (λ z. Are σ [] [] z) same tt; few = omega arith }
  fields_match c k is [] j (s ∷ ss) at n t h l e m = let no : None ≡ Some l = e in cc
  fields_match c k is (p ∷ ps) j [] at n t h l e m = let no : None ≡ Some l = e in cc
  fields_match c k is (p ∷ ps) j (s ∷ ss) at n t h l e m =
      let inner = map (bound_sorts types.ctors) (elements ps) in
      let here = bind_then (bound_sorts types.ctors p.0 s)
      (λ a. then_bind (bind_fields inner ss) (λ more. Some (a ++ more))) l e in
      let rest = bind_then (bind_fields inner ss) (λ more. Some (here.0 ++ more)) l here.2 in
      let x = fitting p.0 (suc n) n in
      let i = suc n + length x.steps in
      let y = fit_fields c (suc j) (map fitting (elements ps)) i t in
      let made : Selects types σ c j t (σ n) = m.0 in
      let same : made.ctor ≡ k = same_Some made.ctor k (sym made.stands ∙ is) in
      let found : slice_get k.fields j ≡ Some (σ n) =
      subst (λ (z : Ctor). slice_get z.fields j ≡ Some (σ n)) same made.field in
      let sort_is : σ n ≡ s = same_Some (σ n) s (sym found ∙ ap (slice_get k.fields) (sym (add-zero j)) ∙ at 0) in
      let w = part h s in
      let hx = p.1 (suc n) n w s here.0 (record { has = sort_is; shape = refl }) here.1
      (sorted_first types σ (suc n) x.steps y.steps m.1) in
      let hy = fields_match c k is ps (suc j) ss (λ a. ap (slice_get k.fields) (sym (add_suc j a)) ∙ at (suc a))
      i t h rest.0 rest.1 (sorted_rest types σ (suc n) x.steps y.steps m.1) in
      let few_x = hx.few in
      let few_y = hy.few in
      let gates_are = weight_of_both types σ ψ left (suc n) x.steps y.steps in
      let tests_are = length-append x.tests y.tests in
      let rest_events = joined (map (pattern_events types.ctors) (elements ps)) in
      let cost_is = worth_of_both ψ (pattern_events types.ctors p.0) rest_events in
      record {
        bound = subst (λ z. Are σ (x.bound ++ y.bound)
            (bound types.ctors p.0 w ++ bind_each h (map (bound types.ctors) (elements ps)) ss) z)
            (same_Some (here.0 ++ rest.0) l rest.2)
            (aligned_join (IsOf σ) x.bound (bound types.ctors p.0 w) here.0 y.bound _ rest.0 hx.bound hy.bound);
        few = omega arith;
      }

  pattern_level : (y : pattern.Pattern-F (With (PatternCovers types Matches))) → PatternLevelCovers types Matches y
  pattern_level pattern.Any k t h s l of e m =
      let same : [] ≡ l = same_Some [] l e in
      record { bound = subst (λ z. Are σ [] [] z) same tt; few = omega arith }
  pattern_level (pattern.Bind inner) k t h s l of e m =
      let q = bind_then (bound_sorts types.ctors inner.0 s) (λ more. Some (s ∷ more)) l e in
      let x = fitting inner.0 k t in
      let hx = inner.1 k t h s q.0 of q.1 m in
      let few = hx.few in
      let cost_is = worth_of_both ψ (node 0) (pattern_events types.ctors inner.0) in
      record {
        bound = subst (λ z. Are σ (t ∷ x.bound) (h ∷ bound types.ctors inner.0 h) z)
            (same_Some (s ∷ q.0) l q.2) (of, hx.bound);
        few = omega arith;
      }
  pattern_level (pattern.Int n) k t h s l of e m =
      let same = (none_binds _ l e).1 in
      let low = equal_low (σ k) in
      record { bound = subst (λ z. Are σ [] [] z) same tt; few = omega arith }
  pattern_level (pattern.Bool b) k t h s l of e m =
      let same = (none_binds _ l e).1 in
      let low = equal_low (σ k) in
      record { bound = subst (λ z. Are σ [] [] z) same tt; few = omega arith }
  pattern_level (pattern.Ctor c ps) k t h s l of e m =
      let q = tree_binds (slice_get types.ctors c.0) (map (bound_sorts types.ctors) (elements ps)) s l e in
      let x = fit_fields c 0 (map fitting (elements ps)) (suc k) t in
      let hx = fields_match c q.0 q.1 ps 0 q.0.fields (λ i. ap (slice_get q.0.fields) (zero-add i)) (suc k) t h l q.3
      m.1 in
      let few = hx.few in
      let events = joined (map (pattern_events types.ctors) (elements ps)) in
      let r = tree_result (slice_get types.ctors c.0) in
      let one_is = worth_of_both ψ (node 0 ++ look_at r) events in
      let two_is = worth_of_both ψ (node 0) (look_at r) in
      let made : Distinguishes types σ c _ t = m.0.0 in
      let look : by_sort 0 0 (look_price ψ) (σ t) ≡ by_sort 0 0 (look_price ψ) r =
      ap (by_sort 0 0 (look_price ψ)) (made.operand ∙ sym (ap tree_result made.stands)) in
      let three = worth_of_look ψ r in
      record {
        bound = subst (λ (z : Option Ctor). Are σ x.bound
            (bind_each h (map (bound types.ctors) (elements ps)) (fields_of_ctor z)) l) (sym q.1) hx.bound;
        few = omega arith;
      }

  pub pattern_matches : (p : Pattern) → PatternCovers types Matches p
  pattern_matches = pattern_by_levels types Matches pattern_level
