-- Runs: the steps of a run take less than twice what its frame costs.
use Rattle.std.proofs.Common.{◌≡◌, ℕ, ◌+◌, ◌*◌, ◌≤◌, max, true, false, List, [], ◌∷◌, ◌++◌, map, length, Option, Some}
use Rattle.std.proofs.Common.{None, sym, ◌∙◌, arith}
use Rattle.pp_prog.specs.declared.expr.Expr.{Expr}
use Rattle.pp_prog.specs.declared.expr.Function.{Function}
use Rattle.pp_prog.specs.declared.id.CheckId.{CheckId}
use Rattle.pp_prog.specs.declared.program.Program.{Program}
use Rattle.pp_prog.specs.declared.sort.Sort.{Sort}
use Rattle.pp_prog.specs.declared.sort.Sort.TheVariants as sort
use Rattle.pp_prog.specs.ExprSorts.{is_sorted_post, is_sorted_pre, sort_of}
use Rattle.pp_prog.specs.Sorts.{param_sorts}
use Rattle.pp_estimate.specs.declared.shape.Shape.{Shape}
use Rattle.pp_estimate.specs.Cut.{top}
use Rattle.pp_estimate.specs.Events.{cost}
use Rattle.pp_estimate.specs.Frames.{components, frame, own_calls, post_events, pre_events}
use Rattle.pp_estimate.specs.Visits.{Calls, all_events, shape_of, visit_of}
use Rattle.pp_estimate_laws.proofs.Growth.{cost_of_both}
use Rattle.pp_sound.proofs.Calls.{IsWhole}
use Rattle.pp_prog.proofs.PartSorts.{has_the_sort_is}
use Rattle.pp_steps.specs.declared.step.Step.TheVariants as steps
use Rattle.pp_steps.specs.Compile.{Site, compile, one}
use Rattle.pp_steps.specs.Frames.{allowing, any_of, finishing, inlined, measuring, running}
use Rattle.pp_steps.specs.Gates.{Heights}
use Rattle.pp_steps.specs.Piece.{Piece, after, asks, joined}
use Rattle.pp_steps.specs.Sorted.{Sorts}
use Rattle.pp_steps_gates.proofs.Calls.{demand_covered, measuring_few, own_answers}
use Rattle.pp_steps_gates.proofs.Exprs.{expr_covers}
use Rattle.pp_steps_gates.proofs.Lists.{Answers}
use Rattle.pp_steps_gates.proofs.Pieces.{Any}
use Rattle.pp_steps_gates.proofs.Pieces.{IsBit, IsFew, IsMade, bit_choice, gates, gates_of_both, load, load_of_both}
use Rattle.pp_steps_gates.proofs.Pieces.{made_left, made_right, plain_few}
use Rattle.pp_steps_gates.proofs.Scopes.{Are, IsOf, covered_of}
use Rattle.pp_steps_gates.proofs.Aligned.{aligned_join}

module _ (p : Program) (σ : Sorts) (η : Heights) where
  -- whether one of the numbers is true takes at most a choice for each
  pub any_few : (ks : List ℕ) (k alive : ℕ) → IsMade p.types σ η k (any_of ks k alive).steps
      → gates p.types σ η k (any_of ks k alive).steps ≤ length ks
  any_few [] k alive m = omega arith
  any_few (x ∷ []) k alive m = omega arith
  any_few (x ∷ y ∷ ks) k alive m =
      let z = any_of (y ∷ ks) k alive in
      let c = one (steps.Choose x x z.out) (after k z) alive in
      let mc = made_right p.types σ η k z c m in
      let bit : IsBit σ (after k z) = sym mc.0.0.1 ∙ mc.0.0.0 in
      let one_is = bit_choice p.types σ η (σ (after k z)) (max (η x) (η z.out)) bit in
      let few = any_few (y ∷ ks) k alive (made_left p.types σ η k z c m) in
      let sum_is = gates_of_both p.types σ η k z.steps c.steps in
      omega arith

module _ (p : Program) (σ : Sorts) (η : Heights) (low : (i : ℕ) → η i ≤ top)
    (flat : (i : ℕ) → σ i ≡ sort.Bool → η i ≡ 0) where
  abbrev L : {A : Type 0} → ℕ → Piece A → ℕ
  L = load p.types σ η

  abbrev A : List Shape → Site → Calls → Type 0
  A old site calls = Answers p.types σ η old p.functions site calls

  allowing_few : (asked : Option CheckId) (site : Site) (calls : Calls) → A [] site calls → (o : Option Expr)
      (k : ℕ) (args : List ℕ) (reach : ℕ) (hs : List Shape) (scope : List Sort) → Are p.types σ η args hs scope
      → IsBit σ reach → is_sorted_pre p.types p.functions o scope ≡ true
      → IsMade p.types σ η k (allowing asked site o k args reach).steps
      → IsFew p.types σ η Any k (allowing asked site o k args reach) (2 * cost (pre_events p.types calls o hs))
  allowing_few asked site calls its None k args reach hs scope are r is m =
      plain_few p.types σ η Any k reach reach tt r
  allowing_few asked site calls its (Some pre) k args reach hs scope are r is m =
      let h = demand_covered p σ η low flat asked site calls [] its false pre k args reach hs scope are r
      (has_the_sort_is p.types p.functions sort.Bool (sort_of p.types p.functions pre scope) is) m in
      record { out = tt; alive = h.alive; few = h.few }

  finishing_few : (asked : Option CheckId) (site : Site) (calls : Calls) (old : List Shape) → A old site calls
      → (o : Option (CheckId × Expr)) (k : ℕ) (args : List ℕ) (v reach : ℕ) (hs : List Shape) (h : Shape)
      (scope : List Sort) → Are p.types σ η (args ++ v ∷ []) (hs ++ h ∷ []) scope
      → IsBit σ reach → is_sorted_post p.types p.functions o scope ≡ true
      → IsMade p.types σ η k (finishing asked site o k (args ++ v ∷ []) reach).steps
      → IsFew p.types σ η Any k (finishing asked site o k (args ++ v ∷ []) reach)
      (2 * cost (post_events p.types calls o old hs h))
  finishing_few asked site calls old its None k args v reach hs h scope are r is m =
      plain_few p.types σ η Any k reach reach tt r
  finishing_few asked site calls old its (Some post) k args v reach hs h scope are r is m =
      let g = demand_covered p σ η low flat asked site calls old its (asks asked (Some post.0)) post.1 k
      (args ++ v ∷ []) reach (hs ++ h ∷ []) scope are r
      (has_the_sort_is p.types p.functions sort.Bool (sort_of p.types p.functions post.1 scope) is) m in
      record { out = tt; alive = g.alive; few = g.few }

  pub running_few : (asked : Option CheckId) (fuel i : ℕ) (f : Function) → IsWhole p i f → (k : ℕ) (args : List ℕ)
      (reach : ℕ) (hs : List Shape) → Are p.types σ η args hs (param_sorts f.params) → IsBit σ reach
      → IsMade p.types σ η k (running (inlined p.functions fuel asked) asked f k args reach).steps
      → L k (running (inlined p.functions fuel asked) asked f k args reach) + 64
      ≤ 2 * cost (frame p.types (own_calls p.types p.functions fuel) f hs).events
  running_few asked fuel i f w k args reach hs are r m =
      let sites = inlined p.functions fuel asked in
      let calls = own_calls p.types p.functions fuel in
      let its = own_answers p σ η low flat fuel asked in
      let x = allowing asked (sites None) f.pre k args reach in
      let n = after k x in
      let y = measuring asked (sites None) f.measure n args x.alive in
      let j = after n y in
      let b = compile asked (sites y.out) f.body j args y.alive in
      let l = after j b in
      let z = finishing asked (sites y.out) f.post l (args ++ b.out ∷ []) b.alive in
      let my = made_right p.types σ η k x (joined y (joined b z)) m in
      let mb = made_right p.types σ η n y (joined b z) my in
      let vs = components p.types calls f.measure hs in
      let ns = map shape_of vs in
      let v = visit_of p.types calls f.body ns hs in
      let hx = allowing_few asked (sites None) calls (its None [] tt) f.pre k args reach hs (param_sorts f.params) are r
      w.pre_sorted (made_left p.types σ η k x (joined y (joined b z)) m) in
      let hy = measuring_few p σ η low flat asked (sites None) calls (its None [] tt) f.measure n args x.alive hs
      (param_sorts f.params) are hx.alive w.measure_sorted (made_left p.types σ η n y (joined b z) my) in
      let hb = expr_covers p σ η low flat ns asked (sites y.out) calls (its y.out ns hy.out) f.body j args y.alive hs
      (param_sorts f.params) f.result are hy.alive w.body_sorted (made_left p.types σ η j b z mb) in
      let hz = finishing_few asked (sites y.out) calls ns (its y.out ns hy.out) f.post l args b.out b.alive hs v.shape
      (param_sorts f.params ++ f.result ∷ [])
      (aligned_join (IsOf p.types σ η) args hs (param_sorts f.params) (b.out ∷ []) (v.shape ∷ []) (f.result ∷ []) are
      (covered_of p.types σ η j b f.result v hb, tt)) hb.alive w.post_sorted (made_right p.types σ η j b z mb) in
      let few_x = hx.few in
      let few_y = hy.few in
      let few_b = hb.few in
      let few_z = hz.few in
      let sum_1 = load_of_both p.types σ η k x (joined y (joined b z)) in
      let sum_2 = load_of_both p.types σ η n y (joined b z) in
      let sum_3 = load_of_both p.types σ η j b z in
      let pres = pre_events p.types calls f.pre hs in
      let posts = post_events p.types calls f.post ns hs v.shape in
      let cost_1 = cost_of_both (pres ++ all_events vs ++ v.events) posts in
      let cost_2 = cost_of_both (pres ++ all_events vs) v.events in
      let cost_3 = cost_of_both pres (all_events vs) in
      omega arith
