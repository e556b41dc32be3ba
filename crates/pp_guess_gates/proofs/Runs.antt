-- The run's own frame: its steps weigh less than its arguments and what its visit is worth.
use Rattle.std.proofs.Common.{◌≡◌, ℕ, suc, ◌+◌, ◌*◌, ◌≤◌, true, false, List, [], ◌∷◌, ◌++◌, map, length}
use Rattle.std.proofs.Common.{Option, Some, None, refl, sym, ap, ◌∙◌, arith}
use Rattle.std.specs.Prelude.{slice_get}
use Rattle.std.proofs.lemmas.List.Sums.{sum-map, sum_by-cons}
use Rattle.pp_prog.specs.declared.expr.Expr.{Expr}
use Rattle.pp_prog.specs.declared.expr.Function.{Function}
use Rattle.pp_prog.specs.declared.id.CheckId.{CheckId}
use Rattle.pp_prog.specs.declared.program.Program.{Program}
use Rattle.pp_prog.specs.declared.sort.Sort.{Sort}
use Rattle.pp_prog.specs.declared.sort.Sort.TheVariants as sort
use Rattle.pp_prog.specs.ExprSorts.{is_sorted_post, is_sorted_pre, sort_of}
use Rattle.pp_prog.specs.Sizes.{bits}
use Rattle.pp_prog.specs.Sorts.{param_sorts}
use Rattle.pp_prog.proofs.PartSorts.{has_the_sort_is}
use Rattle.pp_estimate.specs.declared.shape.Shape.{Shape}
use Rattle.pp_estimate.specs.Estimates.{inputs, own_frame, shapes_to}
use Rattle.pp_estimate.specs.Frames.{components, frame, own_calls, post_events, pre_events}
use Rattle.pp_estimate.specs.Visits.{Calls, all_events, shape_of, visit_of}
use Rattle.pp_sound.proofs.Calls.{IsWhole, whole}
use Rattle.pp_steps.specs.declared.step.OpenCall.{OpenCall}
use Rattle.pp_steps.specs.declared.step.Step.TheVariants as steps
use Rattle.pp_steps.specs.Compile.{Site, compile, one}
use Rattle.pp_steps.specs.Frames.{allowing, any_of, finishing, measuring, numbers, open_step, running}
use Rattle.pp_steps.specs.Guesses.{guessing}
use Rattle.pp_steps.specs.Piece.{Piece, after, asks, joined}
use Rattle.pp_steps.specs.Sorted.{AllSorted, Sorts}
use Rattle.pp_guess_steps.proofs.OwnFrame.{base}
use Rattle.pp_guess_steps.proofs.OwnFrame as own
use Rattle.pp_steps_gates.proofs.Aligned.{aligned_join}
use Rattle.pp_steps_gates.proofs.Pieces.{Any, IsBit}
use Rattle.pp_guess_gates.proofs.Calls.{own_answers}
use Rattle.pp_guess_gates.proofs.Demanded.{demand_covered, measuring_light}
use Rattle.pp_guess_gates.proofs.Exprs.{expr_covers}
use Rattle.pp_guess_gates.proofs.Lists.{Answers}
use Rattle.pp_guess_gates.proofs.Pieces.{IsLight, bit_choice, load, load_of_both, plain_light, sorted_left}
use Rattle.pp_guess_gates.proofs.Pieces.{sorted_first, sorted_rest, sorted_right, weight, weight_of_both, width_low}
use Rattle.pp_guess_gates.proofs.Prices.{Prices, worth, worth_of_both}
use Rattle.pp_guess_gates.proofs.Reserves.{left_in}
use Rattle.pp_guess_gates.proofs.Scopes.{Are, IsOf, covered_of}

module _ (p : Program) (σ : Sorts) (ψ : Prices) (left : OpenCall → ℕ) where
  -- whether one of the numbers is true weighs at most a choice for each
  any_few : (ks : List ℕ) (k alive : ℕ) → AllSorted p.types σ k (any_of ks k alive).steps
      → weight p.types σ ψ left k (any_of ks k alive).steps ≤ 2 * length ks + 1
  any_few [] k alive m = omega arith
  any_few (x ∷ []) k alive m = omega arith
  any_few (x ∷ y ∷ ks) k alive m =
      let z = any_of (y ∷ ks) k alive in
      let c = one (steps.Choose x x z.out) (after k z) alive in
      let mc = sorted_right p.types σ k z c m in
      let bit : IsBit σ (after k z) = sym mc.0.1 ∙ mc.0.0 in
      let one_is = bit_choice p.types σ ψ left (after k z) x x z.out bit in
      let few = any_few (y ∷ ks) k alive (sorted_left p.types σ k z c m) in
      let sum_is = weight_of_both p.types σ ψ left k z.steps c.steps in
      omega arith

  -- the arguments
  opens_few : (ss : List Sort) (k : ℕ)
      → weight p.types σ ψ left k (map open_step ss) ≤ inputs p.types 1 ss
  opens_few [] k = omega arith
  opens_few (s ∷ ss) k =
      let rest = opens_few ss (suc k) in
      let low = width_low s in
      let one = λ (t : Sort). 4 * (32 + bits p.types 1 t) in
      let first : inputs p.types 1 (s ∷ ss) ≡ 4 * (32 + bits p.types 1 s) + inputs p.types 1 ss =
      sum-map one (s ∷ ss) ∙ sum_by-cons one s ss ∙ ap (λ n. one s + n) (sym (sum-map one ss)) in
      omega arith

  abbrev L : {A : Type 0} → ℕ → Piece A → ℕ
  L = load p.types σ ψ left

  abbrev A : List Shape → Site → Calls → Type 0
  A old site calls = Answers p.types σ ψ left old p.functions site calls

  allowing_light : (asked : Option CheckId) (site : Site) (calls : Calls) → A [] site calls → (o : Option Expr)
      (k : ℕ) (args : List ℕ) (reach : ℕ) (hs : List Shape) (scope : List Sort) → Are σ args hs scope
      → IsBit σ reach → is_sorted_pre p.types p.functions o scope ≡ true
      → AllSorted p.types σ k (allowing asked site o k args reach).steps
      → IsLight p.types σ ψ left Any k (allowing asked site o k args reach) (worth ψ (pre_events p.types calls o hs))
  allowing_light asked site calls its None k args reach hs scope are r is m =
      plain_light p.types σ ψ left Any k reach reach tt r
  allowing_light asked site calls its (Some pre) k args reach hs scope are r is m =
      let h = demand_covered p σ ψ left asked site calls [] its false pre k args reach hs scope are r
      (has_the_sort_is p.types p.functions sort.Bool (sort_of p.types p.functions pre scope) is) m in
      record { out = tt; alive = h.alive; few = h.few }

  finishing_light : (asked : Option CheckId) (site : Site) (calls : Calls) (old : List Shape) → A old site calls
      → (o : Option (CheckId × Expr)) (k : ℕ) (args : List ℕ) (v reach : ℕ) (hs : List Shape) (h : Shape)
      (scope : List Sort) → Are σ (args ++ v ∷ []) (hs ++ h ∷ []) scope
      → IsBit σ reach → is_sorted_post p.types p.functions o scope ≡ true
      → AllSorted p.types σ k (finishing asked site o k (args ++ v ∷ []) reach).steps
      → IsLight p.types σ ψ left Any k (finishing asked site o k (args ++ v ∷ []) reach)
      (worth ψ (post_events p.types calls o old hs h))
  finishing_light asked site calls old its None k args v reach hs h scope are r is m =
      plain_light p.types σ ψ left Any k reach reach tt r
  finishing_light asked site calls old its (Some post) k args v reach hs h scope are r is m =
      let g = demand_covered p σ ψ left asked site calls old its (asks asked (Some post.0)) post.1 k
      (args ++ v ∷ []) reach (hs ++ h ∷ []) scope are r
      (has_the_sort_is p.types p.functions sort.Bool (sort_of p.types p.functions post.1 scope) is) m in
      record { out = tt; alive = g.alive; few = g.few }

module _ (p : Program) (σ : Sorts) (ψ : Prices) (n r : ℕ) where
  abbrev leaves : OpenCall → ℕ
  leaves = left_in p ψ n r

  running_light : (asked : Option CheckId) (i : ℕ) (f : Function) → IsWhole p i f → (k : ℕ) (args : List ℕ)
      (reach : ℕ) (hs : List Shape) → Are σ args hs (param_sorts f.params) → IsBit σ reach
      → AllSorted p.types σ k (running (guessing p.functions asked) asked f k args reach).steps
      → load p.types σ ψ leaves k (running (guessing p.functions asked) asked f k args reach) + 64
      ≤ worth ψ (frame p.types (own_calls p.types p.functions n) f hs).events
  running_light asked i f w k args reach hs are bit m =
      let sites = guessing p.functions asked in
      let calls = own_calls p.types p.functions n in
      let x = allowing asked (sites None) f.pre k args reach in
      let i = after k x in
      let y = measuring asked (sites None) f.measure i args x.alive in
      let j = after i y in
      let b = compile asked (sites y.out) f.body j args y.alive in
      let l = after j b in
      let z = finishing asked (sites y.out) f.post l (args ++ b.out ∷ []) b.alive in
      let my = sorted_right p.types σ k x (joined y (joined b z)) m in
      let mb = sorted_right p.types σ i y (joined b z) my in
      let vs = components p.types calls f.measure hs in
      let ns = map shape_of vs in
      let v = visit_of p.types calls f.body ns hs in
      let first = own_answers p σ ψ r asked None [] n tt in
      let hx = allowing_light p σ ψ leaves asked (sites None) calls first f.pre k args reach hs (param_sorts f.params)
      are bit w.pre_sorted (sorted_left p.types σ k x (joined y (joined b z)) m) in
      let hy = measuring_light p σ ψ leaves asked (sites None) calls first f.measure i args x.alive hs
      (param_sorts f.params) are hx.alive w.measure_sorted (sorted_left p.types σ i y (joined b z) my) in
      let its = own_answers p σ ψ r asked y.out ns n hy.out in
      let hb = expr_covers p σ ψ leaves ns asked (sites y.out) calls its f.body j args y.alive hs
      (param_sorts f.params) f.result are hy.alive w.body_sorted (sorted_left p.types σ j b z mb) in
      let hz = finishing_light p σ ψ leaves asked (sites y.out) calls ns its f.post l args b.out b.alive hs v.shape
      (param_sorts f.params ++ f.result ∷ [])
      (aligned_join (IsOf σ) args hs (param_sorts f.params) (b.out ∷ []) (v.shape ∷ []) (f.result ∷ []) are
      (covered_of p.types σ ψ leaves j b f.result v hb, tt)) hb.alive w.post_sorted
      (sorted_right p.types σ j b z mb) in
      let few_x = hx.few in
      let few_y = hy.few in
      let few_b = hb.few in
      let few_z = hz.few in
      let sum_1 = load_of_both p.types σ ψ leaves k x (joined y (joined b z)) in
      let sum_2 = load_of_both p.types σ ψ leaves i y (joined b z) in
      let sum_3 = load_of_both p.types σ ψ leaves j b z in
      let pres = pre_events p.types calls f.pre hs in
      let posts = post_events p.types calls f.post ns hs v.shape in
      let worth_1 = worth_of_both ψ (pres ++ all_events vs ++ v.events) posts in
      let worth_2 = worth_of_both ψ (pres ++ all_events vs) v.events in
      let worth_3 = worth_of_both ψ pres (all_events vs) in
      omega arith

  arguments_are : (ss : List Sort) (k : ℕ) → map σ (numbers k ss) ≡ ss
      → Are σ (numbers k ss) (shapes_to 1 ss) ss
  arguments_are [] k e = tt
  arguments_are (s ∷ ss) k e =
      let both : σ k ∷ map σ (numbers (suc k) ss) ≡ s ∷ ss = e in
      let here : σ k ≡ s = cc in
      let rest : map σ (numbers (suc k) ss) ≡ ss = cc in
      (record { has = here; shape = refl }, arguments_are ss (suc k) rest)

  -- the steps of the own frame of round n
  pub base_light : (i : ℕ) (f : Function) → slice_get p.functions i ≡ Some f → (check : CheckId)
      → map σ (numbers 0 (param_sorts f.params)) ≡ param_sorts f.params
      → AllSorted p.types σ 0 (base p.functions f check).steps
      → weight p.types σ ψ leaves 0 (base p.functions f check).steps + 1
      ≤ 2 * inputs p.types 1 (param_sorts f.params) + worth ψ (own_frame p.types p.functions f n 1).events
  base_light i f is check args m =
      let ss = param_sorts f.params in
      let opens = map open_step ss in
      let a = own.A p.functions f check in
      let k = own.n p.functions f check in
      let x = own.R p.functions f check in
      let e = own.F p.functions f check in
      let first = sorted_first p.types σ 0 a.steps (x.steps ++ e.steps) m in
      let rest = sorted_rest p.types σ 0 a.steps (x.steps ++ e.steps) m in
      let true_one = sorted_rest p.types σ 0 opens (steps.Bool true ∷ []) first in
      let run = running_light (Some check) i f (whole p i f is) k a.out a.alive (shapes_to 1 ss)
      (arguments_are ss 0 args) true_one.0 (sorted_first p.types σ k x.steps e.steps rest) in
      let any = any_few p σ ψ leaves x.fails (after k x) a.alive (sorted_rest p.types σ k x.steps e.steps rest) in
      let few = opens_few p σ ψ leaves ss 0 in
      let sum_1 = weight_of_both p.types σ ψ leaves 0 a.steps (x.steps ++ e.steps) in
      let sum_2 = weight_of_both p.types σ ψ leaves k x.steps e.steps in
      let sum_3 = weight_of_both p.types σ ψ leaves 0 opens (steps.Bool true ∷ []) in
      omega arith
