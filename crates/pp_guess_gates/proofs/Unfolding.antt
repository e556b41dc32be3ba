-- A call that is unfolded: its steps weigh at most what was left for it.
use Rattle.std.proofs.Common.{◌≡◌, ℕ, suc, ◌+◌, ◌-◌, ◌≤◌, true, false, List, [], ◌∷◌, ◌++◌, map, Option, Some, None}
use Rattle.std.proofs.Common.{refl, ap, ◌∙◌, subst, arith}
use Rattle.std.specs.Prelude.{slice_get}
use Rattle.pp_tree.specs.declared.operator.BinaryOp.TheVariants.{Equal}
use Rattle.pp_prog.specs.declared.expr.Expr.{Expr}
use Rattle.pp_prog.specs.declared.expr.Function.{Function}
use Rattle.pp_prog.specs.declared.id.CheckId.{CheckId}
use Rattle.pp_prog.specs.declared.program.Program.{Program}
use Rattle.pp_prog.specs.declared.sort.Sort.{Sort}
use Rattle.pp_prog.specs.declared.sort.Sort.TheVariants as sort
use Rattle.pp_prog.specs.ExprSorts.{is_sorted_post, sort_of}
use Rattle.pp_prog.specs.Sorts.{param_sorts}
use Rattle.pp_prog.proofs.PartSorts.{has_the_sort_is}
use Rattle.pp_estimate.specs.declared.shape.Shape.{Shape}
use Rattle.pp_estimate.specs.Estimates.{shapes_to}
use Rattle.pp_estimate.specs.Frames.{inner_calls, post_events}
use Rattle.pp_estimate.specs.Visits.{Calls}
use Rattle.pp_sound.proofs.Calls.{whole}
use Rattle.pp_steps.specs.declared.step.OpenCall.{OpenCall}
use Rattle.pp_steps.specs.declared.step.Step.TheVariants as steps
use Rattle.pp_steps.specs.Compile.{Site, compile}
use Rattle.pp_steps.specs.Frames.{result_of}
use Rattle.pp_steps.specs.Guesses.{Standing, asking, holding, implying, params_of, unfolded_call, unfolded_of}
use Rattle.pp_steps.specs.Piece.{Piece, after, demand, joined, plain}
use Rattle.pp_steps.specs.Sorted.{AllSorted, Sorts}
use Rattle.pp_steps_gates.proofs.Aligned.{aligned_join}
use Rattle.pp_steps_gates.proofs.Pieces.{IsBit}
use Rattle.pp_guess_gates.proofs.Calls.{A, asking_answers}
use Rattle.pp_guess_steps.proofs.Sorting.{IsCallSorted}
use Rattle.pp_guess_gates.proofs.Demanded.{demand_covered}
use Rattle.pp_guess_gates.proofs.Exprs.{expr_covers}
use Rattle.pp_guess_gates.proofs.Operators.{equal_low}
use Rattle.pp_guess_gates.proofs.Pieces.{IsLight, demand_light, load, load_of_both, plain_light, sorted_left}
use Rattle.pp_guess_gates.proofs.Pieces.{sorted_right}
use Rattle.pp_guess_gates.proofs.Prices.{Prices, worth}
use Rattle.pp_guess_gates.proofs.Reserves.{body_visit, body_worth, left_in, measure_shapes, reserve, worth_left}
use Rattle.pp_guess_gates.proofs.Scopes.{Are, IsOf}

-- numbers of these sorts, with the shapes of arguments without height
pub are_flat : (σ : Sorts) (ns : List ℕ) (ss : List Sort) → map σ ns ≡ ss → Are σ ns (shapes_to 0 ss) ss
are_flat σ [] [] e = tt
are_flat σ [] (s ∷ ss) e = let no : [] ≡ s ∷ ss = e in cc
are_flat σ (n ∷ ns) [] e = let no : σ n ∷ map σ ns ≡ [] = e in cc
are_flat σ (n ∷ ns) (s ∷ ss) e =
    let both : σ n ∷ map σ ns ≡ s ∷ ss = e in
    let here : σ n ≡ s = cc in
    let rest : map σ ns ≡ ss = cc in (record { has = here; shape = refl }, are_flat σ ns ss rest)

module _ (p : Program) (σ : Sorts) (ψ : Prices) (n r : ℕ) where
  abbrev left : OpenCall → ℕ
  left = left_in p ψ n r

  abbrev L : {A : Type 0} → ℕ → Piece A → ℕ
  L = load p.types σ ψ left

  holding_light : (site : Site) (calls : Calls) (old : List Shape) → A p σ ψ n r old site calls
      → (o : Option (CheckId × Expr)) (k : ℕ) (values : List ℕ) (reach : ℕ) (args : List Shape) (h : Shape)
      (scope : List Sort) → Are σ values (args ++ h ∷ []) scope → IsBit σ reach
      → is_sorted_post p.types p.functions o scope ≡ true
      → AllSorted p.types σ k (holding site o k values reach).steps
      → IsLight p.types σ ψ left (IsBit σ) k (holding site o k values reach)
      (worth ψ (post_events p.types calls o old args h))
  holding_light site calls old its None k values reach args h scope are bit is m =
      plain_light p.types σ ψ left (IsBit σ) k reach reach bit bit
  holding_light site calls old its (Some post) k values reach args h scope are bit is m =
      demand_covered p σ ψ left None site calls old its false post.1 k values reach (args ++ h ∷ []) scope are bit
      (has_the_sort_is p.types p.functions sort.Bool (sort_of p.types p.functions post.1 scope) is) m

  -- a call that waits for `wait` rounds, of a function that stands
  module _ (wait m : ℕ) (fuel : n - wait ≡ suc m) (c : Standing) (waits : c.call.wait ≡ wait) (s : IsCallSorted p σ c)
      (f : Function) (is : slice_get p.functions c.call.callee.0 ≡ Some f) where
    abbrev calls : Calls
    calls = inner_calls p.types p.functions m

    abbrev site : Site
    site = asking p.functions (suc c.call.wait)

    its : (old : List Shape) → A p σ ψ n r old site calls
    its old =
        let e : n - suc c.call.wait ≡ m = omega arith in
        subst (λ i. A p σ ψ n r old site (inner_calls p.types p.functions i)) e
        (asking_answers p σ ψ n r old (suc c.call.wait))

    function_unfolds : (k : ℕ) → AllSorted p.types σ k (unfolded_of p.functions (Some f) k c).steps
        → L k (unfolded_of p.functions (Some f) k c) ≤ 9 + body_worth p ψ calls f (shapes_to 0 (param_sorts f.params))
    function_unfolds k sorted =
        let w = whole p c.call.callee.0 f is in
        let hs = shapes_to 0 (param_sorts f.params) in
        let ns = measure_shapes p ψ calls f hs in
        let args = are_flat σ c.call.args (param_sorts f.params)
        (s.args ∙ s.labels.params ∙ ap params_of is) in
        let done : Piece ℕ = plain (steps.Both c.call.reach c.has ∷ []) k k in
        let i = after k done in
        let x = compile None site f.body i c.call.args k in
        let j = after i x in
        let same : Piece ℕ = plain (steps.Binary Equal x.out c.result ∷ []) j x.alive in
        let l = after j same in
        let d = demand false l x.alive j in
        let t = after l d in
        let z = holding site f.post t (c.call.args ++ c.result ∷ []) d.alive in
        let u = after t z in
        let e = implying u k z.alive in
        let m1 = sorted_right p.types σ k done (joined x (joined same (joined d (joined z e)))) sorted in
        let m2 = sorted_right p.types σ i x (joined same (joined d (joined z e))) m1 in
        let m3 = sorted_right p.types σ j same (joined d (joined z e)) m2 in
        let m4 = sorted_right p.types σ l d (joined z e) m3 in
        let v = body_visit p ψ calls f hs in
        let hx = expr_covers p σ ψ left ns None site calls (its ns) f.body i c.call.args k hs (param_sorts f.params)
        f.result args sorted.0.2 w.body_sorted
        (sorted_left p.types σ i x (joined same (joined d (joined z e))) m1) in
        let hd = demand_light p.types σ ψ left false l x.alive j (sorted_left p.types σ l d (joined z e) m3) in
        let result : σ c.result ≡ f.result = s.result ∙ s.labels.result ∙ ap result_of is in
        let hz = holding_light site calls ns (its ns) f.post t (c.call.args ++ c.result ∷ []) d.alive hs v.shape
        (param_sorts f.params ++ f.result ∷ [])
        (aligned_join (IsOf σ) c.call.args hs (param_sorts f.params) (c.result ∷ []) (v.shape ∷ []) (f.result ∷ []) args
        (record { has = result; shape = hx.shape }, tt)) hd.alive w.post_sorted
        (sorted_left p.types σ t z e m4) in
        let low = equal_low (σ x.out) in
        let few_x = hx.few in
        let few_z = hz.few in
        let sum_1 = load_of_both p.types σ ψ left k done (joined x (joined same (joined d (joined z e)))) in
        let sum_2 = load_of_both p.types σ ψ left i x (joined same (joined d (joined z e))) in
        let sum_3 = load_of_both p.types σ ψ left j same (joined d (joined z e)) in
        let sum_4 = load_of_both p.types σ ψ left l d (joined z e) in
        let sum_5 = load_of_both p.types σ ψ left t z e in
        omega arith

  option_unfolds : (wait m : ℕ) → n - wait ≡ suc m → (c : Standing) → c.call.wait ≡ wait → IsCallSorted p σ c
      → (o : Option Function) → slice_get p.functions c.call.callee.0 ≡ o → (k : ℕ)
      → AllSorted p.types σ k (unfolded_of p.functions o k c).steps
      → L k (unfolded_of p.functions o k c) ≤ 9 + worth_left p ψ (inner_calls p.types p.functions m) o
  option_unfolds wait m fuel c waits s None is k sorted = omega arith
  option_unfolds wait m fuel c waits s (Some f) is k sorted = function_unfolds wait m fuel c waits s f is k sorted

  -- the steps of a call that waits for fewer rounds than there are weigh less than what was left for it
  pub call_unfolds : (wait m : ℕ) → n - wait ≡ suc m → (c : Standing) → c.call.wait ≡ wait → IsCallSorted p σ c
      → (k : ℕ) → AllSorted p.types σ k (unfolded_call p.functions k c).steps
      → L k (unfolded_call p.functions k c) + 1 ≤ reserve p ψ (n - wait) c.call.callee
  call_unfolds wait m fuel c waits s k sorted =
      let few = option_unfolds wait m fuel c waits s (slice_get p.functions c.call.callee.0) refl k sorted in
      let at = ap (λ i. reserve p ψ i c.call.callee) fuel in
      omega arith
