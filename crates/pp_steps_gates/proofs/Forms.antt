-- The forms of expressions: their steps take at most twice what their visits cost.
use Rattle.std.proofs.Common.{◌≡◌, ℕ, suc, ◌+◌, ◌≤◌, max, List, [], ◌∷◌, ◌++◌, Option, Some, refl, sym, ap, ◌∙◌, subst}
use Rattle.std.proofs.Common.{arith}
use Rattle.std.proofs.lemmas.Option.{same_Some}
use Rattle.std.proofs.Math.Nat.{le-max_left, le-max_right}
use Rattle.pp_tree.specs.declared.operator.UnaryOp.{UnaryOp}
use Rattle.pp_prog.specs.declared.id.CheckId.{CheckId}
use Rattle.pp_prog.specs.declared.sort.Sort.{Sort}
use Rattle.pp_prog.specs.declared.sort.Sort.TheVariants as sort
use Rattle.pp_prog.specs.declared.types.TypeTable.{TypeTable}
use Rattle.pp_prog.specs.ExprSorts.{Sorting, a_bool, alike, then_sort, unary_sort}
use Rattle.pp_prog.specs.Results.{unary_result}
use Rattle.pp_prog.specs.Sizes.{bits}
use Rattle.pp_prog.proofs.Results.{unary_is}
use Rattle.pp_estimate.specs.declared.shape.Shape.{Shape}
use Rattle.pp_estimate.specs.Visits.{Visiting, choice_extra, node, shape, visit}
use Rattle.pp_estimate_laws.proofs.Growth.{cost_of_both}
use Rattle.pp_estimate_laws.proofs.Numbers.{le_same}
use Rattle.pp_prog.proofs.PartSorts.{alike_are, bool_then, sort_then, unary_part}
use Rattle.pp_steps.specs.declared.step.Step.TheVariants as steps
use Rattle.pp_steps.specs.Compile.{Compiling, branches, one, unless, when}
use Rattle.pp_operators.specs.Gates.{unary_gates}
use Rattle.pp_steps.specs.Gates.{Heights}
use Rattle.pp_steps.specs.Piece.{Piece, after, asks, bind, choice, demand, joined, possible}
use Rattle.pp_steps.specs.Sorted.{Sorts}
use Rattle.pp_steps_gates.proofs.Pieces.{Has, choice_few, demand_few, joined_few, load, made_left, made_one}
use Rattle.pp_steps_gates.proofs.Pieces.{made_other, made_right, one_few, unless_few, when_few}
use Rattle.pp_steps_gates.proofs.Scopes.{Covers, IsOf, cost_of_node, covered, covered_of, has_more}
use Rattle.pp_steps_gates.proofs.Aligned.{aligned_join}

module _ (types : TypeTable) (σ : Sorts) (η : Heights) (old : List Shape) where
  abbrev C : Compiling → Visiting → Sorting → Type 0
  C = Covers types σ η old

  abbrev L : {A : Type 0} → ℕ → Piece A → ℕ
  L = load types σ η

  abbrev H : Sort → ℕ → ℕ → Type 0
  H = Has types σ η

  -- ---- values

  pub val_covers : (a b : Compiling) (v w : Visiting) (t u : Sorting) → C a v t → C b w u
      → C (λ k env reach. bind k (a k env reach) (λ n x alive. b n (env ++ x ∷ []) alive))
      (λ o env. let p = v o env in
      let r = w o (env ++ p.shape ∷ []) in visit r.shape (p.events ++ r.events ++ node 0))
      (λ scope. then_sort (t scope) (λ s. u (scope ++ s ∷ [])))
  val_covers a b v w t u ha hb k env reach shapes scope s are r h m =
      let q = sort_then (t scope) (λ s. u (scope ++ s ∷ [])) s h in
      let x = a k env reach in
      let p = v old shapes in
      let y = b (after k x) (env ++ x.out ∷ []) x.alive in
      let e = w old (shapes ++ p.shape ∷ []) in
      let hx = ha k env reach shapes scope q.0 are r q.1 (made_left types σ η k x y m) in
      let hy = hb (after k x) (env ++ x.out ∷ []) x.alive (shapes ++ p.shape ∷ []) (scope ++ q.0 ∷ []) s
      (aligned_join (IsOf types σ η) env shapes scope (x.out ∷ []) (p.shape ∷ []) (q.0 ∷ []) are
      (covered_of types σ η k x q.0 p hx, tt)) hx.alive q.2 (made_right types σ η k x y m) in
      let few_x = hx.few in
      let few_y = hy.few in
      let one = cost_of_both (p.events ++ e.events) (node 0) in
      let two = cost_of_both p.events e.events in
      let three = cost_of_node 0 in
      covered types σ η k (joined x y) s (visit e.shape (p.events ++ e.events ++ node 0)) (L k x + L (after k x) y)
      hy.shape (joined_few types σ η (H s e.shape.height) k x y (L k x) (L (after k x) y) (le_same (L k x))
      (record { out = hy.out; alive = hy.alive; few = le_same (L (after k x) y) })) (omega arith)

  pub unary_covers : (op : UnaryOp) (a : Compiling) (v : Visiting) (t : Sorting) → C a v t
      → C (λ k env reach. bind k (a k env reach) (λ n x alive. one (steps.Unary op x) n alive))
      (λ o env. visit (shape (unary_result op) 0) ((v o env).events ++ node (unary_gates op)))
      (λ scope. unary_sort op (t scope))
  unary_covers op a v t ha k env reach shapes scope s are r h m =
      let q = unary_part op (t scope) s h in
      let x = a k env reach in
      let p = v old shapes in
      let n = after k x in
      let y = one (steps.Unary op x.out) n x.alive in
      let hx = ha k env reach shapes scope q.0 are r q.1 (made_left types σ η k x y m) in
      let my = made_right types σ η k x y m in
      let is : σ n ≡ s = same_Some (σ n) s
      (sym my.0.0 ∙ ap (λ z. unary_sort op (Some z)) hx.out.sort ∙ ap (unary_sort op) (sym q.1) ∙ h) in
      let low : η n ≤ 0 = subst (λ z. z ≤ 0) (sym my.0.1) (le_same 0) in
      let few = hx.few in
      let cost_is = cost_of_both p.events (node (unary_gates op)) in
      let node_is = cost_of_node (unary_gates op) in
      covered types σ η k (joined x y) s (visit (shape (unary_result op) 0) (p.events ++ node (unary_gates op)))
      (L k x + unary_gates op) (unary_is op (t scope) s h)
      (joined_few types σ η (H s 0) k x y (L k x) (unary_gates op) (le_same (L k x))
      (one_few types σ η (H s 0) (steps.Unary op x.out) n x.alive (record { sort = is; height = low }) hx.alive))
      (omega arith)

  pub assert_covers : (asked check : Option CheckId) (a b : Compiling) (v w : Visiting) (t u : Sorting) → C a v t
      → C b w u
      → C (λ k env reach. bind k (a k env reach)
      (λ n x alive. bind n (demand (asks asked check) n alive x) (λ i _ going. b i env going)))
      (λ o env. visit (w o env).shape ((v o env).events ++ (w o env).events ++ node 0))
      (λ scope. a_bool (t scope) (u scope))
  assert_covers asked check a b v w t u ha hb k env reach shapes scope s are r h m =
      let q = bool_then (t scope) (u scope) s h in
      let x = a k env reach in
      let p = v old shapes in
      let e = w old shapes in
      let n = after k x in
      let d = demand (asks asked check) n x.alive x.out in
      let y = b (after n d) env d.alive in
      let hx = ha k env reach shapes scope sort.Bool are r q.0 (made_left types σ η k x (joined d y) m) in
      let md = made_right types σ η k x (joined d y) m in
      let hd = demand_few types σ η (asks asked check) n x.alive x.out (made_left types σ η n d y md) in
      let hy = hb (after n d) env d.alive shapes scope s are hd.alive q.1 (made_right types σ η n d y md) in
      let few_x = hx.few in
      let few_y = hy.few in
      let one = cost_of_both (p.events ++ e.events) (node 0) in
      let two = cost_of_both p.events e.events in
      let three = cost_of_node 0 in
      covered types σ η k (joined x (joined d y)) s (visit e.shape (p.events ++ e.events ++ node 0))
      (L k x + (3 + L (after n d) y)) hy.shape
      (joined_few types σ η (H s e.shape.height) k x (joined d y) (L k x) (3 + L (after n d) y) (le_same (L k x))
      (joined_few types σ η (H s e.shape.height) n d y 3 (L (after n d) y) hd.few
      (record { out = hy.out; alive = hy.alive; few = le_same (L (after n d) y) }))) (omega arith)

  -- ---- conditions

  pub if_covers : (c a b : Compiling) (vc va vb : Visiting) (tc ta tb : Sorting) → C c vc tc → C a va ta → C b vb tb
      → C (λ k env reach. bind k (c k env reach)
      (λ n x alive. bind n (when n alive x)
      (λ i taken _. bind i (unless i alive x) (λ l missed _. branches a b l env taken missed))))
      (λ o env. let h = max (va o env).shape.height (vb o env).shape.height in
      visit (shape (va o env).shape.sort h)
      ((vc o env).events ++ (va o env).events ++ (vb o env).events ++ node
      (choice_extra types (va o env).shape.sort h)))
      (λ scope. a_bool (tc scope) (alike (ta scope) (tb scope)))
  if_covers c a b vc va vb tc ta tb hc ha hb k env reach shapes scope s are r h m =
      let q = bool_then (tc scope) (alike (ta scope) (tb scope)) s h in
      let both = alike_are (ta scope) (tb scope) s q.1 in
      let x = c k env reach in
      let n = after k x in
      let w = when n x.alive x.out in
      let i = after n w in
      let u = unless i x.alive x.out in
      let l = after i u in
      let y = a l env n in
      let j = after l y in
      let z = b j env (suc i) in
      let f = choice (after j z) n y (possible z) in
      let mw = made_right types σ η k x (joined w (joined u f)) m in
      let mu = made_right types σ η n w (joined u f) mw in
      let mf = made_right types σ η i u f mu in
      let hx = hc k env reach shapes scope sort.Bool are r q.0 (made_left types σ η k x (joined w (joined u f)) m) in
      let hw = when_few types σ η n x.alive x.out (made_left types σ η n w (joined u f) mw) in
      let hu = unless_few types σ η i x.alive x.out (made_left types σ η i u f mu) in
      let hy = ha l env n shapes scope s are hw.out both.0 (made_one types σ η l (after j z) n y (possible z) mf) in
      let hz = hb j env (suc i) shapes scope s are hu.out both.1
      (made_other types σ η l (after j z) n y (possible z) mf) in
      let p = va old shapes in
      let e = vb old shapes in
      let g = max p.shape.height e.shape.height in
      let hf = choice_few types σ η s g l n y (possible z) (after j z) refl
      (has_more types σ η s p.shape.height g y.out hy.out (le-max_left p.shape.height e.shape.height)) hy.alive
      (has_more types σ η s e.shape.height g z.out hz.out (le-max_right p.shape.height e.shape.height)) mf in
      let few_x = hx.few in
      let few_y = hy.few in
      let few_z = hz.few in
      let o = vc old shapes in
      let extra = choice_extra types p.shape.sort g in
      let same : bits types g p.shape.sort ≡ bits types g s = ap (bits types g) hy.shape in
      let one = cost_of_both (o.events ++ p.events ++ e.events) (node extra) in
      let two = cost_of_both (o.events ++ p.events) e.events in
      let three = cost_of_both o.events p.events in
      let four = cost_of_node extra in
      covered types σ η k (joined x (joined w (joined u f))) s
      (visit (shape p.shape.sort g) (o.events ++ p.events ++ e.events ++ node extra))
      (L k x + (1 + (1 + (L l y + (L j (possible z) + (33 + bits types g s)))))) hy.shape
      (joined_few types σ η (H s g) k x (joined w (joined u f)) (L k x) _ (le_same (L k x))
      (joined_few types σ η (H s g) n w (joined u f) 1 _ hw.few
      (joined_few types σ η (H s g) i u f 1 _ hu.few hf))) (omega arith)
