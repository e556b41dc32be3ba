-- Closed predicates that ask nothing of expressions are true of the steps of moves.
use Rattle.std.proofs.Common.{ℕ, suc, ◌+◌, false, List, [], ◌∷◌, ◌++◌, Option, Some, None, slice_get}
use Rattle.pp_tree.specs.declared.operator.BinaryOp.TheVariants.{Equal}
use Rattle.pp_prog.specs.declared.expr.Expr.{Expr}
use Rattle.pp_prog.specs.declared.expr.Function.{Function}
use Rattle.pp_prog.specs.declared.expr.Pattern.{Pattern}
use Rattle.pp_prog.specs.declared.id.CheckId.{CheckId}
use Rattle.pp_prog.specs.declared.id.FunctionId.{FunctionId}
use Rattle.pp_steps.specs.declared.step.Step.{Step}
use Rattle.pp_steps.specs.declared.step.Step.TheVariants as steps
use Rattle.pp_steps.specs.Compile.{compile}
use Rattle.pp_steps.specs.Guesses.{GuessSteps, Standing, asking, holding}
use Rattle.pp_steps.specs.Patterns.{fitting}
use Rattle.pp_steps.specs.Piece.{after, demand}
use Rattle.pp_guess_steps.proofs.ClosedAlways.{Always, IsSimple, any_function, base_closed}
use Rattle.pp_guess_steps.proofs.ClosedExprs.{demand_closed, expr_closed, more}
use Rattle.pp_guess_steps.proofs.ClosedRounds.{holding_closed, implying_closed}
use Rattle.pp_demand_steps.specs.Moves.{Body, Move, Post, all_moved, bodied_of, demanded, move_steps, moved, posted_of}

module _ (P : List Step → Type 0) (join : (xs ys : List Step) → P xs → P ys → P (xs ++ ys)) (none : P [])
    (simple : (s : Step) → IsSimple s → P (s ∷ [])) (pats : (p : Pattern) (k t : ℕ) → P (fitting p k t).steps)
    (functions : List Function)
    (left_open : (w k reach : ℕ) (g : FunctionId) (pre down : Option CheckId) (args : List ℕ)
    → P (asking functions w k reach g pre down args).steps) where
  -- a call without a function, and the bit of one that is reached and has an answer
  nowhere_closed : (k : ℕ) (c : Standing) → P (steps.Both c.call.reach c.has ∷ steps.Not k ∷ [])
  nowhere_closed k c =
      more Always P join none simple (steps.Both c.call.reach c.has) _ tt (simple (steps.Not k) tt)

  body_closed : (w : ℕ) (e : Expr) (k : ℕ) (env : List ℕ) (reach : ℕ)
      → P (compile None (asking functions w) e k env reach).steps
  body_closed w e =
      expr_closed Always P join none simple pats None (asking functions w)
      (λ k reach g pre down args met. left_open w k reach g pre down args) e tt

  bodied_closed : (o : Option Function) (k : ℕ) (c : Standing) → P (bodied_of functions o k c).steps
  bodied_closed None k c = nowhere_closed k c
  bodied_closed (Some f) k c =
      let x = compile None (asking functions (suc c.call.wait)) f.body (k + 1) c.call.args k in
      let m = after (k + 1) x in
      let d = demand false (m + 1) x.alive m in
      join (steps.Both c.call.reach c.has ∷ []) _ (simple (steps.Both c.call.reach c.has) tt)
      (join x.steps _ (body_closed (suc c.call.wait) f.body (k + 1) c.call.args k)
      (join (steps.Binary Equal x.out c.result ∷ []) _ (simple (steps.Binary Equal x.out c.result) tt)
      (join d.steps _ (demand_closed Always P join none simple pats false (m + 1) x.alive m)
      (implying_closed Always P join none simple (after (m + 1) d) k d.alive))))

  posted_closed : (o : Option Function) (k : ℕ) (c : Standing) → P (posted_of functions o k c).steps
  posted_closed None k c = nowhere_closed k c
  posted_closed (Some f) k c =
      let w = suc c.call.wait in
      let z = holding (asking functions w) f.post (k + 1) (c.call.args ++ c.result ∷ []) k in
      join (steps.Both c.call.reach c.has ∷ []) _ (simple (steps.Both c.call.reach c.has) tt)
      (join z.steps _
      (holding_closed Always P join none simple pats functions (λ g h met is. any_function h) (λ i. Unit {0})
      (λ i fit j reach g pre down args met. left_open i j reach g pre down args) w tt f.post (any_function f).post
      (k + 1) (c.call.args ++ c.result ∷ []) k)
      (implying_closed Always P join none simple (after (k + 1) z) k z.alive))

  pub move_closed : (k : ℕ) (m : Move) → P (move_steps functions k m).steps
  move_closed k (Body c) = bodied_closed (slice_get functions c.call.callee.0) k c
  move_closed k (Post c) = posted_closed (slice_get functions c.call.callee.0) k c

  -- the steps that stand, and those of the moves behind them
  moves_closed : (ms : List Move) (g : GuessSteps) → P g.steps → P (all_moved functions g ms).steps
  moves_closed [] g h = h
  moves_closed (m ∷ ms) g h = moves_closed ms (moved functions g m) (join g.steps _ h (move_closed _ m))

  pub demanded_closed : (f : Function) (c : CheckId) (ms : List Move) → P (demanded functions f c ms).steps
  demanded_closed f c ms =
      moves_closed ms _
      (base_closed P join none simple pats functions (λ i. Unit {0})
      (λ i fit j reach g pre down args. left_open i j reach g pre down args) tt tt f c)
