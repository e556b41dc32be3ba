-- What is left to do comes to: each thing that is left is what it makes of the state, and of what comes after it.
-- Source: continuations as in denotational semantics; own.
use Rattle.std.specs.Prelude.{ℕ, ◌-◌, true, false, List, [], ◌∷◌, ◌++◌, Option, Some, Ok, Err, length, map, drop}
use Rattle.pp_tree.specs.declared.operator.BinaryOp.{BinaryOp}
use Rattle.pp_tree.specs.declared.operator.BinaryOp.TheVariants.{AndAlso, OrElse}
use Rattle.pp_prog.specs.declared.expr.Case.{Case}
use Rattle.pp_prog.specs.declared.expr.Expr.{Expr}
use Rattle.pp_prog.specs.declared.expr.Expr.TheOpen as layer
use Rattle.pp_prog.specs.declared.expr.Expr.TheViews.{out-Expr}
use Rattle.pp_prog.specs.declared.id.CheckId.{CheckId}
use Rattle.pp_prog.specs.declared.id.FunctionId.{FunctionId}
use Rattle.pp_prog.specs.declared.value.Value.{Value}
use Rattle.pp_prog.specs.declared.value.Value.TheVariants.{Bool as Truth}
use Rattle.pp_eval.specs.declared.outcome.Stop.TheVariants.{Fails}
use Rattle.pp_eval.specs.Invocation.{calls_to, descends, enters, framed}
use Rattle.pp_eval.specs.Meaning.{CallMeaning, all, arm, first_case, meaning}
use Rattle.pp_eval.specs.Part.{Part, either, failed, inside}
use Rattle.pp_stack.specs.declared.todo.Code.{Code}
use Rattle.pp_stack.specs.declared.todo.Here.{Here}
use Rattle.pp_stack.specs.declared.todo.Site.{Site}
use Rattle.pp_stack.specs.declared.todo.Todo.{Todo}
use Rattle.pp_stack.specs.declared.todo.Todo.TheVariants as todo
use Rattle.pp_stack.specs.See.{seen}
use Rattle.pp_stack.specs.State.{State, applied, at_frame, bound_one, compared, constructed, cut_at, forgotten}
use Rattle.pp_stack.specs.State.{frame_in, inner, last, left_for, operated_on, popped, pushed, scope, selected, tested}
use Rattle.pp_stack.specs.State.{with_measure, without}

-- what is left comes to, in a state
abbrev pub Rest : Type 0
Rest = State → Part State

-- a part in a frame: its value goes on, and a stop is told as it is seen from the run's own frame
abbrev pub go_on : {A : Type 0} → Here → Part A → (A → Part State) → Part State
go_on here (Ok a) go = go a
go_on here (Err stop) go = Err (seen here.called stop)

-- a move of the values, and then the rest
abbrev pub moved : (State → Part State) → Rest → Rest
moved move k s = go_on s.here (move s) k

-- so many values go out of scope, and then the rest
abbrev pub forget : ℕ → Rest → Rest
forget n k s = k (forgotten n s)

-- back in this frame the rest
abbrev pub back : Here → Rest → Rest
back here k s = k (at_frame here s)

-- a body ends, and the rest is its caller's
abbrev pub leave : Here → Rest → Rest
leave here k s = k (left_for here s)

module _ (code : Code) where
  -- what calls do that may be nested so deep
  abbrev pub calls : ℕ → CallMeaning
  calls = calls_to code.ctors.now code.functions.now

  -- the value of an expression in a state
  abbrev pub value_in : Expr → State → Part Value
  value_in e s = meaning (calls s.here.fuel) e (frame_in s) (scope s)

  -- the expression's value is put on top
  abbrev pub evaluate : Expr → Rest → Rest
  evaluate e k s = go_on s.here (value_in e s) (λ v. k (pushed s v))

  -- the expressions' values are
  abbrev pub evaluate_all : List Expr → Rest → Rest
  evaluate_all es k s =
      go_on s.here (all (map (meaning (calls s.here.fuel)) es) (frame_in s) (scope s))
      (λ vs. k (record s { temps = s.temps ++ vs }))

  abbrev pub and_also : Expr → Rest → Rest
  and_also b k s = go_on s.here (tested s) (λ p. either p.0 (evaluate b k p.1) (k (pushed p.1 (Truth false))))

  abbrev pub or_else : Expr → Rest → Rest
  or_else b k s = go_on s.here (tested s) (λ p. either p.0 (k (pushed p.1 (Truth true))) (evaluate b k p.1))

  abbrev pub branch : Expr → Expr → Rest → Rest
  branch a b k s = go_on s.here (tested s) (λ p. either p.0 (evaluate a k p.1) (evaluate b k p.1))

  abbrev pub asserted : CheckId → Expr → Rest → Rest
  asserted check rest k s =
      go_on s.here (tested s) (λ p. either p.0 (evaluate rest k p.1) (Err (seen s.here.called (Fails check))))

  abbrev pub let_in : Expr → Rest → Rest
  let_in rest k s = go_on s.here (bound_one s) (evaluate rest (forget 1 k))

  -- the first case that is taken for the value
  abbrev pub chosen : List Case → Option CheckId → Rest → Value → Rest
  chosen cases check k v s =
      go_on s.here (first_case (map (arm (calls s.here.fuel)) cases) check v (frame_in s) (scope s))
      (λ w. k (pushed s w))

  -- the first case that is taken for the value on top
  abbrev pub choose : List Case → Option CheckId → Rest → Rest
  choose cases check k s = go_on s.here (popped s) (λ p. chosen cases check k p.0 p.1)

  -- the body, where the guard is true, or else the other cases; so many values were bound
  abbrev pub decided : Expr → List Case → Option CheckId → ℕ → Rest → Rest
  decided body cases check count k s =
      go_on s.here (tested s) (λ p. either p.0
      (go_on s.here (popped p.1) (λ q. evaluate body (forget count k) q.1))
      (choose cases check k (forgotten count p.1)))

  -- the call's result is put on top
  abbrev pub call : FunctionId → Option CheckId → Option CheckId → ℕ → Rest → Rest
  call g pre measure first k s =
      go_on s.here (calls s.here.fuel (frame_in s) g pre measure (drop first s.temps))
      (λ v. k (pushed (cut_at first s) v))

  -- the call's result is put on top, whose arguments are the last of the environment, which they leave
  abbrev pub with_args : Site → (CallMeaning → List Value → Part Value) → Rest → Rest
  with_args site part k s =
      go_on s.here (part (calls (s.here.fuel - 1)) (last site.count s.env))
      (λ v. k (pushed (record s { env = without site.count s.env }) v))

  -- the body of the call, in a frame with so many measure values
  abbrev pub in_body : Site → Option ℕ → Rest → Rest
  in_body site measured k s = evaluate site.function.now.body (leave s.here k) (at_frame (inner s.here site measured) s)

  -- the measure list and the body
  abbrev pub begin : Site → Rest → Rest
  begin site k s =
      with_args site (λ deeper args. framed deeper (inside site.callee)
      (descends code.ctors.now site.measure (frame_in s)) (λ new part. inside site.callee part) site.function.now args)
      k s

  -- the precondition, the measure list and the body
  abbrev pub enter : Site → Rest → Rest
  enter site k s =
      with_args site (λ deeper args. enters deeper code.ctors.now (Some site.function.now) (frame_in s) site.callee
      site.pre site.measure args) k s

  abbrev pub admit : Site → Rest → Rest
  admit site k s = go_on s.here (tested s) (λ p. either p.0 (begin site k p.1) (go_on s.here (failed site.pre) k))

  abbrev pub descend : Site → ℕ → Rest → Rest
  descend site first k s =
      go_on s.here (compared code.ctors.now site.measure first s)
      (λ _. in_body site (Some (length (drop first s.temps))) k (with_measure first s))

  abbrev pub plan_binary : BinaryOp → Expr → Expr → Option CheckId → Rest → Rest
  plan_binary AndAlso a b check k = evaluate a (and_also b k)
  plan_binary OrElse a b check k = evaluate a (or_else b k)
  plan_binary op a b check k = evaluate a (evaluate b (moved (operated_on op check) k))

  abbrev pub plan_layer : Expr → ℕ → Rest → layer.Expr-F Expr Case → Rest
  plan_layer e first k (layer.Unary op a) = evaluate a (moved (applied op) k)
  plan_layer e first k (layer.Binary op a b check) = plan_binary op a b check k
  plan_layer e first k (layer.Construct c args) = evaluate_all args (moved (λ s. Ok (constructed c first s)) k)
  plan_layer e first k (layer.Field a i) = evaluate a (moved (selected i) k)
  plan_layer e first k (layer.If c a b) = evaluate c (branch a b k)
  plan_layer e first k (layer.Match a cases check) = evaluate a (choose cases check k)
  plan_layer e first k (layer.Val a rest) = evaluate a (let_in rest k)
  plan_layer e first k (layer.Assert check c rest) = evaluate c (asserted check rest k)
  plan_layer e first k (layer.Call g args pre measure) = evaluate_all args (call g pre measure first k)
  plan_layer e first k y = evaluate e k

  -- the parts of an expression, and what is made of them, where so many results are there; a literal and a variable
  -- have no parts
  abbrev pub plan : Expr → ℕ → Rest → Rest
  plan e first k = plan_layer e first k (out-Expr e)

  -- what one thing that is left comes to, and then the rest
  abbrev pub after : Todo → Rest → Rest
  after (todo.Eval e) k = evaluate e.now k
  after (todo.EvalAll es) k = evaluate_all es.now k
  after (todo.Unary op) k = moved (applied op) k
  after (todo.Operate op check) k = moved (operated_on op check) k
  after (todo.AndAlso b) k = and_also b.now k
  after (todo.OrElse b) k = or_else b.now k
  after (todo.If a b) k = branch a.now b.now k
  after (todo.Assert check rest) k = asserted check rest.now k
  after (todo.Construct c first) k = moved (λ s. Ok (constructed c first s)) k
  after (todo.Field i) k = moved (selected i) k
  after (todo.Cases cases check) k = choose cases.now check k
  after (todo.Guarded e cases check count) k = decided e.now cases.now check count k
  after (todo.Val rest) k = let_in rest.now k
  after (todo.Forget n) k = forget n k
  after (todo.Call g pre measure first) k = call g pre measure first k
  after (todo.Admit site) k = admit site k
  after (todo.Descend site first) k = descend site first k
  after (todo.Back here) k = back here k
  after (todo.Leave here) k = leave here k

  abbrev pub left_before : Rest → List Todo → Rest
  left_before k [] = k
  left_before k (t ∷ ts) = left_before (after t k) ts

  -- what is left, of which the last comes first
  abbrev pub left : List Todo → Rest
  left = left_before Ok
