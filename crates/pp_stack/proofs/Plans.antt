-- An expression comes to what its plan comes to.
use Rattle.std.proofs.Common.{◌≡◌, ◌∙◌, ℕ, List, [], ◌∷◌, ◌++◌, Option, Ok, Err, refl, sym, ap, map, append_assoc}
use Rattle.std.proofs.Common.{append-nil}
use Rattle.std.specs.Prelude.{length, true, false, ◌≢◌}
use Rattle.pp_tree.specs.declared.operator.BinaryOp.{BinaryOp}
use Rattle.pp_tree.specs.declared.operator.BinaryOp.TheVariants.{AndAlso, OrElse}
use Rattle.pp_prog.specs.declared.expr.Case.{Case}
use Rattle.pp_prog.specs.declared.expr.Expr.{Expr}
use Rattle.pp_prog.specs.declared.expr.Expr.TheFolds.{fold_out-Expr, map-Expr}
use Rattle.pp_prog.specs.declared.expr.Expr.TheOpen as layer
use Rattle.pp_prog.specs.declared.expr.Expr.TheViews.{out-Expr}
use Rattle.pp_prog.specs.declared.id.CheckId.{CheckId}
use Rattle.pp_prog.specs.declared.value.Value.{Value}
use Rattle.pp_prog.specs.declared.value.Value.TheVariants.{Bool as Truth, Tree}
use Rattle.pp_eval.specs.Meaning.{Arm, Frame, Meaning, all, all_from, arm, arm_step, binary, meaning, meaning_step}
use Rattle.pp_eval.specs.declared.outcome.Stop.TheVariants.{Fails}
use Rattle.pp_eval.specs.Operators.{truth, unary}
use Rattle.pp_eval.specs.Part.{Part, and_then, either}
use Rattle.pp_stack.specs.declared.todo.Code.{Code}
use Rattle.pp_stack.specs.See.{seen}
use Rattle.pp_stack.specs.Left.{Rest, calls, chosen, evaluate, evaluate_all, forget, go_on, moved, plan, plan_binary}
use Rattle.pp_stack.specs.Left.{plan_layer, value_in}
use Rattle.pp_stack.specs.State.{State, frame_in, operated_on, pushed, scope}
use Rattle.pp_stack.proofs.Going.{applied_pushed, bound_pushed, go_on_along, go_on_either, go_on_then, operated_pushed}
use Rattle.pp_stack.proofs.Going.{popped_pushed, results_behind, selected_pushed, tested_pushed}
use Rattle.pp_stack.proofs.Bindings.{evaluate_bound}

module _ (code : Code) (s : State) (k : Rest) where
  -- what an expression means in the state
  abbrev m : Expr → Part Value
  m e = value_in code e s

  abbrev top : Value → Part State
  top v = k (pushed s v)

  binary_plan : (op : BinaryOp) (a b : Expr) (check : Option CheckId)
      → go_on s.here (binary op (meaning (calls code s.here.fuel) a) (meaning (calls code s.here.fuel) b) check
      (frame_in s) (scope s)) top ≡ plan_binary code op a b check k s
  binary_plan AndAlso a b check =
      go_on_then s.here (m a) _ top
      ∙ go_on_along s.here (m a) _ _ (λ x. go_on_then s.here (truth x) _ top
      ∙ go_on_along s.here (truth x) _ _ (λ t. go_on_either s.here t (m b) (Ok (Truth false)) top)
      ∙ sym (tested_pushed s x (λ z. either z.0 (evaluate code b k z.1) (k (pushed z.1 (Truth false))))))
  binary_plan OrElse a b check =
      go_on_then s.here (m a) _ top
      ∙ go_on_along s.here (m a) _ _ (λ x. go_on_then s.here (truth x) _ top
      ∙ go_on_along s.here (truth x) _ _ (λ t. go_on_either s.here t (Ok (Truth true)) (m b) top)
      ∙ sym (tested_pushed s x (λ z. either z.0 (k (pushed z.1 (Truth true))) (evaluate code b k z.1))))
  binary_plan op a b check =
      go_on_then s.here (m a) _ top
      ∙ go_on_along s.here (m a) _ _ (λ x. go_on_then s.here (m b) _ top
      ∙ go_on_along s.here (m b) _ _ (λ y. sym (operated_pushed op check k s x y)))

  level : (e : Expr) (y : layer.Expr-F Expr Case)
      → value_in code e s ≡ meaning_step (calls code s.here.fuel) (map-Expr Expr Case Meaning Arm
      (meaning (calls code s.here.fuel)) (arm (calls code s.here.fuel)) y) (frame_in s) (scope s)
      → go_on s.here (meaning_step (calls code s.here.fuel) (map-Expr Expr Case Meaning Arm
      (meaning (calls code s.here.fuel)) (arm (calls code s.here.fuel)) y) (frame_in s) (scope s)) top
      ≡ plan_layer code e (length s.temps) k y s
  level e (layer.Int n) is = ap (λ r. go_on s.here r top) (sym is)
  level e (layer.Bool b) is = ap (λ r. go_on s.here r top) (sym is)
  level e (layer.Var i) is = ap (λ r. go_on s.here r top) (sym is)
  level e (layer.Unary op a) is =
      go_on_then s.here (m a) (unary op) top
      ∙ go_on_along s.here (m a) _ _ (λ v. sym (applied_pushed op k s v))
  level e (layer.Binary op a b check) is = binary_plan op a b check
  level e (layer.Construct c args) is =
      go_on_then s.here (all (map (meaning (calls code s.here.fuel)) args) (frame_in s) (scope s)) _ top
      ∙ go_on_along s.here (all (map (meaning (calls code s.here.fuel)) args) (frame_in s) (scope s)) _ _
      (λ vs. sym (results_behind (λ (ts us : List Value). k (record s { temps = ts ++ Tree c us ∷ [] })) s.temps vs))
  level e (layer.Field a i) is =
      go_on_then s.here (m a) _ top
      ∙ go_on_along s.here (m a) _ _ (λ v. sym (selected_pushed i k s v))
  level e (layer.If c a b) is =
      go_on_then s.here (m c) _ top
      ∙ go_on_along s.here (m c) _ _ (λ x. go_on_then s.here (truth x) _ top
      ∙ go_on_along s.here (truth x) _ _ (λ t. go_on_either s.here t (m a) (m b) top)
      ∙ sym (tested_pushed s x (λ z. either z.0 (evaluate code a k z.1) (evaluate code b k z.1))))
  level e (layer.Match a cases check) is =
      go_on_then s.here (m a) _ top
      ∙ go_on_along s.here (m a) _ _ (λ v. sym (ap (λ (r : Part (Value × State)). go_on s.here r
      (λ p. chosen code cases check k p.0 p.1)) (popped_pushed s v)))
  level e (layer.Val a rest) is =
      go_on_then s.here (m a) _ top
      ∙ go_on_along s.here (m a) _ _ (λ v. sym (ap (λ (r : Part State). go_on s.here r
      (evaluate code rest (forget 1 k))) (bound_pushed s v) ∙ evaluate_bound code rest (v ∷ []) k s))
  level e (layer.Assert check c rest) is =
      go_on_then s.here (m c) _ top
      ∙ go_on_along s.here (m c) _ _ (λ x. go_on_then s.here (truth x) _ top
      ∙ go_on_along s.here (truth x) _ _ (λ t. go_on_either s.here t (m rest) (Err (Fails check)) top)
      ∙ sym (tested_pushed s x (λ z. either z.0 (evaluate code rest k z.1)
      (Err (seen s.here.called (Fails check))))))
  level e (layer.Call g args pre measure) is =
      go_on_then s.here (all (map (meaning (calls code s.here.fuel)) args) (frame_in s) (scope s)) _ top
      ∙ go_on_along s.here (all (map (meaning (calls code s.here.fuel)) args) (frame_in s) (scope s)) _ _
      (λ vs. sym (results_behind (λ (ts us : List Value). go_on s.here (calls code s.here.fuel (frame_in s) g pre
      measure us) (λ v. k (record s { temps = ts ++ v ∷ [] }))) s.temps vs))

  -- an expression comes to what its plan comes to
  pub plan_is : (e : Expr) → evaluate code e k s ≡ plan code e (length s.temps) k s
  plan_is e =
      let is = ap (λ (f : Meaning). f (frame_in s) (scope s)) (fold_out-Expr Meaning Arm
      (meaning_step (calls code s.here.fuel)) arm_step e) in
      ap (λ (r : Part Value). go_on s.here r top) is ∙ level e (out-Expr e) is

-- the values of the others behind those that are done
along : (r : Part Value) (f g : Value → Part (List Value)) → ((v : Value) → f v ≡ g v) → and_then r f ≡ and_then r g
along (Ok v) f g same = same v
along (Err stop) f g same = refl

then_then : (r : Part Value) (f : Value → Part (List Value)) (g : List Value → Part (List Value))
    → and_then (and_then r f) g ≡ and_then r (λ v. and_then (f v) g)
then_then (Ok v) f g = refl
then_then (Err stop) f g = refl

behind_twice : (r : Part (List Value)) (a b : List Value)
    → and_then (and_then r (λ vs. Ok (b ++ vs))) (λ vs. Ok (a ++ vs)) ≡ and_then r (λ vs. Ok ((a ++ b) ++ vs))
behind_twice (Ok vs) a b = ap Ok (sym (append_assoc a b vs))
behind_twice (Err stop) a b = refl

pub all_behind : (ms : List Meaning) (done : List Value) (frame : Frame) (env : List Value)
    → all_from done ms frame env ≡ and_then (all ms frame env) (λ vs. Ok (done ++ vs))
all_behind [] done frame env = ap Ok (sym (append-nil done))
all_behind (m ∷ ms) done frame env =
    along (m frame env) _ _ (λ v. all_behind ms (done ++ v ∷ []) frame env
    ∙ sym (behind_twice (all ms frame env) done (v ∷ []))
    ∙ ap (λ (r : Part (List Value)). and_then r (λ vs. let q : Part (List Value) = Ok (done ++ vs) in q))
    (sym (all_behind ms (v ∷ []) frame env)))
    ∙ sym (then_then (m frame env) (λ v. all_from (v ∷ []) ms frame env) (λ vs. Ok (done ++ vs)))

-- the first of some expressions, and then the others
pub first_of_all : (code : Code) (k : Rest) (s : State) (e : Expr) (es : List Expr)
    → evaluate_all code (e ∷ es) k s ≡ evaluate code e (evaluate_all code es k) s
first_of_all code k s e es =
    let ms = map (meaning (calls code s.here.fuel)) es in
    let f = frame_in s in
    let env = scope s in
    let put_all : List Value → Part State = λ vs. k (record s { temps = s.temps ++ vs }) in
    go_on_then s.here (value_in code e s) (λ v. all_from (v ∷ []) ms f env) put_all
    ∙ go_on_along s.here (value_in code e s) _ _ (λ v.
    ap (λ (r : Part (List Value)). go_on s.here r put_all) (all_behind ms (v ∷ []) f env)
    ∙ go_on_then s.here (all ms f env) (λ vs. Ok (v ∷ [] ++ vs)) put_all
    ∙ go_on_along s.here (all ms f env) _ _ (λ vs. ap (λ (ts : List Value). k (record s { temps = ts }))
    (sym (append_assoc s.temps (v ∷ []) vs))))

module _ (code : Code) (e : Expr) (first : ℕ) (k : Rest) where
  -- the plan of an expression of this layer
  pub plan_at : (y : layer.Expr-F Expr Case) → out-Expr e ≡ y → plan code e first k ≡ plan_layer code e first k y
  plan_at y is = ap (λ (z : layer.Expr-F Expr Case). plan_layer code e first k z) is

-- an operator that evaluates both its operands
pub plan_operator : (code : Code) (op : BinaryOp) (a b : Expr) (check : Option CheckId) (k : Rest) → op ≢ AndAlso
    → op ≢ OrElse → evaluate code a (evaluate code b (moved (operated_on op check) k)) ≡ plan_binary code op a b check k
plan_operator code AndAlso a b check k other _ = absurd (other refl)
plan_operator code OrElse a b check k _ other = absurd (other refl)
plan_operator code op a b check k _ _ = refl
