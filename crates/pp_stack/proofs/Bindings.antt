-- Values that come into scope and go out of it.
use Rattle.std.proofs.Common.{◌≡◌, ◌∙◌, ℕ, ◌+◌, ◌-◌, List, [], ◌∷◌, ◌++◌, ap, arith}
use Rattle.std.specs.Prelude.{take, drop, length}
use Rattle.std.proofs.lemmas.List.{drop-append-le, length-append}
use Rattle.std.proofs.Math.Seq.{take-append_seam, drop-append_seam}
use Rattle.pp_prog.specs.declared.expr.Expr.{Expr}
use Rattle.pp_prog.specs.declared.value.Value.{Value}
use Rattle.pp_eval.specs.Meaning.{meaning}
use Rattle.pp_stack.specs.declared.todo.Code.{Code}
use Rattle.pp_stack.specs.declared.todo.Here.{Here}
use Rattle.pp_stack.specs.Left.{Rest, calls, evaluate, forget, go_on}
use Rattle.pp_stack.specs.State.{State, forgotten, frame_in, last, pushed, scope, with_bound, without}
use Rattle.pp_stack.proofs.Going.{go_on_along}

pub last_append : (n : ℕ) (xs vs : List Value) → last (n + length vs) (xs ++ vs) ≡ last n xs ++ vs
last_append n xs vs =
    let count : length (xs ++ vs) - (n + length vs) ≡ length xs - n = omega (arith, length-append xs vs) in
    ap (λ m. drop m (xs ++ vs)) count ∙ drop-append-le (length xs - n) xs vs (omega arith)

pub without_append : (xs vs : List Value) → without (length vs) (xs ++ vs) ≡ xs
without_append xs vs =
    let count : length (xs ++ vs) - length vs ≡ length xs = omega (arith, length-append xs vs) in
    ap (λ m. take m (xs ++ vs)) count ∙ take-append_seam xs vs

pub last_all : (xs vs : List Value) → last (length vs) (xs ++ vs) ≡ vs
last_all xs vs =
    let count : length (xs ++ vs) - length vs ≡ length xs = omega (arith, length-append xs vs) in
    ap (λ m. drop m (xs ++ vs)) count ∙ drop-append_seam xs vs

-- the frame with as many values in scope as before
here_again : (here : Here) (n : ℕ) → record here { bound = here.bound + n - n } ≡ here
here_again here n =
    let e : here.bound + n - n ≡ here.bound = omega arith in
    ap (λ (b : ℕ). let h : Here = record here { bound = b } in h) e

pub forgotten_bound : (vs : List Value) (s : State) (w : Value)
    → forgotten (length vs) (pushed (with_bound vs s) w) ≡ pushed s w
forgotten_bound vs s w =
    ap (λ (env : List Value). let r : State = record {
      temps = s.temps ++ w ∷ [];
      env = env;
      measures = s.measures;
      here = record s.here { bound = s.here.bound + length vs - length vs };
    } in r) (without_append s.env vs)
    ∙ ap (λ (here : Here). let r : State = record {
      temps = s.temps ++ w ∷ [];
      env = s.env;
      measures = s.measures;
      here = here;
    } in r) (here_again s.here (length vs))

pub scope_bound : (vs : List Value) (s : State) → scope (with_bound vs s) ≡ scope s ++ vs
scope_bound vs s = last_append s.here.bound s.env vs

-- an expression with more values in scope, which then go
pub evaluate_bound : (code : Code) (e : Expr) (vs : List Value) (k : Rest) (s : State)
    → evaluate code e (forget (length vs) k) (with_bound vs s)
    ≡ go_on s.here (meaning (calls code s.here.fuel) e (frame_in s) (scope s ++ vs)) (λ w. k (pushed s w))
evaluate_bound code e vs k s =
    ap (λ (env : List Value). go_on s.here (meaning (calls code s.here.fuel) e (frame_in s) env)
    (λ w. k (forgotten (length vs) (pushed (with_bound vs s) w)))) (scope_bound vs s)
    ∙ go_on_along s.here (meaning (calls code s.here.fuel) e (frame_in s) (scope s ++ vs))
    (λ w. k (forgotten (length vs) (pushed (with_bound vs s) w))) (λ w. k (pushed s w))
    (λ w. ap k (forgotten_bound vs s w))
