-- Laws of going on, and what is on top after something was put there.
use Rattle.std.proofs.Common.{◌≡◌, ◌∙◌, ℕ, Bool, true, false, List, [], ◌∷◌, ◌++◌, Option, Some, Ok, Err, refl, ap}
use Rattle.std.specs.Prelude.{take, drop, length}
use Rattle.std.proofs.Math.Seq.{take-append_seam, drop-append_seam}
use Rattle.pp_tree.specs.declared.operator.BinaryOp.{BinaryOp}
use Rattle.pp_tree.specs.declared.operator.UnaryOp.{UnaryOp}
use Rattle.pp_prog.specs.declared.id.CheckId.{CheckId}
use Rattle.pp_prog.specs.declared.value.Value.{Value}
use Rattle.pp_eval.specs.Meaning.{field}
use Rattle.pp_eval.specs.Operators.{operated, truth, unary}
use Rattle.pp_eval.specs.Part.{Part, and_then, either, found}
use Rattle.pp_stack.specs.declared.todo.Here.{Here}
use Rattle.pp_stack.specs.Left.{Rest, go_on, moved}
use Rattle.pp_stack.specs.State.{State, applied, behind_one, bound_one, operated_on, parted, popped, pushed, put}
use Rattle.pp_stack.specs.State.{selected, tested, with_bound}

pub go_on_then : {A B : Type 0} (here : Here) (part : Part A) (f : A → Part B) (k : B → Part State)
    → go_on here (and_then part f) k ≡ go_on here part (λ a. go_on here (f a) k)
go_on_then here (Ok a) f k = refl
go_on_then here (Err stop) f k = refl

pub go_on_along : {A : Type 0} (here : Here) (part : Part A) (f g : A → Part State) → ((a : A) → f a ≡ g a)
    → go_on here part f ≡ go_on here part g
go_on_along here (Ok a) f g same = same a
go_on_along here (Err stop) f g same = refl

pub go_on_put : (here : Here) (s : State) (part : Part Value) (k : Rest)
    → go_on here (put s part) k ≡ go_on here part (λ v. k (pushed s v))
go_on_put here s (Ok v) k = refl
go_on_put here s (Err stop) k = refl

pub go_on_either : (here : Here) (t : Bool) (p q : Part Value) (k : Value → Part State)
    → go_on here (either t p q) k ≡ either t (go_on here p k) (go_on here q k)
go_on_either here true p q k = refl
go_on_either here false p q k = refl

pub parted_push : (vs : List Value) (v : Value) → parted (vs ++ v ∷ []) ≡ Some (vs, v)
parted_push [] v = refl
parted_push (x ∷ vs) v = ap (behind_one x) (parted_push vs v)

-- what was put on top is on top
pub popped_pushed : (s : State) (v : Value) → popped (pushed s v) ≡ Ok (v, s)
popped_pushed s v =
    ap (λ (o : Option (List Value × Value)). and_then (found o) (λ p. let r : Part (Value × State) =
    Ok (p.1, record s { temps = p.0 }) in r)) (parted_push s.temps v)

pub tested_pushed : (s : State) (v : Value) (k : (Bool × State) → Part State)
    → go_on s.here (tested (pushed s v)) k ≡ go_on s.here (truth v) (λ t. k (t, s))
tested_pushed s v k =
    ap (λ (r : Part (Value × State)). go_on s.here (and_then r (λ p. and_then (truth p.0) (λ t. Ok (t, p.1)))) k)
    (popped_pushed s v) ∙ go_on_then s.here (truth v) (λ t. Ok (t, s)) k

pub applied_pushed : (op : UnaryOp) (k : Rest) (s : State) (v : Value)
    → moved (applied op) k (pushed s v) ≡ go_on s.here (unary op v) (λ w. k (pushed s w))
applied_pushed op k s v =
    ap (λ (r : Part (Value × State)). go_on s.here (and_then r (λ p. put p.1 (unary op p.0))) k) (popped_pushed s v)
    ∙ go_on_put s.here s (unary op v) k

pub selected_pushed : (i : ℕ) (k : Rest) (s : State) (v : Value)
    → moved (selected i) k (pushed s v) ≡ go_on s.here (field v i) (λ w. k (pushed s w))
selected_pushed i k s v =
    ap (λ (r : Part (Value × State)). go_on s.here (and_then r (λ p. put p.1 (field p.0 i))) k) (popped_pushed s v)
    ∙ go_on_put s.here s (field v i) k

pub operated_pushed : (op : BinaryOp) (check : Option CheckId) (k : Rest) (s : State) (x y : Value)
    → moved (operated_on op check) k (pushed (pushed s x) y)
    ≡ go_on s.here (operated op check x y) (λ w. k (pushed s w))
operated_pushed op check k s x y =
    ap (λ (r : Part (Value × State)). go_on s.here (and_then r (λ q. and_then (popped q.1)
    (λ p. put p.1 (operated op check p.0 q.0)))) k) (popped_pushed (pushed s x) y)
    ∙ ap (λ (r : Part (Value × State)). go_on s.here (and_then r (λ p. put p.1 (operated op check p.0 y))) k)
    (popped_pushed s x)
    ∙ go_on_put s.here s (operated op check x y) k

pub bound_pushed : (s : State) (v : Value) → bound_one (pushed s v) ≡ Ok (with_bound (v ∷ []) s)
bound_pushed s v =
    ap (λ (r : Part (Value × State)). and_then r (λ p. let b : Part State = Ok (with_bound (p.0 ∷ []) p.1) in b))
    (popped_pushed s v)

-- results that were put behind others are taken from there
pub results_behind : {A : Type 0} (go : List Value → List Value → A) (ts vs : List Value)
    → go (take (length ts) (ts ++ vs)) (drop (length ts) (ts ++ vs)) ≡ go ts vs
results_behind go ts vs =
    ap (λ (l : List Value). go l (drop (length ts) (ts ++ vs))) (take-append_seam ts vs)
    ∙ ap (go ts) (drop-append_seam ts vs)
