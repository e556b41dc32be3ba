-- What is on top decides what comes.
use Rattle.std.proofs.Common.{◌≡◌, ◌∙◌, Bool, true, false, Ok, sym, ap}
use Rattle.pp_prog.specs.declared.value.Value.{Value}
use Rattle.pp_eval.specs.Part.{Part, either}
use Rattle.pp_stack.specs.declared.todo.Here.{Here}
use Rattle.pp_stack.specs.Left.{go_on}
use Rattle.pp_stack.specs.State.{State, popped, tested}

module _ (here : Here) (s st : State) (f g : State → Part State) where
  -- a truth value on top decides between two
  pub condition_true : (t : Bool) → tested s ≡ Ok (t, st) → t ≡ true
      → f st ≡ go_on here (tested s) (λ p. either p.0 (f p.1) (g p.1))
  condition_true t is holds =
      sym (ap (λ (r : Part (Bool × State)). go_on here r (λ p. either p.0 (f p.1) (g p.1))) is
      ∙ ap (λ (b : Bool). either b (f st) (g st)) holds)

  pub condition_false : (t : Bool) → tested s ≡ Ok (t, st) → t ≡ false
      → g st ≡ go_on here (tested s) (λ p. either p.0 (f p.1) (g p.1))
  condition_false t is fails =
      sym (ap (λ (r : Part (Bool × State)). go_on here r (λ p. either p.0 (f p.1) (g p.1))) is
      ∙ ap (λ (b : Bool). either b (f st) (g st)) fails)

-- the value on top goes on
pub top_goes : (here : Here) (s st : State) (v : Value) (go : (Value × State) → Part State) → popped s ≡ Ok (v, st)
    → go (v, st) ≡ go_on here (popped s) go
top_goes here s st v go is = sym (ap (λ (r : Part (Value × State)). go_on here r go) is)
