-- The step of the mode that is read, where the mode is told apart from it.
use Rattle.std.proofs.Common.{◌≡◌, Result, subst, sym}
use Rattle.pp_tokens.specs.declared.token.Token.{Token}
use Rattle.pp_tree.specs.Plain.{Word}
use Rattle.pp_parse_state.specs.declared.fault.Stop.{Stop}
use Rattle.pp_parse_state.specs.declared.mode.Mode.{Mode}
use Rattle.pp_parse_state.specs.declared.mode.Move.{Move}
use Rattle.pp_parse_state.specs.declared.stack.Stack.{Stack}
use Rattle.pp_parse_state.specs.Shown.{Moves, Shown, step_in}

-- the move is that of the mode
pub in_mode : (text : Word) (t : Token) (r : Result Move Stop) (new : Stack) (m n : Mode) → m ≡ n → (s : Shown)
    → Moves r new (step_in text t n s) → Moves r new (step_in text t m s)
in_mode text t r new m n is s h = let P : Mode → Type 0 = λ x. Moves r new (step_in text t x s) in subst P (sym is) h
