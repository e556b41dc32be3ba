-- Behind the bracket that opens the arguments of a pattern.
use Rattle.std.proofs.Common.{◌≡◌, ℕ, List, [], ◌∷◌, refl}
use Rattle.pp_tokens.specs.declared.token.Bracket.TheVariants.{CloseRound}
use Rattle.pp_tokens.specs.declared.token.Token.{Token}
use Rattle.pp_tokens.specs.declared.token.TokenKind.{TokenKind}
use Rattle.pp_tokens.specs.declared.token.TokenKind.TheVariants.{Mark}
use Rattle.pp_tree.specs.Plain.{Word}
use Rattle.pp_grammar.specs.Frames.{Frame, pattern_args}
use Rattle.pp_grammar.specs.StepTypes.{on_pattern_args_open, on_want_pattern}

-- any other token begins the first argument
pub first_arg : (text : Word) (t : Token) (s : List Frame) (at : ℕ) (w : Word) (k : TokenKind)
    → (k ≡ Mark CloseRound → ⊥)
    → on_pattern_args_open text t s at w k ≡ on_want_pattern text t (pattern_args at w [] ∷ s) k
first_arg text t s at w (Mark CloseRound) other = absurd (other refl)
first_arg text t s at w _ other = refl
