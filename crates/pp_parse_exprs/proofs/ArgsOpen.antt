-- Behind the bracket that opens the arguments of a name.
use Rattle.std.proofs.Common.{◌≡◌, ℕ, List, [], ◌∷◌, refl}
use Rattle.pp_tokens.specs.declared.token.Bracket.TheVariants.{CloseRound}
use Rattle.pp_tokens.specs.declared.token.Token.{Token}
use Rattle.pp_tokens.specs.declared.token.TokenKind.{TokenKind}
use Rattle.pp_tokens.specs.declared.token.TokenKind.TheVariants.{Mark}
use Rattle.pp_tree.specs.Plain.{Word, TypeTrees}
use Rattle.pp_grammar.specs.Frames.{Frame, args}
use Rattle.pp_grammar.specs.StepExprs.{on_args_open, on_want}

-- any other token begins the first argument
pub first_arg : (text : Word) (t : Token) (s : List Frame) (at : ℕ) (w : Word) (ts : TypeTrees) (k : TokenKind)
    → (k ≡ Mark CloseRound → ⊥)
    → on_args_open text t s at w ts k ≡ on_want text t (args at w ts [] ∷ s) k
first_arg text t s at w ts (Mark CloseRound) other = absurd (other refl)
first_arg text t s at w ts _ other = refl
