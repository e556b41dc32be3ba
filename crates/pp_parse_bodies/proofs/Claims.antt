-- Where a lambda is wanted, any other token goes on with a claim that has a hole.
use Rattle.std.proofs.Common.{◌≡◌, ℕ, List, ◌∷◌, refl}
use Rattle.pp_tokens.specs.declared.token.Bracket.TheVariants.{CloseRound, OpenRound}
use Rattle.pp_tokens.specs.declared.token.Operator.TheVariants.{Arrow, Colon}
use Rattle.pp_tokens.specs.declared.token.Token.{Token}
use Rattle.pp_tokens.specs.declared.token.TokenKind.{TokenKind}
use Rattle.pp_tokens.specs.declared.token.TokenKind.TheVariants.{Mark, Name, Op}
use Rattle.pp_tree.specs.Plain.{Word}
use Rattle.pp_grammar.specs.Frames.{Frame, claiming_hole, round}
use Rattle.pp_grammar.specs.StepBodies.{on_lambda_closed, on_lambda_name, on_lambda_round, on_lambda_round_name}
use Rattle.pp_grammar.specs.StepBodies.{on_late_name, on_late_round, on_want_lambda}
use Rattle.pp_grammar.specs.StepExprs.{on_want}
use Rattle.pp_grammar.specs.Words.{role}

module _ (text : Word) (t : Token) (s : List Frame) where
  pub lambda_or_claim : (k : TokenKind) → (k ≡ Name → ⊥) → (k ≡ Mark OpenRound → ⊥)
      → on_want_lambda text t s k ≡ on_want text t (claiming_hole ∷ s) k
  lambda_or_claim Name name opens = absurd (name refl)
  lambda_or_claim (Mark OpenRound) name opens = absurd (opens refl)
  lambda_or_claim _ name opens = refl

  pub round_or_claim : (k : TokenKind) → (k ≡ Name → ⊥)
      → on_lambda_round text t s k ≡ on_want text t (round ∷ claiming_hole ∷ s) k
  round_or_claim Name name = absurd (name refl)
  round_or_claim _ name = refl

  module _ (at : ℕ) (w : Word) where
    pub name_or_claim : (k : TokenKind) → (k ≡ Op Arrow → ⊥) → (k ≡ Op Colon → ⊥)
        → on_lambda_name text t s at w k ≡ on_late_name text t (claiming_hole ∷ s) at w (role w) k
    name_or_claim (Op Arrow) arrow colon = absurd (arrow refl)
    name_or_claim (Op Colon) arrow colon = absurd (colon refl)
    name_or_claim _ arrow colon = refl

    pub round_name_or_claim : (k : TokenKind) → (k ≡ Mark CloseRound → ⊥) → (k ≡ Op Colon → ⊥)
        → on_lambda_round_name text t s at w k ≡ on_late_name text t (round ∷ claiming_hole ∷ s) at w (role w) k
    round_name_or_claim (Mark CloseRound) closes colon = absurd (closes refl)
    round_name_or_claim (Op Colon) closes colon = absurd (colon refl)
    round_name_or_claim _ closes colon = refl

    pub closed_or_claim : (k : TokenKind) → (k ≡ Op Arrow → ⊥)
        → on_lambda_closed text t s at w k ≡ on_late_round text t (claiming_hole ∷ s) at w (role w) k
    closed_or_claim (Op Arrow) arrow = absurd (arrow refl)
    closed_or_claim _ arrow = refl
