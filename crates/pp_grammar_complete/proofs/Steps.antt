-- Single steps of the automaton, and what the next token tells.
-- a token that goes on with the name, type or pattern before it
use Rattle.pp_grammar.specs.Automaton.{moved, on_mode, run}
use Rattle.pp_grammar.specs.Exprs.{IsSemicolon, no_semicolon, semicolon}
use Rattle.pp_grammar.specs.Frames.{Frame, Mode, Move, Parsed, State, within}
use Rattle.pp_grammar.specs.Types.{IsGap, IsSemis, no_semi, one_semi, semis}
use Rattle.pp_grammar.specs.Words.{is_minus, is_semi, is_sign, is_signed}
use Rattle.pp_tokens.specs.declared.token.Bracket.TheVariants.{CloseBrace, CloseRound, Comma, Dot, OpenRound}
use Rattle.pp_tokens.specs.declared.token.Bracket.TheVariants.{OpenSquare, Semicolon}
use Rattle.pp_tokens.specs.declared.token.Operator.TheVariants.{At, Minus}
use Rattle.pp_tokens.specs.declared.token.Reserved.TheVariants.{Case, Else}
use Rattle.pp_tokens.specs.declared.token.Token.{Token}
use Rattle.pp_tokens.specs.declared.token.TokenKind.{TokenKind}
use Rattle.pp_tokens.specs.declared.token.TokenKind.TheVariants.{Mark, Newline, Op, Word as Reserve}
use Rattle.pp_tree.specs.Plain.{Word}
use Rattle.std.proofs.Common.{Bool, List, [], ap, false, refl, sym, true, ◌&&◌, ◌∙◌, ◌∷◌, ◌≡◌}

abbrev pub goes_on : TokenKind → Bool
goes_on (Mark OpenRound) = true
goes_on (Mark OpenSquare) = true
goes_on (Op At) = true
goes_on _ = false

-- .. or with the operand before it
abbrev pub goes_on_operand : TokenKind → Bool
goes_on_operand (Mark Dot) = true
goes_on_operand k = goes_on k

-- a token is left, and it doesn't go on with what is before it
abbrev pub Ends : List Token → Type 0
Ends [] = ⊥
Ends (t ∷ ts) = goes_on t.kind ≡ false

abbrev pub Follows : List Token → Type 0
Follows [] = ⊥
Follows (t ∷ ts) = goes_on_operand t.kind ≡ false

-- the tokens that end an expression
abbrev pub closes : TokenKind → Bool
closes (Mark CloseRound) = true
closes (Mark Comma) = true
closes (Mark CloseBrace) = true
closes (Mark Semicolon) = true
closes Newline = true
closes (Reserve Else) = true
closes (Reserve Case) = true
closes _ = false

abbrev pub Closes : List Token → Type 0
Closes [] = ⊥
Closes (t ∷ ts) = closes t.kind ≡ true

ends_by : (k : TokenKind) → goes_on_operand k ≡ false → goes_on k ≡ false
ends_by (Mark OpenRound) is = is
ends_by (Mark OpenSquare) is = is
ends_by (Mark Dot) is = refl
ends_by (Op At) is = is
ends_by _ is = refl

pub follows_ends : (ts : List Token) → Follows ts → Ends ts
follows_ends [] f = f
follows_ends (t ∷ ts) f = ends_by t.kind f

follows_by : (k : TokenKind) → closes k ≡ true → goes_on_operand k ≡ false
follows_by (Mark CloseRound) is = refl
follows_by (Mark Comma) is = refl
follows_by (Mark CloseBrace) is = refl
follows_by (Mark Semicolon) is = refl
follows_by Newline is = refl
follows_by (Reserve Else) is = refl
follows_by (Reserve Case) is = refl
follows_by _ is = absurd (cc)

pub closes_follows : (ts : List Token) → Closes ts → Follows ts
closes_follows [] f = f
closes_follows (t ∷ ts) f = follows_by t.kind f

semi_closes : (k : TokenKind) → is_semi k ≡ true → closes k ≡ true
semi_closes Newline is = refl
semi_closes (Mark Semicolon) is = refl
semi_closes _ is = absurd (cc)

pub gap_closes : {ts us : List Token} → IsGap ts us → Closes us → Closes ts
gap_closes no_semi c = c
gap_closes (one_semi t is g) c = semi_closes t.kind is

pub semis_close : {ts us : List Token} → IsSemis ts us → Closes ts
semis_close (semis t is g) = semi_closes t.kind is

pub semicolon_closes : {ts us : List Token} → IsSemicolon ts us → Closes us → Closes ts
semicolon_closes no_semicolon c = c
semicolon_closes (semicolon t is) c = ap closes is

-- a minus tells whether it is the sign of a number
pub sign_is : (m t : Token) (us : List Token) (x : Bool) → m.kind ≡ Op Minus → is_sign m (t ∷ us) ≡ x
    → is_signed m.to t ≡ x
sign_is m t us x is e = sym (ap (λ k. is_minus k && is_signed m.to t) is) ∙ e

module _ (text : Word) (d : Parsed) (b : Bool) where
  -- the run within a declaration
  abbrev pub Run : List Token → List Frame → Mode → State
  Run ts s m = run text ts (within d b s m)

  -- .. and behind a move at the token t
  abbrev pub Go : Token → List Token → Move → State
  Go t ts m = run text ts (moved text t d b m)

  -- one step at a token of a known kind
  pub take_step : (t : Token) (ts : List Token) (s : List Frame) (m : Mode) (k : TokenKind) → t.kind ≡ k
      → Run (t ∷ ts) s m ≡ Go t ts (on_mode text t s m k)
  take_step t ts s m k is = ap (λ x. Go t ts (on_mode text t s m x)) is

  pub go_on : (t : Token) (ts : List Token) (m n : Move) → m ≡ n → Go t ts m ≡ Go t ts n
  go_on t ts m n is = ap (λ (x : Move). Go t ts x) is
