-- What stands behind a name that no lambda begins with, and at the end of a claim.
use Rattle.pp_grammar.specs.Words.{binary_of}
use Rattle.pp_grammar_complete.proofs.Steps.{Closes, closes}
use Rattle.pp_tokens.specs.declared.token.Bracket.TheVariants.{CloseBrace, CloseRound, Semicolon}
use Rattle.pp_tokens.specs.declared.token.Operator.{Operator}
use Rattle.pp_tokens.specs.declared.token.Operator.TheVariants.{Arrow, Colon}
use Rattle.pp_tokens.specs.declared.token.Token.{Token}
use Rattle.pp_tokens.specs.declared.token.TokenKind.{TokenKind}
use Rattle.pp_tokens.specs.declared.token.TokenKind.TheVariants.{Mark, Newline, Op}
use Rattle.pp_tree.specs.declared.operator.BinaryOp.{BinaryOp}
use Rattle.std.proofs.Common.{Bool, List, Some, [], ap, false, refl, sym, true, ◌&&◌, ◌∙◌}
use Rattle.std.proofs.Common.{◌∷◌, ◌≡◌}

-- a token that tells a name before it from the name of a lambda
abbrev pub is_plain_next : TokenKind → Bool
is_plain_next (Op Arrow) = false
is_plain_next (Op Colon) = false
is_plain_next _ = true

abbrev pub PlainNext : List Token → Type 0
PlainNext [] = ⊥
PlainNext (t ∷ ts) = is_plain_next t.kind ≡ true

-- .. where the name stands behind a bracket, and the token may be the other bracket
abbrev pub RoundNext : List Token → Type 0
RoundNext [] = ⊥
RoundNext (t ∷ ts) = (is_plain_next t.kind ≡ true) × (t.kind ≡ Mark CloseRound → PlainNext ts)

pub binary_is_plain : (o : Operator) (op : BinaryOp) → binary_of o ≡ Some op → is_plain_next (Op o) ≡ true
binary_is_plain Arrow op is = absurd (cc)
binary_is_plain Colon op is = absurd (cc)
binary_is_plain _ op is = refl

pub operator_is_plain : (t : Token) (ts : List Token) (o : Operator) (op : BinaryOp) → t.kind ≡ Op o
    → binary_of o ≡ Some op
    → PlainNext (t ∷ ts)
operator_is_plain t ts o op is is_op = ap is_plain_next is ∙ binary_is_plain o op is_op

pub no_round : (t : Token) (ts : List Token) (k : TokenKind) → t.kind ≡ k → (k ≡ Mark CloseRound → ⊥)
    → t.kind ≡ Mark CloseRound → PlainNext ts
no_round t ts k is unlike e = absurd (unlike (sym is ∙ e))

pub operator_is_round_next : (t : Token) (ts : List Token) (o : Operator) (op : BinaryOp) → t.kind ≡ Op o
    → binary_of o ≡ Some op → RoundNext (t ∷ ts)
operator_is_round_next t ts o op is is_op = (operator_is_plain t ts o op is is_op, no_round t ts _ is (λ e. cc))

-- the tokens that end a claim
abbrev pub ends_claim : TokenKind → Bool
ends_claim (Mark CloseRound) = true
ends_claim (Mark CloseBrace) = true
ends_claim (Mark Semicolon) = true
ends_claim Newline = true
ends_claim _ = false

abbrev pub ClaimEnds : List Token → Type 0
ClaimEnds [] = ⊥
ClaimEnds (t ∷ ts) = ends_claim t.kind ≡ true

pub claim_closes_by : (k : TokenKind) → ends_claim k ≡ true → closes k ≡ true
claim_closes_by (Mark CloseRound) is = refl
claim_closes_by (Mark CloseBrace) is = refl
claim_closes_by (Mark Semicolon) is = refl
claim_closes_by Newline is = refl
claim_closes_by _ is = absurd (cc)

pub claim_closes : (ts : List Token) → ClaimEnds ts → Closes ts
claim_closes [] c = c
claim_closes (t ∷ ts) c = claim_closes_by t.kind c

pub and_false : (x : Bool) → (x && false) ≡ false
and_false true = refl
and_false false = refl
