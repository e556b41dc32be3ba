-- Modes that only the first token of an expression tells from the mode in which an expression is wanted.
use Rattle.pp_grammar.specs.Exprs.{IsExpr, IsInfix, IsMatched, IsPrefix, IsPrimary, IsSimple, if_else, infix_expr}
use Rattle.pp_grammar.specs.Exprs.{looser, match_of, matched, negative, no_prefix, operand, operator, prefixed, simple}
use Rattle.pp_grammar.specs.Frames.{Frame, Mode, Parsed, want}
use Rattle.pp_grammar_complete.proofs.Steps.{Run}
use Rattle.pp_tokens.specs.declared.token.Operator.{Operator}
use Rattle.pp_tokens.specs.declared.token.Operator.TheVariants.{Minus}
use Rattle.pp_tokens.specs.declared.token.Reserved.TheVariants.{If}
use Rattle.pp_tokens.specs.declared.token.Token.{Token}
use Rattle.pp_tokens.specs.declared.token.TokenKind.TheVariants.{Op, Word as Reserve}
use Rattle.pp_tree.specs.Plain.{Tree, Word}
use Rattle.std.proofs.Common.{Bool, List, ℕ, ◌∷◌, ◌≡◌}

module _ (text : Word) (d : Parsed) (b : Bool) (m : Mode) (s : List Frame) where
  -- the mode is left as an expression is begun
  abbrev pub Same : List Token → Type 0
  Same ts = Run text d b ts s m ≡ Run text d b ts s want

  -- it is so at the tokens that begin no primary expression, and at each primary expression
  pub record BeginsSame : Type 0 where
    pub at_operator : (t : Token) (us : List Token) (o : Operator) → t.kind ≡ Op o → Same (t ∷ us)
    pub at_if : (t : Token) (us : List Token) → t.kind ≡ Reserve If → Same (t ∷ us)
    pub at_primary : {ts us : List Token} {e : Tree} → IsPrimary text ts us e → Same ts

  module _ (same : BeginsSame) where
    same_simple : {ts us : List Token} {e : Tree} → IsSimple text ts us e → Same ts
    same_simple (simple p f) = same.at_primary p

    same_prefix : {ts us : List Token} {e : Tree} → IsPrefix text ts us e → Same ts
    same_prefix (no_prefix r) = same_simple r
    same_prefix (prefixed {ts = ts} t o op is is_op sign r) = same.at_operator t ts o is
    same_prefix (negative {us = us} k t is sign n f) = same.at_operator k (t ∷ us) Minus is

    pub same_infix : {l : ℕ} {ts us : List Token} {e : Tree} → IsInfix text l ts us e → Same ts
    same_infix (looser r) = same_infix r
    same_infix (operand r) = same_prefix r
    same_infix (operator t o op a is is_op r) = same_infix a

    pub same_matched : {ts us : List Token} {e : Tree} → IsMatched text ts us e → Same ts
    same_matched (match_of k o x is_k is_o cs) = same_infix x

    pub same_expr : {ts us : List Token} {e : Tree} → IsExpr text ts us e → Same ts
    same_expr (if_else {ts = ts} i o c e is is_o x is_c br a sc is_e r) = same.at_if i (o ∷ ts) is
    same_expr (matched r) = same_matched r
    same_expr (infix_expr r) = same_infix r

    pub same_closed : {ts us : List Token} {e : Tree} → IsSimple text ts us e → Same ts
    same_closed r = same_simple r
