-- Which tokens spell the body of a function, with its contracts and its postcondition.
-- Source: Stainless documentation, for `require`, `decreases`, `ensuring` and `holds`; the hole, and that a match may
-- stand before `ensuring` and `holds`, are own.
use Rattle.std.specs.Prelude.{ℕ, suc, ◌≡◌, Bool, true, false, List, [], ◌∷◌, ◌++◌, Option, Some, None}
use Rattle.pp_tokens.specs.declared.token.Token.{Token}
use Rattle.pp_tokens.specs.declared.token.TokenKind.TheVariants.{Name, Op, Mark, Hole}
use Rattle.pp_tokens.specs.declared.token.Operator.{Operator}
use Rattle.pp_tokens.specs.declared.token.Operator.TheVariants.{Arrow, Colon}
use Rattle.pp_tokens.specs.declared.token.Bracket.TheVariants.{OpenRound, CloseRound, OpenBrace, CloseBrace, Comma, Dot}
use Rattle.pp_tree.specs.declared.operator.BinaryOp.{BinaryOp}
use Rattle.pp_tree.specs.declared.operator.UnaryOp.{UnaryOp}
use Rattle.pp_tree.specs.Plain.{Word, TypeTree, Tree, name, unary, binary, PostTree}
use Rattle.pp_grammar.specs.Words.{word, res, role, require_word, decreases_word, ensuring_word, holds_word, unary_of}
use Rattle.pp_grammar.specs.Words.{binary_of, level, loosest, tightest}
use Rattle.pp_grammar.specs.Types.{IsGap, IsSemis, IsType, IsAscription}
use Rattle.pp_grammar.specs.Exprs.{IsExpr, IsInfix, IsMatched, IsSimple, IsStats, IsFields}

-- hole: an infix expression in which exactly one operand, with fields behind it and a prefix before it, is `_`. It
-- stands for `res`.
pub data IsHole (text : Word) : ℕ → List Token → List Token → Tree → Type 0 where
  looser_hole : {l : ℕ} {ts us : List Token} {e : Tree} → IsHole text (suc l) ts us e → IsHole text l ts us e
  hole : {us vs : List Token} {e : Tree} (h : Token) → h.kind ≡ Hole → IsFields text us vs (name h.from res) e
      → IsHole text tightest (h ∷ us) vs e
  prefixed_hole : {us vs : List Token} {e : Tree} (t h : Token) (o : Operator) (op : UnaryOp) → t.kind ≡ Op o
      → unary_of o ≡ Some op → h.kind ≡ Hole → IsFields text us vs (name h.from res) e
      → IsHole text tightest (t ∷ h ∷ us) vs (unary t.from op e)
  hole_on_left : {ts us vs : List Token} {a b : Tree} (t : Token) (o : Operator) (op : BinaryOp)
      → IsHole text (level op) ts (t ∷ us) a → t.kind ≡ Op o → binary_of o ≡ Some op
      → IsInfix text (suc (level op)) us vs b → IsHole text (level op) ts vs (binary t.from op a b)
  hole_on_right : {ts us vs : List Token} {a b : Tree} (t : Token) (o : Operator) (op : BinaryOp)
      → IsInfix text (level op) ts (t ∷ us) a → t.kind ≡ Op o → binary_of o ≡ Some op
      → IsHole text (suc (level op)) us vs b → IsHole text (level op) ts vs (binary t.from op a b)

-- lambda: the name of the result, the type that is written for it, and the claim
pub data IsLambda (text : Word) : List Token → List Token → Word → Option TypeTree → Tree → Type 0 where
  of_name : {ts us : List Token} {e : Tree} (n a : Token) → n.kind ≡ Name → a.kind ≡ Op Arrow → IsExpr text ts us e
      → IsLambda text (n ∷ a ∷ ts) us (word text n) None e
  of_name_in_round : {ts us vs : List Token} {t : Option TypeTree} {e : Tree} (o n c a : Token)
      → o.kind ≡ Mark OpenRound → n.kind ≡ Name → IsAscription text ts (c ∷ a ∷ us) t → c.kind ≡ Mark CloseRound
      → a.kind ≡ Op Arrow → IsExpr text us vs e → IsLambda text (o ∷ n ∷ ts) vs (word text n) t e
  of_typed_name : {ts us vs : List Token} {t : TypeTree} {e : Tree} (n c a : Token) → n.kind ≡ Name
      → c.kind ≡ Op Colon → IsType text ts (a ∷ us) t → a.kind ≡ Op Arrow → IsExpr text us vs e
      → IsLambda text (n ∷ c ∷ ts) vs (word text n) (Some t) e
  of_hole : {ts us : List Token} {e : Tree} → IsHole text loosest ts us e → IsLambda text ts us res None e

-- post = "(" lambda ")" | "{" [semis] lambda [semis] "}"
pub data IsPost (text : Word) : List Token → List Token → Word → Option TypeTree → Tree → Type 0 where
  post_in_round : {ts us : List Token} {w : Word} {t : Option TypeTree} {e : Tree} (o c : Token)
      → o.kind ≡ Mark OpenRound → IsLambda text ts (c ∷ us) w t e → c.kind ≡ Mark CloseRound
      → IsPost text (o ∷ ts) us w t e
  post_in_braces : {ts us vs ws : List Token} {w : Word} {t : Option TypeTree} {e : Tree} (o c : Token)
      → o.kind ≡ Mark OpenBrace → IsGap ts us → IsLambda text us vs w t e → IsGap vs (c ∷ ws)
      → c.kind ≡ Mark CloseBrace → IsPost text (o ∷ ts) ws w t e

-- a contract at the head of a body
pub data Contract : Type 0 where
  require : Tree → Contract
  decreases : List Tree → Contract

-- expr {"," expr} ")"
pub data IsMeasure (text : Word) : List Token → List Token → List Tree → Type 0 where
  last_component : {ts us : List Token} {e : Tree} (c : Token) → IsExpr text ts (c ∷ us) e → c.kind ≡ Mark CloseRound
      → IsMeasure text ts us (e ∷ [])
  one_more_component : {ts us vs : List Token} {e : Tree} {es : List Tree} (c : Token) → IsExpr text ts (c ∷ us) e
      → c.kind ≡ Mark Comma → IsMeasure text us vs es → IsMeasure text ts vs (e ∷ es)

-- contract
pub data IsContract (text : Word) : List Token → List Token → Contract → Type 0 where
  requirement : {ts us : List Token} {e : Tree} (w o c : Token) → w.kind ≡ Name → role (word text w) ≡ require_word
      → o.kind ≡ Mark OpenRound → IsExpr text ts (c ∷ us) e → c.kind ≡ Mark CloseRound
      → IsContract text (w ∷ o ∷ ts) us (require e)
  measure : {ts us : List Token} {es : List Tree} (w o : Token) → w.kind ≡ Name → role (word text w) ≡ decreases_word
      → o.kind ≡ Mark OpenRound → IsMeasure text ts us es → IsContract text (w ∷ o ∷ ts) us (decreases es)
  measure_of_tuple : {ts us vs : List Token} {e : Tree} {es : List Tree} (w o p c d : Token) → w.kind ≡ Name
      → role (word text w) ≡ decreases_word → o.kind ≡ Mark OpenRound → p.kind ≡ Mark OpenRound
      → IsExpr text ts (c ∷ us) e → c.kind ≡ Mark Comma → IsMeasure text us (d ∷ vs) es → d.kind ≡ Mark CloseRound
      → IsContract text (w ∷ o ∷ p ∷ ts) vs (decreases (e ∷ es))

-- {contract semis}
pub data IsContracts (text : Word) : List Token → List Token → List Contract → Type 0 where
  no_contract : {ts : List Token} → IsContracts text ts ts []
  one_more_contract : {ts us vs ws : List Token} {c : Contract} {cs : List Contract} → IsContract text ts us c
      → IsSemis us vs → IsContracts text vs ws cs → IsContracts text ts ws (c ∷ cs)

abbrev pub requirements : List Contract → List Tree
requirements [] = []
requirements (require e ∷ cs) = e ∷ requirements cs
requirements (decreases es ∷ cs) = requirements cs

abbrev pub components : List Contract → List Tree
components [] = []
components (require e ∷ cs) = components cs
components (decreases es ∷ cs) = es ++ components cs

-- only `require`, and nothing
abbrev pub are_requirements : List Contract → Bool
are_requirements [] = true
are_requirements (require e ∷ cs) = are_requirements cs
are_requirements (decreases es ∷ cs) = false

abbrev pub ends_with_measure : List Contract → Bool
ends_with_measure [] = true
ends_with_measure (require e ∷ cs) = ends_with_measure cs
ends_with_measure (decreases es ∷ []) = true
ends_with_measure (decreases es ∷ c ∷ cs) = false

-- at most one `decreases`, before all `require` or after all of them
abbrev pub are_in_order : List Contract → Bool
are_in_order (decreases es ∷ cs) = are_requirements cs
are_in_order cs = ends_with_measure cs

-- cblock = "{" [semis] {contract semis} {stat semis} expr [semis] "}": the requirements, the measure, and what follows
pub data IsContractBlock (text : Word) : List Token → List Token → List Tree → List Tree → Tree → Type 0 where
  contract_block : {ts us vs ws xs : List Token} {cs : List Contract} {e : Tree} (o c : Token)
      → o.kind ≡ Mark OpenBrace → IsGap ts us → IsContracts text us vs cs → are_in_order cs ≡ true
      → IsStats text vs ws e → IsGap ws (c ∷ xs) → c.kind ≡ Mark CloseBrace
      → IsContractBlock text (o ∷ ts) xs (requirements cs) (components cs) e

-- head = infix | matched | cblock
pub data IsHead (text : Word) : List Token → List Token → List Tree → List Tree → Tree → Type 0 where
  head_infix : {ts us : List Token} {e : Tree} → IsInfix text loosest ts us e → IsHead text ts us [] [] e
  head_matched : {ts us : List Token} {e : Tree} → IsMatched text ts us e → IsHead text ts us [] [] e
  head_block : {ts us : List Token} {pre measure : List Tree} {e : Tree} → IsContractBlock text ts us pre measure e
      → IsHead text ts us pre measure e

-- closed = simple | matched | cblock
pub data IsClosed (text : Word) : List Token → List Token → List Tree → List Tree → Tree → Type 0 where
  closed_simple : {ts us : List Token} {e : Tree} → IsSimple text ts us e → IsClosed text ts us [] [] e
  closed_matched : {ts us : List Token} {e : Tree} → IsMatched text ts us e → IsClosed text ts us [] [] e
  closed_block : {ts us : List Token} {pre measure : List Tree} {e : Tree} → IsContractBlock text ts us pre measure e
      → IsClosed text ts us pre measure e

-- the postcondition of the word w
abbrev pub post_at : Token → Word → Option TypeTree → Tree → Option PostTree
post_at w n t e = Some (record { at = w.from; name = n; of = t; claim = e })

-- `holds` claims the result itself
abbrev pub holding_at : Token → Option PostTree
holding_at w = post_at w res None (name w.from res)

-- body: the requirements, the measure, the body itself and the postcondition. A reading as cblock is taken before one
-- as block: the two give the same.
pub data IsBody (text : Word)
    : List Token → List Token → List Tree → List Tree → Tree → Option PostTree → Type 0 where
  ensuring : {ts us vs : List Token} {pre measure : List Tree} {e claim : Tree} {n : Word} {t : Option TypeTree}
      (w : Token) → IsHead text ts (w ∷ us) pre measure e → w.kind ≡ Name → role (word text w) ≡ ensuring_word
      → IsPost text us vs n t claim → IsBody text ts vs pre measure e (post_at w n t claim)
  holds : {ts us : List Token} {pre measure : List Tree} {e : Tree} (w : Token)
      → IsHead text ts (w ∷ us) pre measure e → w.kind ≡ Name → role (word text w) ≡ holds_word
      → IsBody text ts us pre measure e (holding_at w)
  dot_ensuring : {ts us vs : List Token} {pre measure : List Tree} {e claim : Tree} {n : Word} {t : Option TypeTree}
      (dot w : Token) → IsClosed text ts (dot ∷ w ∷ us) pre measure e → dot.kind ≡ Mark Dot → w.kind ≡ Name
      → role (word text w) ≡ ensuring_word → IsPost text us vs n t claim
      → IsBody text ts vs pre measure e (post_at w n t claim)
  dot_holds : {ts us : List Token} {pre measure : List Tree} {e : Tree} (dot w : Token)
      → IsClosed text ts (dot ∷ w ∷ us) pre measure e → dot.kind ≡ Mark Dot → w.kind ≡ Name
      → role (word text w) ≡ holds_word → IsBody text ts us pre measure e (holding_at w)
  expr_alone : {ts us : List Token} {e : Tree} → IsExpr text ts us e → IsBody text ts us [] [] e None
  block_alone : {ts us : List Token} {pre measure : List Tree} {e : Tree} → IsContractBlock text ts us pre measure e
      → IsBody text ts us pre measure e None
