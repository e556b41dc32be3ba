-- Which tokens spell an expression, with one constructor for each alternative of the grammar.
-- Source: own, after the Scala Language Specification 2.13, chapter 6.
use Rattle.std.specs.Prelude.{ℕ, suc, ℤ, ◌≡◌, true, false, List, ◌∷◌, Option, Some, None}
use Rattle.pp_tokens.specs.declared.token.Token.{Token}
use Rattle.pp_tokens.specs.declared.token.TokenKind.TheVariants.{Name, Word as Reserve, Op, Mark}
use Rattle.pp_tokens.specs.declared.token.Reserved.TheVariants.{Case, Else, False, If, Match, True, Val}
use Rattle.pp_tokens.specs.declared.token.Operator.{Operator}
use Rattle.pp_tokens.specs.declared.token.Operator.TheVariants.{Minus, Assign, Arrow}
use Rattle.pp_tokens.specs.declared.token.Bracket.TheVariants.{OpenRound, CloseRound, OpenSquare, OpenBrace, CloseBrace}
use Rattle.pp_tokens.specs.declared.token.Bracket.TheVariants.{Comma, Dot, Semicolon}
use Rattle.pp_tree.specs.declared.operator.BinaryOp.{BinaryOp}
use Rattle.pp_tree.specs.declared.operator.UnaryOp.{UnaryOp}
use Rattle.pp_tree.specs.Plain.{Word, TypeTree, TypeTrees, no_types, PatternTree, Tree, int, bool, name, apply, field}
use Rattle.pp_tree.specs.Plain.{unary, binary, choice, matching, val_in, assert_in, Trees, no_trees, more_trees}
use Rattle.pp_tree.specs.Plain.{CaseTrees, no_cases}
use Rattle.pp_tree.specs.Shown.{case_before}
use Rattle.pp_grammar.specs.Words.{word, role, plain, assert_word, int_word, bound_of, unary_of, binary_of, level}
use Rattle.pp_grammar.specs.Words.{loosest, tightest, number_of, negative_of, is_sign}
use Rattle.pp_grammar.specs.Types.{IsGap, IsSemis, IsBreaks, IsTypes, IsAscription}
use Rattle.pp_grammar.specs.Patterns.{IsPattern}

-- {"." name}, behind the expression e
pub data IsFields (text : Word) : List Token → List Token → Tree → Tree → Type 0 where
  no_field : {ts : List Token} {e : Tree} → IsFields text ts ts e e
  one_field : {us vs : List Token} {e d : Tree} (dot t : Token) → dot.kind ≡ Mark Dot → t.kind ≡ Name
      → role (word text t) ≡ plain → IsFields text us vs (field t.from e (word text t)) d
      → IsFields text (dot ∷ t ∷ us) vs e d

-- [";"]
pub data IsSemicolon : List Token → List Token → Type 0 where
  no_semicolon : {ts : List Token} → IsSemicolon ts ts
  semicolon : {ts : List Token} (t : Token) → t.kind ≡ Mark Semicolon → IsSemicolon (t ∷ ts) ts

mutual
  -- expr
  pub data IsExpr (text : Word) : List Token → List Token → Tree → Type 0 where
    if_else : {ts us vs ws xs ys : List Token} {x a b : Tree} (i o c e : Token) → i.kind ≡ Reserve If
        → o.kind ≡ Mark OpenRound → IsExpr text ts (c ∷ us) x → c.kind ≡ Mark CloseRound → IsBreaks us vs
        → IsExpr text vs ws a → IsSemicolon ws (e ∷ xs) → e.kind ≡ Reserve Else → IsExpr text xs ys b
        → IsExpr text (i ∷ o ∷ ts) ys (choice i.from x a b)
    matched : {ts us : List Token} {e : Tree} → IsMatched text ts us e → IsExpr text ts us e
    infix_expr : {ts us : List Token} {e : Tree} → IsInfix text loosest ts us e → IsExpr text ts us e

  -- matched = infix "match" "{" case {case} "}"
  pub data IsMatched (text : Word) : List Token → List Token → Tree → Type 0 where
    match_of : {ts us vs : List Token} {x : Tree} {cs : CaseTrees} (m o : Token)
        → IsInfix text loosest ts (m ∷ o ∷ us) x → m.kind ≡ Reserve Match → o.kind ≡ Mark OpenBrace
        → IsCases text us vs cs → IsMatched text ts vs (matching m.from x cs)

  -- case {case} "}"
  pub data IsCases (text : Word) : List Token → List Token → CaseTrees → Type 0 where
    last_case : {ts us : List Token} {p : PatternTree} {g : Option Tree} {b : Tree} (c : Token)
        → IsCase text ts (c ∷ us) p g b → c.kind ≡ Mark CloseBrace → IsCases text ts us (case_before p g b no_cases)
    one_more_case : {ts us vs : List Token} {p : PatternTree} {g : Option Tree} {b : Tree} {cs : CaseTrees}
        → IsCase text ts us p g b → IsCases text us vs cs → IsCases text ts vs (case_before p g b cs)

  -- case = "case" pattern ["if" infix] "=>" rest
  pub data IsCase (text : Word) : List Token → List Token → PatternTree → Option Tree → Tree → Type 0 where
    case_of : {ts us vs ws : List Token} {p : PatternTree} {g : Option Tree} {b : Tree} (c a : Token)
        → c.kind ≡ Reserve Case → IsPattern text ts us p → IsGuard text us (a ∷ vs) g → a.kind ≡ Op Arrow
        → IsRest text vs ws b → IsCase text (c ∷ ts) ws p g b

  -- ["if" infix]
  pub data IsGuard (text : Word) : List Token → List Token → Option Tree → Type 0 where
    no_guard : {ts : List Token} → IsGuard text ts ts None
    guard : {ts us : List Token} {g : Tree} (i : Token) → i.kind ≡ Reserve If → IsInfix text loosest ts us g
        → IsGuard text (i ∷ ts) us (Some g)

  -- rest = [semis] {stat semis} expr [semis]
  pub data IsRest (text : Word) : List Token → List Token → Tree → Type 0 where
    rest : {ts us vs ws : List Token} {e : Tree} → IsGap ts us → IsStats text us vs e → IsGap vs ws
        → IsRest text ts ws e

  -- {stat semis} expr, with stat = "val" name [":" type] "=" expr | "assert" "(" expr ")"
  pub data IsStats (text : Word) : List Token → List Token → Tree → Type 0 where
    last_expr : {ts us : List Token} {e : Tree} → IsExpr text ts us e → IsStats text ts us e
    val_stat : {ts us vs ws xs : List Token} {t : Option TypeTree} {a b : Tree} (v n q : Token) → v.kind ≡ Reserve Val
        → n.kind ≡ Name → IsAscription text ts (q ∷ us) t → q.kind ≡ Op Assign → IsExpr text us vs a → IsSemis vs ws
        → IsStats text ws xs b → IsStats text (v ∷ n ∷ ts) xs (val_in v.from (word text n) t a b)
    assert_stat : {ts us vs ws : List Token} {x b : Tree} (a o c : Token) → a.kind ≡ Name
        → role (word text a) ≡ assert_word → o.kind ≡ Mark OpenRound → IsExpr text ts (c ∷ us) x
        → c.kind ≡ Mark CloseRound → IsSemis us vs → IsStats text vs ws b
        → IsStats text (a ∷ o ∷ ts) ws (assert_in a.from x b)

  -- block = "{" rest "}"
  pub data IsBlock (text : Word) : List Token → List Token → Tree → Type 0 where
    block : {ts us : List Token} {e : Tree} (o c : Token) → o.kind ≡ Mark OpenBrace → IsRest text ts (c ∷ us) e
        → c.kind ≡ Mark CloseBrace → IsBlock text (o ∷ ts) us e

  -- infix = prefix {operator prefix}: an expression of level l or tighter. The left side of an operator is of the
  -- operator's level, the right side is tighter.
  pub data IsInfix (text : Word) : ℕ → List Token → List Token → Tree → Type 0 where
    looser : {l : ℕ} {ts us : List Token} {e : Tree} → IsInfix text (suc l) ts us e → IsInfix text l ts us e
    operand : {ts us : List Token} {e : Tree} → IsPrefix text ts us e → IsInfix text tightest ts us e
    operator : {ts us vs : List Token} {a b : Tree} (t : Token) (o : Operator) (op : BinaryOp)
        → IsInfix text (level op) ts (t ∷ us) a → t.kind ≡ Op o → binary_of o ≡ Some op
        → IsInfix text (suc (level op)) us vs b → IsInfix text (level op) ts vs (binary t.from op a b)

  -- prefix = ["-" | "!" | "~"] simple
  pub data IsPrefix (text : Word) : List Token → List Token → Tree → Type 0 where
    no_prefix : {ts us : List Token} {e : Tree} → IsSimple text ts us e → IsPrefix text ts us e
    prefixed : {ts us : List Token} {e : Tree} (t : Token) (o : Operator) (op : UnaryOp) → t.kind ≡ Op o
        → unary_of o ≡ Some op → is_sign t ts ≡ false → IsSimple text ts us e
        → IsPrefix text (t ∷ ts) us (unary t.from op e)
    -- a minus sign directly before a number is part of it
    negative : {us vs : List Token} {n : ℤ} {e : Tree} (m t : Token) → m.kind ≡ Op Minus
        → is_sign m (t ∷ us) ≡ true → negative_of t.kind ≡ Some n → IsFields text us vs (int m.from n) e
        → IsPrefix text (m ∷ t ∷ us) vs e

  -- simple = (..) {"." name}
  pub data IsSimple (text : Word) : List Token → List Token → Tree → Type 0 where
    simple : {ts us vs : List Token} {e d : Tree} → IsPrimary text ts us e → IsFields text us vs e d
        → IsSimple text ts vs d

  -- what stands before the fields
  pub data IsPrimary (text : Word) : List Token → List Token → Tree → Type 0 where
    number : {us : List Token} {n : ℤ} (t : Token) → number_of t.kind ≡ Some n
        → IsPrimary text (t ∷ us) us (int t.from n)
    true_word : {us : List Token} (t : Token) → t.kind ≡ Reserve True → IsPrimary text (t ∷ us) us (bool t.from true)
    false_word : {us : List Token} (t : Token) → t.kind ≡ Reserve False
        → IsPrimary text (t ∷ us) us (bool t.from false)
    bound : {us : List Token} {n : ℤ} (i dot t : Token) → i.kind ≡ Name → role (word text i) ≡ int_word
        → dot.kind ≡ Mark Dot → t.kind ≡ Name → bound_of (word text t) ≡ Some n
        → IsPrimary text (i ∷ dot ∷ t ∷ us) us (int i.from n)
    name_alone : {us : List Token} (t : Token) → t.kind ≡ Name → role (word text t) ≡ plain
        → IsPrimary text (t ∷ us) us (name t.from (word text t))
    at_types : {ts us : List Token} {args : TypeTrees} (t o : Token) → t.kind ≡ Name → role (word text t) ≡ plain
        → o.kind ≡ Mark OpenSquare → IsTypes text ts us args
        → IsPrimary text (t ∷ o ∷ ts) us (apply t.from (word text t) args no_trees)
    on_arguments : {ts us : List Token} {es : Trees} (t : Token) → t.kind ≡ Name → role (word text t) ≡ plain
        → IsArguments text ts us es → IsPrimary text (t ∷ ts) us (apply t.from (word text t) no_types es)
    at_types_on_arguments : {ts us vs : List Token} {args : TypeTrees} {es : Trees} (t o : Token) → t.kind ≡ Name
        → role (word text t) ≡ plain → o.kind ≡ Mark OpenSquare → IsTypes text ts us args → IsArguments text us vs es
        → IsPrimary text (t ∷ o ∷ ts) vs (apply t.from (word text t) args es)
    in_round : {ts us : List Token} {e : Tree} (o c : Token) → o.kind ≡ Mark OpenRound → IsExpr text ts (c ∷ us) e
        → c.kind ≡ Mark CloseRound → IsPrimary text (o ∷ ts) us e
    in_block : {ts us : List Token} {e : Tree} → IsBlock text ts us e → IsPrimary text ts us e

  -- "(" [expr {"," expr}] ")"
  pub data IsArguments (text : Word) : List Token → List Token → Trees → Type 0 where
    no_arguments : {us : List Token} (o c : Token) → o.kind ≡ Mark OpenRound → c.kind ≡ Mark CloseRound
        → IsArguments text (o ∷ c ∷ us) us no_trees
    arguments : {ts us : List Token} {es : Trees} (o : Token) → o.kind ≡ Mark OpenRound → IsExprs text ts us es
        → IsArguments text (o ∷ ts) us es

  -- expr {"," expr} ")"
  pub data IsExprs (text : Word) : List Token → List Token → Trees → Type 0 where
    last_of_exprs : {ts us : List Token} {e : Tree} (c : Token) → IsExpr text ts (c ∷ us) e → c.kind ≡ Mark CloseRound
        → IsExprs text ts us (more_trees e no_trees)
    one_more_expr : {ts us vs : List Token} {e : Tree} {es : Trees} (c : Token) → IsExpr text ts (c ∷ us) e
        → c.kind ≡ Mark Comma → IsExprs text us vs es → IsExprs text ts vs (more_trees e es)
