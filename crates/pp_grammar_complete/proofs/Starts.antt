-- The token that an expression begins with.
use Rattle.pp_grammar.specs.Bodies.{IsMeasure, last_component, one_more_component}
use Rattle.pp_grammar.specs.Exprs.{IsExpr, IsExprs, IsInfix, IsPrefix, IsPrimary, IsSimple, at_types}
use Rattle.pp_grammar.specs.Exprs.{at_types_on_arguments, block, bound, false_word, if_else, in_block, in_round}
use Rattle.pp_grammar.specs.Exprs.{infix_expr, last_of_exprs, looser, match_of, matched, name_alone, negative}
use Rattle.pp_grammar.specs.Exprs.{no_prefix, number, on_arguments, one_more_expr, operand, operator, prefixed, simple}
use Rattle.pp_grammar.specs.Exprs.{true_word}
use Rattle.pp_grammar.specs.Frames.{Frame, Parsed, args, args_open, want, want_stat, want_then}
use Rattle.pp_grammar.specs.StepBodies.{on_stat_name, on_want_stat}
use Rattle.pp_grammar.specs.StepExprs.{on_args_open, on_operand_name, on_want, on_want_then}
use Rattle.pp_grammar.specs.Words.{Role, int_word, number_of, plain, role, unary_of, word}
use Rattle.pp_grammar_complete.proofs.Steps.{Run, go_on}
use Rattle.pp_tokens.specs.declared.token.Bracket.TheVariants.{CloseRound, OpenBrace, OpenRound, Semicolon}
use Rattle.pp_tokens.specs.declared.token.Operator.{Operator}
use Rattle.pp_tokens.specs.declared.token.Operator.TheVariants.{Flip, Minus, Not}
use Rattle.pp_tokens.specs.declared.token.Reserved.TheVariants.{False, If, True, Val}
use Rattle.pp_tokens.specs.declared.token.Token.{Token}
use Rattle.pp_tokens.specs.declared.token.TokenKind.{TokenKind}
use Rattle.pp_tokens.specs.declared.token.TokenKind.TheVariants.{Hex, Hole, Mark, Name, Newline, Number, Op}
use Rattle.pp_tokens.specs.declared.token.TokenKind.TheVariants.{Word as Reserve}
use Rattle.pp_tree.specs.Plain.{Tree, Trees, TypeTrees, Word}
use Rattle.pp_tree.specs.declared.operator.UnaryOp.{UnaryOp}
use Rattle.std.proofs.Common.{Bool, List, Some, [], ap, false, refl, true, ℕ, ℤ, ◌∙◌, ◌∷◌, ◌≡◌}

-- what begins an operand
abbrev pub starts_with : TokenKind → Role → Bool
starts_with (Number n) r = true
starts_with (Hex n) r = true
starts_with Hole r = true
starts_with Name plain = true
starts_with Name int_word = true
starts_with (Reserve True) r = true
starts_with (Reserve False) r = true
starts_with (Reserve If) r = true
starts_with (Op Minus) r = true
starts_with (Op Not) r = true
starts_with (Op Flip) r = true
starts_with (Mark OpenRound) r = true
starts_with (Mark OpenBrace) r = true
starts_with k r = false

number_starts : (k : TokenKind) (r : Role) (n : ℤ) → number_of k ≡ Some n → starts_with k r ≡ true
number_starts (Number m) r n is = refl
number_starts (Hex m) r n is = refl
number_starts _ r n is = absurd (cc)

unary_starts : (o : Operator) (r : Role) (op : UnaryOp) → unary_of o ≡ Some op → starts_with (Op o) r ≡ true
unary_starts Minus r op is = refl
unary_starts Not r op is = refl
unary_starts Flip r op is = refl
unary_starts _ r op is = absurd (cc)

module _ (text : Word) where
  abbrev pub Starts : List Token → Type 0
  Starts [] = ⊥
  Starts (t ∷ ts) = starts_with t.kind (role (word text t)) ≡ true

  starts_by : (t : Token) (k : TokenKind) → t.kind ≡ k → starts_with k (role (word text t)) ≡ true
      → starts_with t.kind (role (word text t)) ≡ true
  starts_by t k is e = ap (λ x. starts_with x (role (word text t))) is ∙ e

  name_starts : (t : Token) (r : Role) → t.kind ≡ Name → role (word text t) ≡ r → starts_with Name r ≡ true
      → starts_with t.kind (role (word text t)) ≡ true
  name_starts t r is is_r e = starts_by t Name is (ap (starts_with Name) is_r ∙ e)

  primary_starts : {ts us : List Token} {e : Tree} → IsPrimary text ts us e → Starts ts
  primary_starts (number {n = n} t is) = number_starts t.kind _ n is
  primary_starts (true_word t is) = starts_by t _ is refl
  primary_starts (false_word t is) = starts_by t _ is refl
  primary_starts (bound i dot t is r is_d is_t e) = name_starts i int_word is r refl
  primary_starts (name_alone t is r) = name_starts t plain is r refl
  primary_starts (at_types t o is r is_o tys) = name_starts t plain is r refl
  primary_starts (on_arguments t is r es) = name_starts t plain is r refl
  primary_starts (at_types_on_arguments t o is r is_o tys es) = name_starts t plain is r refl
  primary_starts (in_round o c is e is_c) = starts_by o _ is refl
  primary_starts (in_block (block o c is r is_c)) = starts_by o _ is refl

  prefix_starts : {ts us : List Token} {e : Tree} → IsPrefix text ts us e → Starts ts
  prefix_starts (no_prefix (simple p f)) = primary_starts p
  prefix_starts (prefixed t o op is is_op sign r) = starts_by t _ is (unary_starts o _ op is_op)
  prefix_starts (negative m t is sign n f) = starts_by m _ is refl

  pub simple_starts : {ts us : List Token} {e : Tree} → IsSimple text ts us e → Starts ts
  simple_starts (simple p f) = primary_starts p

  pub infix_starts : {l : ℕ} {ts us : List Token} {e : Tree} → IsInfix text l ts us e → Starts ts
  infix_starts (looser r) = infix_starts r
  infix_starts (operand r) = prefix_starts r
  infix_starts (operator t o op a is is_op r) = infix_starts a

  pub expr_starts : {ts us : List Token} {e : Tree} → IsExpr text ts us e → Starts ts
  expr_starts (if_else i o c e is is_o x is_c br a sc is_e r) = starts_by i _ is refl
  expr_starts (matched (match_of m o x is_m is_o cs)) = infix_starts x
  expr_starts (infix_expr r) = infix_starts r

  pub exprs_start : {ts us : List Token} {es : Trees} → IsExprs text ts us es → Starts ts
  exprs_start (last_of_exprs c e is) = expr_starts e
  exprs_start (one_more_expr c e is es) = expr_starts e

  pub measure_starts : {ts us : List Token} {es : List Tree} → IsMeasure text ts us es → Starts ts
  measure_starts (last_component c e is) = expr_starts e
  measure_starts (one_more_component c e is es) = expr_starts e

  -- ---- modes that an operand ends

  stat_name_step : (t : Token) (s : List Frame) (r : Role) → starts_with Name r ≡ true
      → on_stat_name text t s r ≡ on_operand_name text t s r
  stat_name_step t s plain is = refl
  stat_name_step t s int_word is = refl
  stat_name_step t s _ is = absurd (cc)

  stat_step : (t : Token) (s : List Frame) (k : TokenKind) → starts_with k (role (word text t)) ≡ true
      → on_want_stat text t s k ≡ on_want text t s k
  stat_step t s Newline is = absurd (cc)
  stat_step t s (Mark Semicolon) is = absurd (cc)
  stat_step t s (Reserve Val) is = absurd (cc)
  stat_step t s Name is = stat_name_step t s (role (word text t)) is
  stat_step t s _ is = refl

  args_step : (t : Token) (s : List Frame) (at : ℕ) (w : Word) (tys : TypeTrees) (k : TokenKind)
      → starts_with k (role (word text t)) ≡ true
      → on_args_open text t s at w tys k ≡ on_want text t (args at w tys [] ∷ s) k
  args_step t s at w tys (Mark CloseRound) is = absurd (cc)
  args_step t s at w tys _ is = refl

  then_step : (t : Token) (s : List Frame) (k : TokenKind) → starts_with k (role (word text t)) ≡ true
      → on_want_then text t s k ≡ on_want text t s k
  then_step t s Newline is = absurd (cc)
  then_step t s _ is = refl

  module _ (d : Parsed) (b : Bool) where
    pub begins_stat : (ts : List Token) (s : List Frame) → Starts ts → Run text d b ts s want_stat ≡ Run text d b
        ts s want
    begins_stat [] s st = absurd st
    begins_stat (t ∷ ts) s st = go_on text d b t ts _ _ (stat_step t s t.kind st)

    pub begins_args : (ts : List Token) (s : List Frame) (at : ℕ) (w : Word) (tys : TypeTrees) → Starts ts
        → Run text d b ts s (args_open at w tys) ≡ Run text d b ts (args at w tys [] ∷ s) want
    begins_args [] s at w tys st = absurd st
    begins_args (t ∷ ts) s at w tys st = go_on text d b t ts _ _ (args_step t s at w tys t.kind st)

    pub begins_then : (ts : List Token) (s : List Frame) → Starts ts → Run text d b ts s want_then ≡ Run text d b
        ts s want
    begins_then [] s st = absurd st
    begins_then (t ∷ ts) s st = go_on text d b t ts _ _ (then_step t s t.kind st)
