-- The faults of each step in a type or a pattern.
use Rattle.pp_grammar.specs.Frames.{Frame, cases_of, header, name_types, naming, object_parent, of_class, of_def}
use Rattle.pp_grammar.specs.Frames.{param_type, parent_type, pattern_args, pattern_round, result_name_type}
use Rattle.pp_grammar.specs.Frames.{result_name_type_in_round, result_type, type_args, val_type}
use Rattle.pp_grammar.specs.Patterns.{named_at}
use Rattle.pp_grammar.specs.StepTypes.{on_case_pattern, on_have_pattern, on_have_type, on_int_pattern, on_name_type}
use Rattle.pp_grammar.specs.StepTypes.{on_named_pattern, on_naming, on_param_type, on_parent_type, on_pattern_arg}
use Rattle.pp_grammar.specs.StepTypes.{on_pattern_args_open, on_pattern_at, on_pattern_minus, on_pattern_name}
use Rattle.pp_grammar.specs.StepTypes.{on_pattern_round, on_result_name_type, on_result_name_type_in_round}
use Rattle.pp_grammar.specs.StepTypes.{on_result_type, on_type_arg, on_type_name, on_val_type, on_want_pattern}
use Rattle.pp_grammar.specs.StepTypes.{on_want_type, pattern_of_name, pattern_place}
use Rattle.pp_grammar.specs.Words.{binds, is_signed, negated_of, negative_of, number_of, word}
use Rattle.pp_grammar_laws.proofs.Faults.{GoodFrames, GoodMove, GoodPattern, NameOk, good_named, refused}
use Rattle.pp_tokens.specs.declared.token.Bracket.TheVariants.{CloseRound, CloseSquare, Comma, OpenRound, OpenSquare}
use Rattle.pp_tokens.specs.declared.token.Operator.TheVariants.{Arrow, Assign, At, Minus}
use Rattle.pp_tokens.specs.declared.token.Reserved.TheVariants.{False, If, True}
use Rattle.pp_tokens.specs.declared.token.Token.{Token}
use Rattle.pp_tokens.specs.declared.token.TokenKind.{TokenKind}
use Rattle.pp_tokens.specs.declared.token.TokenKind.TheVariants.{Hex, Hole, Mark, Name, Number, Op, Word as Reserve}
use Rattle.pp_tree.specs.Plain.{PatternTree, TypeTree, Word, any, ctor_pattern, no_patterns, no_types, type_text}
use Rattle.std.proofs.Common.{Bool, List, None, Option, Some, [], cond, false, true, ℕ, ℤ, ◌∷◌, ◌≡◌}

module _ (text : Word) (B : ℕ → Type 0) (L : Word → ℕ → Type 0) (t : Token) (bt : B t.from)
    (nt : t.kind ≡ Name → NameOk B L (word text t) t.from) where
  pub good_on_param_type : (x0 : List Frame) (x1 : ℕ) (x2 : Word) (x3 : TypeTree) (x4 : TokenKind)
      → GoodFrames B L x0 → GoodMove B L (on_param_type text t x0 x1 x2 x3 x4)
  good_on_param_type (header kind h ∷ s) at w a (Mark Comma) ok = assumption (bt, ok)
  good_on_param_type (header kind h ∷ s) at w a (Mark CloseRound) ok = assumption (bt, ok)
  good_on_param_type s at w a k ok = refused text B L t bt nt

  pub good_on_result_type : (x0 : List Frame) (x1 : TypeTree) (x2 : TokenKind) → GoodFrames B L x0
      → GoodMove B L (on_result_type text t x0 x1 x2)
  good_on_result_type (header of_def h ∷ s) a (Op Assign) ok = assumption (bt, ok)
  good_on_result_type s a k ok = refused text B L t bt nt

  pub good_on_parent_type : (x0 : List Frame) (x1 : TypeTree) → GoodFrames B L x0
      → GoodMove B L (on_parent_type text t x0 x1)
  good_on_parent_type (header (of_class sealed case trait) h ∷ s) a ok = tt
  good_on_parent_type s a ok = refused text B L t bt nt

  pub good_on_type_arg : (x0 : List Frame) (x1 : ℕ) (x2 : Word) (x3 : List TypeTree) (x4 : TypeTree) (x5 :
      TokenKind) → GoodFrames B L x0 → GoodMove B L (on_type_arg text t x0 x1 x2 x3 x4 x5)
  good_on_type_arg s at w ts a (Mark Comma) ok = assumption (bt, ok)
  good_on_type_arg s at w ts a (Mark CloseSquare) ok = assumption (bt, ok)
  good_on_type_arg s at w ts a k ok = refused text B L t bt nt

  pub good_on_name_type : (x0 : List Frame) (x1 : ℕ) (x2 : Word) (x3 : List TypeTree) (x4 : TypeTree) (x5 :
      TokenKind) → GoodFrames B L x0 → GoodMove B L (on_name_type text t x0 x1 x2 x3 x4 x5)
  good_on_name_type s at w ts a (Mark Comma) ok = assumption (bt, ok)
  good_on_name_type s at w ts a (Mark CloseSquare) ok = assumption (bt, ok)
  good_on_name_type s at w ts a k ok = refused text B L t bt nt

  pub good_on_val_type : (x0 : List Frame) (x1 : ℕ) (x2 : Word) (x3 : TypeTree) (x4 : TokenKind)
      → GoodFrames B L x0 → GoodMove B L (on_val_type text t x0 x1 x2 x3 x4)
  good_on_val_type s at w a (Op Assign) ok = assumption (bt, ok)
  good_on_val_type s at w a k ok = refused text B L t bt nt

  pub good_on_result_name_type : (x0 : List Frame) (x1 : Word) (x2 : TypeTree) (x3 : TokenKind)
      → GoodFrames B L x0 → GoodMove B L (on_result_name_type text t x0 x1 x2 x3)
  good_on_result_name_type s w a (Op Arrow) ok = assumption (bt, ok)
  good_on_result_name_type s w a k ok = refused text B L t bt nt

  pub good_on_result_name_type_in_round : (x0 : List Frame) (x1 : Word) (x2 : TypeTree) (x3 : TokenKind)
      → GoodFrames B L x0 → GoodMove B L (on_result_name_type_in_round text t x0 x1 x2 x3)
  good_on_result_name_type_in_round s w a (Mark CloseRound) ok = assumption (bt, ok)
  good_on_result_name_type_in_round s w a k ok = refused text B L t bt nt

  pub good_on_have_type : (x0 : List Frame) (x1 : TypeTree) (x2 : TokenKind) → GoodFrames B L x0
      → GoodMove B L (on_have_type text t x0 x1 x2)
  good_on_have_type (param_type at w ∷ s) a k ok = good_on_param_type s at w a k (assumption (bt, ok))
  good_on_have_type (result_type ∷ s) a k ok = good_on_result_type s a k (assumption (bt, ok))
  good_on_have_type (parent_type ∷ s) a k ok = good_on_parent_type s a (assumption (bt, ok))
  good_on_have_type (object_parent at w ∷ s) a k ok = tt
  good_on_have_type (type_args at w ts ∷ s) a k ok = good_on_type_arg s at w ts a k (assumption (bt, ok))
  good_on_have_type (name_types at w ts ∷ s) a k ok = good_on_name_type s at w ts a k (assumption (bt, ok))
  good_on_have_type (val_type at w ∷ s) a k ok = good_on_val_type s at w a k (assumption (bt, ok))
  good_on_have_type (result_name_type w ∷ s) a k ok = good_on_result_name_type s w a k (assumption (bt, ok))
  good_on_have_type (result_name_type_in_round w ∷ s) a k ok = good_on_result_name_type_in_round s w a k
      (assumption (bt, ok))
  good_on_have_type s a k ok = refused text B L t bt nt

  pub good_on_want_type : (x0 : List Frame) (x1 : TokenKind) → GoodFrames B L x0
      → GoodMove B L (on_want_type text t x0 x1)
  good_on_want_type s Name ok = assumption (bt, ok)
  good_on_want_type s k ok = refused text B L t bt nt

  pub good_on_type_name : (x0 : List Frame) (x1 : ℕ) (x2 : Word) (x3 : TokenKind) → GoodFrames B L x0
      → GoodMove B L (on_type_name text t x0 x1 x2 x3)
  good_on_type_name s at w (Mark OpenSquare) ok = assumption (bt, ok)
  good_on_type_name s at w k ok = good_on_have_type s (type_text at w no_types) k (assumption (bt, ok))

  pub good_on_int_pattern : (x0 : List Frame) (x1 : ℕ) (x2 : Option ℤ) → GoodFrames B L x0 → B x1
      → GoodMove B L (on_int_pattern text t x0 x1 x2)
  good_on_int_pattern s at (Some n) ok h0 = assumption (bt, ok, h0)
  good_on_int_pattern s at None ok h0 = refused text B L t bt nt

  pub good_on_want_pattern : (x0 : List Frame) (x1 : TokenKind) → GoodFrames B L x0
      → GoodMove B L (on_want_pattern text t x0 x1)
  good_on_want_pattern s Name ok = assumption (bt, ok)
  good_on_want_pattern s Hole ok = assumption (bt, ok)
  good_on_want_pattern s (Number n) ok = good_on_int_pattern s t.from (number_of (Number n)) (assumption (bt, ok))
      (assumption (bt, ok))
  good_on_want_pattern s (Hex n) ok = good_on_int_pattern s t.from (number_of (Hex n)) (assumption (bt, ok))
      (assumption (bt, ok))
  good_on_want_pattern s (Op Minus) ok = assumption (bt, ok)
  good_on_want_pattern s (Reserve True) ok = assumption (bt, ok)
  good_on_want_pattern s (Reserve False) ok = assumption (bt, ok)
  good_on_want_pattern s (Mark OpenRound) ok = assumption (bt, ok)
  good_on_want_pattern s k ok = refused text B L t bt nt

  pub good_on_pattern_minus : (x0 : List Frame) (x1 : ℕ) (x2 : ℕ) (x3 : TokenKind) → GoodFrames B L x0 → B x1
      → GoodMove B L (on_pattern_minus text t x0 x1 x2 x3)
  good_on_pattern_minus s at end k ok h0 = good_on_int_pattern s at (cond (is_signed end t) (negative_of k)
      (negated_of k)) (assumption (bt, ok, h0)) (assumption (bt, ok, h0))

  pub good_on_pattern_arg : (x0 : List Frame) (x1 : ℕ) (x2 : Word) (x3 : List PatternTree) (x4 : PatternTree) (x5 :
      TokenKind) → GoodFrames B L x0 → B x1 → GoodMove B L (on_pattern_arg text t x0 x1 x2 x3 x4 x5)
  good_on_pattern_arg s at w ps p (Mark Comma) ok h0 = assumption (bt, ok, h0)
  good_on_pattern_arg s at w ps p (Mark CloseRound) ok h0 = assumption (bt, ok, h0)
  good_on_pattern_arg s at w ps p k ok h0 = refused text B L t bt nt

  pub good_on_pattern_round : (x0 : List Frame) (x1 : PatternTree) (x2 : TokenKind) → GoodFrames B L x0
      → B (pattern_place x1) → GoodMove B L (on_pattern_round text t x0 x1 x2)
  good_on_pattern_round s p (Mark CloseRound) ok h0 = assumption (bt, ok, h0)
  good_on_pattern_round s p k ok h0 = refused text B L t bt nt

  pub good_on_case_pattern : (x0 : List Frame) (x1 : PatternTree) (x2 : TokenKind) → GoodFrames B L x0
      → GoodMove B L (on_case_pattern text t x0 x1 x2)
  good_on_case_pattern s p (Reserve If) ok = assumption (bt, ok)
  good_on_case_pattern s p (Op Arrow) ok = assumption (bt, ok)
  good_on_case_pattern s p k ok = refused text B L t bt nt

  pub good_on_named_pattern : (x0 : List Frame) (x1 : PatternTree) (x2 : TokenKind) → GoodFrames B L x0
      → B (pattern_place x1) → GoodMove B L (on_named_pattern text t x0 x1 x2)
  good_on_named_pattern (pattern_round ∷ s) p k ok h0 = good_on_pattern_round s p k (assumption (bt, ok, h0))
      (assumption (bt, ok, h0))
  good_on_named_pattern (pattern_args at w ps ∷ s) p k ok h0 = good_on_pattern_arg s at w ps p k (assumption (
    bt,
    ok,
    h0,
  )) (assumption (bt, ok, h0))
  good_on_named_pattern (cases_of at e cs ∷ s) p k ok h0 = good_on_case_pattern (cases_of at e cs ∷ s) p k
      (assumption (bt, ok, h0))
  good_on_named_pattern s p k ok h0 = refused text B L t bt nt

  pub good_on_naming : (x0 : List Frame) (x1 : Option PatternTree) (x2 : PatternTree) (x3 : TokenKind)
      → GoodFrames B L x0 → B (pattern_place x2) → GoodPattern B L x1 → GoodMove B L (on_naming text t x0 x1 x2 x3)
  good_on_naming s (Some q) p k g h0 h1 = good_on_named_pattern s q k g h1
  good_on_naming s None p k g h0 h1 = h0

  pub good_on_have_pattern : (x0 : List Frame) (x1 : PatternTree) (x2 : TokenKind) → GoodFrames B L x0
      → B (pattern_place x1) → GoodMove B L (on_have_pattern text t x0 x1 x2)
  good_on_have_pattern (naming at w ∷ s) p k g h0 = good_on_naming s (named_at at w p) p k g.1 h0 (good_named B L
      at w p g.0)
  good_on_have_pattern s p k g h0 = good_on_named_pattern s p k g h0

  pub good_on_pattern_at : (x0 : List Frame) (x1 : ℕ) (x2 : Word) → GoodFrames B L x0 → B x1
      → GoodMove B L (on_pattern_at text t x0 x1 x2)
  good_on_pattern_at (naming a v ∷ s) at w ok h0 = refused text B L t bt nt
  good_on_pattern_at s at w ok h0 = assumption (bt, ok, h0)

  good_leaf : (b : Bool) (at : ℕ) (w : Word) → B at → B (pattern_place (cond b (any at (Some w)) (ctor_pattern at
      None w no_patterns)))
  good_leaf true at w h = h
  good_leaf false at w h = h

  pub good_on_pattern_name : (x0 : List Frame) (x1 : ℕ) (x2 : Word) (x3 : TokenKind) → GoodFrames B L x0 → B x1
      → GoodMove B L (on_pattern_name text t x0 x1 x2 x3)
  good_on_pattern_name s at w (Mark OpenRound) g h0 = assumption (bt, g, h0)
  good_on_pattern_name s at w (Op At) g h0 = good_on_pattern_at s at w g h0
  good_on_pattern_name s at w k g h0 = good_on_have_pattern s (pattern_of_name text t at w) k g (good_leaf (binds
      w) at w h0)

  pub good_on_pattern_args_open : (x0 : List Frame) (x1 : ℕ) (x2 : Word) (x3 : TokenKind) → GoodFrames B L x0
      → B x1 → GoodMove B L (on_pattern_args_open text t x0 x1 x2 x3)
  good_on_pattern_args_open s at w (Mark CloseRound) ok h0 = assumption (bt, ok, h0)
  good_on_pattern_args_open s at w k ok h0 = good_on_want_pattern (pattern_args at w [] ∷ s) k (assumption (
    bt,
    ok,
    h0,
  ))
