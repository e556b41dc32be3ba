-- The automaton's steps in types and patterns, and its refusal. A step is given the token t, the frames s, and the
-- kind k of the token.
use Rattle.std.specs.Prelude.{ℕ, ℤ, true, false, cond, List, [], ◌∷◌, Option, Some, None}
use Rattle.pp_tokens.specs.declared.token.Token.{Token}
use Rattle.pp_tokens.specs.declared.token.TokenKind.{TokenKind}
use Rattle.pp_tokens.specs.declared.token.TokenKind.TheVariants.{Name, Word as Reserve, Number, Hex, Op, Mark, Hole}
use Rattle.pp_tokens.specs.declared.token.Reserved.TheVariants.{False, If, True}
use Rattle.pp_tokens.specs.declared.token.Operator.TheVariants.{Minus, Assign, Arrow, At}
use Rattle.pp_tokens.specs.declared.token.Bracket.TheVariants.{OpenRound, CloseRound, OpenSquare, CloseSquare, Comma}
use Rattle.pp_tree.specs.Plain.{Word, TypeTree, type_text, no_types, PatternTree, any, int_pattern, bool_pattern}
use Rattle.pp_tree.specs.Plain.{ctor_pattern, no_patterns}
use Rattle.pp_grammar.specs.Words.{word, Role, require_word, decreases_word, role, binds, number_of, negated_of}
use Rattle.pp_grammar.specs.Words.{negative_of, is_signed}
use Rattle.pp_grammar.specs.Patterns.{named_at}
use Rattle.pp_grammar.specs.Units.{class_decl}
use Rattle.pp_grammar.specs.Frames.{Fault, syntax_at, unsupported_at, of_class, of_def, Frame, header, param_type}
use Rattle.pp_grammar.specs.Frames.{result_type, parent_type, object_parent, body_of, claiming, result_name_type}
use Rattle.pp_grammar.specs.Frames.{result_name_type_in_round, type_args, naming, pattern_round, pattern_args}
use Rattle.pp_grammar.specs.Frames.{name_types, cases_of, guarding, arm, val_type, val_value, want, after_name_types}
use Rattle.pp_grammar.specs.Frames.{want_pattern, after_pattern_name, after_pattern_minus, pattern_args_open}
use Rattle.pp_grammar.specs.Frames.{have_pattern, want_type, after_type_name, have_type, want_stat, want_body}
use Rattle.pp_grammar.specs.Frames.{after_lambda_typed, want_param, after_params, Move, go, stop, ends}
use Rattle.pp_grammar.specs.Joining.{types_onto, patterns_onto, no_contracts, with_param, with_list, class_tree}
use Rattle.pp_grammar.specs.Joining.{object_tree}

-- the offset of a pattern
abbrev pub pattern_place : PatternTree → ℕ
pattern_place (any at w) = at
pattern_place (int_pattern at w n) = at
pattern_place (bool_pattern at w b) = at
pattern_place (ctor_pattern at w c ps) = at

module _ (text : Word) (t : Token) where
  -- The token can't stand here. A `require` or `decreases` is unsupported wherever the grammar doesn't show it.
  abbrev pub refused_name : Role → Fault
  refused_name require_word = unsupported_at (word text t) t.from
  refused_name decreases_word = unsupported_at (word text t) t.from
  refused_name _ = syntax_at t.from

  abbrev pub fault_at : TokenKind → Fault
  fault_at Name = refused_name (role (word text t))
  fault_at _ = syntax_at t.from

  abbrev pub refuse : Move
  refuse = stop (fault_at t.kind)

  -- ---- types

  -- behind the type of a parameter
  abbrev pub on_param_type : List Frame → ℕ → Word → TypeTree → TokenKind → Move
  on_param_type (header kind h ∷ s) at w a (Mark Comma) = go (header kind (with_param h at w a) ∷ s) want_param
  on_param_type (header kind h ∷ s) at w a (Mark CloseRound) =
      go (header kind (with_list (with_param h at w a)) ∷ s) after_params
  on_param_type s at w a k = refuse

  -- behind the type of the result
  abbrev pub on_result_type : List Frame → TypeTree → TokenKind → Move
  on_result_type (header of_def h ∷ s) a (Op Assign) = go (body_of h a no_contracts ∷ s) want_body
  on_result_type s a k = refuse

  -- behind the parent: the class ends
  abbrev pub on_parent_type : List Frame → TypeTree → Move
  on_parent_type (header (of_class sealed case trait) h ∷ s) a = ends (class_decl sealed case trait (class_tree h
      (Some a)))
  on_parent_type s a = refuse

  -- behind a type argument
  abbrev pub on_type_arg : List Frame → ℕ → Word → List TypeTree → TypeTree → TokenKind → Move
  on_type_arg s at w ts a (Mark Comma) = go (type_args at w (a ∷ ts) ∷ s) want_type
  on_type_arg s at w ts a (Mark CloseSquare) = go s (have_type (type_text at w (types_onto (a ∷ ts) no_types)))
  on_type_arg s at w ts a k = refuse

  -- .. of a name in an expression
  abbrev pub on_name_type : List Frame → ℕ → Word → List TypeTree → TypeTree → TokenKind → Move
  on_name_type s at w ts a (Mark Comma) = go (name_types at w (a ∷ ts) ∷ s) want_type
  on_name_type s at w ts a (Mark CloseSquare) = go s (after_name_types at w (types_onto (a ∷ ts) no_types))
  on_name_type s at w ts a k = refuse

  -- behind the type of a `val`
  abbrev pub on_val_type : List Frame → ℕ → Word → TypeTree → TokenKind → Move
  on_val_type s at w a (Op Assign) = go (val_value at w (Some a) ∷ s) want
  on_val_type s at w a k = refuse

  -- behind the type of the result's name in a postcondition
  abbrev pub on_result_name_type : List Frame → Word → TypeTree → TokenKind → Move
  on_result_name_type s w a (Op Arrow) = go (claiming w (Some a) ∷ s) want
  on_result_name_type s w a k = refuse

  abbrev pub on_result_name_type_in_round : List Frame → Word → TypeTree → TokenKind → Move
  on_result_name_type_in_round s w a (Mark CloseRound) = go s (after_lambda_typed w a)
  on_result_name_type_in_round s w a k = refuse

  -- behind a whole type
  abbrev pub on_have_type : List Frame → TypeTree → TokenKind → Move
  on_have_type (param_type at w ∷ s) a k = on_param_type s at w a k
  on_have_type (result_type ∷ s) a k = on_result_type s a k
  on_have_type (parent_type ∷ s) a k = on_parent_type s a
  on_have_type (object_parent at w ∷ s) a k = ends (object_tree at w a)
  on_have_type (type_args at w ts ∷ s) a k = on_type_arg s at w ts a k
  on_have_type (name_types at w ts ∷ s) a k = on_name_type s at w ts a k
  on_have_type (val_type at w ∷ s) a k = on_val_type s at w a k
  on_have_type (result_name_type w ∷ s) a k = on_result_name_type s w a k
  on_have_type (result_name_type_in_round w ∷ s) a k = on_result_name_type_in_round s w a k
  on_have_type s a k = refuse

  abbrev pub on_want_type : List Frame → TokenKind → Move
  on_want_type s Name = go s (after_type_name t.from (word text t))
  on_want_type s k = refuse

  abbrev pub on_type_name : List Frame → ℕ → Word → TokenKind → Move
  on_type_name s at w (Mark OpenSquare) = go (type_args at w [] ∷ s) want_type
  on_type_name s at w k = on_have_type s (type_text at w no_types) k

  -- ---- patterns

  -- an integer pattern, if the token is a number that may stand there
  abbrev pub on_int_pattern : List Frame → ℕ → Option ℤ → Move
  on_int_pattern s at (Some n) = go s (have_pattern (int_pattern at None n))
  on_int_pattern s at None = refuse

  abbrev pub on_want_pattern : List Frame → TokenKind → Move
  on_want_pattern s Name = go s (after_pattern_name t.from (word text t))
  on_want_pattern s Hole = go s (have_pattern (any t.from None))
  on_want_pattern s (Number n) = on_int_pattern s t.from (number_of (Number n))
  on_want_pattern s (Hex n) = on_int_pattern s t.from (number_of (Hex n))
  on_want_pattern s (Op Minus) = go s (after_pattern_minus t.from t.to)
  on_want_pattern s (Reserve True) = go s (have_pattern (bool_pattern t.from None true))
  on_want_pattern s (Reserve False) = go s (have_pattern (bool_pattern t.from None false))
  on_want_pattern s (Mark OpenRound) = go (pattern_round ∷ s) want_pattern
  on_want_pattern s k = refuse

  -- behind a minus sign that ends at the offset
  abbrev pub on_pattern_minus : List Frame → ℕ → ℕ → TokenKind → Move
  on_pattern_minus s at end k = on_int_pattern s at (cond (is_signed end t) (negative_of k) (negated_of k))

  -- behind an argument of a constructor
  abbrev pub on_pattern_arg : List Frame → ℕ → Word → List PatternTree → PatternTree → TokenKind → Move
  on_pattern_arg s at w ps p (Mark Comma) = go (pattern_args at w (p ∷ ps) ∷ s) want_pattern
  on_pattern_arg s at w ps p (Mark CloseRound) =
      go s (have_pattern (ctor_pattern at None w (patterns_onto (p ∷ ps) no_patterns)))
  on_pattern_arg s at w ps p k = refuse

  abbrev pub on_pattern_round : List Frame → PatternTree → TokenKind → Move
  on_pattern_round s p (Mark CloseRound) = go s (have_pattern p)
  on_pattern_round s p k = refuse

  -- behind the pattern of a case, in a match whose frame is on top
  abbrev pub on_case_pattern : List Frame → PatternTree → TokenKind → Move
  on_case_pattern s p (Reserve If) = go (guarding p ∷ s) want
  on_case_pattern s p (Op Arrow) = go (arm p None ∷ s) want_stat
  on_case_pattern s p k = refuse

  -- behind a pattern with its name
  abbrev pub on_named_pattern : List Frame → PatternTree → TokenKind → Move
  on_named_pattern (pattern_round ∷ s) p k = on_pattern_round s p k
  on_named_pattern (pattern_args at w ps ∷ s) p k = on_pattern_arg s at w ps p k
  on_named_pattern (cases_of at e cs ∷ s) p k = on_case_pattern (cases_of at e cs ∷ s) p k
  on_named_pattern s p k = refuse

  -- behind a pattern that a name stands before: it can't bind another one
  abbrev pub on_naming : List Frame → Option PatternTree → PatternTree → TokenKind → Move
  on_naming s (Some q) p k = on_named_pattern s q k
  on_naming s None p k = stop (syntax_at (pattern_place p))

  -- behind a whole pattern
  abbrev pub on_have_pattern : List Frame → PatternTree → TokenKind → Move
  on_have_pattern (naming at w ∷ s) p k = on_naming s (named_at at w p) p k
  on_have_pattern s p k = on_named_pattern s p k

  -- a name alone: it binds, or is a constructor
  abbrev pub pattern_of_name : ℕ → Word → PatternTree
  pattern_of_name at w = cond (binds w) (any at (Some w)) (ctor_pattern at None w no_patterns)

  -- behind `NAME @`; a name that stands behind another one's `@` has none
  abbrev pub on_pattern_at : List Frame → ℕ → Word → Move
  on_pattern_at (naming a v ∷ s) at w = refuse
  on_pattern_at s at w = go (naming at w ∷ s) want_pattern

  abbrev pub on_pattern_name : List Frame → ℕ → Word → TokenKind → Move
  on_pattern_name s at w (Mark OpenRound) = go s (pattern_args_open at w)
  on_pattern_name s at w (Op At) = on_pattern_at s at w
  on_pattern_name s at w k = on_have_pattern s (pattern_of_name at w) k

  abbrev pub on_pattern_args_open : List Frame → ℕ → Word → TokenKind → Move
  on_pattern_args_open s at w (Mark CloseRound) = go s (have_pattern (ctor_pattern at None w no_patterns))
  on_pattern_args_open s at w k = on_want_pattern (pattern_args at w [] ∷ s) k
