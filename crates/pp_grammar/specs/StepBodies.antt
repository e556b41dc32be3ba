-- The automaton's steps in statements, contracts and postconditions, and in the heads of classes and functions. A step
-- is given the token t, the frames s, and the kind k of the token.
use Rattle.std.specs.Prelude.{ℕ, Bool, true, false, List, [], ◌∷◌, Option, Some, None}
use Rattle.pp_tokens.specs.declared.token.Token.{Token}
use Rattle.pp_tokens.specs.declared.token.TokenKind.{TokenKind}
use Rattle.pp_tokens.specs.declared.token.TokenKind.TheVariants.{Name, Word as Reserve, Op, Mark, Newline}
use Rattle.pp_tokens.specs.declared.token.Reserved.TheVariants.{Case, Extends, Match, Val}
use Rattle.pp_tokens.specs.declared.token.Operator.TheVariants.{Assign, Arrow, Colon}
use Rattle.pp_tokens.specs.declared.token.Bracket.TheVariants.{OpenRound, CloseRound, OpenSquare, CloseSquare}
use Rattle.pp_tokens.specs.declared.token.Bracket.TheVariants.{OpenBrace, CloseBrace, Comma, Dot, Semicolon}
use Rattle.pp_tree.specs.declared.operator.BinaryOp.{BinaryOp}
use Rattle.pp_tree.specs.Plain.{Word, TypeTree, Tree, name, PostTree}
use Rattle.pp_grammar.specs.Words.{word, Role, plain, require_word, decreases_word, ensuring_word, holds_word}
use Rattle.pp_grammar.specs.Words.{assert_word, int_word, role, binary_of}
use Rattle.pp_grammar.specs.Units.{class_decl}
use Rattle.pp_grammar.specs.Frames.{syntax_at, unsupported_at, Head, Kind, of_class, of_def, Contracts, Placed}
use Rattle.pp_grammar.specs.Frames.{in_parentheses, in_braces, Frame, header, param_type, result_type, parent_type}
use Rattle.pp_grammar.specs.Frames.{object_parent, body_of, head_braces, requiring, measuring, tuple_or_round, post_of}
use Rattle.pp_grammar.specs.Frames.{claiming, claiming_hole, result_name_type, result_name_type_in_round, round}
use Rattle.pp_grammar.specs.Frames.{val_type, val_value, asserting, want, want_type, want_stat, after_val_word}
use Rattle.pp_grammar.specs.Frames.{after_val_name, after_assert_word, after_require, after_decreases, measure_open}
use Rattle.pp_grammar.specs.Frames.{after_last, after_contracted_dot, want_lambda_or_semi, want_lambda}
use Rattle.pp_grammar.specs.Frames.{after_lambda_name, after_lambda_round, after_lambda_round_name, after_lambda_closed}
use Rattle.pp_grammar.specs.Frames.{after_claim, after_head_name, want_type_param, after_type_param, after_type_params}
use Rattle.pp_grammar.specs.Frames.{params_open, after_param_name, after_params, after_object_name, Move, go, stop}
use Rattle.pp_grammar.specs.Frames.{ends}
use Rattle.pp_grammar.specs.Joining.{no_contracts, with_word, has_measure, head_at, with_type_param, with_list}
use Rattle.pp_grammar.specs.Joining.{class_tree, def_tree}
use Rattle.pp_grammar.specs.StepTypes.{refuse}
use Rattle.pp_grammar.specs.StepExprs.{on_want, on_have, on_name, on_int, on_operand_name, on_post_word}
use Rattle.pp_grammar.specs.StepExprs.{on_sealed_brace, on_sealed_case, on_claim_brace, on_measured}
use Rattle.pp_grammar.specs.Joining.{seal}

module _ (text : Word) (t : Token) where
  -- ---- statements

  -- A second `decreases`, and one that stands between two `require`, can't stand there.
  abbrev pub on_require_word : List Frame → Contracts → Option ℕ → Move
  on_require_word s c (Some at) = stop (syntax_at at)
  on_require_word s c None = go (head_braces (with_word c (word text t) t.from) ∷ s) after_require

  abbrev pub on_decreases_word : List Frame → Contracts → Bool → Move
  on_decreases_word s c true = stop (syntax_at t.from)
  on_decreases_word s c false = go (head_braces (with_word c (word text t) t.from) ∷ s) (after_decreases t.from)

  -- contracts stand at the head of a body alone
  abbrev pub on_require : List Frame → Move
  on_require (head_braces c ∷ s) = on_require_word s c c.late
  on_require s = refuse text t

  abbrev pub on_decreases : List Frame → Move
  on_decreases (head_braces c ∷ s) = on_decreases_word s c (has_measure c.measure)
  on_decreases s = refuse text t

  abbrev pub on_stat_name : List Frame → Role → Move
  on_stat_name s assert_word = go s (after_assert_word t.from)
  on_stat_name s require_word = on_require s
  on_stat_name s decreases_word = on_decreases s
  on_stat_name s r = on_operand_name text t s r

  -- a contract, a statement or the last expression is wanted
  abbrev pub on_want_stat : List Frame → TokenKind → Move
  on_want_stat s Newline = go s want_stat
  on_want_stat s (Mark Semicolon) = go s want_stat
  on_want_stat s (Reserve Val) = go s (after_val_word t.from)
  on_want_stat s Name = on_stat_name s (role (word text t))
  on_want_stat s k = on_want text t s k

  abbrev pub on_after_stat : List Frame → TokenKind → Move
  on_after_stat s Newline = go s want_stat
  on_after_stat s (Mark Semicolon) = go s want_stat
  on_after_stat s k = refuse text t

  -- the last expression is read, and semis
  abbrev pub on_after_last : List Frame → Tree → TokenKind → Move
  on_after_last s e Newline = go s (after_last e)
  on_after_last s e (Mark Semicolon) = go s (after_last e)
  on_after_last s e (Mark CloseBrace) = on_sealed_brace text t (seal s e)
  on_after_last s e (Reserve Case) = on_sealed_case text t (seal s e)
  on_after_last s e k = refuse text t

  abbrev pub on_val_word : List Frame → ℕ → TokenKind → Move
  on_val_word s at Name = go s (after_val_name at (word text t))
  on_val_word s at k = refuse text t

  abbrev pub on_val_name : List Frame → ℕ → Word → TokenKind → Move
  on_val_name s at w (Op Colon) = go (val_type at w ∷ s) want_type
  on_val_name s at w (Op Assign) = go (val_value at w None ∷ s) want
  on_val_name s at w k = refuse text t

  abbrev pub on_assert_word : List Frame → ℕ → TokenKind → Move
  on_assert_word s at (Mark OpenRound) = go (asserting at ∷ s) want
  on_assert_word s at k = refuse text t

  abbrev pub on_after_require : List Frame → TokenKind → Move
  on_after_require s (Mark OpenRound) = go (requiring ∷ s) want
  on_after_require s k = refuse text t

  abbrev pub on_after_decreases : List Frame → ℕ → TokenKind → Move
  on_after_decreases s at (Mark OpenRound) = go (measuring at [] ∷ s) measure_open
  on_after_decreases s at k = refuse text t

  abbrev pub on_measure_open : List Frame → TokenKind → Move
  on_measure_open s (Mark OpenRound) = go (tuple_or_round ∷ s) want
  on_measure_open s k = on_want text t s k

  -- behind the inner bracket of a measure
  abbrev pub on_tuple_closed : List Frame → List Tree → Move
  on_tuple_closed (measuring at [] ∷ s) es = on_measured text t s at es
  on_tuple_closed s es = refuse text t

  abbrev pub on_after_tuple : List Frame → List Tree → TokenKind → Move
  on_after_tuple s es (Mark CloseRound) = on_tuple_closed s es
  on_after_tuple s es k = refuse text t

  -- ---- bodies

  abbrev pub on_want_body : List Frame → TokenKind → Move
  on_want_body s (Mark OpenBrace) = go (head_braces no_contracts ∷ s) want_stat
  on_want_body s k = on_want text t s k

  -- a block with contracts ends the body
  abbrev pub on_contracted_end : List Frame → Tree → Move
  on_contracted_end (body_of h a c ∷ s) e = ends (def_tree h a c e None)
  on_contracted_end s e = refuse text t

  -- a block with contracts is no operand: its first contract can't stand there
  abbrev pub on_misplaced : Option Placed → Move
  on_misplaced (Some p) = stop (unsupported_at p.word p.at)
  on_misplaced None = refuse text t

  abbrev pub on_contracted_operand : List Frame → Move
  on_contracted_operand (body_of h a c ∷ s) = on_misplaced c.first
  on_contracted_operand s = refuse text t

  abbrev pub on_contracted_operator : List Frame → Option BinaryOp → Move
  on_contracted_operator s (Some op) = on_contracted_operand s
  on_contracted_operator s None = refuse text t

  abbrev pub on_have_contracted : List Frame → Tree → TokenKind → Move
  on_have_contracted s e (Mark Dot) = go s (after_contracted_dot e)
  on_have_contracted s e Name = on_post_word text t s e false (role (word text t))
  on_have_contracted s e Newline = on_contracted_end s e
  on_have_contracted s e (Mark Semicolon) = on_contracted_end s e
  on_have_contracted s e (Mark CloseBrace) = on_contracted_end s e
  on_have_contracted s e (Op o) = on_contracted_operator s (binary_of o)
  on_have_contracted s e (Reserve Match) = on_contracted_operand s
  on_have_contracted s e k = refuse text t

  abbrev pub on_contracted_name : List Frame → Tree → Role → Move
  on_contracted_name s e ensuring_word = on_post_word text t s e false ensuring_word
  on_contracted_name s e holds_word = on_post_word text t s e false holds_word
  on_contracted_name s e r = on_contracted_operand s

  abbrev pub on_contracted_dot : List Frame → Tree → TokenKind → Move
  on_contracted_dot s e Name = on_contracted_name s e (role (word text t))
  on_contracted_dot s e k = refuse text t

  -- ---- postconditions

  -- behind `ensuring`
  abbrev pub on_after_ensuring : List Frame → ℕ → Tree → TokenKind → Move
  on_after_ensuring s at e (Mark OpenRound) = go (post_of at e in_parentheses ∷ s) want_lambda
  on_after_ensuring s at e (Mark OpenBrace) = go (post_of at e in_braces ∷ s) want_lambda_or_semi
  on_after_ensuring s at e k = refuse text t

  abbrev pub on_want_lambda : List Frame → TokenKind → Move
  on_want_lambda s Name = go s (after_lambda_name t.from (word text t))
  on_want_lambda s (Mark OpenRound) = go s after_lambda_round
  on_want_lambda s k = on_want text t (claiming_hole ∷ s) k

  abbrev pub on_want_lambda_or_semi : List Frame → TokenKind → Move
  on_want_lambda_or_semi s Newline = go s want_lambda_or_semi
  on_want_lambda_or_semi s (Mark Semicolon) = go s want_lambda_or_semi
  on_want_lambda_or_semi s k = on_want_lambda s k

  -- the name that was read before is no operand
  abbrev pub misplaced_name : ℕ → Word → Role → Move
  misplaced_name at w require_word = stop (unsupported_at w at)
  misplaced_name at w decreases_word = stop (unsupported_at w at)
  misplaced_name at w r = stop (syntax_at at)

  -- the name that was read before is the first operand of a claim with a hole
  abbrev pub on_late_name : List Frame → ℕ → Word → Role → TokenKind → Move
  on_late_name s at w plain k = on_name text t s at w k
  on_late_name s at w int_word k = on_int text t s at k
  on_late_name s at w r k = misplaced_name at w r

  abbrev pub on_lambda_name : List Frame → ℕ → Word → TokenKind → Move
  on_lambda_name s at w (Op Arrow) = go (claiming w None ∷ s) want
  on_lambda_name s at w (Op Colon) = go (result_name_type w ∷ s) want_type
  on_lambda_name s at w k = on_late_name (claiming_hole ∷ s) at w (role w) k

  abbrev pub on_lambda_round : List Frame → TokenKind → Move
  on_lambda_round s Name = go s (after_lambda_round_name t.from (word text t))
  on_lambda_round s k = on_want text t (round ∷ claiming_hole ∷ s) k

  abbrev pub on_lambda_round_name : List Frame → ℕ → Word → TokenKind → Move
  on_lambda_round_name s at w (Mark CloseRound) = go s (after_lambda_closed at w)
  on_lambda_round_name s at w (Op Colon) = go (result_name_type_in_round w ∷ s) want_type
  on_lambda_round_name s at w k = on_late_name (round ∷ claiming_hole ∷ s) at w (role w) k

  -- `(NAME)` was the first operand of a claim with a hole
  abbrev pub on_late_round : List Frame → ℕ → Word → Role → TokenKind → Move
  on_late_round s at w plain k = on_have text t s (name at w) false k
  on_late_round s at w r k = misplaced_name at w r

  abbrev pub on_lambda_closed : List Frame → ℕ → Word → TokenKind → Move
  on_lambda_closed s at w (Op Arrow) = go (claiming w None ∷ s) want
  on_lambda_closed s at w k = on_late_round (claiming_hole ∷ s) at w (role w) k

  abbrev pub on_lambda_typed : List Frame → Word → TypeTree → TokenKind → Move
  on_lambda_typed s w a (Op Arrow) = go (claiming w (Some a) ∷ s) want
  on_lambda_typed s w a k = refuse text t

  -- behind a claim in braces, and semis
  abbrev pub on_after_claim : List Frame → Word → Option TypeTree → Tree → TokenKind → Move
  on_after_claim s w a e Newline = go s (after_claim w a e)
  on_after_claim s w a e (Mark Semicolon) = go s (after_claim w a e)
  on_after_claim s w a e (Mark CloseBrace) = on_claim_brace text t s w a e
  on_after_claim s w a e k = refuse text t

  -- behind a postcondition: the function ends
  abbrev pub on_after_body : List Frame → Tree → Option PostTree → Move
  on_after_body (body_of h a c ∷ s) e p = ends (def_tree h a c e p)
  on_after_body s e p = refuse text t

  -- ---- heads

  abbrev pub on_want_name : List Frame → Kind → TokenKind → Move
  on_want_name s kind Name = go (header kind (head_at t.from (word text t)) ∷ s) after_head_name
  on_want_name s kind k = refuse text t

  -- behind the parameters of a class or a function
  abbrev pub on_class_params : List Frame → Bool → Bool → Bool → Head → TokenKind → Move
  on_class_params s sealed case trait h (Reserve Extends) =
      go (parent_type ∷ header (of_class sealed case trait) h ∷ s) want_type
  on_class_params s sealed case trait h k = ends (class_decl sealed case trait (class_tree h None))

  abbrev pub on_def_params : List Frame → Head → TokenKind → Move
  on_def_params s h (Op Colon) = go (result_type ∷ header of_def h ∷ s) want_type
  on_def_params s h k = refuse text t

  abbrev pub on_after_params : List Frame → TokenKind → Move
  on_after_params (header (of_class sealed case trait) h ∷ s) k = on_class_params s sealed case trait h k
  on_after_params (header of_def h ∷ s) k = on_def_params s h k
  on_after_params s k = refuse text t

  abbrev pub on_after_type_params : List Frame → TokenKind → Move
  on_after_type_params s (Mark OpenRound) = go s params_open
  on_after_type_params s k = on_after_params s k

  abbrev pub on_head_name : List Frame → TokenKind → Move
  on_head_name s (Mark OpenSquare) = go s want_type_param
  on_head_name s k = on_after_type_params s k

  abbrev pub on_type_param : List Frame → Move
  on_type_param (header kind h ∷ s) = go (header kind (with_type_param h (word text t)) ∷ s) after_type_param
  on_type_param s = refuse text t

  abbrev pub on_want_type_param : List Frame → TokenKind → Move
  on_want_type_param s Name = on_type_param s
  on_want_type_param s k = refuse text t

  abbrev pub on_after_type_param : List Frame → TokenKind → Move
  on_after_type_param s (Mark Comma) = go s want_type_param
  on_after_type_param s (Mark CloseSquare) = go s after_type_params
  on_after_type_param s k = refuse text t

  abbrev pub on_want_param : List Frame → TokenKind → Move
  on_want_param s Name = go s (after_param_name t.from (word text t))
  on_want_param s k = refuse text t

  abbrev pub on_no_params : List Frame → Move
  on_no_params (header kind h ∷ s) = go (header kind (with_list h) ∷ s) after_params
  on_no_params s = refuse text t

  abbrev pub on_params_open : List Frame → TokenKind → Move
  on_params_open s (Mark CloseRound) = on_no_params s
  on_params_open s k = on_want_param s k

  abbrev pub on_param_name : List Frame → ℕ → Word → TokenKind → Move
  on_param_name s at w (Op Colon) = go (param_type at w ∷ s) want_type
  on_param_name s at w k = refuse text t

  abbrev pub on_want_object_name : List Frame → TokenKind → Move
  on_want_object_name s Name = go s (after_object_name t.from (word text t))
  on_want_object_name s k = refuse text t

  abbrev pub on_object_name : List Frame → ℕ → Word → TokenKind → Move
  on_object_name s at w (Reserve Extends) = go (object_parent at w ∷ s) want_type
  on_object_name s at w k = refuse text t
