-- The automaton's steps in expressions. A step is given the token t, the frames s, and the kind k of the token.
use Rattle.std.specs.Prelude.{ℕ, ℤ, Bool, true, false, cond, nat_le, List, [], ◌∷◌, Option, Some, None}
use Rattle.pp_tokens.specs.declared.token.Token.{Token}
use Rattle.pp_tokens.specs.declared.token.TokenKind.{TokenKind}
use Rattle.pp_tokens.specs.declared.token.TokenKind.TheVariants.{Name, Word as Reserve, Number, Hex, Op, Mark, Hole}
use Rattle.pp_tokens.specs.declared.token.TokenKind.TheVariants.{Newline}
use Rattle.pp_tokens.specs.declared.token.Reserved.TheVariants.{Case, Else, False, If, Match, True}
use Rattle.pp_tokens.specs.declared.token.Operator.TheVariants.{Minus, Not, Flip, Arrow}
use Rattle.pp_tokens.specs.declared.token.Bracket.TheVariants.{OpenRound, CloseRound, OpenSquare, OpenBrace, CloseBrace}
use Rattle.pp_tokens.specs.declared.token.Bracket.TheVariants.{Comma, Dot, Semicolon}
use Rattle.pp_tree.specs.declared.operator.BinaryOp.{BinaryOp}
use Rattle.pp_tree.specs.declared.operator.UnaryOp.TheVariants as unary_op
use Rattle.pp_tree.specs.Plain.{Word, TypeTree, TypeTrees, no_types, Tree, int, bool, name, apply, field, matching}
use Rattle.pp_tree.specs.Plain.{no_trees, no_cases}
use Rattle.pp_grammar.specs.Words.{word, res, Role, plain, ensuring_word, holds_word, int_word, role, bound_of}
use Rattle.pp_grammar.specs.Words.{binary_of, level, loosest, tightest, number_of, negative_of, is_signed}
use Rattle.pp_grammar.specs.Bodies.{holding_at}
use Rattle.pp_grammar.specs.Frames.{syntax_at, Contracts, Placed, CaseText, in_parentheses, in_braces, Frame, body_of}
use Rattle.pp_grammar.specs.Frames.{head_braces, requiring, measuring, tuple_or_round, in_tuple, post_of, claiming}
use Rattle.pp_grammar.specs.Frames.{claiming_hole, round, name_types, args, prefixing, left, if_test, if_then, if_rest}
use Rattle.pp_grammar.specs.Frames.{cases_of, guarding, arm, braces, val_value, after_val, asserting, after_assert}
use Rattle.pp_grammar.specs.Frames.{want, have, after_name, args_open, after_int, after_int_dot, after_minus}
use Rattle.pp_grammar.specs.Frames.{have_negative, after_negative_dot, after_dot, after_if, want_then, want_else}
use Rattle.pp_grammar.specs.Frames.{after_match, want_case, have_matched, after_matched_dot, want_pattern, want_type}
use Rattle.pp_grammar.specs.Frames.{want_stat, after_stat, after_last, after_tuple, have_contracted, after_ensuring}
use Rattle.pp_grammar.specs.Frames.{after_claim, after_body, Move, go, stop, ends}
use Rattle.pp_grammar.specs.Joining.{trees_onto, cases_onto, floor, takes_hole, Operand, unwind, Sealed, seal}
use Rattle.pp_grammar.specs.Joining.{with_requirement, with_measure, def_tree}
use Rattle.pp_grammar.specs.StepTypes.{refuse}

module _ (text : Word) (t : Token) where
  -- ---- where an operand is wanted

  abbrev pub on_number : List Frame → Option ℤ → Move
  on_number s (Some n) = go s (have (int t.from n) false)
  on_number s None = refuse text t

  abbrev pub on_operand_name : List Frame → Role → Move
  on_operand_name s plain = go s (after_name t.from (word text t))
  on_operand_name s int_word = go s (after_int t.from)
  on_operand_name s r = refuse text t

  -- an operand is wanted, with or without a prefix
  abbrev pub on_want : List Frame → TokenKind → Move
  on_want s (Number n) = on_number s (number_of (Number n))
  on_want s (Hex n) = on_number s (number_of (Hex n))
  on_want s Name = on_operand_name s (role (word text t))
  on_want s (Reserve True) = go s (have (bool t.from true) false)
  on_want s (Reserve False) = go s (have (bool t.from false) false)
  on_want s Hole = cond (takes_hole s) (go s (have (name t.from res) true)) (refuse text t)
  on_want s (Op Minus) = cond (nat_le (floor s) tightest) (go s (after_minus t.from t.to)) (refuse text t)
  on_want s (Op Not) = cond (nat_le (floor s) tightest) (go (prefixing t.from unary_op.Not ∷ s) want) (refuse text t)
  on_want s (Op Flip) = cond (nat_le (floor s) tightest) (go (prefixing t.from unary_op.Flip ∷ s) want) (refuse
      text t)
  on_want s (Mark OpenRound) = go (round ∷ s) want
  on_want s (Mark OpenBrace) = go (braces ∷ s) want_stat
  on_want s (Reserve If) = cond (nat_le (floor s) 0) (go s (after_if t.from)) (refuse text t)
  on_want s k = refuse text t

  -- behind a minus sign: it is part of a number directly behind it
  abbrev pub on_negative : List Frame → ℕ → Option ℤ → Move
  on_negative s at (Some n) = go s (have_negative (int at n))
  on_negative s at None = refuse text t

  abbrev pub on_minus : List Frame → ℕ → ℕ → TokenKind → Move
  on_minus s at end k =
      cond (is_signed end t) (on_negative s at (negative_of k)) (on_want (prefixing at unary_op.Neg ∷ s) k)

  abbrev pub on_if : List Frame → ℕ → TokenKind → Move
  on_if s at (Mark OpenRound) = go (if_test at ∷ s) want
  on_if s at k = refuse text t

  abbrev pub on_want_then : List Frame → TokenKind → Move
  on_want_then s Newline = go s want_then
  on_want_then s k = on_want s k

  -- ---- behind a whole expression, at a token that ends it

  -- the claim of a postcondition ends with its bracket
  abbrev pub on_claim_round : List Frame → Word → Option TypeTree → Tree → Move
  on_claim_round (post_of at b in_parentheses ∷ s) w a e =
      go s (after_body b (Some (record { at = at; name = w; of = a; claim = e })))
  on_claim_round s w a e = refuse text t

  abbrev pub on_claim_brace : List Frame → Word → Option TypeTree → Tree → Move
  on_claim_brace (post_of at b in_braces ∷ s) w a e =
      go s (after_body b (Some (record { at = at; name = w; of = a; claim = e })))
  on_claim_brace s w a e = refuse text t

  abbrev pub on_claim_semi : List Frame → Word → Option TypeTree → Tree → Move
  on_claim_semi (post_of at b in_braces ∷ s) w a e = go (post_of at b in_braces ∷ s) (after_claim w a e)
  on_claim_semi s w a e = refuse text t

  -- `require(..)` is read
  abbrev pub on_required : List Frame → Tree → Move
  on_required (head_braces c ∷ s) e = go (head_braces (with_requirement c e) ∷ s) after_stat
  on_required s e = refuse text t

  -- `decreases(..)` is read, with its components, the last first
  abbrev pub on_measured : List Frame → ℕ → List Tree → Move
  on_measured (head_braces c ∷ s) at es = go (head_braces (with_measure c at es) ∷ s) after_stat
  on_measured s at es = refuse text t

  abbrev pub on_round_closed : List Frame → Tree → Move
  on_round_closed (round ∷ s) e = go s (have e false)
  on_round_closed (args at w ts es ∷ s) e = go s (have (apply at w ts (trees_onto (e ∷ es) no_trees)) false)
  on_round_closed (if_test at ∷ s) e = go (if_then at e ∷ s) want_then
  on_round_closed (asserting at ∷ s) e = go (after_assert at e ∷ s) after_stat
  on_round_closed (requiring ∷ s) e = on_required s e
  on_round_closed (measuring at es ∷ s) e = on_measured s at (e ∷ es)
  on_round_closed (tuple_or_round ∷ s) e = go s (have e false)
  on_round_closed (in_tuple es ∷ s) e = go s (after_tuple (e ∷ es))
  on_round_closed (claiming w a ∷ s) e = on_claim_round s w a e
  on_round_closed s e = refuse text t

  abbrev pub on_comma : List Frame → Tree → Move
  on_comma (args at w ts es ∷ s) e = go (args at w ts (e ∷ es) ∷ s) want
  on_comma (measuring at es ∷ s) e = go (measuring at (e ∷ es) ∷ s) want
  on_comma (tuple_or_round ∷ s) e = go (in_tuple (e ∷ []) ∷ s) want
  on_comma (in_tuple es ∷ s) e = go (in_tuple (e ∷ es) ∷ s) want
  on_comma s e = refuse text t

  abbrev pub on_else : List Frame → Tree → Move
  on_else (if_then at c ∷ s) e = go (if_rest at c e ∷ s) want
  on_else s e = refuse text t

  -- the braces at the head of a body are closed: with contracts they are no expression any more
  abbrev pub on_head_closed : List Frame → Contracts → Option Placed → Tree → Move
  on_head_closed (body_of h a d ∷ s) c (Some p) e = go (body_of h a c ∷ s) (have_contracted e)
  on_head_closed (body_of h a d ∷ s) c None e = go (body_of h a d ∷ s) (have e false)
  on_head_closed s c p e = refuse text t

  -- the body of a case is read: the match ends, or the next case begins
  abbrev pub on_match_closed : List Frame → CaseText → Move
  on_match_closed (cases_of at x cs ∷ s) c = go s (have_matched (matching at x (cases_onto (c ∷ cs) no_cases)))
  on_match_closed s c = refuse text t

  abbrev pub on_next_case : List Frame → CaseText → Move
  on_next_case (cases_of at x cs ∷ s) c = go (cases_of at x (c ∷ cs) ∷ s) want_pattern
  on_next_case s c = refuse text t

  -- the expression is the last of a block, a body or a claim in braces
  abbrev pub on_brace_closed : List Frame → Tree → Move
  on_brace_closed (braces ∷ s) e = go s (have e false)
  on_brace_closed (head_braces c ∷ s) e = on_head_closed s c c.first e
  on_brace_closed (arm p g ∷ s) e = on_match_closed s (record { pattern = p; guard = g; body = e })
  on_brace_closed (claiming w a ∷ s) e = on_claim_brace s w a e
  on_brace_closed (body_of h a c ∷ s) e = ends (def_tree h a c e None)
  on_brace_closed s e = refuse text t

  abbrev pub on_case_ended : List Frame → Tree → Move
  on_case_ended (arm p g ∷ s) e = on_next_case s (record { pattern = p; guard = g; body = e })
  on_case_ended s e = refuse text t

  -- a semicolon or a newline behind an expression
  abbrev pub on_semi : List Frame → Tree → Move
  on_semi (val_value at w a ∷ s) e = go (after_val at w a e ∷ s) want_stat
  on_semi (after_val at w a x ∷ s) e = go (after_val at w a x ∷ s) (after_last e)
  on_semi (after_assert at x ∷ s) e = go (after_assert at x ∷ s) (after_last e)
  on_semi (braces ∷ s) e = go (braces ∷ s) (after_last e)
  on_semi (head_braces c ∷ s) e = go (head_braces c ∷ s) (after_last e)
  on_semi (arm p g ∷ s) e = go (arm p g ∷ s) (after_last e)
  on_semi (claiming w a ∷ s) e = on_claim_semi s w a e
  on_semi (body_of h a c ∷ s) e = ends (def_tree h a c e None)
  on_semi s e = refuse text t

  abbrev pub on_semicolon : List Frame → Tree → Move
  on_semicolon (if_then at c ∷ s) e = go (if_then at c ∷ s) (want_else e)
  on_semicolon s e = on_semi s e

  -- the frames and the last expression behind the statements
  abbrev pub on_sealed_brace : Sealed → Move
  on_sealed_brace b = on_brace_closed b.frames b.tree

  abbrev pub on_sealed_case : Sealed → Move
  on_sealed_case b = on_case_ended b.frames b.tree

  -- an expression without the hole ends
  abbrev pub on_expr_end : List Frame → Tree → TokenKind → Move
  on_expr_end s e (Mark CloseRound) = on_round_closed s e
  on_expr_end s e (Mark Comma) = on_comma s e
  on_expr_end s e (Mark CloseBrace) = on_sealed_brace (seal s e)
  on_expr_end s e (Mark Semicolon) = on_semicolon s e
  on_expr_end s e Newline = on_semi s e
  on_expr_end s e (Reserve Else) = on_else s e
  on_expr_end s e (Reserve Case) = on_sealed_case (seal s e)
  on_expr_end s e k = refuse text t

  -- an expression with the hole ends: it is a claim
  abbrev pub on_hole_end : List Frame → Tree → TokenKind → Move
  on_hole_end (claiming_hole ∷ s) e (Mark CloseRound) = on_claim_round s res None e
  on_hole_end (claiming_hole ∷ s) e (Mark CloseBrace) = on_claim_brace s res None e
  on_hole_end (claiming_hole ∷ s) e (Mark Semicolon) = on_claim_semi s res None e
  on_hole_end (claiming_hole ∷ s) e Newline = on_claim_semi s res None e
  on_hole_end s e k = refuse text t

  abbrev pub on_end : List Frame → Tree → Bool → TokenKind → Move
  on_end s e true k = on_hole_end s e k
  on_end s e false k = on_expr_end s e k

  abbrev pub on_unwound : Operand → TokenKind → Move
  on_unwound u k = on_end u.frames u.tree u.holed k

  -- ---- behind an operand

  abbrev pub on_operator : BinaryOp → Operand → Move
  on_operator op u = go (left t.from op u.tree u.holed ∷ u.frames) want

  -- `=>` ends a guard
  abbrev pub on_guard : List Frame → Tree → Bool → Move
  on_guard (guarding p ∷ s) e false = go (arm p (Some e) ∷ s) want_stat
  on_guard s e h = refuse text t

  abbrev pub on_match : List Frame → Tree → Bool → Move
  on_match s e true = refuse text t
  on_match s e false = cond (nat_le (floor s) 0) (go s (after_match t.from e)) (refuse text t)

  -- `ensuring` or `holds` behind what the body of a function is
  abbrev pub on_ensuring : List Frame → Tree → Bool → Move
  on_ensuring (body_of h a c ∷ s) e false = go (body_of h a c ∷ s) (after_ensuring t.from e)
  on_ensuring s e h = refuse text t

  abbrev pub on_holds : List Frame → Tree → Bool → Move
  on_holds (body_of h a c ∷ s) e false = go (body_of h a c ∷ s) (after_body e (holding_at t))
  on_holds s e h = refuse text t

  abbrev pub on_post_word : List Frame → Tree → Bool → Role → Move
  on_post_word s e h ensuring_word = on_ensuring s e h
  on_post_word s e h holds_word = on_holds s e h
  on_post_word s e h r = refuse text t

  abbrev pub on_post_operand : Operand → Move
  on_post_operand u = on_post_word u.frames u.tree u.holed (role (word text t))

  abbrev pub on_binary : List Frame → Tree → Bool → Option BinaryOp → Move
  on_binary s e h (Some op) = on_operator op (unwind (level op) s e h)
  on_binary s e h None = refuse text t

  -- behind an operand with its prefix
  abbrev pub on_operand : List Frame → Tree → Bool → TokenKind → Move
  on_operand s e h (Op Arrow) = let u = unwind loosest s e h in on_guard u.frames u.tree u.holed
  on_operand s e h (Op o) = on_binary s e h (binary_of o)
  on_operand s e h (Reserve Match) = let u = unwind loosest s e h in on_match u.frames u.tree u.holed
  on_operand s e h Name = on_post_operand (unwind loosest s e h)
  on_operand s e h k = on_unwound (unwind 0 s e h) k

  -- behind a simple expression, which fields may follow
  abbrev pub on_have : List Frame → Tree → Bool → TokenKind → Move
  on_have s e h (Mark Dot) = go s (after_dot e h)
  on_have s e h k = on_operand s e h k

  -- a name behind a dot: of a field, `ensuring` or `holds`
  abbrev pub on_dot_name : List Frame → Tree → Bool → Role → Move
  on_dot_name s e h plain = go s (have (field t.from e (word text t)) h)
  on_dot_name s e h r = on_post_word s e h r

  abbrev pub on_dot : List Frame → Tree → Bool → TokenKind → Move
  on_dot s e h Name = on_dot_name s e h (role (word text t))
  on_dot s e h k = refuse text t

  abbrev pub on_have_negative : List Frame → Tree → TokenKind → Move
  on_have_negative s e (Mark Dot) = go s (after_negative_dot e)
  on_have_negative s e k = on_operand s e false k

  abbrev pub on_negative_field : List Frame → Tree → Role → Move
  on_negative_field s e plain = go s (have_negative (field t.from e (word text t)))
  on_negative_field s e r = refuse text t

  abbrev pub on_negative_dot : List Frame → Tree → TokenKind → Move
  on_negative_dot s e Name = on_negative_field s e (role (word text t))
  on_negative_dot s e k = refuse text t

  -- behind a match, which only what ends an expression may follow; a dot only where it is the body of a function
  abbrev pub on_match_dot : List Frame → Tree → Move
  on_match_dot (body_of h a c ∷ s) e = go (body_of h a c ∷ s) (after_matched_dot e)
  on_match_dot s e = refuse text t

  abbrev pub on_have_matched : List Frame → Tree → TokenKind → Move
  on_have_matched s e (Mark Dot) = on_match_dot s e
  on_have_matched s e Name = on_post_word s e false (role (word text t))
  on_have_matched s e k = on_unwound (unwind 0 s e false) k

  abbrev pub on_matched_dot : List Frame → Tree → TokenKind → Move
  on_matched_dot s e Name = on_post_word s e false (role (word text t))
  on_matched_dot s e k = refuse text t

  -- ---- behind a name

  abbrev pub on_name : List Frame → ℕ → Word → TokenKind → Move
  on_name s at w (Mark OpenSquare) = go (name_types at w [] ∷ s) want_type
  on_name s at w (Mark OpenRound) = go s (args_open at w no_types)
  on_name s at w k = on_have s (name at w) false k

  abbrev pub on_name_types : List Frame → ℕ → Word → TypeTrees → TokenKind → Move
  on_name_types s at w ts (Mark OpenRound) = go s (args_open at w ts)
  on_name_types s at w ts k = on_have s (apply at w ts no_trees) false k

  abbrev pub on_args_open : List Frame → ℕ → Word → TypeTrees → TokenKind → Move
  on_args_open s at w ts (Mark CloseRound) = go s (have (apply at w ts no_trees) false)
  on_args_open s at w ts k = on_want (args at w ts [] ∷ s) k

  -- `Int` stands before its bounds alone
  abbrev pub on_int : List Frame → ℕ → TokenKind → Move
  on_int s at (Mark Dot) = go s (after_int_dot at)
  on_int s at k = stop (syntax_at at)

  abbrev pub on_bound : List Frame → ℕ → Option ℤ → Move
  on_bound s at (Some n) = go s (have (int at n) false)
  on_bound s at None = refuse text t

  abbrev pub on_int_dot : List Frame → ℕ → TokenKind → Move
  on_int_dot s at Name = on_bound s at (bound_of (word text t))
  on_int_dot s at k = refuse text t

  -- ---- matches

  abbrev pub on_match_word : List Frame → ℕ → Tree → TokenKind → Move
  on_match_word s at e (Mark OpenBrace) = go (cases_of at e [] ∷ s) want_case
  on_match_word s at e k = refuse text t

  abbrev pub on_want_case : List Frame → TokenKind → Move
  on_want_case s (Reserve Case) = go s want_pattern
  on_want_case s k = refuse text t

  -- behind `;` in the first branch of an `if`
  abbrev pub on_want_else : List Frame → Tree → TokenKind → Move
  on_want_else s e (Reserve Else) = on_else s e
  on_want_else s e k = refuse text t
