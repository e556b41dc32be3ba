-- The frames, modes and moves of the automaton that the parser's values stand for. Frames and modes hold no names,
-- trees or lists: these are their parts, which lie on the stack, those of the mode on top, below them those of the
-- frames, the last frame first.
use Rattle.std.specs.Prelude.{◌≡◌, List, [], ◌∷◌, Option, option_map, Result, MatchResult}
use Rattle.pp_tree.specs.Plain.{Word, TypeTree, no_types, PatternTree, Tree, PostTree, DeclTree}
use Rattle.pp_tree_build.specs.Parts.{claim_parts}
use Rattle.pp_tree.specs.Shown.{tree_of, type_of, pattern_of, decl_of}
use Rattle.pp_tokens.specs.declared.token.Token.{Token}
use Rattle.pp_grammar.specs.Automaton.{on_mode}
use Rattle.pp_grammar.specs.Frames as plain
use Rattle.pp_grammar.specs.Joining.{types_onto}
use Rattle.pp_parse_state.specs.declared.fault.Stop.{Stop}
use Rattle.pp_parse_state.specs.declared.fault.Stop.TheVariants.{Memory, Syntax, Unsupported}
use Rattle.pp_parse_state.specs.declared.frame.Frame.{Frame}
use Rattle.pp_parse_state.specs.declared.frame.Frame.TheVariants as frame
use Rattle.pp_parse_state.specs.declared.mode.Mode.{Mode}
use Rattle.pp_parse_state.specs.declared.mode.Mode.TheVariants as mode
use Rattle.pp_parse_state.specs.declared.mode.Move.{Move}
use Rattle.pp_parse_state.specs.declared.mode.Move.TheVariants.{Go, Ends}
use Rattle.pp_parse_state.specs.declared.stack.Stack.{Stack}
use Rattle.pp_parse_state.specs.declared.spares.Spares as declared_spares
use Rattle.pp_parse_state.specs.Values.{stacked, kind_of, head_of, contracts_of, around_of, case_text}
use Rattle.pp_parse_state.specs.Parts.{Parts, Spares, no_parts, rest, top_name, top_type, top_pattern, top_expr}
use Rattle.pp_parse_state.specs.Parts.{second_expr}
use Rattle.pp_parse_state.specs.Parts.{top_given_type, top_guard, top_type_list, top_pattern_list, top_expr_list}
use Rattle.pp_parse_state.specs.Parts.{top_case_list, top_head, top_contracts, top_post, top_decl}

-- ---- frames

-- the automaton's frame that a frame stands for, above these parts
abbrev pub frame_of : Frame → Parts → plain.Frame
frame_of (frame.Header k) p = plain.header (kind_of k) (top_head p)
frame_of (frame.ParamType at) p = plain.param_type at (top_name p)
frame_of frame.ResultType p = plain.result_type
frame_of frame.ParentType p = plain.parent_type
frame_of (frame.ObjectParent at) p = plain.object_parent at (top_name p)
frame_of frame.BodyOf p = plain.body_of (top_head p) (top_type p) (top_contracts p)
frame_of frame.HeadBraces p = plain.head_braces (top_contracts p)
frame_of frame.Requiring p = plain.requiring
frame_of (frame.Measuring at) p = plain.measuring at (top_expr_list p)
frame_of frame.TupleOrRound p = plain.tuple_or_round
frame_of frame.InTuple p = plain.in_tuple (top_expr_list p)
frame_of (frame.PostOf at a) p = plain.post_of at (top_expr p) (around_of a)
frame_of frame.Claiming p = plain.claiming (top_name p) (top_given_type p)
frame_of frame.ClaimingHole p = plain.claiming_hole
frame_of frame.ResultNameType p = plain.result_name_type (top_name p)
frame_of frame.ResultNameTypeInRound p = plain.result_name_type_in_round (top_name p)
frame_of (frame.TypeArgs at) p = plain.type_args at (top_name p) (top_type_list p)
frame_of (frame.Naming at) p = plain.naming at (top_name p)
frame_of frame.PatternRound p = plain.pattern_round
frame_of (frame.PatternArgs at) p = plain.pattern_args at (top_name p) (top_pattern_list p)
frame_of frame.Round p = plain.round
frame_of (frame.NameTypes at) p = plain.name_types at (top_name p) (top_type_list p)
frame_of (frame.Args at) p =
    plain.args at (top_name p) (types_onto (top_type_list p) no_types) (top_expr_list p)
frame_of (frame.Prefixing at op) p = plain.prefixing at op
frame_of (frame.Left at op h) p = plain.left at op (top_expr p) h
frame_of (frame.IfTest at) p = plain.if_test at
frame_of (frame.IfThen at) p = plain.if_then at (top_expr p)
frame_of (frame.IfRest at) p = plain.if_rest at (second_expr p) (top_expr p)
frame_of (frame.CasesOf at) p = plain.cases_of at (top_expr p) (top_case_list p)
frame_of frame.Guarding p = plain.guarding (top_pattern p)
frame_of frame.Arm p = plain.arm (top_pattern p) (top_guard p)
frame_of frame.Braces p = plain.braces
frame_of (frame.ValType at) p = plain.val_type at (top_name p)
frame_of (frame.ValValue at) p = plain.val_value at (top_name p) (top_given_type p)
frame_of (frame.AfterVal at) p =
    plain.after_val at (top_name p) (top_given_type p) (top_expr p)
frame_of (frame.Asserting at) p = plain.asserting at
frame_of (frame.AfterAssert at) p = plain.after_assert at (top_expr p)

-- the parts below those of the frame
abbrev pub below : Frame → Parts → Parts
below (frame.Header k) p = record p { heads = rest p.heads }
below (frame.ParamType at) p = record p { names = rest p.names }
below (frame.ObjectParent at) p = record p { names = rest p.names }
below frame.BodyOf p = record p { heads = rest p.heads; types = rest p.types; contracts = rest p.contracts }
below frame.HeadBraces p = record p { contracts = rest p.contracts }
below (frame.Measuring at) p = record p { expr_lists = rest p.expr_lists }
below frame.InTuple p = record p { expr_lists = rest p.expr_lists }
below (frame.PostOf at a) p = record p { exprs = rest p.exprs }
below frame.Claiming p = record p { names = rest p.names; given_types = rest p.given_types }
below frame.ResultNameType p = record p { names = rest p.names }
below frame.ResultNameTypeInRound p = record p { names = rest p.names }
below (frame.TypeArgs at) p = record p { names = rest p.names; type_lists = rest p.type_lists }
below (frame.Naming at) p = record p { names = rest p.names }
below (frame.PatternArgs at) p = record p { names = rest p.names; pattern_lists = rest p.pattern_lists }
below (frame.NameTypes at) p = record p { names = rest p.names; type_lists = rest p.type_lists }
below (frame.Args at) p =
    record p { names = rest p.names; type_lists = rest p.type_lists; expr_lists = rest p.expr_lists }
below (frame.Left at op h) p = record p { exprs = rest p.exprs }
below (frame.IfThen at) p = record p { exprs = rest p.exprs }
below (frame.IfRest at) p = record p { exprs = rest (rest p.exprs) }
below (frame.CasesOf at) p = record p { exprs = rest p.exprs; case_lists = rest p.case_lists }
below frame.Guarding p = record p { patterns = rest p.patterns }
below frame.Arm p = record p { patterns = rest p.patterns; guards = rest p.guards }
below (frame.ValType at) p = record p { names = rest p.names }
below (frame.ValValue at) p = record p { names = rest p.names; given_types = rest p.given_types }
below (frame.AfterVal at) p =
    record p { names = rest p.names; given_types = rest p.given_types; exprs = rest p.exprs }
below (frame.AfterAssert at) p = record p { exprs = rest p.exprs }
below _ p = p

-- the frames, the last first, with their parts
abbrev pub over : List Frame → Parts → List plain.Frame
over [] p = []
over (f ∷ fs) p = frame_of f p ∷ over fs (below f p)

-- ---- the stack

-- the spare trees
abbrev pub spares_of : declared_spares.Spares → Spares
spares_of s = record {
  of = type_of s.of.now.tree;
  pattern = pattern_of s.pattern.now.tree;
  expr = tree_of s.expr.now.tree;
  decl = decl_of s.decl.now.tree;
}

-- the frames on the stack and the parts, the last first
pub record Shown : Type 0 where
  pub kinds : List Frame
  pub parts : Parts

-- what a stack shows
abbrev pub shown : Stack → Shown
shown s = record {
  kinds = stacked (λ f. f) s.frames.items [];
  parts = record {
    names = stacked (λ w. w.now) s.names.items [];
    types = stacked (λ t. type_of t.now.tree) s.types.items [];
    patterns = stacked (λ p. pattern_of p.now.tree) s.patterns.items [];
    exprs = stacked (λ e. tree_of e.now.tree) s.exprs.items [];
    given_types = stacked (option_map (λ t. type_of t.now.tree)) s.given_types.items [];
    guards = stacked (option_map (λ e. tree_of e.now.tree)) s.guards.items [];
    type_lists = stacked (λ l. stacked (λ t. type_of t.now.tree) l.items []) s.type_lists.items [];
    pattern_lists = stacked (λ l. stacked (λ p. pattern_of p.now.tree) l.items []) s.pattern_lists.items [];
    expr_lists = stacked (λ l. stacked (λ e. tree_of e.now.tree) l.items []) s.expr_lists.items [];
    case_lists = stacked (λ l. stacked (λ c. case_text c.now.tree) l.items []) s.case_lists.items [];
    heads = stacked head_of s.heads.items [];
    contracts = stacked contracts_of s.contracts.items [];
    posts = stacked (option_map claim_parts) s.posts.items [];
    decls = stacked (λ d. decl_of d.now.tree) s.decls.items [];
    spares = spares_of s.spares;
  };
}

-- the stack on which nothing lies but its spare trees
abbrev pub nothing_on : Spares → Shown
nothing_on s = record { kinds = []; parts = no_parts s }

-- what is shown, with one more on top
abbrev pub with_frame : Frame → Shown → Shown
with_frame f s = record s { kinds = f ∷ s.kinds }

abbrev pub with_name : Word → Shown → Shown
with_name x s = record s { parts = record s.parts { names = x ∷ s.parts.names } }

abbrev pub with_type : TypeTree → Shown → Shown
with_type x s = record s { parts = record s.parts { types = x ∷ s.parts.types } }

abbrev pub with_pattern : PatternTree → Shown → Shown
with_pattern x s = record s { parts = record s.parts { patterns = x ∷ s.parts.patterns } }

abbrev pub with_expr : Tree → Shown → Shown
with_expr x s = record s { parts = record s.parts { exprs = x ∷ s.parts.exprs } }

abbrev pub with_given_type : Option TypeTree → Shown → Shown
with_given_type x s = record s { parts = record s.parts { given_types = x ∷ s.parts.given_types } }

abbrev pub with_guard : Option Tree → Shown → Shown
with_guard x s = record s { parts = record s.parts { guards = x ∷ s.parts.guards } }

abbrev pub with_type_list : List TypeTree → Shown → Shown
with_type_list x s = record s { parts = record s.parts { type_lists = x ∷ s.parts.type_lists } }

abbrev pub with_pattern_list : List PatternTree → Shown → Shown
with_pattern_list x s = record s { parts = record s.parts { pattern_lists = x ∷ s.parts.pattern_lists } }

abbrev pub with_expr_list : List Tree → Shown → Shown
with_expr_list x s = record s { parts = record s.parts { expr_lists = x ∷ s.parts.expr_lists } }

abbrev pub with_case_list : List plain.CaseText → Shown → Shown
with_case_list x s = record s { parts = record s.parts { case_lists = x ∷ s.parts.case_lists } }

abbrev pub with_head : plain.Head → Shown → Shown
with_head x s = record s { parts = record s.parts { heads = x ∷ s.parts.heads } }

abbrev pub with_contracts : plain.Contracts → Shown → Shown
with_contracts x s = record s { parts = record s.parts { contracts = x ∷ s.parts.contracts } }

abbrev pub with_post : Option PostTree → Shown → Shown
with_post x s = record s { parts = record s.parts { posts = x ∷ s.parts.posts } }

abbrev pub with_decl : DeclTree → Shown → Shown
with_decl x s = record s { parts = record s.parts { decls = x ∷ s.parts.decls } }

-- what is shown, without the name (type, pattern, ..) on top
abbrev pub without_name : Shown → Shown
without_name s = record s { parts = record s.parts { names = rest s.parts.names } }

abbrev pub without_type : Shown → Shown
without_type s = record s { parts = record s.parts { types = rest s.parts.types } }

abbrev pub without_pattern : Shown → Shown
without_pattern s = record s { parts = record s.parts { patterns = rest s.parts.patterns } }

abbrev pub without_expr : Shown → Shown
without_expr s = record s { parts = record s.parts { exprs = rest s.parts.exprs } }

abbrev pub without_given_type : Shown → Shown
without_given_type s = record s { parts = record s.parts { given_types = rest s.parts.given_types } }

abbrev pub without_guard : Shown → Shown
without_guard s = record s { parts = record s.parts { guards = rest s.parts.guards } }

abbrev pub without_type_list : Shown → Shown
without_type_list s = record s { parts = record s.parts { type_lists = rest s.parts.type_lists } }

abbrev pub without_pattern_list : Shown → Shown
without_pattern_list s = record s { parts = record s.parts { pattern_lists = rest s.parts.pattern_lists } }

abbrev pub without_expr_list : Shown → Shown
without_expr_list s = record s { parts = record s.parts { expr_lists = rest s.parts.expr_lists } }

abbrev pub without_case_list : Shown → Shown
without_case_list s = record s { parts = record s.parts { case_lists = rest s.parts.case_lists } }

abbrev pub without_head : Shown → Shown
without_head s = record s { parts = record s.parts { heads = rest s.parts.heads } }

abbrev pub without_contracts : Shown → Shown
without_contracts s = record s { parts = record s.parts { contracts = rest s.parts.contracts } }

abbrev pub without_post : Shown → Shown
without_post s = record s { parts = record s.parts { posts = rest s.parts.posts } }

abbrev pub without_decl : Shown → Shown
without_decl s = record s { parts = record s.parts { decls = rest s.parts.decls } }

-- the automaton's frames that lie on the stack
abbrev pub frames_of : Shown → List plain.Frame
frames_of s = over s.kinds s.parts

abbrev pub frames : Stack → List plain.Frame
frames s = frames_of (shown s)

-- the part on top, and the frames under it
abbrev pub name_on : Shown → Word
name_on s = top_name s.parts

abbrev pub under_name : Shown → List plain.Frame
under_name s = frames_of (without_name s)

abbrev pub type_on : Shown → TypeTree
type_on s = top_type s.parts

abbrev pub under_type : Shown → List plain.Frame
under_type s = frames_of (without_type s)

abbrev pub pattern_on : Shown → PatternTree
pattern_on s = top_pattern s.parts

abbrev pub under_pattern : Shown → List plain.Frame
under_pattern s = frames_of (without_pattern s)

abbrev pub expr_on : Shown → Tree
expr_on s = top_expr s.parts

abbrev pub under_expr : Shown → List plain.Frame
under_expr s = frames_of (without_expr s)

-- ---- modes and moves

-- the automaton's mode that a mode stands for, above these parts
abbrev pub mode_of : Mode → Parts → plain.Mode
mode_of mode.Want p = plain.want
mode_of (mode.Have h) p = plain.have (top_expr p) h
mode_of (mode.AfterName at) p = plain.after_name at (top_name p)
mode_of (mode.AfterNameTypes at) p =
    plain.after_name_types at (top_name p) (types_onto (top_type_list p) no_types)
mode_of (mode.ArgsOpen at) p = plain.args_open at (top_name p) (types_onto (top_type_list p) no_types)
mode_of (mode.AfterInt at) p = plain.after_int at
mode_of (mode.AfterIntDot at) p = plain.after_int_dot at
mode_of (mode.AfterMinus at end) p = plain.after_minus at end
mode_of mode.HaveNegative p = plain.have_negative (top_expr p)
mode_of mode.AfterNegativeDot p = plain.after_negative_dot (top_expr p)
mode_of (mode.AfterDot h) p = plain.after_dot (top_expr p) h
mode_of (mode.AfterIf at) p = plain.after_if at
mode_of mode.WantThen p = plain.want_then
mode_of mode.WantElse p = plain.want_else (top_expr p)
mode_of (mode.AfterMatch at) p = plain.after_match at (top_expr p)
mode_of mode.WantCase p = plain.want_case
mode_of mode.HaveMatched p = plain.have_matched (top_expr p)
mode_of mode.AfterMatchedDot p = plain.after_matched_dot (top_expr p)
mode_of mode.WantPattern p = plain.want_pattern
mode_of (mode.AfterPatternName at) p = plain.after_pattern_name at (top_name p)
mode_of (mode.AfterPatternMinus at end) p = plain.after_pattern_minus at end
mode_of (mode.PatternArgsOpen at) p = plain.pattern_args_open at (top_name p)
mode_of mode.HavePattern p = plain.have_pattern (top_pattern p)
mode_of mode.WantType p = plain.want_type
mode_of (mode.AfterTypeName at) p = plain.after_type_name at (top_name p)
mode_of mode.HaveType p = plain.have_type (top_type p)
mode_of mode.WantStat p = plain.want_stat
mode_of mode.AfterStat p = plain.after_stat
mode_of mode.AfterLast p = plain.after_last (top_expr p)
mode_of (mode.AfterValWord at) p = plain.after_val_word at
mode_of (mode.AfterValName at) p = plain.after_val_name at (top_name p)
mode_of (mode.AfterAssertWord at) p = plain.after_assert_word at
mode_of mode.AfterRequire p = plain.after_require
mode_of (mode.AfterDecreases at) p = plain.after_decreases at
mode_of mode.MeasureOpen p = plain.measure_open
mode_of mode.AfterTuple p = plain.after_tuple (top_expr_list p)
mode_of mode.WantBody p = plain.want_body
mode_of mode.HaveContracted p = plain.have_contracted (top_expr p)
mode_of mode.AfterContractedDot p = plain.after_contracted_dot (top_expr p)
mode_of (mode.AfterEnsuring at) p = plain.after_ensuring at (top_expr p)
mode_of mode.WantLambdaOrSemi p = plain.want_lambda_or_semi
mode_of mode.WantLambda p = plain.want_lambda
mode_of (mode.AfterLambdaName at) p = plain.after_lambda_name at (top_name p)
mode_of mode.AfterLambdaRound p = plain.after_lambda_round
mode_of (mode.AfterLambdaRoundName at) p = plain.after_lambda_round_name at (top_name p)
mode_of (mode.AfterLambdaClosed at) p = plain.after_lambda_closed at (top_name p)
mode_of mode.AfterLambdaTyped p = plain.after_lambda_typed (top_name p) (top_type p)
mode_of mode.AfterClaim p = plain.after_claim (top_name p) (top_given_type p) (top_expr p)
mode_of mode.AfterBody p = plain.after_body (top_expr p) (top_post p)
mode_of (mode.WantName k) p = plain.want_name (kind_of k)
mode_of mode.AfterHeadName p = plain.after_head_name
mode_of mode.WantTypeParam p = plain.want_type_param
mode_of mode.AfterTypeParam p = plain.after_type_param
mode_of mode.AfterTypeParams p = plain.after_type_params
mode_of mode.ParamsOpen p = plain.params_open
mode_of mode.WantParam p = plain.want_param
mode_of (mode.AfterParamName at) p = plain.after_param_name at (top_name p)
mode_of mode.AfterParams p = plain.after_params
mode_of mode.WantObjectName p = plain.want_object_name
mode_of (mode.AfterObjectName at) p = plain.after_object_name at (top_name p)

-- the parts below those of the mode
abbrev pub under : Mode → Parts → Parts
under (mode.Have h) p = record p { exprs = rest p.exprs }
under (mode.AfterName at) p = record p { names = rest p.names }
under (mode.AfterNameTypes at) p = record p { names = rest p.names; type_lists = rest p.type_lists }
under (mode.ArgsOpen at) p = record p { names = rest p.names; type_lists = rest p.type_lists }
under mode.HaveNegative p = record p { exprs = rest p.exprs }
under mode.AfterNegativeDot p = record p { exprs = rest p.exprs }
under (mode.AfterDot h) p = record p { exprs = rest p.exprs }
under mode.WantElse p = record p { exprs = rest p.exprs }
under (mode.AfterMatch at) p = record p { exprs = rest p.exprs }
under mode.HaveMatched p = record p { exprs = rest p.exprs }
under mode.AfterMatchedDot p = record p { exprs = rest p.exprs }
under (mode.AfterPatternName at) p = record p { names = rest p.names }
under (mode.PatternArgsOpen at) p = record p { names = rest p.names }
under mode.HavePattern p = record p { patterns = rest p.patterns }
under (mode.AfterTypeName at) p = record p { names = rest p.names }
under mode.HaveType p = record p { types = rest p.types }
under mode.AfterLast p = record p { exprs = rest p.exprs }
under (mode.AfterValName at) p = record p { names = rest p.names }
under mode.AfterTuple p = record p { expr_lists = rest p.expr_lists }
under mode.HaveContracted p = record p { exprs = rest p.exprs }
under mode.AfterContractedDot p = record p { exprs = rest p.exprs }
under (mode.AfterEnsuring at) p = record p { exprs = rest p.exprs }
under (mode.AfterLambdaName at) p = record p { names = rest p.names }
under (mode.AfterLambdaRoundName at) p = record p { names = rest p.names }
under (mode.AfterLambdaClosed at) p = record p { names = rest p.names }
under mode.AfterLambdaTyped p = record p { names = rest p.names; types = rest p.types }
under mode.AfterClaim p = record p { names = rest p.names; given_types = rest p.given_types; exprs = rest p.exprs }
under mode.AfterBody p = record p { exprs = rest p.exprs; posts = rest p.posts }
under (mode.AfterParamName at) p = record p { names = rest p.names }
under (mode.AfterObjectName at) p = record p { names = rest p.names }
under _ p = p

-- the frames under the mode
abbrev pub under_mode : Mode → Shown → List plain.Frame
under_mode m s = over s.kinds (under m s.parts)

-- the step of the automaton in the mode
abbrev pub step_in : Word → Token → Mode → Shown → plain.Move
step_in text t m s = on_mode text t (under_mode m s) (mode_of m s.parts) t.kind

-- the move, with the frames behind it
abbrev pub move_of : Shown → Move → plain.Move
move_of s (Go m) = plain.go (under_mode m s) (mode_of m s.parts)
move_of s Ends = plain.ends (top_decl s.parts)

-- where memory lasts, the automaton stops so
abbrev pub Stops : Stop → plain.Move → Type 0
Stops Memory m = Unit {0}
Stops (Syntax at) m = m ≡ plain.stop (plain.syntax_at at)
Stops (Unsupported w at) m = m ≡ plain.stop (plain.unsupported_at w.now at)

-- where memory lasts, the answer is the move of the automaton, with what lies on this stack
abbrev pub Moves : Result Move Stop → Stack → plain.Move → Type 0
Moves r s m = MatchResult r (λ v. m ≡ move_of (shown s) v) (λ e. Stops e m)
