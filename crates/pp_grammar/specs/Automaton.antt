-- The automaton of one token: one step for each mode, and the run over all tokens. Source: own; the form is that of
-- operator precedence parsing with a stack.
use Rattle.std.specs.Prelude.{Bool, false, List, [], ◌∷◌}
use Rattle.pp_tokens.specs.declared.token.Token.{Token}
use Rattle.pp_tokens.specs.declared.token.TokenKind.{TokenKind}
use Rattle.pp_tree.specs.Plain.{Word}
use Rattle.pp_grammar.specs.Frames.{syntax_at, Frame, Mode, want, have, after_name, after_name_types, args_open}
use Rattle.pp_grammar.specs.Frames.{after_int, after_int_dot, after_minus, have_negative, after_negative_dot, after_dot}
use Rattle.pp_grammar.specs.Frames.{after_if, want_then, want_else, after_match, want_case, have_matched}
use Rattle.pp_grammar.specs.Frames.{after_matched_dot, want_pattern, after_pattern_name, after_pattern_minus}
use Rattle.pp_grammar.specs.Frames.{pattern_args_open, have_pattern, want_type, after_type_name, have_type, want_stat}
use Rattle.pp_grammar.specs.Frames.{after_stat, after_last, after_val_word, after_val_name, after_assert_word}
use Rattle.pp_grammar.specs.Frames.{after_require, after_decreases, measure_open, after_tuple, want_body}
use Rattle.pp_grammar.specs.Frames.{have_contracted, after_contracted_dot, after_ensuring, want_lambda_or_semi}
use Rattle.pp_grammar.specs.Frames.{want_lambda, after_lambda_name, after_lambda_round, after_lambda_round_name}
use Rattle.pp_grammar.specs.Frames.{after_lambda_closed, after_lambda_typed, after_claim, after_body, want_name}
use Rattle.pp_grammar.specs.Frames.{after_head_name, want_type_param, after_type_param, after_type_params, params_open}
use Rattle.pp_grammar.specs.Frames.{want_param, after_param_name, after_params, want_object_name, after_object_name}
use Rattle.pp_grammar.specs.Frames.{Move, go, stop, ends, ItemMode, at_start, at_item, after_item, after_package}
use Rattle.pp_grammar.specs.Frames.{after_package_name, after_import, after_path_name, after_path_dot, want_chosen}
use Rattle.pp_grammar.specs.Frames.{after_chosen, after_object, after_object_title, after_object_line, after_at}
use Rattle.pp_grammar.specs.Frames.{after_annotation, after_annotation_line, after_case, after_modifiers, Parsed, State}
use Rattle.pp_grammar.specs.Frames.{between, within, failed, done}
use Rattle.pp_grammar.specs.Joining.{nothing_parsed, with_decl}
use Rattle.pp_grammar.specs.StepTypes.{on_have_type, on_want_type, on_type_name, on_want_pattern, on_pattern_minus}
use Rattle.pp_grammar.specs.StepTypes.{on_have_pattern, on_pattern_name, on_pattern_args_open}
use Rattle.pp_grammar.specs.StepExprs.{on_want, on_minus, on_if, on_want_then, on_have, on_dot, on_have_negative}
use Rattle.pp_grammar.specs.StepExprs.{on_negative_dot, on_have_matched, on_matched_dot, on_name, on_name_types}
use Rattle.pp_grammar.specs.StepExprs.{on_args_open, on_int, on_int_dot, on_match_word, on_want_case, on_want_else}
use Rattle.pp_grammar.specs.StepBodies.{on_want_stat, on_after_stat, on_after_last, on_val_word, on_val_name}
use Rattle.pp_grammar.specs.StepBodies.{on_assert_word, on_after_require, on_after_decreases, on_measure_open}
use Rattle.pp_grammar.specs.StepBodies.{on_after_tuple, on_want_body, on_have_contracted, on_contracted_dot}
use Rattle.pp_grammar.specs.StepBodies.{on_after_ensuring, on_want_lambda, on_want_lambda_or_semi, on_lambda_name}
use Rattle.pp_grammar.specs.StepBodies.{on_lambda_round, on_lambda_round_name, on_lambda_closed, on_lambda_typed}
use Rattle.pp_grammar.specs.StepBodies.{on_after_claim, on_after_body, on_want_name, on_head_name, on_want_type_param}
use Rattle.pp_grammar.specs.StepBodies.{on_after_type_param, on_after_type_params, on_params_open, on_want_param}
use Rattle.pp_grammar.specs.StepBodies.{on_param_name, on_after_params, on_want_object_name, on_object_name}
use Rattle.pp_grammar.specs.StepItems.{on_start, on_item, on_after_item, on_after_package, on_package_name}
use Rattle.pp_grammar.specs.StepItems.{on_after_import, on_path_name, on_path_dot, on_want_chosen, on_chosen}
use Rattle.pp_grammar.specs.StepItems.{on_after_object, on_object_title, on_object_line, on_after_at, on_annotation}
use Rattle.pp_grammar.specs.StepItems.{on_declaration, on_after_case, on_modifiers}

module _ (text : Word) (t : Token) where
  -- within a declaration
  abbrev pub on_mode : List Frame → Mode → TokenKind → Move
  on_mode s want k = on_want text t s k
  on_mode s (have e h) k = on_have text t s e h k
  on_mode s (after_name at w) k = on_name text t s at w k
  on_mode s (after_name_types at w ts) k = on_name_types text t s at w ts k
  on_mode s (args_open at w ts) k = on_args_open text t s at w ts k
  on_mode s (after_int at) k = on_int text t s at k
  on_mode s (after_int_dot at) k = on_int_dot text t s at k
  on_mode s (after_minus at end) k = on_minus text t s at end k
  on_mode s (have_negative e) k = on_have_negative text t s e k
  on_mode s (after_negative_dot e) k = on_negative_dot text t s e k
  on_mode s (after_dot e h) k = on_dot text t s e h k
  on_mode s (after_if at) k = on_if text t s at k
  on_mode s want_then k = on_want_then text t s k
  on_mode s (want_else e) k = on_want_else text t s e k
  on_mode s (after_match at e) k = on_match_word text t s at e k
  on_mode s want_case k = on_want_case text t s k
  on_mode s (have_matched e) k = on_have_matched text t s e k
  on_mode s (after_matched_dot e) k = on_matched_dot text t s e k
  on_mode s want_pattern k = on_want_pattern text t s k
  on_mode s (after_pattern_name at w) k = on_pattern_name text t s at w k
  on_mode s (after_pattern_minus at end) k = on_pattern_minus text t s at end k
  on_mode s (pattern_args_open at w) k = on_pattern_args_open text t s at w k
  on_mode s (have_pattern p) k = on_have_pattern text t s p k
  on_mode s want_type k = on_want_type text t s k
  on_mode s (after_type_name at w) k = on_type_name text t s at w k
  on_mode s (have_type a) k = on_have_type text t s a k
  on_mode s want_stat k = on_want_stat text t s k
  on_mode s after_stat k = on_after_stat text t s k
  on_mode s (after_last e) k = on_after_last text t s e k
  on_mode s (after_val_word at) k = on_val_word text t s at k
  on_mode s (after_val_name at w) k = on_val_name text t s at w k
  on_mode s (after_assert_word at) k = on_assert_word text t s at k
  on_mode s after_require k = on_after_require text t s k
  on_mode s (after_decreases at) k = on_after_decreases text t s at k
  on_mode s measure_open k = on_measure_open text t s k
  on_mode s (after_tuple es) k = on_after_tuple text t s es k
  on_mode s want_body k = on_want_body text t s k
  on_mode s (have_contracted e) k = on_have_contracted text t s e k
  on_mode s (after_contracted_dot e) k = on_contracted_dot text t s e k
  on_mode s (after_ensuring at e) k = on_after_ensuring text t s at e k
  on_mode s want_lambda_or_semi k = on_want_lambda_or_semi text t s k
  on_mode s want_lambda k = on_want_lambda text t s k
  on_mode s (after_lambda_name at w) k = on_lambda_name text t s at w k
  on_mode s after_lambda_round k = on_lambda_round text t s k
  on_mode s (after_lambda_round_name at w) k = on_lambda_round_name text t s at w k
  on_mode s (after_lambda_closed at w) k = on_lambda_closed text t s at w k
  on_mode s (after_lambda_typed w a) k = on_lambda_typed text t s w a k
  on_mode s (after_claim w a e) k = on_after_claim text t s w a e k
  on_mode s (after_body e p) k = on_after_body text t s e p
  on_mode s (want_name kind) k = on_want_name text t s kind k
  on_mode s after_head_name k = on_head_name text t s k
  on_mode s want_type_param k = on_want_type_param text t s k
  on_mode s after_type_param k = on_after_type_param text t s k
  on_mode s after_type_params k = on_after_type_params text t s k
  on_mode s params_open k = on_params_open text t s k
  on_mode s want_param k = on_want_param text t s k
  on_mode s (after_param_name at w) k = on_param_name text t s at w k
  on_mode s after_params k = on_after_params text t s k
  on_mode s want_object_name k = on_want_object_name text t s k
  on_mode s (after_object_name at w) k = on_object_name text t s at w k

  -- the move, with what is parsed: at the token behind a declaration, it joins the others
  abbrev pub moved : Parsed → Bool → Move → State
  moved d inside (go s m) = within d inside s m
  moved d inside (stop f) = failed f
  moved d inside (ends x) = on_after_item text t (with_decl d x) inside t.kind

  -- between declarations
  abbrev pub on_item_mode : Parsed → Bool → ItemMode → TokenKind → State
  on_item_mode d inside at_start k = on_start text t d inside k
  on_item_mode d inside at_item k = on_item text t d inside k
  on_item_mode d inside after_item k = on_after_item text t d inside k
  on_item_mode d inside after_package k = on_after_package text t d inside k
  on_item_mode d inside after_package_name k = on_package_name text t d inside k
  on_item_mode d inside after_import k = on_after_import text t d inside k
  on_item_mode d inside (after_path_name p one) k = on_path_name text t d inside p one k
  on_item_mode d inside (after_path_dot p one) k = on_path_dot text t d inside p one k
  on_item_mode d inside (want_chosen p) k = on_want_chosen text t d inside p k
  on_item_mode d inside (after_chosen p) k = on_chosen text t d inside p k
  on_item_mode d inside after_object k = on_after_object text t d inside k
  on_item_mode d inside after_object_title k = on_object_title text t d k
  on_item_mode d inside after_object_line k = on_object_line text t d k
  on_item_mode d inside after_at k = on_after_at text t d inside k
  on_item_mode d inside after_annotation k = on_annotation text t d inside k
  on_item_mode d inside after_annotation_line k = on_declaration text t d inside k
  on_item_mode d inside after_case k = on_after_case text t d inside k
  on_item_mode d inside (after_modifiers sealed case) k =
      on_modifiers text t d inside (record { sealed = sealed; case = case }) k

  -- one token; nothing follows the end
  abbrev pub step : State → State
  step (between d inside m) = on_item_mode d inside m t.kind
  step (within d inside s m) = moved d inside (on_mode s m t.kind)
  step (failed f) = failed f
  step (done u) = failed (syntax_at t.from)

-- the state behind the tokens
abbrev pub run : Word → List Token → State → State
run text [] st = st
run text (t ∷ ts) st = run text ts (step text t st)

abbrev pub start : State
start = between nothing_parsed false at_start
