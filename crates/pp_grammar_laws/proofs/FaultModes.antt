-- The faults of each step within a declaration.
use Rattle.pp_grammar.specs.Automaton.{on_mode}
use Rattle.pp_grammar.specs.Frames.{Frame, Mode, after_assert_word, after_body, after_claim, after_contracted_dot}
use Rattle.pp_grammar.specs.Frames.{after_decreases, after_dot, after_ensuring, after_head_name, after_if, after_int}
use Rattle.pp_grammar.specs.Frames.{after_int_dot, after_lambda_closed, after_lambda_name, after_lambda_round}
use Rattle.pp_grammar.specs.Frames.{after_lambda_round_name, after_lambda_typed, after_last, after_match}
use Rattle.pp_grammar.specs.Frames.{after_matched_dot, after_minus, after_name, after_name_types, after_negative_dot}
use Rattle.pp_grammar.specs.Frames.{after_object_name, after_param_name, after_params, after_pattern_minus}
use Rattle.pp_grammar.specs.Frames.{after_pattern_name, after_require, after_stat, after_tuple, after_type_name}
use Rattle.pp_grammar.specs.Frames.{after_type_param, after_type_params, after_val_name, after_val_word, args_open}
use Rattle.pp_grammar.specs.Frames.{have, have_contracted, have_matched, have_negative, have_pattern, have_type}
use Rattle.pp_grammar.specs.Frames.{measure_open, params_open, pattern_args_open, want, want_body, want_case, want_else}
use Rattle.pp_grammar.specs.Frames.{want_lambda, want_lambda_or_semi, want_name, want_object_name, want_param}
use Rattle.pp_grammar.specs.Frames.{want_pattern, want_stat, want_then, want_type, want_type_param}
use Rattle.pp_grammar.specs.Words.{word}
use Rattle.pp_grammar_laws.proofs.FaultBodies.{good_on_after_body, good_on_after_claim, good_on_after_decreases}
use Rattle.pp_grammar_laws.proofs.FaultBodies.{good_on_after_ensuring, good_on_after_last, good_on_after_params}
use Rattle.pp_grammar_laws.proofs.FaultBodies.{good_on_after_require, good_on_after_stat, good_on_after_tuple}
use Rattle.pp_grammar_laws.proofs.FaultBodies.{good_on_after_type_param, good_on_after_type_params, good_on_assert_word}
use Rattle.pp_grammar_laws.proofs.FaultBodies.{good_on_contracted_dot, good_on_have_contracted, good_on_head_name}
use Rattle.pp_grammar_laws.proofs.FaultBodies.{good_on_lambda_closed, good_on_lambda_name, good_on_lambda_round}
use Rattle.pp_grammar_laws.proofs.FaultBodies.{good_on_lambda_round_name, good_on_lambda_typed, good_on_measure_open}
use Rattle.pp_grammar_laws.proofs.FaultBodies.{good_on_object_name, good_on_param_name, good_on_params_open}
use Rattle.pp_grammar_laws.proofs.FaultBodies.{good_on_val_name, good_on_val_word, good_on_want_body}
use Rattle.pp_grammar_laws.proofs.FaultBodies.{good_on_want_lambda, good_on_want_lambda_or_semi, good_on_want_name}
use Rattle.pp_grammar_laws.proofs.FaultBodies.{good_on_want_object_name, good_on_want_param, good_on_want_stat}
use Rattle.pp_grammar_laws.proofs.FaultBodies.{good_on_want_type_param}
use Rattle.pp_grammar_laws.proofs.FaultExprs.{good_on_args_open, good_on_dot, good_on_have, good_on_have_matched}
use Rattle.pp_grammar_laws.proofs.FaultExprs.{good_on_have_negative, good_on_if, good_on_int, good_on_int_dot}
use Rattle.pp_grammar_laws.proofs.FaultExprs.{good_on_match_word, good_on_matched_dot, good_on_minus, good_on_name}
use Rattle.pp_grammar_laws.proofs.FaultExprs.{good_on_name_types, good_on_negative_dot, good_on_want, good_on_want_case}
use Rattle.pp_grammar_laws.proofs.FaultExprs.{good_on_want_else, good_on_want_then}
use Rattle.pp_grammar_laws.proofs.FaultTypes.{good_on_have_pattern, good_on_have_type, good_on_pattern_args_open}
use Rattle.pp_grammar_laws.proofs.FaultTypes.{good_on_pattern_minus, good_on_pattern_name, good_on_type_name}
use Rattle.pp_grammar_laws.proofs.FaultTypes.{good_on_want_pattern, good_on_want_type}
use Rattle.pp_grammar_laws.proofs.Faults.{GoodFrames, GoodMode, GoodMove, NameOk}
use Rattle.pp_tokens.specs.declared.token.Token.{Token}
use Rattle.pp_tokens.specs.declared.token.TokenKind.TheVariants.{Name}
use Rattle.pp_tree.specs.Plain.{Word}
use Rattle.std.proofs.Common.{List, refl, ℕ, ◌≡◌}

module _ (text : Word) (B : ℕ → Type 0) (L : Word → ℕ → Type 0) (t : Token) (bt : B t.from)
    (nt : t.kind ≡ Name → NameOk B L (word text t) t.from) where
  pub mode_good : (s : List Frame) (m : Mode) → GoodFrames B L s → GoodMode B L m
      → GoodMove B L (on_mode text t s m t.kind)
  mode_good s want g ok = good_on_want text B L t bt nt s t.kind g
  mode_good s (have e h) g ok = good_on_have text B L t bt nt s e h t.kind g
  mode_good s (after_name at w) g ok = good_on_name text B L t bt nt s at w t.kind g
  mode_good s (after_name_types at w ts) g ok = good_on_name_types text B L t bt nt s at w ts t.kind g
  mode_good s (args_open at w ts) g ok = good_on_args_open text B L t bt nt s at w ts t.kind g
  mode_good s (after_int at) g ok = good_on_int text B L t bt nt s at t.kind g ok
  mode_good s (after_int_dot at) g ok = good_on_int_dot text B L t bt nt s at t.kind g
  mode_good s (after_minus at end) g ok = good_on_minus text B L t bt nt s at end t.kind g
  mode_good s (have_negative e) g ok = good_on_have_negative text B L t bt nt s e t.kind g
  mode_good s (after_negative_dot e) g ok = good_on_negative_dot text B L t bt nt s e t.kind g
  mode_good s (after_dot e h) g ok = good_on_dot text B L t bt nt s e h t.kind g
  mode_good s (after_if at) g ok = good_on_if text B L t bt nt s at t.kind g
  mode_good s want_then g ok = good_on_want_then text B L t bt nt s t.kind g
  mode_good s (want_else e) g ok = good_on_want_else text B L t bt nt s e t.kind g
  mode_good s (after_match at e) g ok = good_on_match_word text B L t bt nt s at e t.kind g
  mode_good s want_case g ok = good_on_want_case text B L t bt nt s t.kind g
  mode_good s (have_matched e) g ok = good_on_have_matched text B L t bt nt s e t.kind g
  mode_good s (after_matched_dot e) g ok = good_on_matched_dot text B L t bt nt s e t.kind g
  mode_good s want_pattern g ok = good_on_want_pattern text B L t bt nt s t.kind g
  mode_good s (after_pattern_name at w) g ok = good_on_pattern_name text B L t bt nt s at w t.kind g ok
  mode_good s (after_pattern_minus at end) g ok = good_on_pattern_minus text B L t bt nt s at end t.kind g ok
  mode_good s (pattern_args_open at w) g ok = good_on_pattern_args_open text B L t bt nt s at w t.kind g ok
  mode_good s (have_pattern p) g ok = good_on_have_pattern text B L t bt nt s p t.kind g ok
  mode_good s want_type g ok = good_on_want_type text B L t bt nt s t.kind g
  mode_good s (after_type_name at w) g ok = good_on_type_name text B L t bt nt s at w t.kind g
  mode_good s (have_type a) g ok = good_on_have_type text B L t bt nt s a t.kind g
  mode_good s want_stat g ok = good_on_want_stat text B L t bt nt s t.kind g refl
  mode_good s after_stat g ok = good_on_after_stat text B L t bt nt s t.kind g
  mode_good s (after_last e) g ok = good_on_after_last text B L t bt nt s e t.kind g
  mode_good s (after_val_word at) g ok = good_on_val_word text B L t bt nt s at t.kind g
  mode_good s (after_val_name at w) g ok = good_on_val_name text B L t bt nt s at w t.kind g
  mode_good s (after_assert_word at) g ok = good_on_assert_word text B L t bt nt s at t.kind g
  mode_good s after_require g ok = good_on_after_require text B L t bt nt s t.kind g
  mode_good s (after_decreases at) g ok = good_on_after_decreases text B L t bt nt s at t.kind g ok
  mode_good s measure_open g ok = good_on_measure_open text B L t bt nt s t.kind g
  mode_good s (after_tuple es) g ok = good_on_after_tuple text B L t bt nt s es t.kind g
  mode_good s want_body g ok = good_on_want_body text B L t bt nt s t.kind g
  mode_good s (have_contracted e) g ok = good_on_have_contracted text B L t bt nt s e t.kind g
  mode_good s (after_contracted_dot e) g ok = good_on_contracted_dot text B L t bt nt s e t.kind g
  mode_good s (after_ensuring at e) g ok = good_on_after_ensuring text B L t bt nt s at e t.kind g
  mode_good s want_lambda_or_semi g ok = good_on_want_lambda_or_semi text B L t bt nt s t.kind g refl
  mode_good s want_lambda g ok = good_on_want_lambda text B L t bt nt s t.kind g refl
  mode_good s (after_lambda_name at w) g ok = good_on_lambda_name text B L t bt nt s at w t.kind g ok
  mode_good s after_lambda_round g ok = good_on_lambda_round text B L t bt nt s t.kind g refl
  mode_good s (after_lambda_round_name at w) g ok = good_on_lambda_round_name text B L t bt nt s at w t.kind g ok
  mode_good s (after_lambda_closed at w) g ok = good_on_lambda_closed text B L t bt nt s at w t.kind g ok
  mode_good s (after_lambda_typed w a) g ok = good_on_lambda_typed text B L t bt nt s w a t.kind g
  mode_good s (after_claim w a e) g ok = good_on_after_claim text B L t bt nt s w a e t.kind g
  mode_good s (after_body e p) g ok = good_on_after_body text B L t bt nt s e p g
  mode_good s (want_name kind) g ok = good_on_want_name text B L t bt nt s kind t.kind g
  mode_good s after_head_name g ok = good_on_head_name text B L t bt nt s t.kind g
  mode_good s want_type_param g ok = good_on_want_type_param text B L t bt nt s t.kind g
  mode_good s after_type_param g ok = good_on_after_type_param text B L t bt nt s t.kind g
  mode_good s after_type_params g ok = good_on_after_type_params text B L t bt nt s t.kind g
  mode_good s params_open g ok = good_on_params_open text B L t bt nt s t.kind g
  mode_good s want_param g ok = good_on_want_param text B L t bt nt s t.kind g
  mode_good s (after_param_name at w) g ok = good_on_param_name text B L t bt nt s at w t.kind g
  mode_good s after_params g ok = good_on_after_params text B L t bt nt s t.kind g
  mode_good s want_object_name g ok = good_on_want_object_name text B L t bt nt s t.kind g
  mode_good s (after_object_name at w) g ok = good_on_object_name text B L t bt nt s at w t.kind g
