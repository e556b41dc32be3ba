-- Each step within a declaration keeps what the modes say.
use Rattle.pp_grammar.specs.Automaton.{on_mode}
use Rattle.pp_grammar.specs.Frames.{Frame, Mode, of_class, of_def}
use Rattle.pp_grammar.specs.Units.{IsAnnotations, IsModified, Modifiers, unmodified}
use Rattle.pp_grammar.specs.Words.{is_trait_word}
use Rattle.pp_grammar_sound.proofs.Modes.{Moved, Stands, at_after_assert_word, at_after_asserted, at_after_body}
use Rattle.pp_grammar_sound.proofs.Modes.{at_after_claim, at_after_contract, at_after_contracted_dot}
use Rattle.pp_grammar_sound.proofs.Modes.{at_after_decreases, at_after_dot, at_after_ensuring, at_after_head_name}
use Rattle.pp_grammar_sound.proofs.Modes.{at_after_if, at_after_int, at_after_int_dot, at_after_lambda_closed}
use Rattle.pp_grammar_sound.proofs.Modes.{at_after_lambda_name, at_after_lambda_round, at_after_lambda_round_name}
use Rattle.pp_grammar_sound.proofs.Modes.{at_after_lambda_typed, at_after_last, at_after_match, at_after_matched_dot}
use Rattle.pp_grammar_sound.proofs.Modes.{at_after_minus, at_after_name, at_after_name_types, at_after_negative_dot}
use Rattle.pp_grammar_sound.proofs.Modes.{at_after_object_name, at_after_param_name, at_after_params}
use Rattle.pp_grammar_sound.proofs.Modes.{at_after_pattern_minus, at_after_pattern_name, at_after_require}
use Rattle.pp_grammar_sound.proofs.Modes.{at_after_tuple, at_after_type_name, at_after_type_param, at_after_type_params}
use Rattle.pp_grammar_sound.proofs.Modes.{at_after_val_name, at_after_val_word, at_args_open, at_have}
use Rattle.pp_grammar_sound.proofs.Modes.{at_have_contracted, at_have_matched, at_have_negative, at_have_pattern}
use Rattle.pp_grammar_sound.proofs.Modes.{at_have_type, at_measure_open, at_params_open, at_pattern_args_open, at_want}
use Rattle.pp_grammar_sound.proofs.Modes.{at_want_body, at_want_case, at_want_class_name, at_want_def_name}
use Rattle.pp_grammar_sound.proofs.Modes.{at_want_else, at_want_lambda, at_want_lambda_or_semi, at_want_object_name}
use Rattle.pp_grammar_sound.proofs.Modes.{at_want_param, at_want_pattern, at_want_stat, at_want_then, at_want_type}
use Rattle.pp_grammar_sound.proofs.Modes.{at_want_type_param}
use Rattle.pp_grammar_sound.proofs.Opens.{Begins, begins_class, begins_def}
use Rattle.pp_grammar_sound.proofs.SoundBodies.{keeps_after_assert, keeps_after_claim, keeps_after_contract}
use Rattle.pp_grammar_sound.proofs.SoundBodies.{keeps_after_decreases, keeps_after_ensuring, keeps_after_last}
use Rattle.pp_grammar_sound.proofs.SoundBodies.{keeps_after_require, keeps_after_tuple, keeps_assert_word}
use Rattle.pp_grammar_sound.proofs.SoundBodies.{keeps_contracted_dot, keeps_have_contracted, keeps_lambda_closed}
use Rattle.pp_grammar_sound.proofs.SoundBodies.{keeps_lambda_name, keeps_lambda_round, keeps_lambda_round_name}
use Rattle.pp_grammar_sound.proofs.SoundBodies.{keeps_lambda_typed, keeps_measure_open, keeps_val_name, keeps_val_word}
use Rattle.pp_grammar_sound.proofs.SoundBodies.{keeps_want_body, keeps_want_lambda, keeps_want_lambda_or_semi}
use Rattle.pp_grammar_sound.proofs.SoundBodies.{keeps_want_stat}
use Rattle.pp_grammar_sound.proofs.SoundEnds.{def_ends}
use Rattle.pp_grammar_sound.proofs.SoundExprs.{keeps_dot, keeps_have, keeps_have_negative, keeps_if, keeps_minus}
use Rattle.pp_grammar_sound.proofs.SoundExprs.{keeps_negative_dot, keeps_want, keeps_want_then}
use Rattle.pp_grammar_sound.proofs.SoundHeads.{keeps_after_params, keeps_after_type_param, keeps_after_type_params}
use Rattle.pp_grammar_sound.proofs.SoundHeads.{keeps_head_name, keeps_object_name, keeps_param_name, keeps_params_open}
use Rattle.pp_grammar_sound.proofs.SoundHeads.{keeps_want_name, keeps_want_object_name, keeps_want_param}
use Rattle.pp_grammar_sound.proofs.SoundHeads.{keeps_want_type_param}
use Rattle.pp_grammar_sound.proofs.SoundMatches.{keeps_args_open, keeps_have_matched, keeps_int, keeps_int_dot}
use Rattle.pp_grammar_sound.proofs.SoundMatches.{keeps_match_word, keeps_matched_dot, keeps_name, keeps_name_types}
use Rattle.pp_grammar_sound.proofs.SoundMatches.{keeps_want_case, keeps_want_else}
use Rattle.pp_grammar_sound.proofs.SoundPatterns.{keeps_have_pattern, keeps_pattern_args_open, keeps_pattern_name}
use Rattle.pp_grammar_sound.proofs.SoundTypes.{keeps_have_type, keeps_pattern_minus, keeps_type_name}
use Rattle.pp_grammar_sound.proofs.SoundTypes.{keeps_want_pattern, keeps_want_type}
use Rattle.pp_tokens.specs.declared.token.Reserved.TheVariants.{Def}
use Rattle.pp_tokens.specs.declared.token.Token.{Token}
use Rattle.pp_tokens.specs.declared.token.TokenKind.TheVariants.{Name, Word as Reserve}
use Rattle.pp_tree.specs.Plain.{Word}
use Rattle.std.proofs.Common.{Bool, List, Some, refl, ◌∷◌, ◌≡◌}

module _ (text : Word) (t : Token) (ts us : List Token) where
  def_begins : (d : Token) → IsAnnotations text ts (d ∷ t ∷ us) → d.kind ≡ Reserve Def → t.kind ≡ Name
      → Begins text ts us of_def t
  def_begins d an is_d is = begins_def d t an is_d is

  class_begins : {vs : List Token} {m : Modifiers} {trait : Bool} (k : Token) → IsAnnotations text ts vs
      → IsModified vs (k ∷ t ∷ us) unmodified m → is_trait_word k.kind ≡ Some trait → t.kind ≡ Name
      → Begins text ts us (of_class m.sealed m.case trait) t
  class_begins k an md is_k is = begins_class k t an md is_k is

  pub keeps_mode : (s : List Frame) (m : Mode) → Stands text ts s m (t ∷ us)
      → Moved text ts t us (on_mode text t s m t.kind)
  keeps_mode s m (at_want op) = keeps_want text t ts us t.kind refl op
  keeps_mode s m (at_have h op r fits) = keeps_have text t ts us h _ s _ t.kind refl op r fits
  keeps_mode s m (at_after_name n op is_n pl) = keeps_name text t ts us n t.kind refl op is_n pl
  keeps_mode s m (at_after_name_types n o op is_n pl is_o r) = keeps_name_types text t ts us n o t.kind refl op
      is_n pl is_o r
  keeps_mode s m (at_args_open o op app is_o) = keeps_args_open text t ts us o t.kind refl op app is_o
  keeps_mode s m (at_after_int i op is_i r) = keeps_int text t ts us i t.kind refl op is_i r
  keeps_mode s m (at_after_int_dot i d op is_i r is_d) = keeps_int_dot text t ts us i d t.kind refl op is_i r is_d
  keeps_mode s m (at_after_minus n op is fl) = keeps_minus text t ts us n op is fl
  keeps_mode s m (at_have_negative op r fl) = keeps_have_negative text t ts us t.kind refl op r fl
  keeps_mode s m (at_after_negative_dot d op r fl is_d) = keeps_negative_dot text t ts us d t.kind refl op r fl is_d
  keeps_mode s m (at_after_dot h d op r fits is_d) = keeps_dot text t ts us h _ s _ d t.kind refl op r fits is_d
  keeps_mode s m (at_after_if i op is_i fl) = keeps_if text t ts us i t.kind refl op is_i fl
  keeps_mode s m (at_want_then op) = keeps_want_then text t ts us t.kind refl op
  keeps_mode s m (at_want_else c op r is_c) = keeps_want_else text t ts us c t.kind refl op r is_c
  keeps_mode s m (at_after_match n op fl r is_n) = keeps_match_word text t ts us n t.kind refl op fl r is_n
  keeps_mode s m (at_want_case n o op fl r is_n is_o) = keeps_want_case text t ts us n o t.kind refl op fl r is_n is_o
  keeps_mode s m (at_have_matched op fl r) = keeps_have_matched text t ts us t.kind refl op fl r
  keeps_mode s m (at_after_matched_dot d op r is_d) = keeps_matched_dot text t ts us d t.kind refl op r is_d
  keeps_mode s m (at_want_pattern op) = keeps_want_pattern text t ts us t.kind refl op
  keeps_mode s m (at_after_pattern_name n op is_n) = keeps_pattern_name text t ts us n t.kind refl op is_n
  keeps_mode s m (at_after_pattern_minus n op is_n) = keeps_pattern_minus text t ts us n op is_n
  keeps_mode s m (at_pattern_args_open n o op is_n is_o) = keeps_pattern_args_open text t ts us n o t.kind refl op
      is_n is_o
  keeps_mode s m (at_have_pattern op p) = keeps_have_pattern text t ts us t.kind refl op p
  keeps_mode s m (at_want_type op) = keeps_want_type text t ts us s t.kind refl op
  keeps_mode s m (at_after_type_name n op is_n) = keeps_type_name text t ts us n t.kind refl op is_n
  keeps_mode s m (at_have_type op a) = keeps_have_type text t ts us t.kind refl op a
  keeps_mode s m (at_want_stat st) = keeps_want_stat text t ts us t.kind refl st
  keeps_mode s m (at_after_asserted a o c st e1 e2 e3 x e4) = keeps_after_assert text t ts us a o c t.kind refl st
      e1 e2 e3 x e4
  keeps_mode s m (at_after_contract hb) = keeps_after_contract text t ts us t.kind refl hb
  keeps_mode s m (at_after_last st r gap) = keeps_after_last text t ts us t.kind refl st r gap
  keeps_mode s m (at_after_val_word v st is_v) = keeps_val_word text t ts us v t.kind refl st is_v
  keeps_mode s m (at_after_val_name v n st is_v is_n) = keeps_val_name text t ts us v n t.kind refl st is_v is_n
  keeps_mode s m (at_after_assert_word a st is_a r) = keeps_assert_word text t ts us a t.kind refl st is_a r
  keeps_mode s m (at_after_require w hb is_w r l) = keeps_after_require text t ts us w t.kind refl hb is_w r l
  keeps_mode s m (at_after_decreases w hb is_w r l) = keeps_after_decreases text t ts us w t.kind refl hb is_w r l
  keeps_mode s m (at_measure_open w o hb is_w r l is_o) = keeps_measure_open text t ts us w o t.kind refl hb is_w r
      l is_o
  keeps_mode s m (at_after_tuple w o p q hb is_w r l is_o is_p x is_q n ds e) =
      keeps_after_tuple text t ts us w o p q t.kind refl hb is_w r l is_o is_p x is_q n ds e
  keeps_mode s m (at_want_body sig) = keeps_want_body text t ts us t.kind refl sig
  keeps_mode s m (at_have_contracted {h = h} {a = a} {c = c} sig b) = keeps_have_contracted text t ts us h a c
      t.kind refl sig b
  keeps_mode s m (at_after_contracted_dot {c = c} d sig b is_d) = keeps_contracted_dot text t ts us c d t.kind refl
      sig b is_d
  keeps_mode s m (at_after_ensuring en) = keeps_after_ensuring text t ts us t.kind refl en
  keeps_mode s m (at_want_lambda_or_semi o en is_o gap) = keeps_want_lambda_or_semi text t ts us o t.kind refl en
      is_o gap
  keeps_mode s m (at_want_lambda post) = keeps_want_lambda text t ts us t.kind refl post
  keeps_mode s m (at_after_lambda_name n post is_n) = keeps_lambda_name text t ts us n t.kind refl post is_n
  keeps_mode s m (at_after_lambda_round o post is_o) = keeps_lambda_round text t ts us o t.kind refl post is_o
  keeps_mode s m (at_after_lambda_round_name o n post is_o is_n) = keeps_lambda_round_name text t ts us o n t.kind
      refl post is_o is_n
  keeps_mode s m (at_after_lambda_closed o n c post is_o is_n is_c) = keeps_lambda_closed text t ts us o n c t.kind
      refl post is_o is_n is_c
  keeps_mode s m (at_after_lambda_typed o n c e post is_o is_n is_c a is_e) =
      keeps_lambda_typed text t ts us o n c e t.kind refl post is_o is_n is_c a is_e
  keeps_mode s m (at_after_claim post r gap) = keeps_after_claim text t ts us t.kind refl post r gap
  keeps_mode s m (at_after_body {c = c} sig b) = def_ends text t ts us c sig b
  keeps_mode s m (at_want_def_name d an is_d) = keeps_want_name text t ts us t.kind refl (def_begins d an is_d)
  keeps_mode s m (at_want_class_name k an md is_k) = keeps_want_name text t ts us t.kind refl (class_begins k an md
      is_k)
  keeps_mode s m (at_after_head_name {kind = kind} h) = keeps_head_name text t ts us kind t.kind refl h
  keeps_mode s m (at_want_type_param h) = keeps_want_type_param text t ts us t.kind refl h
  keeps_mode s m (at_after_type_param h) = keeps_after_type_param text t ts us t.kind refl h
  keeps_mode s m (at_after_type_params {kind = kind} h) = keeps_after_type_params text t ts us kind t.kind refl h
  keeps_mode s m (at_params_open h) = keeps_params_open text t ts us t.kind refl h
  keeps_mode s m (at_want_param h) = keeps_want_param text t ts us t.kind refl h
  keeps_mode s m (at_after_param_name n h is_n) = keeps_param_name text t ts us n t.kind refl h is_n
  keeps_mode s m (at_after_params {kind = kind} h) = keeps_after_params text t ts us kind t.kind refl h
  keeps_mode s m (at_want_object_name c k an is_c is_k) = keeps_want_object_name text t ts us c k t.kind refl an
      is_c is_k
  keeps_mode s m (at_after_object_name c k n an is_c is_k is_n) = keeps_object_name text t ts us c k n t.kind refl
      an is_c is_k is_n
