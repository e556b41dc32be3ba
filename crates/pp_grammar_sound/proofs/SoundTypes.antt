-- Each step in a type or a pattern keeps what the modes say.
use Rattle.pp_grammar.specs.Bodies.{of_typed_name}
use Rattle.pp_grammar.specs.Frames.{Frame, Head, Kind, header, of_class, of_def}
use Rattle.pp_grammar.specs.Joining.{class_tree}
use Rattle.pp_grammar.specs.Patterns.{IsPlain, anything, false_pattern, negated_pattern, number_pattern, signed_pattern}
use Rattle.pp_grammar.specs.Patterns.{true_pattern}
use Rattle.pp_grammar.specs.StepTypes.{on_have_type, on_int_pattern, on_name_type, on_param_type, on_pattern_minus}
use Rattle.pp_grammar.specs.StepTypes.{on_result_name_type, on_result_name_type_in_round, on_result_type, on_type_arg}
use Rattle.pp_grammar.specs.StepTypes.{on_type_name, on_val_type, on_want_pattern, on_want_type}
use Rattle.pp_grammar.specs.Types.{IsType, ascribed, last_type, type_name, type_of}
use Rattle.pp_grammar.specs.Units.{IsParent, case_object, class_decl, class_of, last_param, param_list, parent}
use Rattle.pp_grammar.specs.Words.{is_minus, is_sign, is_signed, negated_of, negative_of, number_of, plain, role, word}
use Rattle.pp_grammar_sound.proofs.Fronts.{FrontTypes, params_behind, params_more, types_behind, types_more, types_none}
use Rattle.pp_grammar_sound.proofs.Modes.{Declares, Moved, at_after_lambda_typed, at_after_name_types, at_after_params}
use Rattle.pp_grammar_sound.proofs.Modes.{at_after_pattern_minus, at_after_pattern_name, at_after_type_name}
use Rattle.pp_grammar_sound.proofs.Modes.{at_have_pattern, at_have_type, at_want, at_want_body, at_want_param}
use Rattle.pp_grammar_sound.proofs.Modes.{at_want_pattern, at_want_type, declares_class}
use Rattle.pp_grammar_sound.proofs.Opens.{HeadAt, Opens, PostAt, StatAt, begins_class, behind_params, head_param}
use Rattle.pp_grammar_sound.proofs.Opens.{head_params, opens_claiming, opens_if_then, opens_name_types}
use Rattle.pp_grammar_sound.proofs.Opens.{opens_object_parent, opens_param_type, opens_parent_type, opens_pattern_round}
use Rattle.pp_grammar_sound.proofs.Opens.{opens_result_name_type, opens_result_name_type_in_round, opens_result_type}
use Rattle.pp_grammar_sound.proofs.Opens.{opens_stat, opens_type_args, opens_val_type, opens_val_value, signature}
use Rattle.pp_grammar_sound.proofs.Opens.{stat_arm, stat_assert, stat_braces, stat_head, stat_val, then_at}
use Rattle.pp_grammar_sound.proofs.Opens.{wanting_param}
use Rattle.pp_tokens.specs.declared.token.Bracket.TheVariants.{CloseRound, CloseSquare, Comma, OpenRound, OpenSquare}
use Rattle.pp_tokens.specs.declared.token.Operator.TheVariants.{Arrow, Assign, Colon, Minus}
use Rattle.pp_tokens.specs.declared.token.Reserved.TheVariants.{False, True, Val}
use Rattle.pp_tokens.specs.declared.token.Token.{Token}
use Rattle.pp_tokens.specs.declared.token.TokenKind.{TokenKind}
use Rattle.pp_tokens.specs.declared.token.TokenKind.TheVariants.{Hex, Hole, Mark, Name, Number, Op, Word as Reserve}
use Rattle.pp_tree.specs.Plain.{TypeTree, Word, int_pattern}
use Rattle.std.proofs.Common.{Bool, List, None, Option, Some, [], ap, cond, false, refl, true, ℕ, ℤ, ◌&&◌, ◌∙◌, ◌∷◌}
use Rattle.std.proofs.Common.{◌≡◌}

module _ (text : Word) (t : Token) (ts us : List Token) where
  pub keeps_want_type : (s : List Frame) (k : TokenKind) → t.kind ≡ k → Opens text ts s (t ∷ us)
      → Moved text ts t us (on_want_type text t s k)
  keeps_want_type s Name is o = at_after_type_name t o is
  keeps_want_type s _ is o = tt

  keeps_param_type : {vs : List Token} {kind : Kind} {h : Head} {a : TypeTree} (n c : Token) (k : TokenKind)
      → t.kind ≡ k → HeadAt text ts wanting_param kind h (n ∷ c ∷ vs) → n.kind ≡ Name → c.kind ≡ Op Colon
      → IsType text vs (t ∷ us) a
      → Moved text ts t us (on_param_type text t (header kind h ∷ []) n.from (word text n) a k)
  keeps_param_type n c (Mark Comma) is (head_param m o b tp is_o f) is_n is_c a =
      at_want_param (head_param m o b tp is_o (params_more n c t f is_n is_c a is))
  keeps_param_type n c (Mark CloseRound) is (head_param m o b tp is_o f) is_n is_c a =
      at_after_params (head_params m b tp (param_list o is_o (params_behind text f (last_param n c t is_n is_c a
      is))))
  keeps_param_type n c _ is h is_n is_c a = tt

  keeps_result_type : {vs : List Token} {h : Head} {a : TypeTree} (c : Token) (k : TokenKind) → t.kind ≡ k
      → HeadAt text ts behind_params of_def h (c ∷ vs) → c.kind ≡ Op Colon → IsType text vs (t ∷ us) a
      → Moved text ts t us (on_result_type text t (header of_def h ∷ []) a k)
  keeps_result_type c (Op Assign) is h is_c a = at_want_body (signature c t h is_c a is)
  keeps_result_type c _ is h is_c a = tt

  -- the head of a class with its parent
  pub class_ends : {vs : List Token} {sealed case trait : Bool} {h : Head} {p : Option TypeTree}
      → HeadAt text ts behind_params (of_class sealed case trait) h vs → IsParent text vs (t ∷ us) p
      → Declares text ts (t ∷ us) (class_decl sealed case trait (class_tree h p))
  class_ends (head_params n (begins_class k m an md is_k is_n) tp pl) p =
      declares_class (class_of k n an md is_k is_n tp pl p)

  keeps_type_arg : {vs ws : List Token} {s : List Frame} {tys : List TypeTree} {a : TypeTree} (n o : Token)
      (k : TokenKind) → t.kind ≡ k → Opens text ts s (n ∷ o ∷ vs) → n.kind ≡ Name → o.kind ≡ Mark OpenSquare
      → FrontTypes text vs ws tys → IsType text ws (t ∷ us) a
      → Moved text ts t us (on_type_arg text t s n.from (word text n) tys a k)
  keeps_type_arg n o (Mark Comma) is op is_n is_o f a = at_want_type (opens_type_args n o op is_n is_o (types_more
      t f a is))
  keeps_type_arg n o (Mark CloseSquare) is op is_n is_o f a =
      at_have_type op (type_of n o is_n is_o (types_behind text f (last_type t a is)))
  keeps_type_arg n o _ is op is_n is_o f a = tt

  keeps_name_type : {vs ws : List Token} {s : List Frame} {tys : List TypeTree} {a : TypeTree} (n o : Token)
      (k : TokenKind) → t.kind ≡ k → Opens text ts s (n ∷ o ∷ vs) → n.kind ≡ Name → role (word text n) ≡ plain
      → o.kind ≡ Mark OpenSquare → FrontTypes text vs ws tys → IsType text ws (t ∷ us) a
      → Moved text ts t us (on_name_type text t s n.from (word text n) tys a k)
  keeps_name_type n o (Mark Comma) is op is_n pl is_o f a =
      at_want_type (opens_name_types n o op is_n pl is_o (types_more t f a is))
  keeps_name_type n o (Mark CloseSquare) is op is_n pl is_o f a =
      at_after_name_types n o op is_n pl is_o (types_behind text f (last_type t a is))
  keeps_name_type n o _ is op is_n pl is_o f a = tt

  keeps_val_type : {vs : List Token} {s : List Frame} {a : TypeTree} (v n c : Token) (k : TokenKind) → t.kind ≡ k
      → StatAt text ts s (v ∷ n ∷ c ∷ vs) → v.kind ≡ Reserve Val → n.kind ≡ Name → c.kind ≡ Op Colon
      → IsType text vs (t ∷ us) a → Moved text ts t us (on_val_type text t s v.from (word text n) a k)
  keeps_val_type v n c (Op Assign) is op is_v is_n is_c a =
      at_want (opens_val_value v n t op is_v is_n (ascribed c is_c a) is)
  keeps_val_type v n c _ is op is_v is_n is_c a = tt

  keeps_result_name_type : {vs : List Token} {s : List Frame} {a : TypeTree} (n c : Token) (k : TokenKind)
      → t.kind ≡ k → PostAt text ts s (n ∷ c ∷ vs) → n.kind ≡ Name → c.kind ≡ Op Colon → IsType text vs (t ∷ us) a
      → Moved text ts t us (on_result_name_type text t s (word text n) a k)
  keeps_result_name_type n c (Op Arrow) is op is_n is_c a =
      at_want (opens_claiming op (λ ws e r. of_typed_name n c t is_n is_c a is r))
  keeps_result_name_type n c _ is op is_n is_c a = tt

  keeps_result_name_type_in_round : {vs : List Token} {s : List Frame} {a : TypeTree} (o n c : Token) (k : TokenKind)
      → t.kind ≡ k → PostAt text ts s (o ∷ n ∷ c ∷ vs) → o.kind ≡ Mark OpenRound → n.kind ≡ Name → c.kind ≡ Op Colon
      → IsType text vs (t ∷ us) a → Moved text ts t us (on_result_name_type_in_round text t s (word text n) a k)
  keeps_result_name_type_in_round o n c (Mark CloseRound) is op is_o is_n is_c a =
      at_after_lambda_typed o n c t op is_o is_n is_c a is
  keeps_result_name_type_in_round o n c _ is op is_o is_n is_c a = tt

  pub keeps_have_type : {vs : List Token} {s : List Frame} {a : TypeTree} (k : TokenKind) → t.kind ≡ k
      → Opens text ts s vs → IsType text vs (t ∷ us) a → Moved text ts t us (on_have_type text t s a k)
  keeps_have_type k is (opens_param_type n c h is_n is_c) a = keeps_param_type n c k is h is_n is_c a
  keeps_have_type k is (opens_result_type c h is_c) a = keeps_result_type c k is h is_c a
  keeps_have_type k is (opens_parent_type x h is_x) a = class_ends h (parent x is_x a)
  keeps_have_type k is (opens_object_parent c j n x an is_c is_j is_n is_x) a =
      declares_class (case_object c j n x an is_c is_j is_n is_x a)
  keeps_have_type k is (opens_type_args n o op is_n is_o f) a = keeps_type_arg n o k is op is_n is_o f a
  keeps_have_type k is (opens_name_types n o op is_n pl is_o f) a = keeps_name_type n o k is op is_n pl is_o f a
  keeps_have_type k is (opens_val_type v n c op is_v is_n is_c) a = keeps_val_type v n c k is op is_v is_n is_c a
  keeps_have_type k is (opens_result_name_type n c op is_n is_c) a = keeps_result_name_type n c k is op is_n is_c a
  keeps_have_type k is (opens_result_name_type_in_round o n c op is_o is_n is_c) a =
      keeps_result_name_type_in_round o n c k is op is_o is_n is_c a
  keeps_have_type k is (opens_if_then (then_at i o c op e1 e2 f e3 e4 e5)) a = tt
  keeps_have_type k is (opens_stat (stat_braces o op e g)) a = tt
  keeps_have_type k is (opens_stat (stat_arm b op p g e gap)) a = tt
  keeps_have_type k is (opens_stat (stat_val v n q op e1 e2 e3 e4 e5 e6)) a = tt
  keeps_have_type k is (opens_stat (stat_assert b o c op e1 e2 e3 e4 e5 e6)) a = tt
  keeps_have_type k is (opens_stat (stat_head h)) a = tt
  keeps_have_type k is _ a = tt

  pub keeps_type_name : {s : List Frame} (n : Token) (k : TokenKind) → t.kind ≡ k → Opens text ts s (n ∷ t ∷ us)
      → n.kind ≡ Name → Moved text ts t us (on_type_name text t s n.from (word text n) k)
  keeps_type_name n (Mark OpenSquare) is op is_n = at_want_type (opens_type_args n t op is_n is types_none)
  keeps_type_name n k is op is_n = keeps_have_type k is op (type_name n is_n)

  -- ---- patterns

  keeps_int_pattern : {vs : List Token} {s : List Frame} (at : ℕ) (n : Option ℤ)
      → ((z : ℤ) → n ≡ Some z → IsPlain text vs us (int_pattern at None z)) → Opens text ts s vs
      → Moved text ts t us (on_int_pattern text t s at n)
  keeps_int_pattern at (Some z) reads op = at_have_pattern op (reads z refl)
  keeps_int_pattern at None reads op = tt

  pub keeps_want_pattern : {s : List Frame} (k : TokenKind) → t.kind ≡ k → Opens text ts s (t ∷ us)
      → Moved text ts t us (on_want_pattern text t s k)
  keeps_want_pattern Name is op = at_after_pattern_name t op is
  keeps_want_pattern Hole is op = at_have_pattern op (anything t is)
  keeps_want_pattern (Number n) is op =
      keeps_int_pattern t.from (number_of (Number n)) (λ z e. number_pattern t (ap number_of is ∙ e)) op
  keeps_want_pattern (Hex n) is op =
      keeps_int_pattern t.from (number_of (Hex n)) (λ z e. number_pattern t (ap number_of is ∙ e)) op
  keeps_want_pattern (Op Minus) is op = at_after_pattern_minus t op is
  keeps_want_pattern (Reserve True) is op = at_have_pattern op (true_pattern t is)
  keeps_want_pattern (Reserve False) is op = at_have_pattern op (false_pattern t is)
  keeps_want_pattern (Mark OpenRound) is op = at_want_pattern (opens_pattern_round t op is)
  keeps_want_pattern _ is op = tt

  -- whether a minus sign is one of the number behind it
  sign_of : (m : Token) → m.kind ≡ Op Minus → is_sign m (t ∷ us) ≡ is_signed m.to t
  sign_of m is = ap (λ k. is_minus k && is_signed m.to t) is

  pub keeps_pattern_minus : {s : List Frame} (m : Token) → Opens text ts s (m ∷ t ∷ us) → m.kind ≡ Op Minus
      → Moved text ts t us (on_pattern_minus text t s m.from m.to t.kind)
  keeps_pattern_minus {s = s} m op is =
      let P : Bool → Type 0 = λ b. is_signed m.to t ≡ b → Moved text ts t us (on_int_pattern text t s m.from (cond
      b (negative_of t.kind) (negated_of t.kind))) in
      elim (is_signed m.to t) as P [
        | true ↦ λ e. keeps_int_pattern m.from (negative_of t.kind) (λ z n. signed_pattern m t is (sign_of m is
            ∙ e) n) op
        | false ↦ λ e. keeps_int_pattern m.from (negated_of t.kind) (λ z n. negated_pattern m t is (sign_of m is
            ∙ e) n) op
      ] refl
