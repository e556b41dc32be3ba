-- Each step in the head of a class or a function keeps what the modes say.
use Rattle.pp_grammar.specs.Frames.{Head, Kind, header, of_class, of_def}
use Rattle.pp_grammar.specs.Joining.{with_list, with_type_param}
use Rattle.pp_grammar.specs.StepBodies.{on_after_params, on_after_type_param, on_after_type_params, on_class_params}
use Rattle.pp_grammar.specs.StepBodies.{on_def_params, on_head_name, on_object_name, on_param_name, on_params_open}
use Rattle.pp_grammar.specs.StepBodies.{on_want_name, on_want_object_name, on_want_param, on_want_type_param}
use Rattle.pp_grammar.specs.Units.{IsAnnotations, empty_list, last_name, no_list, no_parent, no_type_params}
use Rattle.pp_grammar.specs.Units.{type_params}
use Rattle.pp_grammar.specs.Words.{word}
use Rattle.pp_grammar_sound.proofs.Fronts.{names_behind, names_more, names_none, params_none}
use Rattle.pp_grammar_sound.proofs.Modes.{Moved, at_after_head_name, at_after_object_name, at_after_param_name}
use Rattle.pp_grammar_sound.proofs.Modes.{at_after_params, at_after_type_param, at_after_type_params, at_params_open}
use Rattle.pp_grammar_sound.proofs.Modes.{at_want_type, at_want_type_param}
use Rattle.pp_grammar_sound.proofs.Opens.{Begins, HeadAt, behind_params, behind_type_param, behind_type_params}
use Rattle.pp_grammar_sound.proofs.Opens.{head_behind_type_param, head_named, head_param, head_params, head_params_open}
use Rattle.pp_grammar_sound.proofs.Opens.{head_type_param, head_type_params, named, opens_object_parent}
use Rattle.pp_grammar_sound.proofs.Opens.{opens_param_type, opens_parent_type, opens_result_type, params_opened}
use Rattle.pp_grammar_sound.proofs.Opens.{wanting_param, wanting_type_param}
use Rattle.pp_grammar_sound.proofs.SoundTypes.{class_ends}
use Rattle.pp_tokens.specs.declared.token.Bracket.TheVariants.{CloseRound, CloseSquare, Comma, OpenRound, OpenSquare}
use Rattle.pp_tokens.specs.declared.token.Operator.TheVariants.{Colon}
use Rattle.pp_tokens.specs.declared.token.Reserved.TheVariants.{Case, Extends, Object}
use Rattle.pp_tokens.specs.declared.token.Token.{Token}
use Rattle.pp_tokens.specs.declared.token.TokenKind.{TokenKind}
use Rattle.pp_tokens.specs.declared.token.TokenKind.TheVariants.{Mark, Name, Op, Word as Reserve}
use Rattle.pp_tree.specs.Plain.{Word}
use Rattle.std.proofs.Common.{Bool, List, [], ◌∷◌, ◌≡◌}

module _ (text : Word) (t : Token) (ts us : List Token) where
  -- ---- heads

  pub keeps_want_name : {kind : Kind} (k : TokenKind) → t.kind ≡ k → (t.kind ≡ Name → Begins text ts us kind t)
      → Moved text ts t us (on_want_name text t [] kind k)
  keeps_want_name Name is b = at_after_head_name (head_named t (b is))
  keeps_want_name _ is b = tt

  keeps_class_params : {sealed case trait : Bool} {h : Head} (k : TokenKind) → t.kind ≡ k
      → HeadAt text ts behind_params (of_class sealed case trait) h (t ∷ us)
      → Moved text ts t us (on_class_params text t [] sealed case trait h k)
  keeps_class_params (Reserve Extends) is h = at_want_type (opens_parent_type t h is)
  keeps_class_params _ is h = class_ends text t ts us h no_parent

  keeps_def_params : {h : Head} (k : TokenKind) → t.kind ≡ k → HeadAt text ts behind_params of_def h (t ∷ us)
      → Moved text ts t us (on_def_params text t [] h k)
  keeps_def_params (Op Colon) is h = at_want_type (opens_result_type t h is)
  keeps_def_params _ is h = tt

  pub keeps_after_params : (kind : Kind) {h : Head} (k : TokenKind) → t.kind ≡ k
      → HeadAt text ts behind_params kind h (t ∷ us)
      → Moved text ts t us (on_after_params text t (header kind h ∷ []) k)
  keeps_after_params (of_class sealed case trait) k is h = keeps_class_params k is h
  keeps_after_params of_def k is h = keeps_def_params k is h

  without_list : {kind : Kind} {h : Head} {vs : List Token} → HeadAt text ts behind_type_params kind h vs
      → HeadAt text ts behind_params kind h vs
  without_list (head_type_params n b tp) = head_params n b tp no_list

  with_open_list : {kind : Kind} {h : Head} → t.kind ≡ Mark OpenRound → HeadAt text ts behind_type_params kind h (t
      ∷ us)
      → HeadAt text ts params_opened kind h us
  with_open_list is (head_type_params n b tp) = head_params_open n t b tp is

  pub keeps_after_type_params : (kind : Kind) {h : Head} (k : TokenKind) → t.kind ≡ k
      → HeadAt text ts behind_type_params kind h (t ∷ us)
      → Moved text ts t us (on_after_type_params text t (header kind h ∷ []) k)
  keeps_after_type_params kind (Mark OpenRound) is h = at_params_open (with_open_list is h)
  keeps_after_type_params kind k is h = keeps_after_params kind k is (without_list h)

  without_type_params : {kind : Kind} {h : Head} {vs : List Token} → HeadAt text ts named kind h vs
      → HeadAt text ts behind_type_params kind h vs
  without_type_params (head_named n b) = head_type_params n b no_type_params

  with_type_params : {kind : Kind} {h : Head} → t.kind ≡ Mark OpenSquare → HeadAt text ts named kind h (t ∷ us)
      → HeadAt text ts wanting_type_param kind h us
  with_type_params is (head_named n b) = head_type_param n t b is names_none

  pub keeps_head_name : (kind : Kind) {h : Head} (k : TokenKind) → t.kind ≡ k → HeadAt text ts named kind h (t ∷ us)
      → Moved text ts t us (on_head_name text t (header kind h ∷ []) k)
  keeps_head_name kind (Mark OpenSquare) is h = at_want_type_param (with_type_params is h)
  keeps_head_name kind k is h = keeps_after_type_params kind k is (without_type_params h)

  one_type_param : {kind : Kind} {h : Head} → t.kind ≡ Name → HeadAt text ts wanting_type_param kind h (t ∷ us)
      → HeadAt text ts behind_type_param kind (with_type_param h (word text t)) us
  one_type_param is (head_type_param n o b is_o f) = head_behind_type_param n o t b is_o f is

  pub keeps_want_type_param : {kind : Kind} {h : Head} (k : TokenKind) → t.kind ≡ k
      → HeadAt text ts wanting_type_param kind h (t ∷ us)
      → Moved text ts t us (on_want_type_param text t (header kind h ∷ []) k)
  keeps_want_type_param Name is h = at_after_type_param (one_type_param is h)
  keeps_want_type_param _ is h = tt

  next_type_param : {kind : Kind} {h : Head} → t.kind ≡ Mark Comma → HeadAt text ts behind_type_param kind h (t ∷ us)
      → HeadAt text ts wanting_type_param kind h us
  next_type_param is (head_behind_type_param n o m b is_o f is_m) = head_type_param n o b is_o (names_more m t f
      is_m is)

  last_type_param : {kind : Kind} {h : Head} → t.kind ≡ Mark CloseSquare
      → HeadAt text ts behind_type_param kind h (t ∷ us) → HeadAt text ts behind_type_params kind h us
  last_type_param is (head_behind_type_param n o m b is_o f is_m) =
      head_type_params n b (type_params o is_o (names_behind text f (last_name m t is_m is)))

  pub keeps_after_type_param : {kind : Kind} {h : Head} (k : TokenKind) → t.kind ≡ k
      → HeadAt text ts behind_type_param kind h (t ∷ us)
      → Moved text ts t us (on_after_type_param text t (header kind h ∷ []) k)
  keeps_after_type_param (Mark Comma) is h = at_want_type_param (next_type_param is h)
  keeps_after_type_param (Mark CloseSquare) is h = at_after_type_params (last_type_param is h)
  keeps_after_type_param _ is h = tt

  pub keeps_want_param : {kind : Kind} {h : Head} (k : TokenKind) → t.kind ≡ k
      → HeadAt text ts wanting_param kind h (t ∷ us) → Moved text ts t us (on_want_param text t (header kind h ∷
      []) k)
  keeps_want_param Name is h = at_after_param_name t h is
  keeps_want_param _ is h = tt

  no_param : {kind : Kind} {h : Head} → t.kind ≡ Mark CloseRound → HeadAt text ts params_opened kind h (t ∷ us)
      → HeadAt text ts behind_params kind (with_list h) us
  no_param is (head_params_open n o b tp is_o) = head_params n b tp (empty_list o t is_o is)

  first_param : {kind : Kind} {h : Head} {vs : List Token} → HeadAt text ts params_opened kind h vs
      → HeadAt text ts wanting_param kind h vs
  first_param (head_params_open n o b tp is_o) = head_param n o b tp is_o params_none

  pub keeps_params_open : {kind : Kind} {h : Head} (k : TokenKind) → t.kind ≡ k
      → HeadAt text ts params_opened kind h (t ∷ us)
      → Moved text ts t us (on_params_open text t (header kind h ∷ []) k)
  keeps_params_open (Mark CloseRound) is h = at_after_params (no_param is h)
  keeps_params_open k is h = keeps_want_param k is (first_param h)

  pub keeps_param_name : {kind : Kind} {h : Head} (n : Token) (k : TokenKind) → t.kind ≡ k
      → HeadAt text ts wanting_param kind h (n ∷ t ∷ us) → n.kind ≡ Name
      → Moved text ts t us (on_param_name text t (header kind h ∷ []) n.from (word text n) k)
  keeps_param_name n (Op Colon) is h is_n = at_want_type (opens_param_type n t h is_n is)
  keeps_param_name n _ is h is_n = tt

  pub keeps_want_object_name : (c j : Token) (k : TokenKind) → t.kind ≡ k → IsAnnotations text ts (c ∷ j ∷ t ∷ us)
      → c.kind ≡ Reserve Case → j.kind ≡ Reserve Object → Moved text ts t us (on_want_object_name text t [] k)
  keeps_want_object_name c j Name is an is_c is_j = at_after_object_name c j t an is_c is_j is
  keeps_want_object_name c j _ is an is_c is_j = tt

  pub keeps_object_name : (c j n : Token) (k : TokenKind) → t.kind ≡ k → IsAnnotations text ts (c ∷ j ∷ n ∷ t ∷ us)
      → c.kind ≡ Reserve Case → j.kind ≡ Reserve Object → n.kind ≡ Name
      → Moved text ts t us (on_object_name text t [] n.from (word text n) k)
  keeps_object_name c j n (Reserve Extends) is an is_c is_j is_n =
      at_want_type (opens_object_parent c j n t an is_c is_j is_n is)
  keeps_object_name c j n _ is an is_c is_j is_n = tt
