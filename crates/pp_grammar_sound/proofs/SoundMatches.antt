-- Each step in a match and behind a name keeps what the modes say.
use Rattle.pp_grammar.specs.Bodies.{closed_matched, head_matched}
use Rattle.pp_grammar.specs.Exprs.{IsExpr, IsInfix, IsMatched, IsSimple, at_types, at_types_on_arguments, bound}
use Rattle.pp_grammar.specs.Exprs.{matched, name_alone, no_arguments, no_field, on_arguments, semicolon, simple}
use Rattle.pp_grammar.specs.Frames.{Frame, cases_of}
use Rattle.pp_grammar.specs.Joining.{floor, unwind}
use Rattle.pp_grammar.specs.StepExprs.{on_args_open, on_bound, on_have_matched, on_int, on_int_dot, on_match_dot}
use Rattle.pp_grammar.specs.StepExprs.{on_match_word, on_matched_dot, on_name, on_name_types, on_want_case}
use Rattle.pp_grammar.specs.StepExprs.{on_want_else}
use Rattle.pp_grammar.specs.Types.{IsTypes}
use Rattle.pp_grammar.specs.Words.{bound_of, int_word, is_dot, loosest, plain, role, word}
use Rattle.pp_grammar_sound.proofs.Fronts.{cases_none, front_none, types_none}
use Rattle.pp_grammar_sound.proofs.Modes.{Moved, at_after_int_dot, at_after_matched_dot, at_args_open, at_have}
use Rattle.pp_grammar_sound.proofs.Modes.{at_want_case, at_want_pattern, at_want_type}
use Rattle.pp_grammar_sound.proofs.Opens.{Applies, Opens, opens_args, opens_body, opens_cases, opens_if_then}
use Rattle.pp_grammar_sound.proofs.Opens.{opens_name_types, opens_stat, stat_arm, stat_assert, stat_braces, stat_head}
use Rattle.pp_grammar_sound.proofs.Opens.{stat_val, then_at}
use Rattle.pp_grammar_sound.proofs.SoundEnds.{keeps_else, keeps_unwound}
use Rattle.pp_grammar_sound.proofs.SoundExprs.{keeps_have, keeps_post_word, keeps_want, ready_dot, ready_head}
use Rattle.pp_grammar_sound.proofs.Unwound.{unwound, value_expr}
use Rattle.pp_tokens.specs.declared.token.Bracket.TheVariants.{CloseRound, Dot, OpenBrace, OpenRound, OpenSquare}
use Rattle.pp_tokens.specs.declared.token.Bracket.TheVariants.{Semicolon}
use Rattle.pp_tokens.specs.declared.token.Reserved.TheVariants.{Case, Else, Match}
use Rattle.pp_tokens.specs.declared.token.Token.{Token}
use Rattle.pp_tokens.specs.declared.token.TokenKind.{TokenKind}
use Rattle.pp_tokens.specs.declared.token.TokenKind.TheVariants.{Mark, Name, Word as Reserve}
use Rattle.pp_tree.specs.Plain.{Tree, TypeTrees, Word, apply, name, no_trees}
use Rattle.std.proofs.Common.{List, None, Option, Some, [], arith, false, inl, refl, ℕ, ℤ, ◌∷◌, ◌≡◌, ◌≤◌}

module _ (text : Word) (t : Token) (ts us : List Token) where
  -- ---- matches

  keeps_match_dot : {vs : List Token} {s : List Frame} {e : Tree} → t.kind ≡ Mark Dot → Opens text ts s vs
      → IsMatched text vs (t ∷ us) e → Moved text ts t us (on_match_dot text t s e)
  keeps_match_dot is (opens_body sig) r = at_after_matched_dot t (opens_body sig) r is
  keeps_match_dot is (opens_if_then (then_at i o c op e1 e2 fl x e3 br)) v = tt
  keeps_match_dot is (opens_stat (stat_braces o op e1 g)) v = tt
  keeps_match_dot is (opens_stat (stat_arm b op p g e1 gap)) v = tt
  keeps_match_dot is (opens_stat (stat_val w n q op e1 e2 e3 e4 e5 e6)) v = tt
  keeps_match_dot is (opens_stat (stat_assert b o c op e1 e2 e3 e4 e5 e6)) v = tt
  keeps_match_dot is (opens_stat (stat_head b)) v = tt
  keeps_match_dot is _ v = tt

  pub keeps_have_matched : {vs : List Token} {s : List Frame} {e : Tree} (k : TokenKind) → t.kind ≡ k
      → Opens text ts s vs → floor s ≤ 0 → IsMatched text vs (t ∷ us) e
      → Moved text ts t us (on_have_matched text t s e k)
  keeps_have_matched (Mark Dot) is op fl r = keeps_match_dot is op r
  keeps_have_matched {vs = vs} {s = s} {e = e} Name is op fl r =
      keeps_post_word text t ts us false vs s e (role (word text t)) refl is op (ready_head (head_matched r))
  keeps_have_matched {s = s} {e = e} k is op fl r =
      keeps_unwound text t ts us (unwind 0 s e false) k is (unwound text false 0 0 (inl refl, omega arith) op
      (value_expr (matched r)) fl (omega arith) tt)

  pub keeps_matched_dot : {vs : List Token} {s : List Frame} {e : Tree} (dot : Token) (k : TokenKind) → t.kind ≡ k
      → Opens text ts s vs → IsMatched text vs (dot ∷ t ∷ us) e → dot.kind ≡ Mark Dot
      → Moved text ts t us (on_matched_dot text t s e k)
  keeps_matched_dot {vs = vs} {s = s} {e = e} dot Name is op r is_dot =
      keeps_post_word text t ts us false vs s e (role (word text t)) refl is op (ready_dot dot (closed_matched r)
      is_dot)
  keeps_matched_dot dot _ is op r is_dot = tt

  pub keeps_match_word : {vs : List Token} {s : List Frame} {e : Tree} (m : Token) (k : TokenKind) → t.kind ≡ k
      → Opens text ts s vs → floor s ≤ 0 → IsInfix text loosest vs (m ∷ t ∷ us) e → m.kind ≡ Reserve Match
      → Moved text ts t us (on_match_word text t s m.from e k)
  keeps_match_word m (Mark OpenBrace) is op fl r is_m = at_want_case m t op fl r is_m is
  keeps_match_word m _ is op fl r is_m = tt

  pub keeps_want_case : {vs : List Token} {s : List Frame} {e : Tree} (m o : Token) (k : TokenKind) → t.kind ≡ k
      → Opens text ts s vs → floor s ≤ 0 → IsInfix text loosest vs (m ∷ o ∷ t ∷ us) e → m.kind ≡ Reserve Match
      → o.kind ≡ Mark OpenBrace → Moved text ts t us (on_want_case text t (cases_of m.from e [] ∷ s) k)
  keeps_want_case m o (Reserve Case) is op fl r is_m is_o =
      at_want_pattern (opens_cases m o t op fl r is_m is_o cases_none is)
  keeps_want_case m o _ is op fl r is_m is_o = tt

  pub keeps_want_else : {vs : List Token} {s : List Frame} {e : Tree} (c : Token) (k : TokenKind) → t.kind ≡ k
      → Opens text ts s vs → IsExpr text vs (c ∷ t ∷ us) e → c.kind ≡ Mark Semicolon
      → Moved text ts t us (on_want_else text t s e k)
  keeps_want_else c (Reserve Else) is op r is_c = keeps_else text t ts us is op r (semicolon c is_c)
  keeps_want_else c _ is op r is_c = tt

  -- ---- behind a name

  named_simple : (n : Token) → n.kind ≡ Name → role (word text n) ≡ plain
      → IsSimple text (n ∷ t ∷ us) (t ∷ us) (name n.from (word text n))
  named_simple n is pl = simple (name_alone n is pl) no_field

  pub keeps_name : {s : List Frame} (n : Token) (k : TokenKind) → t.kind ≡ k → Opens text ts s (n ∷ t ∷ us)
      → n.kind ≡ Name → role (word text n) ≡ plain → Moved text ts t us (on_name text t s n.from (word text n) k)
  keeps_name n (Mark OpenSquare) is op is_n pl = at_want_type (opens_name_types n t op is_n pl is types_none)
  keeps_name n (Mark OpenRound) is op is_n pl = at_args_open t op (λ vs es r. on_arguments n is_n pl r) is
  keeps_name {s = s} n k is op is_n pl =
      keeps_have text t ts us false (n ∷ t ∷ us) s (name n.from (word text n)) k is op (named_simple n is_n pl) tt

  pub keeps_name_types : {vs : List Token} {s : List Frame} {tys : TypeTrees} (n o : Token) (k : TokenKind)
      → t.kind ≡ k
      → Opens text ts s (n ∷ o ∷ vs) → n.kind ≡ Name → role (word text n) ≡ plain → o.kind ≡ Mark OpenSquare
      → IsTypes text vs (t ∷ us) tys → Moved text ts t us (on_name_types text t s n.from (word text n) tys k)
  keeps_name_types n o (Mark OpenRound) is op is_n pl is_o r =
      at_args_open t op (λ vs es q. at_types_on_arguments n o is_n pl is_o r q) is
  keeps_name_types {vs = vs} {s = s} {tys = tys} n o k is op is_n pl is_o r =
      keeps_have text t ts us false (n ∷ o ∷ vs) s (apply n.from (word text n) tys no_trees) k is op (simple
      (at_types n o is_n pl is_o r) no_field) tt

  pub keeps_args_open : {vs : List Token} {s : List Frame} {at : ℕ} {w : Word} {tys : TypeTrees} (o : Token)
      (k : TokenKind) → t.kind ≡ k → Opens text ts s vs → Applies text vs (o ∷ t ∷ us) at w tys
      → o.kind ≡ Mark OpenRound → Moved text ts t us (on_args_open text t s at w tys k)
  keeps_args_open o (Mark CloseRound) is op app is_o =
      at_have false op (simple (app _ _ (no_arguments o t is_o is)) no_field) tt
  keeps_args_open o k is op app is_o = keeps_want text t ts us k is (opens_args o op app is_o front_none)

  pub keeps_int : {s : List Frame} (i : Token) (k : TokenKind) → t.kind ≡ k → Opens text ts s (i ∷ t ∷ us)
      → i.kind ≡ Name → role (word text i) ≡ int_word → Moved text ts t us (on_int text t s i.from k)
  keeps_int i (Mark Dot) is op is_i r = at_after_int_dot i t op is_i r is
  keeps_int i _ is op is_i r = tt

  keeps_bound : {s : List Frame} (i dot : Token) (n : Option ℤ) → bound_of (word text t) ≡ n → t.kind ≡ Name
      → Opens text ts s (i ∷ dot ∷ t ∷ us) → i.kind ≡ Name → role (word text i) ≡ int_word → dot.kind ≡ Mark Dot
      → Moved text ts t us (on_bound text t s i.from n)
  keeps_bound i dot (Some z) e is op is_i r is_dot = at_have false op (simple (bound i dot t is_i r is_dot is e)
      no_field) tt
  keeps_bound i dot None e is op is_i r is_dot = tt

  pub keeps_int_dot : {s : List Frame} (i dot : Token) (k : TokenKind) → t.kind ≡ k
      → Opens text ts s (i ∷ dot ∷ t ∷ us) → i.kind ≡ Name → role (word text i) ≡ int_word → dot.kind ≡ Mark Dot
      → Moved text ts t us (on_int_dot text t s i.from k)
  keeps_int_dot i dot Name is op is_i r is_dot = keeps_bound i dot (bound_of (word text t)) refl is op is_i r is_dot
  keeps_int_dot i dot _ is op is_i r is_dot = tt
