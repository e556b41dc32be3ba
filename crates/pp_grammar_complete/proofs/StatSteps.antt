-- Steps of the automaton between statements and in matches, and what the next token tells of them.
use Rattle.pp_grammar.specs.Exprs.{IsCases, case_of, last_case, one_more_case}
use Rattle.pp_grammar.specs.Frames.{CaseText, Frame, Parsed, after_assert, after_last, after_match, after_stat}
use Rattle.pp_grammar.specs.Frames.{after_val, after_val_name, arm, braces, cases_of, go, have_matched, have_type}
use Rattle.pp_grammar.specs.Frames.{head_braces, val_type, val_value, want, want_pattern, want_stat, want_then}
use Rattle.pp_grammar.specs.Joining.{above, cases_onto, floor}
use Rattle.pp_grammar.specs.StepBodies.{on_after_last, on_after_stat, on_stat_name, on_want_stat}
use Rattle.pp_grammar.specs.StepExprs.{on_expr_end, on_match, on_semi, on_semicolon}
use Rattle.pp_grammar.specs.StepTypes.{refuse}
use Rattle.pp_grammar.specs.Types.{IsAscription, IsBreaks, IsGap, IsSemis, ascribed, more_newlines, no_newlines}
use Rattle.pp_grammar.specs.Types.{no_semi, no_type, one_semi, semis}
use Rattle.pp_grammar.specs.Words.{Role, is_semi, role, word}
use Rattle.pp_grammar_complete.proofs.ExprSteps.{EndRest, Ended, IsCaseHead, RestEnds, behind_first, end_rest_step}
use Rattle.pp_grammar_complete.proofs.ExprSteps.{ends_rest, is_stat, le_true}
use Rattle.pp_grammar_complete.proofs.ReachTypes.{reaches_type}
use Rattle.pp_grammar_complete.proofs.Steps.{Go, Run, go_on, goes_on, take_step}
use Rattle.pp_tokens.specs.declared.token.Bracket.TheVariants.{CloseBrace, Semicolon}
use Rattle.pp_tokens.specs.declared.token.Operator.TheVariants.{Assign}
use Rattle.pp_tokens.specs.declared.token.Reserved.TheVariants.{Case}
use Rattle.pp_tokens.specs.declared.token.Token.{Token}
use Rattle.pp_tokens.specs.declared.token.TokenKind.{TokenKind}
use Rattle.pp_tokens.specs.declared.token.TokenKind.TheVariants.{Mark, Name, Newline, Op, Word as Reserve}
use Rattle.pp_tree.specs.Plain.{CaseTrees, PatternTree, Tree, TypeTree, Word, assert_in, matching, no_cases, val_in}
use Rattle.pp_tree.specs.Shown.{case_before}
use Rattle.std.proofs.Common.{Bool, List, Option, [], ap, cond, false, refl, true, ℕ, ◌∙◌, ◌∷◌, ◌≡◌, ◌≤◌}

module _ (text : Word) (d : Parsed) (b : Bool) where
  -- ---- newlines and semis

  pub reaches_breaks : {us vs : List Token} → IsBreaks us vs → (s : List Frame)
      → Run text d b us s want_then ≡ Run text d b vs s want_then
  reaches_breaks no_newlines s = refl
  reaches_breaks (more_newlines {ts = us} t is g) s = take_step text d b t us s want_then _ is ∙ reaches_breaks g s

  pub stat_semi_step : (t : Token) (s : List Frame) (k : TokenKind) → is_semi k ≡ true
      → on_want_stat text t s k ≡ go s want_stat
  stat_semi_step t s Newline is = refl
  stat_semi_step t s (Mark Semicolon) is = refl
  stat_semi_step t s _ is = absurd (cc)

  pub skips_gap : {us vs : List Token} → IsGap us vs → (s : List Frame)
      → Run text d b us s want_stat ≡ Run text d b vs s want_stat
  skips_gap no_semi s = refl
  skips_gap (one_semi {ts = us} t is g) s = go_on text d b t us _ _ (stat_semi_step t s t.kind is) ∙ skips_gap g s

  pub last_semi_step : (t : Token) (s : List Frame) (e : Tree) (k : TokenKind) → is_semi k ≡ true
      → on_after_last text t s e k ≡ go s (after_last e)
  last_semi_step t s e Newline is = refl
  last_semi_step t s e (Mark Semicolon) is = refl
  last_semi_step t s e _ is = absurd (cc)

  pub last_end_step : (t : Token) (s : List Frame) (e : Tree) (k : TokenKind) → ends_rest k ≡ true
      → on_after_last text t s e k ≡ on_expr_end text t s e k
  last_end_step t s e (Mark CloseBrace) is = refl
  last_end_step t s e (Reserve Case) is = refl
  last_end_step t s e _ is = absurd (cc)

  pub last_ended : (us : List Token) (s : List Frame) (e : Tree) → RestEnds us
      → Run text d b us s (after_last e) ≡ EndRest text d b us s e
  last_ended [] s e r = absurd r
  last_ended (t ∷ us) s e r = go_on text d b t us _ _ (last_end_step t s e t.kind r)

  pub last_gap : {us vs : List Token} → IsGap us vs → (s : List Frame) (e : Tree) → RestEnds vs
      → Run text d b us s (after_last e) ≡ EndRest text d b vs s e
  last_gap {us = us} no_semi s e r = last_ended us s e r
  last_gap (one_semi {ts = us} t is g) s e r =
      go_on text d b t us _ _ (last_semi_step t s e t.kind is) ∙ last_gap g s e r

  pub stat_semi_end_by : (t : Token) (s : List Frame) (e : Tree) → is_stat s ≡ true
      → on_semi text t s e ≡ go s (after_last e)
  stat_semi_end_by t (braces ∷ s) e is = refl
  stat_semi_end_by t (head_braces c ∷ s) e is = refl
  stat_semi_end_by t (arm p g ∷ s) e is = refl
  stat_semi_end_by t (after_val a w ty x ∷ s) e is = refl
  stat_semi_end_by t (after_assert a x ∷ s) e is = refl
  stat_semi_end_by t _ e is = absurd (cc)

  pub stat_semicolon_end_by : (t : Token) (s : List Frame) (e : Tree) → is_stat s ≡ true
      → on_semicolon text t s e ≡ go s (after_last e)
  stat_semicolon_end_by t (braces ∷ s) e is = refl
  stat_semicolon_end_by t (head_braces c ∷ s) e is = refl
  stat_semicolon_end_by t (arm p g ∷ s) e is = refl
  stat_semicolon_end_by t (after_val a w ty x ∷ s) e is = refl
  stat_semicolon_end_by t (after_assert a x ∷ s) e is = refl
  stat_semicolon_end_by t _ e is = absurd (cc)

  pub stat_semi_end : (t : Token) (s : List Frame) (e : Tree) (k : TokenKind) → is_semi k ≡ true → is_stat s ≡ true
      → on_expr_end text t s e k ≡ go s (after_last e)
  stat_semi_end t s e Newline is st = stat_semi_end_by t s e st
  stat_semi_end t s e (Mark Semicolon) is st = stat_semicolon_end_by t s e st
  stat_semi_end t s e _ is st = absurd (cc)

  -- the last expression of a block or a case, with semis behind it
  pub ends_stats : {us vs : List Token} → IsGap us vs → (s : List Frame) (e : Tree) → is_stat s ≡ true → RestEnds vs
      → Ended text d b us (above s e false) ≡ EndRest text d b vs s e
  ends_stats {us = []} no_semi s e st r = absurd r
  ends_stats {us = t ∷ us} no_semi s e st r = refl
  ends_stats (one_semi {ts = us} t is g) s e st r =
      go_on text d b t us _ _ (stat_semi_end t s e t.kind is st) ∙ last_gap g s e r

  -- a finished `val` or `assert` joins what follows it
  pub val_sealed_by : (t : Token) (s : List Frame) (at : ℕ) (w : Word) (a : Option TypeTree) (x e : Tree) (k :
      TokenKind)
      → ends_rest k ≡ true → on_expr_end text t (after_val at w a x ∷ s) e k ≡ on_expr_end text t s (val_in at w a
      x e) k
  val_sealed_by t s at w a x e (Mark CloseBrace) is = refl
  val_sealed_by t s at w a x e (Reserve Case) is = refl
  val_sealed_by t s at w a x e _ is = absurd (cc)

  pub val_sealed : (us : List Token) (s : List Frame) (at : ℕ) (w : Word) (a : Option TypeTree) (x e : Tree)
      → RestEnds us
      → EndRest text d b us (after_val at w a x ∷ s) e ≡ EndRest text d b us s (val_in at w a x e)
  val_sealed [] s at w a x e r = absurd r
  val_sealed (t ∷ us) s at w a x e r = go_on text d b t us _ _ (val_sealed_by t s at w a x e t.kind r)

  pub assert_sealed_by : (t : Token) (s : List Frame) (at : ℕ) (x e : Tree) (k : TokenKind)
      → ends_rest k ≡ true → on_expr_end text t (after_assert at x ∷ s) e k ≡ on_expr_end text t s (assert_in at x
      e) k
  assert_sealed_by t s at x e (Mark CloseBrace) is = refl
  assert_sealed_by t s at x e (Reserve Case) is = refl
  assert_sealed_by t s at x e _ is = absurd (cc)

  pub assert_sealed : (us : List Token) (s : List Frame) (at : ℕ) (x e : Tree) → RestEnds us
      → EndRest text d b us (after_assert at x ∷ s) e ≡ EndRest text d b us s (assert_in at x e)
  assert_sealed [] s at x e r = absurd r
  assert_sealed (t ∷ us) s at x e r = go_on text d b t us _ _ (assert_sealed_by t s at x e t.kind r)

  -- the value of a `val` ends with semis
  pub val_semi_step : (t : Token) (s : List Frame) (at : ℕ) (w : Word) (a : Option TypeTree) (x : Tree) (k :
      TokenKind)
      → is_semi k ≡ true → on_expr_end text t (val_value at w a ∷ s) x k ≡ go (after_val at w a x ∷ s) want_stat
  val_semi_step t s at w a x Newline is = refl
  val_semi_step t s at w a x (Mark Semicolon) is = refl
  val_semi_step t s at w a x _ is = absurd (cc)

  pub val_ended : {us vs : List Token} → IsSemis us vs → (s : List Frame) (at : ℕ) (w : Word) (a : Option TypeTree)
      (x : Tree)
      → Ended text d b us (above (val_value at w a ∷ s) x false) ≡ Run text d b vs (after_val at w a x ∷ s) want_stat
  val_ended (semis {ts = us} t is g) s at w a x =
      go_on text d b t us _ _ (val_semi_step t s at w a x t.kind is) ∙ skips_gap g (after_val at w a x ∷ s)

  pub stat_end_step : (t : Token) (s : List Frame) (k : TokenKind) → is_semi k ≡ true
      → on_after_stat text t s k ≡ go s want_stat
  stat_end_step t s Newline is = refl
  stat_end_step t s (Mark Semicolon) is = refl
  stat_end_step t s _ is = absurd (cc)

  pub stat_ended : {us vs : List Token} → IsSemis us vs → (s : List Frame)
      → Run text d b us s after_stat ≡ Run text d b vs s want_stat
  stat_ended (semis {ts = us} t is g) s = go_on text d b t us _ _ (stat_end_step t s t.kind is) ∙ skips_gap g s

  pub stat_role_step : (t : Token) (us : List Token) (s : List Frame) (r : Role) → t.kind ≡ Name
      → role (word text t) ≡ r
      → Run text d b (t ∷ us) s want_stat ≡ Go text d b t us (on_stat_name text t s r)
  stat_role_step t us s r is is_r =
      take_step text d b t us s want_stat _ is ∙ ap (λ x. Go text d b t us (on_stat_name text t s x)) is_r

  -- the type of a `val`, and its `=`
  pub reaches_ascription : {us vs : List Token} {a : Option TypeTree} (q : Token) → IsAscription text us (q ∷ vs) a
      → q.kind ≡ Op Assign → (s : List Frame) (at : ℕ) (w : Word)
      → Run text d b us s (after_val_name at w) ≡ Run text d b vs (val_value at w a ∷ s) want
  reaches_ascription {vs = vs} q no_type is s at w = take_step text d b q vs s (after_val_name at w) _ is
  reaches_ascription {vs = vs} q (ascribed {ts = us} {a = a} c is_c r) is s at w =
      take_step text d b c us s (after_val_name at w) _ is_c
      ∙ reaches_type text d b r (val_type at w ∷ s) (ap goes_on is)
      ∙ take_step text d b q vs (val_type at w ∷ s) (have_type a) _ is

  pub match_if : (m : Token) (us : List Token) (s : List Frame) (e : Tree) → floor s ≤ 0
      → Go text d b m us (on_match text m s e false) ≡ Run text d b us s (after_match m.from e)
  match_if m us s e fl =
      ap (λ x. Go text d b m us (cond x (go s (after_match m.from e)) (refuse text m))) (le_true _ _ fl)

  pub cases_head : {us vs : List Token} {cs : CaseTrees} → IsCases text us vs cs → IsCaseHead us
  cases_head (last_case c (case_of k a is p g is_a r) is_c) = is
  cases_head (one_more_case (case_of k a is p g is_a r) cs) = is

  pub match_closed : (c : Token) (us : List Token) (s : List Frame) (at : ℕ) (x : Tree) (ds : List CaseText) (p :
      PatternTree)
      (g : Option Tree) (e : Tree) → c.kind ≡ Mark CloseBrace
      → EndRest text d b (c ∷ us) (arm p g ∷ cases_of at x ds ∷ s) e
      ≡ Run text d b us s (have_matched (matching at x (cases_onto ds (case_before p g e no_cases))))
  match_closed c us s at x ds p g e is = end_rest_step text d b c us (arm p g ∷ cases_of at x ds ∷ s) e _ is

  pub next_case : (us : List Token) (s : List Frame) (at : ℕ) (x : Tree) (ds : List CaseText) (p : PatternTree)
      (g : Option Tree) (e : Tree) → IsCaseHead us
      → EndRest text d b us (arm p g ∷ cases_of at x ds ∷ s) e
      ≡ Run text d b (behind_first us) (cases_of at x (record { pattern = p; guard = g; body = e } ∷ ds) ∷ s)
      want_pattern
  next_case [] s at x ds p g e h = absurd h
  next_case (t ∷ us) s at x ds p g e h = end_rest_step text d b t us (arm p g ∷ cases_of at x ds ∷ s) e _ h
