-- What is to be shown of each part of an expression, and one lemma for each alternative of the grammar.
use Rattle.pp_grammar.specs.Automaton.{on_mode}
use Rattle.pp_grammar.specs.Exprs.{IsFields, IsGuard, IsSemicolon, guard, no_guard, no_semicolon, semicolon}
use Rattle.pp_grammar.specs.Frames.{CaseText, Frame, Mode, Parsed, after_assert, after_assert_word, after_if, after_int}
use Rattle.pp_grammar.specs.Frames.{after_int_dot, after_match, after_name, after_name_types, after_val, after_val_word}
use Rattle.pp_grammar.specs.Frames.{args, args_open, arm, asserting, braces, cases_of, go, guarding, have, have_matched}
use Rattle.pp_grammar.specs.Frames.{have_pattern, if_rest, if_test, if_then, left, prefixing, round, val_value, want}
use Rattle.pp_grammar.specs.Frames.{want_case, want_else, want_pattern, want_stat}
use Rattle.pp_grammar.specs.Joining.{Operand, above, cases_onto, floor, trees_onto, unwind}
use Rattle.pp_grammar.specs.Patterns.{IsPattern}
use Rattle.pp_grammar.specs.StepExprs.{on_bound, on_guard, on_match, on_operand, on_operator}
use Rattle.pp_grammar.specs.StepTypes.{refuse}
use Rattle.pp_grammar.specs.Types.{IsAscription, IsBreaks, IsGap, IsSemis, IsTypes}
use Rattle.pp_grammar.specs.Words.{assert_word, binary_of, bound_of, int_word, is_sign, level, loosest, negative_of}
use Rattle.pp_grammar.specs.Words.{number_of, plain, role, tightest, unary_of, word}
use Rattle.pp_grammar_complete.proofs.ExprSteps.{EndRest, Ended, IsCaseHead, Reached, RestEnds, behind_first}
use Rattle.pp_grammar_complete.proofs.ExprSteps.{case_ends_rest, end_rest_step, ended_step, ends_rest, fields_end}
use Rattle.pp_grammar_complete.proofs.ExprSteps.{have_next, is_stat, le_true, matched_ended, name_have, name_step}
use Rattle.pp_grammar_complete.proofs.ExprSteps.{negative_next, next_ended, number_step, operator_follows_by}
use Rattle.pp_grammar_complete.proofs.ExprSteps.{operator_next, prefix_step, reaches_fields, reaches_negative_fields}
use Rattle.pp_grammar_complete.proofs.ExprSteps.{rest_closes, signed_step, stat_floor, stat_stays, types_have}
use Rattle.pp_grammar_complete.proofs.ExprSteps.{unwind_stays}
use Rattle.pp_grammar_complete.proofs.ReachPatterns.{reaches_pattern}
use Rattle.pp_grammar_complete.proofs.ReachTypes.{reaches_name_types}
use Rattle.pp_grammar_complete.proofs.Starts.{Starts, begins_args, begins_stat, begins_then}
use Rattle.pp_grammar_complete.proofs.StatSteps.{assert_sealed, ends_stats, match_closed, match_if, next_case}
use Rattle.pp_grammar_complete.proofs.StatSteps.{reaches_ascription, reaches_breaks, skips_gap, stat_ended}
use Rattle.pp_grammar_complete.proofs.StatSteps.{stat_role_step, val_ended, val_sealed}
use Rattle.pp_grammar_complete.proofs.Steps.{Closes, Ends, Follows, Go, Run, closes, closes_follows, follows_ends}
use Rattle.pp_grammar_complete.proofs.Steps.{gap_closes, go_on, goes_on, goes_on_operand, semicolon_closes, semis_close}
use Rattle.pp_grammar_complete.proofs.Steps.{take_step}
use Rattle.pp_grammar_sound.proofs.Unwound.{level_in}
use Rattle.pp_tokens.specs.declared.token.Bracket.TheVariants.{CloseBrace, CloseRound, Comma, Dot, OpenBrace, OpenRound}
use Rattle.pp_tokens.specs.declared.token.Bracket.TheVariants.{OpenSquare}
use Rattle.pp_tokens.specs.declared.token.Operator.{Operator}
use Rattle.pp_tokens.specs.declared.token.Operator.TheVariants.{Arrow, Assign, Minus}
use Rattle.pp_tokens.specs.declared.token.Reserved.TheVariants.{Else, If, Match, Val}
use Rattle.pp_tokens.specs.declared.token.Token.{Token}
use Rattle.pp_tokens.specs.declared.token.TokenKind.TheVariants.{Mark, Name, Op, Word as Reserve}
use Rattle.pp_tree.specs.Plain.{CaseTrees, PatternTree, Tree, Trees, TypeTree, TypeTrees, Word, apply, assert_in}
use Rattle.pp_tree.specs.Plain.{binary, choice, int, matching, more_trees, name, no_cases, no_trees, no_types, unary}
use Rattle.pp_tree.specs.Plain.{val_in}
use Rattle.pp_tree.specs.Shown.{case_before}
use Rattle.pp_tree.specs.declared.operator.BinaryOp.{BinaryOp}
use Rattle.pp_tree.specs.declared.operator.UnaryOp.{UnaryOp}
use Rattle.std.proofs.Common.{Bool, List, None, Option, Some, [], ap, arith, cond, false, refl, subst, suc, sym, true}
use Rattle.std.proofs.Common.{ℕ, ℤ, ◌∙◌, ◌∷◌, ◌≡◌, ◌≤◌}

module _ (text : Word) (d : Parsed) (b : Bool) where
  -- ---- what is to be shown of each part

  pub record ReachesExpr (ts : List Token) (us : List Token) (e : Tree) : Type 0 where
    pub reach : (s : List Frame) → floor s ≤ 0 → Closes us → Run text d b ts s want ≡ Ended text d b us (unwind 0 s
        e false)

  pub record ReachesMatched (ts : List Token) (us : List Token) (e : Tree) : Type 0 where
    pub reach : (s : List Frame) → floor s ≤ 0 → Run text d b ts s want ≡ Run text d b us s (have_matched e)

  pub record ReachesCases (ts : List Token) (us : List Token) (cs : CaseTrees) : Type 0 where
    pub reach : (s : List Frame) (at : ℕ) (x : Tree) (ds : List CaseText)
        → Run text d b (behind_first ts) (cases_of at x ds ∷ s) want_pattern
        ≡ Run text d b us s (have_matched (matching at x (cases_onto ds cs)))

  pub record ReachesCase (ts : List Token) (us : List Token) (p : PatternTree) (g : Option Tree) (e : Tree) : Type
      0 where
    pub reach : (s : List Frame) (at : ℕ) (x : Tree) (ds : List CaseText) → RestEnds us
        → Run text d b (behind_first ts) (cases_of at x ds ∷ s) want_pattern ≡ EndRest text d b us (arm p g ∷
        cases_of at x ds ∷ s) e

  pub record ReachesGuard (us : List Token) (vs : List Token) (g : Option Tree) : Type 0 where
    pub reach : (a : Token) (ws : List Token) → vs ≡ a ∷ ws → a.kind ≡ Op Arrow → (s : List Frame) (at : ℕ) (x : Tree)
        (ds : List CaseText) (p : PatternTree) → Run text d b us (cases_of at x ds ∷ s) (have_pattern p)
        ≡ Run text d b ws (arm p g ∷ cases_of at x ds ∷ s) want_stat

  pub record ReachesRest (ts : List Token) (us : List Token) (e : Tree) : Type 0 where
    pub reach : (s : List Frame) → is_stat s ≡ true → RestEnds us → Run text d b ts s want_stat ≡ EndRest text d b
        us s e

  pub record ReachesStats (ts : List Token) (us : List Token) (e : Tree) : Type 0 where
    pub reach : (vs : List Token) → IsGap us vs → (s : List Frame) → is_stat s ≡ true → RestEnds vs
        → Run text d b ts s want_stat ≡ EndRest text d b vs s e

  pub record ReachesInfix (l : ℕ) (ts : List Token) (us : List Token) (e : Tree) : Type 0 where
    pub reach : (s : List Frame) → floor s ≤ l → Follows us → Reached text d b false l ts us s e

  pub record ReachesSimple (ts : List Token) (us : List Token) (e : Tree) : Type 0 where
    pub reach : (s : List Frame) → Ends us → Run text d b ts s want ≡ Run text d b us s (have e false)

  pub record ReachesArguments (ts : List Token) (us : List Token) (es : Trees) : Type 0 where
    pub reach : (s : List Frame) (m : Mode) (at : ℕ) (w : Word) (tys : TypeTrees)
        → ((o : Token) → on_mode text o s m (Mark OpenRound) ≡ go s (args_open at w tys))
        → Run text d b ts s m ≡ Run text d b us s (have (apply at w tys es) false)

  pub record ReachesExprs (ts : List Token) (us : List Token) (es : Trees) : Type 0 where
    pub reach : (s : List Frame) (at : ℕ) (w : Word) (tys : TypeTrees) (ds : List Tree)
        → Run text d b ts (args at w tys ds ∷ s) want ≡ Run text d b us s (have (apply at w tys (trees_onto ds es))
        false)

  -- ---- expressions

  pub expr_of_infix : {ts us : List Token} {e : Tree} → ReachesInfix loosest ts us e → ReachesExpr ts us e
  expr_of_infix {us = us} r = record {
    reach = λ s fl c.
        let h = r.reach s (omega arith) (closes_follows us c) in
        h.steps ∙ next_ended text d b us h.frames h.tree h.holed c ∙ ap (Ended text d b us) (h.unwinds 0 (omega
        arith));
  }

  pub expr_of_matched : {ts us : List Token} {e : Tree} → ReachesMatched ts us e → ReachesExpr ts us e
  expr_of_matched {us = us} {e = e} r = record {
    reach = λ s fl c.
        r.reach s fl ∙ matched_ended text d b us s e c;
  }

  pub reaches_else : {ws : List Token} (e : Token) (xs : List Token) (s : List Frame) (at : ℕ) (x a : Tree)
      → IsSemicolon ws (e ∷ xs) → e.kind ≡ Reserve Else
      → Ended text d b ws (above (if_then at x ∷ s) a false) ≡ Run text d b xs (if_rest at x a ∷ s) want
  reaches_else e xs s at x a no_semicolon is = ended_step text d b e xs (above (if_then at x ∷ s) a false) _ is
  reaches_else e xs s at x a (semicolon t is_t) is =
      ended_step text d b t (e ∷ xs) (above (if_then at x ∷ s) a false) _ is_t
      ∙ take_step text d b e xs (if_then at x ∷ s) (want_else a) _ is

  pub expr_of_if : {ts us vs ws xs ys : List Token} {x a e : Tree} (i o c l : Token) → i.kind ≡ Reserve If
      → o.kind ≡ Mark OpenRound → ReachesExpr ts (c ∷ us) x → c.kind ≡ Mark CloseRound → IsBreaks us vs
      → Starts text vs → ReachesExpr vs ws a → IsSemicolon ws (l ∷ xs) → l.kind ≡ Reserve Else → ReachesExpr xs ys e
      → ReachesExpr (i ∷ o ∷ ts) ys (choice i.from x a e)
  expr_of_if {ts = ts} {us = us} {vs = vs} {xs = xs} {x = x} {a = a} i o c l is is_o r1 is_c br st r2 sc is_l r3 =
      record {
        reach = λ s fl cl.
            take_step text d b i (o ∷ ts) s want _ is
            ∙ ap (λ y. Go text d b i (o ∷ ts) (cond y (go s (after_if i.from)) (refuse text i))) (le_true _ _ fl)
            ∙ take_step text d b o ts s (after_if i.from) _ is_o
            ∙ r1.reach (if_test i.from ∷ s) (omega arith) (ap closes is_c)
            ∙ ended_step text d b c us (above (if_test i.from ∷ s) x false) _ is_c
            ∙ reaches_breaks text d b br (if_then i.from x ∷ s) ∙ begins_then text d b vs (if_then i.from x ∷ s) st
            ∙ r2.reach (if_then i.from x ∷ s) (omega arith) (semicolon_closes sc (ap closes is_l))
            ∙ reaches_else l xs s i.from x a sc is_l
            ∙ r3.reach (if_rest i.from x a ∷ s) (omega arith) cl;
      }

  -- ---- matches

  pub first_case : (us : List Token) (s : List Frame) (at : ℕ) (x : Tree) → IsCaseHead us
      → Run text d b us (cases_of at x [] ∷ s) want_case ≡ Run text d b (behind_first us) (cases_of at x [] ∷ s)
      want_pattern
  first_case [] s at x h = absurd h
  first_case (t ∷ us) s at x h = take_step text d b t us (cases_of at x [] ∷ s) want_case _ h

  pub matched_of : {ts us vs : List Token} {x : Tree} {cs : CaseTrees} (m o : Token)
      → ReachesInfix loosest ts (m ∷ o ∷ us) x
      → m.kind ≡ Reserve Match → o.kind ≡ Mark OpenBrace → IsCaseHead us → ReachesCases us vs cs
      → ReachesMatched ts vs (matching m.from x cs)
  matched_of {us = us} {x = x} m o r is is_o head cs = record {
    reach = λ s fl.
        let h = r.reach s (omega arith) (ap goes_on_operand is) in
        h.steps ∙ ap (λ k. Go text d b m (o ∷ us) (on_operand text m h.frames h.tree h.holed k)) is
        ∙ ap (λ (u : Operand). Go text d b m (o ∷ us) (on_match text m u.frames u.tree u.holed)) (h.unwinds
        loosest (omega arith) ∙ unwind_stays loosest s x false (omega arith) (omega arith))
        ∙ match_if text d b m (o ∷ us) s x fl ∙ take_step text d b o us s (after_match m.from x) _ is_o
        ∙ first_case us s m.from x head ∙ cs.reach s m.from x [];
  }

  pub cases_of_last : {ts us : List Token} {p : PatternTree} {g : Option Tree} {e : Tree} (c : Token)
      → ReachesCase ts (c ∷ us) p g e → c.kind ≡ Mark CloseBrace → ReachesCases ts us (case_before p g e no_cases)
  cases_of_last {us = us} {p = p} {g = g} {e = e} c r is = record {
    reach = λ s at x ds.
        r.reach s at x ds (ap ends_rest is) ∙ match_closed text d b c us s at x ds p g e is;
  }

  pub cases_of_more : {ts us vs : List Token} {p : PatternTree} {g : Option Tree} {e : Tree} {cs : CaseTrees}
      → ReachesCase ts us p g e → IsCaseHead us → ReachesCases us vs cs → ReachesCases ts vs (case_before p g e cs)
  cases_of_more {us = us} {p = p} {g = g} {e = e} r head cs = record {
    reach = λ s at x ds.
        r.reach s at x ds (case_ends_rest us head) ∙ next_case text d b us s at x ds p g e head
        ∙ cs.reach s at x (record { pattern = p; guard = g; body = e } ∷ ds);
  }

  pub guard_ends : {us vs : List Token} {g : Option Tree} → IsGuard text us vs g → Ends vs → Ends us
  guard_ends no_guard f = f
  guard_ends (guard i is r) f = ap goes_on is

  pub case_reached : {ts us vs ws : List Token} {p : PatternTree} {g : Option Tree} {e : Tree} (c a : Token)
      → IsPattern text ts us p → Ends us → ReachesGuard us (a ∷ vs) g → a.kind ≡ Op Arrow → ReachesRest vs ws e
      → ReachesCase (c ∷ ts) ws p g e
  case_reached {vs = vs} {p = p} {g = g} c a r1 fin r2 is_a r3 = record {
    reach = λ s at x ds ends_it.
        reaches_pattern text d b r1 (cases_of at x ds ∷ s) refl fin ∙ r2.reach a vs refl is_a s at x ds p
        ∙ r3.reach (arm p g ∷ cases_of at x ds ∷ s) refl ends_it;
  }

  pub without_guard : (ts : List Token) → ReachesGuard ts ts None
  without_guard ts = record {
    reach = λ a ws e is_a s at x ds p.
        ap (λ (y : List Token). Run text d b y (cases_of at x ds ∷ s) (have_pattern p)) e
        ∙ take_step text d b a ws (cases_of at x ds ∷ s) (have_pattern p) _ is_a;
  }

  pub with_guard : {ts us : List Token} {g : Tree} (i : Token) → i.kind ≡ Reserve If → ReachesInfix loosest ts us g
      → ReachesGuard (i ∷ ts) us (Some g)
  with_guard {ts = ts} {us = us} {g = g} i is r = record {
    reach = λ a ws e is_a s at x ds p.
        let f : List Frame = guarding p ∷ cases_of at x ds ∷ s in
        let P : List Token → Type 0 = λ y. Reached text d b false loosest ts y f g in
        let h : Reached text d b false loosest ts (a ∷ ws) f g = subst P e (r.reach f (omega arith) (subst
        Follows (sym e) (ap goes_on_operand is_a))) in
        take_step text d b i ts (cases_of at x ds ∷ s) (have_pattern p) _ is
        ∙ h.steps ∙ ap (λ k. Go text d b a ws (on_operand text a h.frames h.tree h.holed k)) is_a
        ∙ ap (λ (u : Operand). Go text d b a ws (on_guard text a u.frames u.tree u.holed)) (h.unwinds loosest
        (omega arith));
  }

  -- ---- blocks

  pub rest_reached : {ts us vs ws : List Token} {e : Tree} → IsGap ts us → ReachesStats us vs e → IsGap vs ws
      → ReachesRest ts ws e
  rest_reached {ws = ws} g r h = record {
    reach = λ s st ends_it.
        skips_gap text d b g s ∙ r.reach ws h s st ends_it;
  }

  pub stats_of_expr : {ts us : List Token} {e : Tree} → Starts text ts → ReachesExpr ts us e → ReachesStats ts us e
  stats_of_expr {ts = ts} {us = us} {e = e} start_it r = record {
    reach = λ vs gap s st ends_it.
        begins_stat text d b ts s start_it
        ∙ r.reach s (stat_floor s st) (gap_closes gap (rest_closes vs ends_it))
        ∙ ap (Ended text d b us) (stat_stays s e st) ∙ ends_stats text d b gap s e st ends_it;
  }

  pub stats_of_val : {ts us vs ws xs : List Token} {a : Option TypeTree} {x e : Tree} (v n q : Token)
      → v.kind ≡ Reserve Val
      → n.kind ≡ Name → IsAscription text ts (q ∷ us) a → q.kind ≡ Op Assign → ReachesExpr us vs x → IsSemis vs ws
      → ReachesStats ws xs e → ReachesStats (v ∷ n ∷ ts) xs (val_in v.from (word text n) a x e)
  stats_of_val {ts = ts} {a = a} {x = x} {e = e} v n q is is_n asc is_q r1 sm r2 = record {
    reach = λ zs gap s st ends_it.
        let w : Word = word text n in
        take_step text d b v (n ∷ ts) s want_stat _ is ∙ take_step text d b n ts s (after_val_word v.from) _ is_n
        ∙ reaches_ascription text d b q asc is_q s v.from w
        ∙ r1.reach (val_value v.from w a ∷ s) (omega arith) (semis_close sm)
        ∙ val_ended text d b sm s v.from w a x
        ∙ r2.reach zs gap (after_val v.from w a x ∷ s) refl ends_it ∙ val_sealed text d b zs s v.from w a x e
        ends_it;
  }

  pub stats_of_assert : {ts us vs ws : List Token} {x e : Tree} (a o c : Token) → a.kind ≡ Name
      → role (word text a) ≡ assert_word → o.kind ≡ Mark OpenRound → ReachesExpr ts (c ∷ us) x
      → c.kind ≡ Mark CloseRound → IsSemis us vs → ReachesStats vs ws e
      → ReachesStats (a ∷ o ∷ ts) ws (assert_in a.from x e)
  stats_of_assert {ts = ts} {us = us} {x = x} {e = e} a o c is r is_o r1 is_c sm r2 = record {
    reach = λ zs gap s st ends_it.
        stat_role_step text d b a (o ∷ ts) s assert_word is r
        ∙ take_step text d b o ts s (after_assert_word a.from) _ is_o
        ∙ r1.reach (asserting a.from ∷ s) (omega arith) (ap closes is_c)
        ∙ ended_step text d b c us (above (asserting a.from ∷ s) x false) _ is_c
        ∙ stat_ended text d b sm (after_assert a.from x ∷ s)
        ∙ r2.reach zs gap (after_assert a.from x ∷ s) refl ends_it ∙ assert_sealed text d b zs s a.from x e ends_it;
  }

  -- ---- operators

  pub infix_of_tighter : {l : ℕ} {ts us : List Token} {e : Tree} → ReachesInfix (suc l) ts us e
      → ReachesInfix l ts us e
  infix_of_tighter r = record {
    reach = λ s fl f.
        let h = r.reach s (omega arith) f in
        record {
          frames = h.frames;
          tree = h.tree;
          holed = h.holed;
          steps = h.steps;
          unwinds = λ p le. h.unwinds
              p (omega arith);
        };
  }

  pub infix_of_operator : {ts us vs : List Token} {x y : Tree} (t : Token) (o : Operator) (op : BinaryOp)
      → ReachesInfix (level op) ts (t ∷ us) x → t.kind ≡ Op o → binary_of o ≡ Some op
      → ReachesInfix (suc (level op)) us vs y → ReachesInfix (level op) ts vs (binary t.from op x y)
  infix_of_operator {us = us} {x = x} {y = y} t o op r1 is is_op r2 = record {
    reach = λ s fl f.
        let two : 2 ≤ level op = (level_in op).0 in
        let h = r1.reach s fl (operator_follows_by text d b t us o op is is_op) in
        let g = r2.reach (left t.from op x false ∷ s) (omega arith) f in
        record {
          frames = g.frames;
          tree = g.tree;
          holed = g.holed;
          steps = h.steps ∙ operator_next text d b t us h.frames h.tree h.holed o op is is_op
              ∙ ap (λ (u : Operand). Go text d b t us (on_operator text t op u)) (h.unwinds (level op) (omega
              arith) ∙ unwind_stays (level op) s x false fl two)
              ∙ g.steps;
          unwinds = λ p le. g.unwinds p (omega arith) ∙ ap (λ c. cond c (unwind p s (binary t.from op x y) false)
              (above (left t.from op x false ∷ s) y false)) (le_true p (level op) le);
        };
  }

  pub infix_of_simple : {ts us : List Token} {e : Tree} → ReachesSimple ts us e → ReachesInfix tightest ts us e
  infix_of_simple {us = us} {e = e} r = record {
    reach = λ s fl f.
        record {
          frames = s;
          tree = e;
          holed = false;
          steps = r.reach s (follows_ends us f) ∙ have_next text d b us s e false f;
          unwinds = λ p le. refl;
        };
  }

  pub infix_of_prefix : {ts us : List Token} {e : Tree} (t : Token) (o : Operator) (op : UnaryOp) → t.kind ≡ Op o
      → unary_of o ≡ Some op → is_sign t ts ≡ false → Starts text ts → ReachesSimple ts us e
      → ReachesInfix tightest (t ∷ ts) us (unary t.from op e)
  infix_of_prefix {ts = ts} {us = us} {e = e} t o op is is_op sign st r = record {
    reach = λ s fl f.
        record {
          frames = prefixing t.from op ∷ s;
          tree = e;
          holed = false;
          steps = prefix_step text d b t ts s o op is is_op sign fl st
              ∙ r.reach (prefixing t.from op ∷ s) (follows_ends us f)
              ∙ have_next text d b us (prefixing t.from op ∷ s) e false f;
          unwinds = λ p le. ap (λ c. cond c (unwind p s (unary t.from op e) false) (above (prefixing t.from op ∷
              s) e false)) (le_true p tightest le);
        };
  }

  pub infix_of_negative : {us vs : List Token} {n : ℤ} {e : Tree} (m t : Token) → m.kind ≡ Op Minus
      → is_sign m (t ∷ us) ≡ true → negative_of t.kind ≡ Some n → IsFields text us vs (int m.from n) e
      → ReachesInfix tightest (m ∷ t ∷ us) vs e
  infix_of_negative {us = us} {vs = vs} {n = n} {e = e} m t is sign is_n r = record {
    reach = λ s fl f.
        record {
          frames = s;
          tree = e;
          holed = false;
          steps = signed_step text d b m t us s n is sign is_n fl ∙ reaches_negative_fields text d b r s
              ∙ negative_next text d b vs s e f;
          unwinds = λ p le. refl;
        };
  }

  -- ---- simple expressions

  pub simple_with_fields : {ts us vs : List Token} {e x : Tree} → ReachesSimple ts us e → IsFields text us vs e x
      → ReachesSimple ts vs x
  simple_with_fields r g = record {
    reach = λ s f.
        r.reach s (fields_end text d b g f) ∙ reaches_fields text d b g s false;
  }

  pub number_reached : {us : List Token} {n : ℤ} (t : Token) → number_of t.kind ≡ Some n
      → ReachesSimple (t ∷ us) us (int t.from n)
  number_reached {us = us} {n = n} t is = record {
    reach = λ s f.
        go_on text d b t us _ _ (number_step text d b t s n t.kind is);
  }

  pub bound_reached : {us : List Token} {n : ℤ} (i dot t : Token) → i.kind ≡ Name → role (word text i) ≡ int_word
      → dot.kind ≡ Mark Dot → t.kind ≡ Name → bound_of (word text t) ≡ Some n
      → ReachesSimple (i ∷ dot ∷ t ∷ us) us (int i.from n)
  bound_reached {us = us} i dot t is r is_d is_t e = record {
    reach = λ s f.
        name_step text d b i (dot ∷ t ∷ us) s int_word is r ∙ take_step text d b dot (t ∷ us) s (after_int
        i.from) _ is_d
        ∙ take_step text d b t us s (after_int_dot i.from) _ is_t
        ∙ ap (λ x. Go text d b t us (on_bound text t s i.from x)) e;
  }

  pub name_reached : {us : List Token} (t : Token) → t.kind ≡ Name → role (word text t) ≡ plain
      → ReachesSimple (t ∷ us) us (name t.from (word text t))
  name_reached {us = us} t is r = record {
    reach = λ s f.
        name_step text d b t us s plain is r ∙ name_have text d b us s t.from (word text t) f;
  }

  pub types_reached : {ts us : List Token} {tys : TypeTrees} (t o : Token) → t.kind ≡ Name
      → role (word text t) ≡ plain
      → o.kind ≡ Mark OpenSquare → IsTypes text ts us tys
      → ReachesSimple (t ∷ o ∷ ts) us (apply t.from (word text t) tys no_trees)
  types_reached {ts = ts} {us = us} {tys = tys} t o is r is_o rs = record {
    reach = λ s f.
        name_step text d b t (o ∷ ts) s plain is r ∙ take_step text d b o ts s (after_name t.from (word text t))
        _ is_o
        ∙ reaches_name_types text d b rs s t.from (word text t) [] ∙ types_have text d b us s t.from (word text
        t) tys f;
  }

  pub application_reached : {ts us : List Token} {es : Trees} (t : Token) → t.kind ≡ Name → role (word text t) ≡ plain
      → ReachesArguments ts us es → ReachesSimple (t ∷ ts) us (apply t.from (word text t) no_types es)
  application_reached {ts = ts} t is r es = record {
    reach = λ s f.
        name_step text d b t ts s plain is r ∙ es.reach s (after_name t.from (word text t)) t.from (word text t)
        no_types (λ o. refl);
  }

  pub generic_application_reached : {ts us vs : List Token} {tys : TypeTrees} {es : Trees} (t o : Token)
      → t.kind ≡ Name
      → role (word text t) ≡ plain → o.kind ≡ Mark OpenSquare → IsTypes text ts us tys → ReachesArguments us vs es
      → ReachesSimple (t ∷ o ∷ ts) vs (apply t.from (word text t) tys es)
  generic_application_reached {ts = ts} {tys = tys} t o is r is_o rs es = record {
    reach = λ s f.
        name_step text d b t (o ∷ ts) s plain is r ∙ take_step text d b o ts s (after_name t.from (word text t))
        _ is_o
        ∙ reaches_name_types text d b rs s t.from (word text t) []
        ∙ es.reach s (after_name_types t.from (word text t) tys) t.from (word text t) tys (λ p. refl);
  }

  pub round_reached : {ts us : List Token} {e : Tree} (o c : Token) → o.kind ≡ Mark OpenRound
      → ReachesExpr ts (c ∷ us) e
      → c.kind ≡ Mark CloseRound → ReachesSimple (o ∷ ts) us e
  round_reached {ts = ts} {us = us} {e = e} o c is r is_c = record {
    reach = λ s f.
        take_step text d b o ts s want _ is ∙ r.reach (round ∷ s) (omega arith) (ap closes is_c)
        ∙ ended_step text d b c us (above (round ∷ s) e false) _ is_c;
  }

  pub block_reached : {ts us : List Token} {e : Tree} (o c : Token) → o.kind ≡ Mark OpenBrace
      → ReachesRest ts (c ∷ us) e
      → c.kind ≡ Mark CloseBrace → ReachesSimple (o ∷ ts) us e
  block_reached {ts = ts} {us = us} {e = e} o c is r is_c = record {
    reach = λ s f.
        take_step text d b o ts s want _ is ∙ r.reach (braces ∷ s) refl (ap ends_rest is_c)
        ∙ end_rest_step text d b c us (braces ∷ s) e _ is_c;
  }

  pub no_arguments_reached : {us : List Token} (o c : Token) → o.kind ≡ Mark OpenRound → c.kind ≡ Mark CloseRound
      → ReachesArguments (o ∷ c ∷ us) us no_trees
  no_arguments_reached {us = us} o c is is_c = record {
    reach = λ s m at w tys e.
        take_step text d b o (c ∷ us) s m _ is ∙ go_on text d b o (c ∷ us) _ _ (e o)
        ∙ take_step text d b c us s (args_open at w tys) _ is_c;
  }

  pub arguments_reached : {ts us : List Token} {es : Trees} (o : Token) → o.kind ≡ Mark OpenRound → Starts text ts
      → ReachesExprs ts us es → ReachesArguments (o ∷ ts) us es
  arguments_reached {ts = ts} o is st rs = record {
    reach = λ s m at w tys e.
        take_step text d b o ts s m _ is ∙ go_on text d b o ts _ _ (e o) ∙ begins_args text d b ts s at w tys st
        ∙ rs.reach s at w tys [];
  }

  pub last_argument_reached : {ts us : List Token} {e : Tree} (c : Token) → ReachesExpr ts (c ∷ us) e
      → c.kind ≡ Mark CloseRound → ReachesExprs ts us (more_trees e no_trees)
  last_argument_reached {us = us} {e = e} c r is = record {
    reach = λ s at w tys ds.
        r.reach (args at w tys ds ∷ s) (omega arith) (ap closes is)
        ∙ ended_step text d b c us (above (args at w tys ds ∷ s) e false) _ is;
  }

  pub one_more_argument_reached : {ts us vs : List Token} {e : Tree} {es : Trees} (c : Token)
      → ReachesExpr ts (c ∷ us) e
      → c.kind ≡ Mark Comma → ReachesExprs us vs es → ReachesExprs ts vs (more_trees e es)
  one_more_argument_reached {us = us} {e = e} c r is rs = record {
    reach = λ s at w tys ds.
        r.reach (args at w tys ds ∷ s) (omega arith) (ap closes is)
        ∙ ended_step text d b c us (above (args at w tys ds ∷ s) e false) _ is ∙ rs.reach s at w tys (e ∷ ds);
  }
