-- Sizes and offsets of choices, matches and blocks, rule by rule.
use Rattle.pp_grammar.specs.Words.{word}
use Rattle.pp_grammar_laws.proofs.Sized.{Ok, Sized, head, tail}
use Rattle.pp_tokens.specs.declared.token.Token.{Token}
use Rattle.pp_tree.specs.Count.{CasesFewCases, FewCases, MaybeFewCases, case_count, case_nodes}
use Rattle.pp_tree.specs.Count.{maybe_nodes, nodes}
use Rattle.pp_tree.specs.Offsets.{CaseOffsets, MaybeOffsets, Offsets, PatternOffsets}
use Rattle.pp_tree.specs.Offsets.{WrittenOffsets}
use Rattle.pp_tree.specs.Plain.{CaseTrees, PatternTree, Tree, TypeTree, Word, apply, assert_in}
use Rattle.pp_tree.specs.Plain.{binary, bool, choice, field, int, matching, name, no_cases}
use Rattle.pp_tree.specs.Plain.{unary, val_in}
use Rattle.pp_tree.specs.Shown.{case_before}
use Rattle.std.proofs.Common.{List, None, Option, Some, arith, ℕ, ◌*◌, ◌+◌, ◌<◌, ◌∷◌, ◌≤◌}

module _ (text : Word) (n : ℕ) (P : ℕ → Type 0) where
  nodes_pos : (e : Tree) → 1 ≤ nodes e
  nodes_pos (int at z) = omega arith
  nodes_pos (bool at z) = omega arith
  nodes_pos (name at w) = omega arith
  nodes_pos (apply at w ts es) = omega arith
  nodes_pos (field at e w) = omega arith
  nodes_pos (unary at op a) = omega arith
  nodes_pos (binary at op a b) = omega arith
  nodes_pos (choice at c a b) = omega arith
  nodes_pos (matching at e cs) = omega arith
  nodes_pos (val_in at w t a b) = omega arith
  nodes_pos (assert_in at c e) = omega arith

  pub semicolon_no_semicolon : (ts : List Token) → Ok n P ts → Sized n P ts ts 0 0 (Unit {0})
  semicolon_no_semicolon ts ok =
      record { good = tt; left = ok; small = omega (arith, ok.few); quarter = omega (arith, ok.few) }

  pub semicolon_semicolon : (ts : List Token) (t : Token) → Ok n P (t ∷ ts) → Sized n P (t ∷ ts) ts 0 0 (Unit {0})
  semicolon_semicolon ts t ok =
      record { good = tt; left = (tail n P ok); small = omega (arith, ok.few); quarter = omega (arith, ok.few) }

  pub expr_if_else : (ts : List Token) (us : List Token) (vs : List Token) (ws : List Token) (xs : List Token) (ys :
      List Token) (x : Tree) (a : Tree) (b : Tree) (i : Token) (o : Token) (c : Token) (e : Token) → (Ok n P ts
      → Sized n P ts (c ∷ us) (nodes x) 0 (Offsets P x × FewCases n x)) → (Ok n P us
      → Sized n P us vs 0 0 (Unit {0})) → (Ok n P vs → Sized n P vs ws (nodes a) 0 (Offsets P a × FewCases n a))
      → (Ok n P ws → Sized n P ws (e ∷ xs) 0 0 (Unit {0})) → (Ok n P xs
      → Sized n P xs ys (nodes b) 0 (Offsets P b × FewCases n b)) → Ok n P (i ∷ o ∷ ts)
      → Sized n P (i ∷ o ∷ ts) ys (nodes (choice i.from x a b)) 0 (Offsets P (choice i.from x a b) × FewCases n
      (choice i.from x a b))
  expr_if_else ts us vs ws xs ys x a b i o c e d1 d2 d3 d4 d5 ok =
      let s1 = d1 (tail n P (tail n P ok)) in
      let s2 = d2 (tail n P s1.left) in
      let s3 = d3 s2.left in
      let s4 = d4 s3.left in
      let s5 = d5 (tail n P s4.left) in
      record {
        good = assumption (
          head n P ok,
          head n P ((tail n P ok)),
          s1.good,
          head n P s1.left,
          s2.good,
          s3.good,
          s4.good,
          head n P s4.left,
          s5.good,
        );
        left = s5.left;
        small = omega (
          arith,
          s1.small,
          s2.small,
          s3.small,
          s4.small,
          s5.small,
          ok.few,
        );
        quarter = omega (
          arith,
          s1.quarter,
          s2.quarter,
          s3.quarter,
          s4.quarter,
          s5.quarter,
          s1.small,
          s2.small,
          s3.small,
          s4.small,
          s5.small,
          ok.few,
        );
      }

  pub expr_matched : (ts : List Token) (us : List Token) (e : Tree) → (Ok n P ts
      → Sized n P ts us (nodes e) 0 (Offsets P e × FewCases n e)) → Ok n P ts
      → Sized n P ts us (nodes e) 0 (Offsets P e × FewCases n e)
  expr_matched ts us e d1 ok =
      let s1 = d1 ok in
      record {
        good = assumption (s1.good);
        left = s1.left;
        small = omega (arith, s1.small, ok.few);
        quarter =
            omega (arith, s1.quarter, s1.small, ok.few);
      }

  pub expr_infix_expr : (ts : List Token) (us : List Token) (e : Tree) → (Ok n P ts
      → Sized n P ts us (nodes e) 0 (Offsets P e × FewCases n e)) → Ok n P ts
      → Sized n P ts us (nodes e) 0 (Offsets P e × FewCases n e)
  expr_infix_expr ts us e d1 ok =
      let s1 = d1 ok in
      record {
        good = assumption (s1.good);
        left = s1.left;
        small = omega (arith, s1.small, ok.few);
        quarter =
            omega (arith, s1.quarter, s1.small, ok.few);
      }

  pub matched_match_of : (ts : List Token) (us : List Token) (vs : List Token) (x : Tree) (cs : CaseTrees) (m : Token)
      (o : Token) → (Ok n P ts → Sized n P ts (m ∷ o ∷ us) (nodes x) 0 (Offsets P x × FewCases n x)) → (Ok n P us
      → Sized n P us vs (case_nodes cs) (4 * case_count cs) (CaseOffsets P cs × CasesFewCases n cs)) → Ok n P ts
      → Sized n P ts vs (nodes (matching m.from x cs)) 0 (Offsets P (matching m.from x cs) × FewCases n (matching
      m.from x cs))
  matched_match_of ts us vs x cs m o d1 d2 ok =
      let s1 = d1 ok in
      let s2 = d2 (tail n P (tail n P s1.left)) in
      let fewer : 4 * case_count cs < n = omega (arith, s1.small, s2.quarter, ok.few) in
      record {
        good = assumption (s1.good, head n P s1.left, head n P ((tail n P s1.left)), s2.good, fewer);
        left =
            s2.left;
        small = omega (arith, s1.small, s2.small, ok.few);
        quarter = omega (
          arith,
          s1.quarter,
          s2.quarter,
          s1.small,
          s2.small,
          ok.few,
        );
      }

  pub cases_last_case : (ts : List Token) (us : List Token) (p : PatternTree) (g : Option Tree) (b : Tree) (c : Token)
      → (Ok n P ts → Sized n P ts (c ∷ us) (maybe_nodes g + nodes b) 4 (PatternOffsets P p × MaybeOffsets P g ×
      Offsets P b × MaybeFewCases n g × FewCases n b)) → Ok n P ts → Sized n P ts us (case_nodes (case_before p g b
      no_cases)) (4 * case_count (case_before p g b no_cases)) (CaseOffsets P (case_before p g b no_cases) ×
      CasesFewCases n (case_before p g b no_cases))
  cases_last_case ts us p None b c d1 ok =
      let s1 = d1 ok in
      record {
        good = assumption (s1.good, head n P s1.left);
        left = (tail n P s1.left);
        small = omega (
          arith,
          s1.small,
          ok.few,
        );
        quarter = omega (arith, s1.quarter, s1.small, ok.few);
      }
  cases_last_case ts us p (Some g) b c d1 ok =
      let s1 = d1 ok in
      record {
        good = assumption (s1.good, head n P s1.left);
        left = (tail n P s1.left);
        small = omega (
          arith,
          s1.small,
          ok.few,
        );
        quarter = omega (arith, s1.quarter, s1.small, ok.few);
      }

  pub cases_one_more_case : (ts : List Token) (us : List Token) (vs : List Token) (p : PatternTree) (g : Option Tree)
      (b : Tree) (cs : CaseTrees) → (Ok n P ts → Sized n P ts us (maybe_nodes g + nodes b) 4 (PatternOffsets P p ×
      MaybeOffsets P g × Offsets P b × MaybeFewCases n g × FewCases n b)) → (Ok n P us
      → Sized n P us vs (case_nodes cs) (4 * case_count cs) (CaseOffsets P cs × CasesFewCases n cs)) → Ok n P ts
      → Sized n P ts vs (case_nodes (case_before p g b cs)) (4 * case_count (case_before p g b cs)) (CaseOffsets P
      (case_before p g b cs) × CasesFewCases n (case_before p g b cs))
  cases_one_more_case ts us vs p None b cs d1 d2 ok =
      let s1 = d1 ok in
      let s2 = d2 s1.left in
      record {
        good = assumption (s1.good, s2.good);
        left = s2.left;
        small = omega (
          arith,
          s1.small,
          s2.small,
          ok.few,
        );
        quarter = omega (arith, s1.quarter, s2.quarter, s1.small, s2.small, ok.few);
      }
  cases_one_more_case ts us vs p (Some g) b cs d1 d2 ok =
      let s1 = d1 ok in
      let s2 = d2 s1.left in
      record {
        good = assumption (s1.good, s2.good);
        left = s2.left;
        small = omega (
          arith,
          s1.small,
          s2.small,
          ok.few,
        );
        quarter = omega (arith, s1.quarter, s2.quarter, s1.small, s2.small, ok.few);
      }

  pub case_case_of : (ts : List Token) (us : List Token) (vs : List Token) (ws : List Token) (p : PatternTree) (g :
      Option Tree) (b : Tree) (c : Token) (a : Token) → (Ok n P ts → Sized n P ts us 0 1 (PatternOffsets P p))
      → (Ok n P us → Sized n P us (a ∷ vs) (maybe_nodes g) 0 (MaybeOffsets P g × MaybeFewCases n g)) → (Ok n P vs
      → Sized n P vs ws (nodes b) 0 (Offsets P b × FewCases n b)) → Ok n P (c ∷ ts)
      → Sized n P (c ∷ ts) ws (maybe_nodes g + nodes b) 4 (PatternOffsets P p × MaybeOffsets P g × Offsets P b ×
      MaybeFewCases n g × FewCases n b)
  case_case_of ts us vs ws p g b c a d1 d2 d3 ok =
      let s1 = d1 (tail n P ok) in
      let s2 = d2 s1.left in
      let s3 = d3 (tail n P s2.left) in
      record {
        good = assumption (head n P ok, s1.good, s2.good, head n P s2.left, s3.good);
        left = s3.left;
        small
            = omega (arith, s1.small, s2.small, s3.small, ok.few);
        quarter = omega (
          arith,
          s1.quarter,
          s2.quarter,
          s3.quarter,
          nodes_pos b,
          s1.small,
          s2.small,
          s3.small,
          ok.few,
        );
      }

  pub guard_no_guard : (ts : List Token) → Ok n P ts → Sized n P ts ts (maybe_nodes None) 0 (MaybeOffsets P None ×
      MaybeFewCases n None)
  guard_no_guard ts ok =
      record { good = assumption ok; left = ok; small = omega (arith, ok.few); quarter = omega (arith, ok.few) }

  pub guard_guard : (ts : List Token) (us : List Token) (g : Tree) (i : Token) → (Ok n P ts
      → Sized n P ts us (nodes g) 0 (Offsets P g × FewCases n g)) → Ok n P (i ∷ ts)
      → Sized n P (i ∷ ts) us (maybe_nodes (Some g)) 0 (MaybeOffsets P (Some g) × MaybeFewCases n (Some g))
  guard_guard ts us g i d1 ok =
      let s1 = d1 (tail n P ok) in
      record {
        good = assumption (head n P ok, s1.good);
        left = s1.left;
        small = omega (arith, s1.small, ok.few);
        quarter = omega (arith, s1.quarter, s1.small, ok.few);
      }

  pub rest_rest : (ts : List Token) (us : List Token) (vs : List Token) (ws : List Token) (e : Tree) → (Ok n P ts
      → Sized n P ts us 0 0 (Unit {0})) → (Ok n P us → Sized n P us vs (nodes e) 0 (Offsets P e × FewCases n e))
      → (Ok n P vs → Sized n P vs ws 0 0 (Unit {0})) → Ok n P ts → Sized n P ts ws (nodes e) 0 (Offsets P e ×
      FewCases n e)
  rest_rest ts us vs ws e d1 d2 d3 ok =
      let s1 = d1 ok in
      let s2 = d2 s1.left in
      let s3 = d3 s2.left in
      record {
        good = assumption (s1.good, s2.good, s3.good);
        left = s3.left;
        small = omega (
          arith,
          s1.small,
          s2.small,
          s3.small,
          ok.few,
        );
        quarter = omega (
          arith,
          s1.quarter,
          s2.quarter,
          s3.quarter,
          s1.small,
          s2.small,
          s3.small,
          ok.few,
        );
      }

  pub stats_last_expr : (ts : List Token) (us : List Token) (e : Tree) → (Ok n P ts
      → Sized n P ts us (nodes e) 0 (Offsets P e × FewCases n e)) → Ok n P ts
      → Sized n P ts us (nodes e) 0 (Offsets P e × FewCases n e)
  stats_last_expr ts us e d1 ok =
      let s1 = d1 ok in
      record {
        good = assumption (s1.good);
        left = s1.left;
        small = omega (arith, s1.small, ok.few);
        quarter =
            omega (arith, s1.quarter, s1.small, ok.few);
      }

  pub stats_val_stat : (ts : List Token) (us : List Token) (vs : List Token) (ws : List Token) (xs : List Token) (t :
      Option TypeTree) (a : Tree) (b : Tree) (v : Token) (z : Token) (q : Token) → (Ok n P ts
      → Sized n P ts (q ∷ us) 0 0 (WrittenOffsets P t)) → (Ok n P us → Sized n P us vs (nodes a) 0 (Offsets P a ×
      FewCases n a)) → (Ok n P vs → Sized n P vs ws 0 0 (Unit {0})) → (Ok n P ws
      → Sized n P ws xs (nodes b) 0 (Offsets P b × FewCases n b)) → Ok n P (v ∷ z ∷ ts)
      → Sized n P (v ∷ z ∷ ts) xs (nodes (val_in v.from (word text z) t a b)) 0 (Offsets P (val_in v.from (word
      text z) t a b) × FewCases n (val_in v.from (word text z) t a b))
  stats_val_stat ts us vs ws xs t a b v z q d1 d2 d3 d4 ok =
      let s1 = d1 (tail n P (tail n P ok)) in
      let s2 = d2 (tail n P s1.left) in
      let s3 = d3 s2.left in
      let s4 = d4 s3.left in
      record {
        good = assumption (
          head n P ok,
          head n P ((tail n P ok)),
          s1.good,
          head n P s1.left,
          s2.good,
          s3.good,
          s4.good,
        );
        left = s4.left;
        small = omega (arith, s1.small, s2.small, s3.small, s4.small, ok.few);
        quarter = omega (
          arith,
          s1.quarter,
          s2.quarter,
          s3.quarter,
          s4.quarter,
          s1.small,
          s2.small,
          s3.small,
          s4.small,
          ok.few,
        );
      }

  pub stats_assert_stat : (ts : List Token) (us : List Token) (vs : List Token) (ws : List Token) (x : Tree) (b : Tree)
      (a : Token) (o : Token) (c : Token) → (Ok n P ts → Sized n P ts (c ∷ us) (nodes x) 0 (Offsets P x × FewCases
      n x)) → (Ok n P us → Sized n P us vs 0 0 (Unit {0})) → (Ok n P vs
      → Sized n P vs ws (nodes b) 0 (Offsets P b × FewCases n b)) → Ok n P (a ∷ o ∷ ts)
      → Sized n P (a ∷ o ∷ ts) ws (nodes (assert_in a.from x b)) 0 (Offsets P (assert_in a.from x b) × FewCases n
      (assert_in a.from x b))
  stats_assert_stat ts us vs ws x b a o c d1 d2 d3 ok =
      let s1 = d1 (tail n P (tail n P ok)) in
      let s2 = d2 (tail n P s1.left) in
      let s3 = d3 s2.left in
      record {
        good = assumption (
          head n P ok,
          head n P ((tail n P ok)),
          s1.good,
          head n P s1.left,
          s2.good,
          s3.good,
        );
        left = s3.left;
        small = omega (arith, s1.small, s2.small, s3.small, ok.few);
        quarter = omega
            (arith, s1.quarter, s2.quarter, s3.quarter, s1.small, s2.small, s3.small, ok.few);
      }

  pub block_block : (ts : List Token) (us : List Token) (e : Tree) (o : Token) (c : Token) → (Ok n P ts
      → Sized n P ts (c ∷ us) (nodes e) 0 (Offsets P e × FewCases n e)) → Ok n P (o ∷ ts)
      → Sized n P (o ∷ ts) us (nodes e) 0 (Offsets P e × FewCases n e)
  block_block ts us e o c d1 ok =
      let s1 = d1 (tail n P ok) in
      record {
        good = assumption (head n P ok, s1.good, head n P s1.left);
        left = (tail n P s1.left);
        small = omega
            (arith, s1.small, ok.few);
        quarter = omega (arith, s1.quarter, s1.small, ok.few);
      }
