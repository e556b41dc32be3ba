-- The sites of a function weigh no more than its nodes, and sites that weigh at most 1 at each offset are apart.
use Rattle.std.proofs.Common.{◌≡◌, ◌+◌, ◌≤◌, ℕ, zero, suc, List, [], ◌∷◌, ◌++◌, Option, Some, None, slice_get, ap}
use Rattle.std.proofs.Common.{arith, refl, sym, Bool, true, false}
use Rattle.std.proofs.lemmas.Option.{same_Some}
use Rattle.pp_operators.specs.Classes.{is_division}
use Rattle.pp_tree.specs.declared.operator.BinaryOp.{BinaryOp}
use Rattle.pp_tree.specs.Plain.{CaseTrees, DefTree, PostTree, Tree, Trees, apply, assert_in, binary, bool, choice}
use Rattle.pp_tree.specs.Plain.{field, guarded_case, int, matching, more_trees, name, no_cases, no_trees, plain_case}
use Rattle.pp_tree.specs.Plain.{unary, val_in}
use Rattle.pp_typed.specs.Apart.{Mark, a_call, a_match, an_assertion, division_mark, operator_mark}
use Rattle.pp_types_laws.specs.Sites.{AreOnce, all_sites, case_sites, def_sites, list_sites, post_sites, sites}
use Rattle.pp_ordinary.proofs.OneAt.{one_at, one_here}
use Rattle.pp_ordinary.proofs.Weights.{weigh, weigh_all, weigh_cases, weigh_def, weigh_list, weigh_post}

module _ (mass : ℕ → ℕ) where
  -- what sites weigh, each by its offset
  abbrev pub marks_weight : List Mark → ℕ
  marks_weight [] = 0
  marks_weight (m ∷ ms) = mass m.1.1 + marks_weight ms

  both_marks : (ms ns : List Mark) → marks_weight (ms ++ ns) ≡ marks_weight ms + marks_weight ns
  both_marks [] ns = omega arith
  both_marks (m ∷ ms) ns = omega (arith, both_marks ms ns)

  -- in a source
  module _ (source : ℕ) where
    le_division : (b : Bool) (at : ℕ) → marks_weight (division_mark b (source, at)) ≤ mass at
    le_division true at = omega arith
    le_division false at = omega arith

    le_operator : (op : BinaryOp) (at : ℕ) → marks_weight (operator_mark op (source, at)) ≤ mass at
    le_operator op at = le_division (is_division op) at

    mutual
      le_sites : (e : Tree) → marks_weight (sites source e) ≤ weigh mass e
      le_sites (int at n) = omega arith
      le_sites (bool at b) = omega arith
      le_sites (name at v) = omega arith
      le_sites (apply at v ts es) =
          omega (arith, le_all es, both_marks (all_sites source es) ((a_call, (source, at)) ∷ []))
      le_sites (field at e v) = omega (arith, le_sites e)
      le_sites (unary at op a) = omega (arith, le_sites a)
      le_sites (binary at op a b) =
          omega (
            arith,
            le_sites a,
            le_sites b,
            le_operator op at,
            both_marks (sites source a ++ sites source b) (operator_mark op (source, at)),
            both_marks (sites source a) (sites source b),
          )
      le_sites (choice at c a b) =
          omega (
            arith,
            le_sites c,
            le_sites a,
            le_sites b,
            both_marks (sites source c ++ sites source a) (sites source b),
            both_marks (sites source c) (sites source a),
          )
      le_sites (matching at e cs) =
          omega (
            arith,
            le_sites e,
            le_case_sites cs,
            both_marks (sites source e) ((a_match, (source, at)) ∷ case_sites source cs),
          )
      le_sites (val_in at v t a b) =
          omega (arith, le_sites a, le_sites b, both_marks (sites source a) (sites source b))
      le_sites (assert_in at c e) =
          omega (
            arith,
            le_sites c,
            le_sites e,
            both_marks (sites source c) ((an_assertion, (source, at)) ∷ sites source e),
          )

      le_all : (es : Trees) → marks_weight (all_sites source es) ≤ weigh_all mass es
      le_all no_trees = omega arith
      le_all (more_trees e es) =
          omega (arith, le_sites e, le_all es, both_marks (sites source e) (all_sites source es))

      le_case_sites : (cs : CaseTrees) → marks_weight (case_sites source cs) ≤ weigh_cases mass cs
      le_case_sites no_cases = omega arith
      le_case_sites (plain_case p body cs) =
          omega (arith, le_sites body, le_case_sites cs, both_marks (sites source body) (case_sites source cs))
      le_case_sites (guarded_case p guard body cs) =
          omega (
            arith,
            le_sites guard,
            le_sites body,
            le_case_sites cs,
            both_marks (sites source guard ++ sites source body) (case_sites source cs),
            both_marks (sites source guard) (sites source body),
          )

    le_list : (es : List Tree) → marks_weight (list_sites source es) ≤ weigh_list mass es
    le_list [] = omega arith
    le_list (e ∷ es) = omega (arith, le_sites e, le_list es, both_marks (sites source e) (list_sites source es))

    le_claim : (p : Option PostTree) → marks_weight (post_sites source p) ≤ weigh_post mass p
    le_claim None = omega arith
    le_claim (Some p) = le_sites p.claim

    pub le_def_sites : (d : DefTree) → marks_weight (def_sites source d) ≤ weigh_def mass d
    le_def_sites d =
        let pre = list_sites source d.pre in
        let measure = list_sites source d.measure in
        let body = sites source d.body in
        omega (
          arith,
          le_list d.pre,
          le_list d.measure,
          le_sites d.body,
          le_claim d.post,
          both_marks (pre ++ measure ++ body) (post_sites source d.post),
          both_marks (pre ++ measure) body,
          both_marks pre measure,
        )

-- ---- sites that weigh at most 1 at each offset

-- a site weighs at its offset
some_weight : (ms : List Mark) (i : ℕ) (m : Mark) → slice_get ms i ≡ Some m → 1 ≤ marks_weight (one_at m.1.1) ms
some_weight [] i m e = cc
some_weight (n ∷ ms) zero m e =
    omega (arith, one_here m.1.1 n.1.1 (ap (λ (x : Mark). x.1.1) (sym (same_Some n m e))))
some_weight (n ∷ ms) (suc i) m e = omega (arith, some_weight ms i m e)

twice : (n : Mark) (ms : List Mark) (j : ℕ) (m : Mark) → n ≡ m → slice_get ms j ≡ Some m
    → marks_weight (one_at m.1.1) (n ∷ ms) ≤ 1 → ⊥
twice n ms j m is e h =
    absurd (omega (arith, h, some_weight ms j m e, one_here m.1.1 n.1.1 (ap (λ (x : Mark). x.1.1) (sym is))))

pub apart : (ms : List Mark) → ((x : ℕ) → marks_weight (one_at x) ms ≤ 1) → AreOnce ms
apart [] h i j m e f = cc
apart (n ∷ ms) h zero zero m e f = refl
apart (n ∷ ms) h zero (suc j) m e f = absurd (twice n ms j m (same_Some n m e) f (h m.1.1))
apart (n ∷ ms) h (suc i) zero m e f = absurd (twice n ms i m (same_Some n m f) e (h m.1.1))
apart (n ∷ ms) h (suc i) (suc j) m e f = ap suc (apart ms (λ x. omega (arith, h x)) i j m e f)
