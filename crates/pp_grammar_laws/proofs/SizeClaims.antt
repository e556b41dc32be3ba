-- Sizes and offsets of postconditions, rule by rule.
use Rattle.pp_grammar.specs.Words.{res}
use Rattle.pp_grammar_laws.proofs.Sized.{Ok, Sized, head, tail}
use Rattle.pp_tokens.specs.declared.token.Operator.{Operator}
use Rattle.pp_tokens.specs.declared.token.Token.{Token}
use Rattle.pp_tree.specs.Count.{FewCases, nodes}
use Rattle.pp_tree.specs.Offsets.{Offsets, TypeOffsets, WrittenOffsets}
use Rattle.pp_tree.specs.Plain.{Tree, TypeTree, Word, binary, name, unary}
use Rattle.pp_tree.specs.declared.operator.BinaryOp.{BinaryOp}
use Rattle.pp_tree.specs.declared.operator.UnaryOp.{UnaryOp}
use Rattle.std.proofs.Common.{List, None, Option, Some, arith, length, ℕ, ◌+◌, ◌∷◌, ◌≤◌}

module _ (text : Word) (n : ℕ) (P : ℕ → Type 0) where
  pub hole_looser_hole : (l : ℕ) (ts : List Token) (us : List Token) (e : Tree) → (Ok n P ts
      → Sized n P ts us (nodes e) 0 (Offsets P e × FewCases n e)) → Ok n P ts
      → Sized n P ts us (nodes e) 0 (Offsets P e × FewCases n e)
  hole_looser_hole l ts us e d1 ok =
      let s1 = d1 ok in
      record {
        good = assumption (s1.good);
        left = s1.left;
        small = omega (arith, s1.small, ok.few);
        quarter =
            omega (arith, s1.quarter, s1.small, ok.few);
      }

  pub hole_hole : (us : List Token) (vs : List Token) (e : Tree) (h : Token) → ((ok : Ok n P us)
      → Offsets P (name h.from res) × FewCases n (name h.from res) → Sized n P us vs 0 0 ((Offsets P e × FewCases n
      e) × (nodes e + length vs ≤ nodes (name h.from res) + length us))) → Ok n P (h ∷ us)
      → Sized n P (h ∷ us) vs (nodes e) 0 (Offsets P e × FewCases n e)
  hole_hole us vs e h d1 ok =
      let s1 = d1 (tail n P ok) (assumption (head n P ok)) in
      record {
        good = assumption (head n P ok, s1.good);
        left = s1.left;
        small = omega (
          arith,
          s1.small,
          s1.good.1,
          ok.few,
        );
        quarter = omega (arith, s1.quarter, s1.small, s1.good.1, ok.few);
      }

  pub hole_prefixed_hole : (us : List Token) (vs : List Token) (e : Tree) (t : Token) (h : Token) (o : Operator) (op :
      UnaryOp) → ((ok : Ok n P us) → Offsets P (name h.from res) × FewCases n (name h.from res)
      → Sized n P us vs 0 0 ((Offsets P e × FewCases n e) × (nodes e + length vs ≤ nodes (name h.from res) + length
      us))) → Ok n P (t ∷ h ∷ us) → Sized n P (t ∷ h ∷ us) vs (nodes (unary t.from op e)) 0 (Offsets P (unary
      t.from op e) × FewCases n (unary t.from op e))
  hole_prefixed_hole us vs e t h o op d1 ok =
      let s1 = d1 (tail n P (tail n P ok)) (assumption (head n P ok, head n P ((tail n P ok)))) in
      record {
        good = assumption (head n P ok, head n P ((tail n P ok)), s1.good);
        left = s1.left;
        small = omega
            (arith, s1.small, s1.good.1, ok.few);
        quarter = omega (arith, s1.quarter, s1.small, s1.good.1, ok.few);
      }

  pub hole_hole_on_left : (ts : List Token) (us : List Token) (vs : List Token) (a : Tree) (b : Tree) (t : Token) (o :
      Operator) (op : BinaryOp) → (Ok n P ts → Sized n P ts (t ∷ us) (nodes a) 0 (Offsets P a × FewCases n a))
      → (Ok n P us → Sized n P us vs (nodes b) 0 (Offsets P b × FewCases n b)) → Ok n P ts
      → Sized n P ts vs (nodes (binary t.from op a b)) 0 (Offsets P (binary t.from op a b) × FewCases n (binary
      t.from op a b))
  hole_hole_on_left ts us vs a b t o op d1 d2 ok =
      let s1 = d1 ok in
      let s2 = d2 (tail n P s1.left) in
      record {
        good = assumption (s1.good, head n P s1.left, s2.good);
        left = s2.left;
        small = omega (
          arith,
          s1.small,
          s2.small,
          ok.few,
        );
        quarter = omega (arith, s1.quarter, s2.quarter, s1.small, s2.small, ok.few);
      }

  pub hole_hole_on_right : (ts : List Token) (us : List Token) (vs : List Token) (a : Tree) (b : Tree) (t : Token) (o :
      Operator) (op : BinaryOp) → (Ok n P ts → Sized n P ts (t ∷ us) (nodes a) 0 (Offsets P a × FewCases n a))
      → (Ok n P us → Sized n P us vs (nodes b) 0 (Offsets P b × FewCases n b)) → Ok n P ts
      → Sized n P ts vs (nodes (binary t.from op a b)) 0 (Offsets P (binary t.from op a b) × FewCases n (binary
      t.from op a b))
  hole_hole_on_right ts us vs a b t o op d1 d2 ok =
      let s1 = d1 ok in
      let s2 = d2 (tail n P s1.left) in
      record {
        good = assumption (s1.good, head n P s1.left, s2.good);
        left = s2.left;
        small = omega (
          arith,
          s1.small,
          s2.small,
          ok.few,
        );
        quarter = omega (arith, s1.quarter, s2.quarter, s1.small, s2.small, ok.few);
      }

  pub lambda_of_name : (ts : List Token) (us : List Token) (e : Tree) (z : Token) (a : Token) → (Ok n P ts
      → Sized n P ts us (nodes e) 0 (Offsets P e × FewCases n e)) → Ok n P (z ∷ a ∷ ts)
      → Sized n P (z ∷ a ∷ ts) us (nodes e) 0 (WrittenOffsets P None × Offsets P e × FewCases n e)
  lambda_of_name ts us e z a d1 ok =
      let s1 = d1 (tail n P (tail n P ok)) in
      record {
        good = assumption (head n P ok, head n P ((tail n P ok)), s1.good);
        left = s1.left;
        small = omega
            (arith, s1.small, ok.few);
        quarter = omega (arith, s1.quarter, s1.small, ok.few);
      }

  pub lambda_of_name_in_round : (ts : List Token) (us : List Token) (vs : List Token) (t : Option TypeTree) (e : Tree)
      (o : Token) (z : Token) (c : Token) (a : Token) → (Ok n P ts → Sized n P ts (c ∷ a ∷ us) 0 0 (WrittenOffsets
      P t)) → (Ok n P us → Sized n P us vs (nodes e) 0 (Offsets P e × FewCases n e)) → Ok n P (o ∷ z ∷ ts)
      → Sized n P (o ∷ z ∷ ts) vs (nodes e) 0 (WrittenOffsets P t × Offsets P e × FewCases n e)
  lambda_of_name_in_round ts us vs t e o z c a d1 d2 ok =
      let s1 = d1 (tail n P (tail n P ok)) in
      let s2 = d2 (tail n P (tail n P s1.left)) in
      record {
        good = assumption (
          head n P ok,
          head n P ((tail n P ok)),
          s1.good,
          head n P s1.left,
          head n P ((tail
              n P s1.left)),
          s2.good,
        );
        left = s2.left;
        small = omega (arith, s1.small, s2.small, ok.few);
        quarter =
            omega (arith, s1.quarter, s2.quarter, s1.small, s2.small, ok.few);
      }

  pub lambda_of_typed_name : (ts : List Token) (us : List Token) (vs : List Token) (t : TypeTree) (e : Tree) (z :
      Token) (c : Token) (a : Token) → (Ok n P ts → Sized n P ts (a ∷ us) 0 0 (TypeOffsets P t)) → (Ok n P us
      → Sized n P us vs (nodes e) 0 (Offsets P e × FewCases n e)) → Ok n P (z ∷ c ∷ ts)
      → Sized n P (z ∷ c ∷ ts) vs (nodes e) 0 (WrittenOffsets P (Some t) × Offsets P e × FewCases n e)
  lambda_of_typed_name ts us vs t e z c a d1 d2 ok =
      let s1 = d1 (tail n P (tail n P ok)) in
      let s2 = d2 (tail n P s1.left) in
      record {
        good = assumption (head n P ok, head n P ((tail n P ok)), s1.good, head n P s1.left, s2.good);
        left
            = s2.left;
        small = omega (arith, s1.small, s2.small, ok.few);
        quarter = omega (
          arith,
          s1.quarter,
          s2.quarter,
          s1.small,
          s2.small,
          ok.few,
        );
      }

  pub lambda_of_hole : (ts : List Token) (us : List Token) (e : Tree) → (Ok n P ts
      → Sized n P ts us (nodes e) 0 (Offsets P e × FewCases n e)) → Ok n P ts
      → Sized n P ts us (nodes e) 0 (WrittenOffsets P None × Offsets P e × FewCases n e)
  lambda_of_hole ts us e d1 ok =
      let s1 = d1 ok in
      record {
        good = assumption (s1.good);
        left = s1.left;
        small = omega (arith, s1.small, ok.few);
        quarter =
            omega (arith, s1.quarter, s1.small, ok.few);
      }

  pub post_post_in_round : (ts : List Token) (us : List Token) (w : Word) (t : Option TypeTree) (e : Tree) (o : Token)
      (c : Token) → (Ok n P ts → Sized n P ts (c ∷ us) (nodes e) 0 (WrittenOffsets P t × Offsets P e × FewCases n
      e)) → Ok n P (o ∷ ts) → Sized n P (o ∷ ts) us (nodes e) 0 (WrittenOffsets P t × Offsets P e × FewCases n e)
  post_post_in_round ts us w t e o c d1 ok =
      let s1 = d1 (tail n P ok) in
      record {
        good = assumption (head n P ok, s1.good, head n P s1.left);
        left = (tail n P s1.left);
        small = omega
            (arith, s1.small, ok.few);
        quarter = omega (arith, s1.quarter, s1.small, ok.few);
      }

  pub post_post_in_braces : (ts : List Token) (us : List Token) (vs : List Token) (ws : List Token) (w : Word) (t :
      Option TypeTree) (e : Tree) (o : Token) (c : Token) → (Ok n P ts → Sized n P ts us 0 0 (Unit {0}))
      → (Ok n P us → Sized n P us vs (nodes e) 0 (WrittenOffsets P t × Offsets P e × FewCases n e)) → (Ok n P vs
      → Sized n P vs (c ∷ ws) 0 0 (Unit {0})) → Ok n P (o ∷ ts) → Sized n P (o ∷ ts) ws (nodes e) 0 (WrittenOffsets
      P t × Offsets P e × FewCases n e)
  post_post_in_braces ts us vs ws w t e o c d1 d2 d3 ok =
      let s1 = d1 (tail n P ok) in
      let s2 = d2 s1.left in
      let s3 = d3 s2.left in
      record {
        good = assumption (head n P ok, s1.good, s2.good, s3.good, head n P s3.left);
        left = (tail n P
            s3.left);
        small = omega (arith, s1.small, s2.small, s3.small, ok.few);
        quarter = omega (
          arith,
          s1.quarter,
          s2.quarter,
          s3.quarter,
          s1.small,
          s2.small,
          s3.small,
          ok.few,
        );
      }
