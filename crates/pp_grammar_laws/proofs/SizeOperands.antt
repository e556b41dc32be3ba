-- Sizes and offsets of operands and what joins them, rule by rule.
use Rattle.pp_grammar.specs.Words.{word}
use Rattle.pp_grammar_laws.proofs.Sized.{Ok, Sized, head, tail}
use Rattle.pp_tokens.specs.declared.token.Operator.{Operator}
use Rattle.pp_tokens.specs.declared.token.Token.{Token}
use Rattle.pp_tree.specs.Count.{AllFewCases, FewCases}
use Rattle.pp_tree.specs.Count.{nodes, nodes_of}
use Rattle.pp_tree.specs.Offsets.{AllOffsets, Offsets, TypesOffsets}
use Rattle.pp_tree.specs.Plain.{Tree, Trees, TypeTrees, Word, apply}
use Rattle.pp_tree.specs.Plain.{binary, bool, int, more_trees, name, no_trees}
use Rattle.pp_tree.specs.Plain.{no_types, unary}
use Rattle.pp_tree.specs.declared.operator.BinaryOp.{BinaryOp}
use Rattle.pp_tree.specs.declared.operator.UnaryOp.{UnaryOp}
use Rattle.std.proofs.Common.{List, arith, false, length, true, ℕ, ℤ, ◌+◌, ◌∷◌, ◌≤◌}

module _ (text : Word) (n : ℕ) (P : ℕ → Type 0) where
  pub infix_looser : (l : ℕ) (ts : List Token) (us : List Token) (e : Tree) → (Ok n P ts
      → Sized n P ts us (nodes e) 0 (Offsets P e × FewCases n e)) → Ok n P ts
      → Sized n P ts us (nodes e) 0 (Offsets P e × FewCases n e)
  infix_looser l ts us e d1 ok =
      let s1 = d1 ok in
      record {
        good = assumption (s1.good);
        left = s1.left;
        small = omega (arith, s1.small, ok.few);
        quarter =
            omega (arith, s1.quarter, s1.small, ok.few);
      }

  pub infix_operand : (ts : List Token) (us : List Token) (e : Tree) → (Ok n P ts
      → Sized n P ts us (nodes e) 0 (Offsets P e × FewCases n e)) → Ok n P ts
      → Sized n P ts us (nodes e) 0 (Offsets P e × FewCases n e)
  infix_operand ts us e d1 ok =
      let s1 = d1 ok in
      record {
        good = assumption (s1.good);
        left = s1.left;
        small = omega (arith, s1.small, ok.few);
        quarter =
            omega (arith, s1.quarter, s1.small, ok.few);
      }

  pub infix_operator : (ts : List Token) (us : List Token) (vs : List Token) (a : Tree) (b : Tree) (t : Token) (o :
      Operator) (op : BinaryOp) → (Ok n P ts → Sized n P ts (t ∷ us) (nodes a) 0 (Offsets P a × FewCases n a))
      → (Ok n P us → Sized n P us vs (nodes b) 0 (Offsets P b × FewCases n b)) → Ok n P ts
      → Sized n P ts vs (nodes (binary t.from op a b)) 0 (Offsets P (binary t.from op a b) × FewCases n (binary
      t.from op a b))
  infix_operator ts us vs a b t o op d1 d2 ok =
      let s1 = d1 ok in
      let s2 = d2 (tail n P s1.left) in
      record {
        good = assumption (s1.good, head n P s1.left, s2.good);
        left = s2.left;
        small = omega (
          arith,
          s1.small,
          s2.small,
          ok.few,
        );
        quarter = omega (arith, s1.quarter, s2.quarter, s1.small, s2.small, ok.few);
      }

  pub prefix_no_prefix : (ts : List Token) (us : List Token) (e : Tree) → (Ok n P ts
      → Sized n P ts us (nodes e) 0 (Offsets P e × FewCases n e)) → Ok n P ts
      → Sized n P ts us (nodes e) 0 (Offsets P e × FewCases n e)
  prefix_no_prefix ts us e d1 ok =
      let s1 = d1 ok in
      record {
        good = assumption (s1.good);
        left = s1.left;
        small = omega (arith, s1.small, ok.few);
        quarter =
            omega (arith, s1.quarter, s1.small, ok.few);
      }

  pub prefix_prefixed : (ts : List Token) (us : List Token) (e : Tree) (t : Token) (o : Operator) (op : UnaryOp)
      → (Ok n P ts → Sized n P ts us (nodes e) 0 (Offsets P e × FewCases n e)) → Ok n P (t ∷ ts)
      → Sized n P (t ∷ ts) us (nodes (unary t.from op e)) 0 (Offsets P (unary t.from op e) × FewCases n (unary
      t.from op e))
  prefix_prefixed ts us e t o op d1 ok =
      let s1 = d1 (tail n P ok) in
      record {
        good = assumption (head n P ok, s1.good);
        left = s1.left;
        small = omega (arith, s1.small, ok.few);
        quarter = omega (arith, s1.quarter, s1.small, ok.few);
      }

  pub prefix_negative : (us : List Token) (vs : List Token) (z : ℤ) (e : Tree) (m : Token) (t : Token)
      → ((ok : Ok n P us) → Offsets P (int m.from z) × FewCases n (int m.from z)
      → Sized n P us vs 0 0 ((Offsets P e × FewCases n e) × (nodes e + length vs ≤ nodes (int m.from z) + length
      us))) → Ok n P (m ∷ t ∷ us) → Sized n P (m ∷ t ∷ us) vs (nodes e) 0 (Offsets P e × FewCases n e)
  prefix_negative us vs z e m t d1 ok =
      let s1 = d1 (tail n P (tail n P ok)) (assumption (head n P ok, head n P ((tail n P ok)))) in
      record {
        good = assumption (head n P ok, head n P ((tail n P ok)), s1.good);
        left = s1.left;
        small = omega
            (arith, s1.small, s1.good.1, ok.few);
        quarter = omega (arith, s1.quarter, s1.small, s1.good.1, ok.few);
      }

  pub simple_simple : (ts : List Token) (us : List Token) (vs : List Token) (e : Tree) (d : Tree) → (Ok n P ts
      → Sized n P ts us (nodes e) 0 (Offsets P e × FewCases n e)) → ((ok : Ok n P us)
      → Offsets P e × FewCases n e → Sized n P us vs 0 0 ((Offsets P d × FewCases n d) × (nodes d + length vs ≤
      nodes e + length us))) → Ok n P ts → Sized n P ts vs (nodes d) 0 (Offsets P d × FewCases n d)
  simple_simple ts us vs e d d1 d2 ok =
      let s1 = d1 ok in
      let s2 = d2 s1.left (assumption (s1.good)) in
      record {
        good = assumption (s1.good, s2.good);
        left = s2.left;
        small = omega (
          arith,
          s1.small,
          s2.small,
          s2.good.1,
          ok.few,
        );
        quarter = omega (arith, s1.quarter, s2.quarter, s1.small, s2.small, s2.good.1, ok.few);
      }

  pub primary_number : (us : List Token) (z : ℤ) (t : Token) → Ok n P (t ∷ us)
      → Sized n P (t ∷ us) us (nodes (int t.from z)) 0 (Offsets P (int t.from z) × FewCases n (int t.from z))
  primary_number us z t ok =
      record {
        good = assumption (head n P ok);
        left = (tail n P ok);
        small = omega (arith, ok.few);
        quarter =
            omega (arith, ok.few);
      }

  pub primary_true_word : (us : List Token) (t : Token) → Ok n P (t ∷ us) → Sized n P (t ∷ us) us (nodes (bool t.from
      true)) 0 (Offsets P (bool t.from true) × FewCases n (bool t.from true))
  primary_true_word us t ok =
      record {
        good = assumption (head n P ok);
        left = (tail n P ok);
        small = omega (arith, ok.few);
        quarter =
            omega (arith, ok.few);
      }

  pub primary_false_word : (us : List Token) (t : Token) → Ok n P (t ∷ us) → Sized n P (t ∷ us) us (nodes (bool t.from
      false)) 0 (Offsets P (bool t.from false) × FewCases n (bool t.from false))
  primary_false_word us t ok =
      record {
        good = assumption (head n P ok);
        left = (tail n P ok);
        small = omega (arith, ok.few);
        quarter =
            omega (arith, ok.few);
      }

  pub primary_bound : (us : List Token) (z : ℤ) (i : Token) (dot : Token) (t : Token) → Ok n P (i ∷ dot ∷ t ∷ us)
      → Sized n P (i ∷ dot ∷ t ∷ us) us (nodes (int i.from z)) 0 (Offsets P (int i.from z) × FewCases n (int i.from
      z))
  primary_bound us z i dot t ok =
      record {
        good = assumption (head n P ok, head n P ((tail n P ok)), head n P ((tail n P (tail n P ok))));
        left
            = (tail n P (tail n P (tail n P ok)));
        small = omega (arith, ok.few);
        quarter = omega (arith, ok.few);
      }

  pub primary_name_alone : (us : List Token) (t : Token) → Ok n P (t ∷ us) → Sized n P (t ∷ us) us (nodes (name t.from
      (word text t))) 0 (Offsets P (name t.from (word text t)) × FewCases n (name t.from (word text t)))
  primary_name_alone us t ok =
      record {
        good = assumption (head n P ok);
        left = (tail n P ok);
        small = omega (arith, ok.few);
        quarter =
            omega (arith, ok.few);
      }

  pub primary_at_types : (ts : List Token) (us : List Token) (tys : TypeTrees) (t : Token) (o : Token) → (Ok n P ts
      → Sized n P ts us 0 0 (TypesOffsets P tys)) → Ok n P (t ∷ o ∷ ts)
      → Sized n P (t ∷ o ∷ ts) us (nodes (apply t.from (word text t) tys no_trees)) 0 (Offsets P (apply t.from
      (word text t) tys no_trees) × FewCases n (apply t.from (word text t) tys no_trees))
  primary_at_types ts us tys t o d1 ok =
      let s1 = d1 (tail n P (tail n P ok)) in
      record {
        good = assumption (head n P ok, head n P ((tail n P ok)), s1.good);
        left = s1.left;
        small = omega
            (arith, s1.small, ok.few);
        quarter = omega (arith, s1.quarter, s1.small, ok.few);
      }

  pub primary_on_arguments : (ts : List Token) (us : List Token) (es : Trees) (t : Token) → (Ok n P ts
      → Sized n P ts us (nodes_of es) 0 (AllOffsets P es × AllFewCases n es)) → Ok n P (t ∷ ts)
      → Sized n P (t ∷ ts) us (nodes (apply t.from (word text t) no_types es)) 0 (Offsets P (apply t.from (word
      text t) no_types es) × FewCases n (apply t.from (word text t) no_types es))
  primary_on_arguments ts us es t d1 ok =
      let s1 = d1 (tail n P ok) in
      record {
        good = assumption (head n P ok, s1.good);
        left = s1.left;
        small = omega (arith, s1.small, ok.few);
        quarter = omega (arith, s1.quarter, s1.small, ok.few);
      }

  pub primary_at_types_on_arguments : (ts : List Token) (us : List Token) (vs : List Token) (tys : TypeTrees) (es :
      Trees) (t : Token) (o : Token) → (Ok n P ts → Sized n P ts us 0 0 (TypesOffsets P tys)) → (Ok n P us
      → Sized n P us vs (nodes_of es) 0 (AllOffsets P es × AllFewCases n es)) → Ok n P (t ∷ o ∷ ts)
      → Sized n P (t ∷ o ∷ ts) vs (nodes (apply t.from (word text t) tys es)) 0 (Offsets P (apply t.from (word text
      t) tys es) × FewCases n (apply t.from (word text t) tys es))
  primary_at_types_on_arguments ts us vs tys es t o d1 d2 ok =
      let s1 = d1 (tail n P (tail n P ok)) in
      let s2 = d2 s1.left in
      record {
        good = assumption (head n P ok, head n P ((tail n P ok)), s1.good, s2.good);
        left = s2.left;
        small =
            omega (arith, s1.small, s2.small, ok.few);
        quarter = omega (
          arith,
          s1.quarter,
          s2.quarter,
          s1.small,
          s2.small,
          ok.few,
        );
      }

  pub primary_in_round : (ts : List Token) (us : List Token) (e : Tree) (o : Token) (c : Token) → (Ok n P ts
      → Sized n P ts (c ∷ us) (nodes e) 0 (Offsets P e × FewCases n e)) → Ok n P (o ∷ ts)
      → Sized n P (o ∷ ts) us (nodes e) 0 (Offsets P e × FewCases n e)
  primary_in_round ts us e o c d1 ok =
      let s1 = d1 (tail n P ok) in
      record {
        good = assumption (head n P ok, s1.good, head n P s1.left);
        left = (tail n P s1.left);
        small = omega
            (arith, s1.small, ok.few);
        quarter = omega (arith, s1.quarter, s1.small, ok.few);
      }

  pub primary_in_block : (ts : List Token) (us : List Token) (e : Tree) → (Ok n P ts
      → Sized n P ts us (nodes e) 0 (Offsets P e × FewCases n e)) → Ok n P ts
      → Sized n P ts us (nodes e) 0 (Offsets P e × FewCases n e)
  primary_in_block ts us e d1 ok =
      let s1 = d1 ok in
      record {
        good = assumption (s1.good);
        left = s1.left;
        small = omega (arith, s1.small, ok.few);
        quarter =
            omega (arith, s1.quarter, s1.small, ok.few);
      }

  pub arguments_no_arguments : (us : List Token) (o : Token) (c : Token) → Ok n P (o ∷ c ∷ us)
      → Sized n P (o ∷ c ∷ us) us (nodes_of no_trees) 0 (AllOffsets P no_trees × AllFewCases n no_trees)
  arguments_no_arguments us o c ok =
      record {
        good = assumption (head n P ok, head n P ((tail n P ok)));
        left = (tail n P (tail n P ok));
        small =
            omega (arith, ok.few);
        quarter = omega (arith, ok.few);
      }

  pub arguments_arguments : (ts : List Token) (us : List Token) (es : Trees) (o : Token) → (Ok n P ts
      → Sized n P ts us (nodes_of es) 0 (AllOffsets P es × AllFewCases n es)) → Ok n P (o ∷ ts)
      → Sized n P (o ∷ ts) us (nodes_of es) 0 (AllOffsets P es × AllFewCases n es)
  arguments_arguments ts us es o d1 ok =
      let s1 = d1 (tail n P ok) in
      record {
        good = assumption (head n P ok, s1.good);
        left = s1.left;
        small = omega (arith, s1.small, ok.few);
        quarter = omega (arith, s1.quarter, s1.small, ok.few);
      }

  pub exprs_last_of_exprs : (ts : List Token) (us : List Token) (e : Tree) (c : Token) → (Ok n P ts
      → Sized n P ts (c ∷ us) (nodes e) 0 (Offsets P e × FewCases n e)) → Ok n P ts
      → Sized n P ts us (nodes_of (more_trees e no_trees)) 0 (AllOffsets P (more_trees e no_trees) × AllFewCases n
      (more_trees e no_trees))
  exprs_last_of_exprs ts us e c d1 ok =
      let s1 = d1 ok in
      record {
        good = assumption (s1.good, head n P s1.left);
        left = (tail n P s1.left);
        small = omega (
          arith,
          s1.small,
          ok.few,
        );
        quarter = omega (arith, s1.quarter, s1.small, ok.few);
      }

  pub exprs_one_more_expr : (ts : List Token) (us : List Token) (vs : List Token) (e : Tree) (es : Trees) (c : Token)
      → (Ok n P ts → Sized n P ts (c ∷ us) (nodes e) 0 (Offsets P e × FewCases n e)) → (Ok n P us
      → Sized n P us vs (nodes_of es) 0 (AllOffsets P es × AllFewCases n es)) → Ok n P ts
      → Sized n P ts vs (nodes_of (more_trees e es)) 0 (AllOffsets P (more_trees e es) × AllFewCases n (more_trees
      e es))
  exprs_one_more_expr ts us vs e es c d1 d2 ok =
      let s1 = d1 ok in
      let s2 = d2 (tail n P s1.left) in
      record {
        good = assumption (s1.good, head n P s1.left, s2.good);
        left = s2.left;
        small = omega (
          arith,
          s1.small,
          s2.small,
          ok.few,
        );
        quarter = omega (arith, s1.quarter, s2.quarter, s1.small, s2.small, ok.few);
      }
