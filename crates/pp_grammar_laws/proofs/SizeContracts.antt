-- Sizes and offsets of measures and contracts, rule by rule.
use Rattle.pp_grammar.specs.Bodies.{Contract}
use Rattle.pp_grammar.specs.Bodies.{components, decreases}
use Rattle.pp_grammar.specs.Bodies.{require}
use Rattle.pp_grammar.specs.Bodies.{requirements}
use Rattle.pp_grammar_laws.proofs.Sized.{Ok, Sized, head, tail}
use Rattle.pp_tokens.specs.declared.token.Token.{Token}
use Rattle.pp_tree.specs.Count.{FewCases, ListFewCases, list_nodes, nodes}
use Rattle.pp_tree.specs.Offsets.{ListOffsets, Offsets}
use Rattle.pp_tree.specs.Plain.{Tree, Word}
use Rattle.std.proofs.Common.{List, [], arith, ℕ, ◌++◌, ◌+◌, ◌∷◌, ◌≡◌}

module _ (text : Word) (n : ℕ) (P : ℕ → Type 0) where
  abbrev pub contract_trees : Contract → List Tree
  contract_trees (require e) = e ∷ []
  contract_trees (decreases es) = es

  list_nodes_append : (xs ys : List Tree) → list_nodes (xs ++ ys) ≡ list_nodes xs + list_nodes ys
  list_nodes_append [] ys = omega arith
  list_nodes_append (x ∷ xs) ys = let h = list_nodes_append xs ys in omega arith

  offsets_append : (xs ys : List Tree) → ListOffsets P xs → ListOffsets P ys → ListOffsets P (xs ++ ys)
  offsets_append [] ys a b = b
  offsets_append (x ∷ xs) ys a b = (a.0, offsets_append xs ys a.1 b)

  few_append : (xs ys : List Tree) → ListFewCases n xs → ListFewCases n ys → ListFewCases n (xs ++ ys)
  few_append [] ys a b = b
  few_append (x ∷ xs) ys a b = (a.0, few_append xs ys a.1 b)

  pub contracts_more : (ts us vs ws : List Token) (c : Contract) (cs : List Contract) → (Ok n P ts
      → Sized n P ts us (list_nodes (contract_trees c)) 0 (ListOffsets P (contract_trees c) × ListFewCases n
      (contract_trees c))) → (Ok n P us → Sized n P us vs 0 0 (Unit {0})) → (Ok n P vs
      → Sized n P vs ws (list_nodes (requirements cs) + list_nodes (components cs)) 0 (ListOffsets P (requirements
      cs) × ListOffsets P (components cs) × ListFewCases n (requirements cs) × ListFewCases n (components cs)))
      → Ok n P ts → Sized n P ts ws (list_nodes (requirements (c ∷ cs)) + list_nodes (components (c ∷ cs))) 0
      (ListOffsets P (requirements (c ∷ cs)) × ListOffsets P (components (c ∷ cs)) × ListFewCases n (requirements
      (c ∷ cs)) × ListFewCases n (components (c ∷ cs)))
  contracts_more ts us vs ws (require e) cs d1 d2 d3 ok =
      let s1 = d1 ok in let s2 = d2 s1.left in let s3 = d3 s2.left in
      record {
        good = assumption (s1.good, s3.good);
        left = s3.left;
        small = omega (
          arith,
          s1.small,
          s2.small,
          s3.small,
        );
        quarter = omega (arith, s1.quarter, s2.quarter, s3.quarter);
      }
  contracts_more ts us vs ws (decreases es) cs d1 d2 d3 ok =
      let s1 = d1 ok in let s2 = d2 s1.left in let s3 = d3 s2.left in
      let e = list_nodes_append es (components cs) in
      record {
        good = (
          s3.good.0,
          offsets_append es (components cs) s1.good.0 s3.good.1,
          s3.good.2,
          few_append es
              (components cs) s1.good.1 s3.good.3,
        );
        left = s3.left;
        small = omega (
          arith,
          e,
          s1.small,
          s2.small,
          s3.small,
        );
        quarter = omega (arith, s1.quarter, s2.quarter, s3.quarter);
      }

  pub measure_last_component : (ts : List Token) (us : List Token) (e : Tree) (c : Token) → (Ok n P ts
      → Sized n P ts (c ∷ us) (nodes e) 0 (Offsets P e × FewCases n e)) → Ok n P ts
      → Sized n P ts us (list_nodes (e ∷ [])) 0 (ListOffsets P (e ∷ []) × ListFewCases n (e ∷ []))
  measure_last_component ts us e c d1 ok =
      let s1 = d1 ok in
      record {
        good = assumption (s1.good, head n P s1.left);
        left = (tail n P s1.left);
        small = omega (
          arith,
          s1.small,
          ok.few,
        );
        quarter = omega (arith, s1.quarter, s1.small, ok.few);
      }

  pub measure_one_more_component : (ts : List Token) (us : List Token) (vs : List Token) (e : Tree) (es : List Tree) (c
      : Token) → (Ok n P ts → Sized n P ts (c ∷ us) (nodes e) 0 (Offsets P e × FewCases n e)) → (Ok n P us
      → Sized n P us vs (list_nodes es) 0 (ListOffsets P es × ListFewCases n es)) → Ok n P ts
      → Sized n P ts vs (list_nodes (e ∷ es)) 0 (ListOffsets P (e ∷ es) × ListFewCases n (e ∷ es))
  measure_one_more_component ts us vs e es c d1 d2 ok =
      let s1 = d1 ok in
      let s2 = d2 (tail n P s1.left) in
      record {
        good = assumption (s1.good, head n P s1.left, s2.good);
        left = s2.left;
        small = omega (
          arith,
          s1.small,
          s2.small,
          ok.few,
        );
        quarter = omega (arith, s1.quarter, s2.quarter, s1.small, s2.small, ok.few);
      }

  pub contract_requirement : (ts : List Token) (us : List Token) (e : Tree) (w : Token) (o : Token) (c : Token)
      → (Ok n P ts → Sized n P ts (c ∷ us) (nodes e) 0 (Offsets P e × FewCases n e)) → Ok n P (w ∷ o ∷ ts)
      → Sized n P (w ∷ o ∷ ts) us (list_nodes (contract_trees (require e))) 0 (ListOffsets P (contract_trees
      (require e)) × ListFewCases n (contract_trees (require e)))
  contract_requirement ts us e w o c d1 ok =
      let s1 = d1 (tail n P (tail n P ok)) in
      record {
        good = assumption (head n P ok, head n P ((tail n P ok)), s1.good, head n P s1.left);
        left = (tail n
            P s1.left);
        small = omega (arith, s1.small, ok.few);
        quarter = omega (arith, s1.quarter, s1.small, ok.few);
      }

  pub contract_measure : (ts : List Token) (us : List Token) (es : List Tree) (w : Token) (o : Token) → (Ok n P ts
      → Sized n P ts us (list_nodes es) 0 (ListOffsets P es × ListFewCases n es)) → Ok n P (w ∷ o ∷ ts)
      → Sized n P (w ∷ o ∷ ts) us (list_nodes (contract_trees (decreases es))) 0 (ListOffsets P (contract_trees
      (decreases es)) × ListFewCases n (contract_trees (decreases es)))
  contract_measure ts us es w o d1 ok =
      let s1 = d1 (tail n P (tail n P ok)) in
      record {
        good = assumption (head n P ok, head n P ((tail n P ok)), s1.good);
        left = s1.left;
        small = omega
            (arith, s1.small, ok.few);
        quarter = omega (arith, s1.quarter, s1.small, ok.few);
      }

  pub contract_measure_of_tuple : (ts : List Token) (us : List Token) (vs : List Token) (e : Tree) (es : List Tree) (w
      : Token) (o : Token) (p : Token) (c : Token) (d : Token) → (Ok n P ts
      → Sized n P ts (c ∷ us) (nodes e) 0 (Offsets P e × FewCases n e)) → (Ok n P us
      → Sized n P us (d ∷ vs) (list_nodes es) 0 (ListOffsets P es × ListFewCases n es)) → Ok n P (w ∷ o ∷ p ∷ ts)
      → Sized n P (w ∷ o ∷ p ∷ ts) vs (list_nodes (contract_trees (decreases (e ∷ es)))) 0 (ListOffsets P
      (contract_trees (decreases (e ∷ es))) × ListFewCases n (contract_trees (decreases (e ∷ es))))
  contract_measure_of_tuple ts us vs e es w o p c d d1 d2 ok =
      let s1 = d1 (tail n P (tail n P (tail n P ok))) in
      let s2 = d2 (tail n P s1.left) in
      record {
        good = assumption (
          head n P ok,
          head n P ((tail n P ok)),
          head n P ((tail n P (tail n P ok))),
          s1.good,
          head n P s1.left,
          s2.good,
          head n P s2.left,
        );
        left = (tail n P s2.left);
        small = omega (
          arith,
          s1.small,
          s2.small,
          ok.few,
        );
        quarter = omega (arith, s1.quarter, s2.quarter, s1.small, s2.small, ok.few);
      }

  pub contracts_no_contract : (ts : List Token) → Ok n P ts → Sized n P ts ts (list_nodes (requirements []) +
      list_nodes (components [])) 0 (ListOffsets P (requirements []) × ListOffsets P (components []) × ListFewCases
      n (requirements []) × ListFewCases n (components []))
  contracts_no_contract ts ok =
      record { good = assumption ok; left = ok; small = omega (arith, ok.few); quarter = omega (arith, ok.few) }

  pub contract_block_contract_block : (ts : List Token) (us : List Token) (vs : List Token) (ws : List Token) (xs :
      List Token) (cs : List Contract) (e : Tree) (o : Token) (c : Token) → (Ok n P ts
      → Sized n P ts us 0 0 (Unit {0})) → (Ok n P us → Sized n P us vs (list_nodes (requirements cs) + list_nodes
      (components cs)) 0 (ListOffsets P (requirements cs) × ListOffsets P (components cs) × ListFewCases n
      (requirements cs) × ListFewCases n (components cs))) → (Ok n P vs
      → Sized n P vs ws (nodes e) 0 (Offsets P e × FewCases n e)) → (Ok n P ws
      → Sized n P ws (c ∷ xs) 0 0 (Unit {0})) → Ok n P (o ∷ ts) → Sized n P (o ∷ ts) xs (list_nodes (requirements
      cs) + list_nodes (components cs) + nodes e) 0 (ListOffsets P (requirements cs) × ListOffsets P (components
      cs) × Offsets P e × ListFewCases n (requirements cs) × ListFewCases n (components cs) × FewCases n e)
  contract_block_contract_block ts us vs ws xs cs e o c d1 d2 d3 d4 ok =
      let s1 = d1 (tail n P ok) in
      let s2 = d2 s1.left in
      let s3 = d3 s2.left in
      let s4 = d4 s3.left in
      record {
        good = assumption (head n P ok, s1.good, s2.good, s3.good, s4.good, head n P s4.left);
        left = (tail
            n P s4.left);
        small = omega (arith, s1.small, s2.small, s3.small, s4.small, ok.few);
        quarter = omega
            (arith, s1.quarter, s2.quarter, s3.quarter, s4.quarter, s1.small, s2.small, s3.small, s4.small, ok.few);
      }
