-- Sizes and offsets of bodies.
use Rattle.pp_grammar.specs.Bodies.{Contract, IsBody, IsClosed, IsContract, IsContractBlock, IsContracts, IsHead}
use Rattle.pp_grammar.specs.Bodies.{IsHole, IsLambda, IsMeasure, IsPost, block_alone, closed_block, closed_matched}
use Rattle.pp_grammar.specs.Bodies.{closed_simple, components, contract_block, dot_ensuring, dot_holds}
use Rattle.pp_grammar.specs.Bodies.{ensuring, expr_alone, head_block, head_infix, head_matched, holding_at, holds, hole}
use Rattle.pp_grammar.specs.Bodies.{hole_on_left, hole_on_right, last_component, looser_hole, measure, measure_of_tuple}
use Rattle.pp_grammar.specs.Bodies.{no_contract, of_hole, of_name, of_name_in_round, of_typed_name, one_more_component}
use Rattle.pp_grammar.specs.Bodies.{one_more_contract, post_at, post_in_braces, post_in_round, prefixed_hole}
use Rattle.pp_grammar.specs.Bodies.{requirement, requirements}
use Rattle.pp_grammar_laws.proofs.SizeExprs.{size_expr, size_fields, size_infix, size_matched, size_simple, size_stats}
use Rattle.pp_grammar_laws.proofs.SizeTypes.{size_ascription, size_gap, size_semis, size_type}
use Rattle.pp_grammar_laws.proofs.Sized.{Ok, Sized, head, tail}
use Rattle.pp_tokens.specs.declared.token.Token.{Token}
use Rattle.pp_tree.specs.Count.{FewCases, ListFewCases, PostFewCases, list_nodes, nodes, post_nodes}
use Rattle.pp_tree.specs.Offsets.{ListOffsets, Offsets, PostOffsets, WrittenOffsets}
use Rattle.pp_tree.specs.Plain.{PostTree, Tree, TypeTree, Word}
use Rattle.std.proofs.Common.{List, None, Option, [], arith, ℕ, ◌+◌, ◌∷◌}
use Rattle.pp_grammar_laws.proofs.SizeClaims.{hole_hole, hole_hole_on_left, hole_hole_on_right, hole_looser_hole}
use Rattle.pp_grammar_laws.proofs.SizeClaims.{hole_prefixed_hole, lambda_of_hole, lambda_of_name}
use Rattle.pp_grammar_laws.proofs.SizeClaims.{lambda_of_name_in_round, lambda_of_typed_name, post_post_in_braces}
use Rattle.pp_grammar_laws.proofs.SizeClaims.{post_post_in_round}
use Rattle.pp_grammar_laws.proofs.SizeContracts.{contract_block_contract_block, contract_measure}
use Rattle.pp_grammar_laws.proofs.SizeContracts.{contract_measure_of_tuple, contract_requirement, contract_trees}
use Rattle.pp_grammar_laws.proofs.SizeContracts.{contracts_more, contracts_no_contract, measure_last_component}
use Rattle.pp_grammar_laws.proofs.SizeContracts.{measure_one_more_component}

module _ (text : Word) (n : ℕ) (P : ℕ → Type 0) where
  head_head_infix : (ts : List Token) (us : List Token) (e : Tree) → (Ok n P ts
      → Sized n P ts us (nodes e) 0 (Offsets P e × FewCases n e)) → Ok n P ts
      → Sized n P ts us (list_nodes [] + list_nodes [] + nodes e) 0 (ListOffsets P [] × ListOffsets P [] × Offsets
      P e × ListFewCases n [] × ListFewCases n [] × FewCases n e)
  head_head_infix ts us e d1 ok =
      let s1 = d1 ok in
      record {
        good = assumption (s1.good);
        left = s1.left;
        small = omega (arith, s1.small, ok.few);
        quarter =
            omega (arith, s1.quarter, s1.small, ok.few);
      }

  head_head_matched : (ts : List Token) (us : List Token) (e : Tree) → (Ok n P ts
      → Sized n P ts us (nodes e) 0 (Offsets P e × FewCases n e)) → Ok n P ts
      → Sized n P ts us (list_nodes [] + list_nodes [] + nodes e) 0 (ListOffsets P [] × ListOffsets P [] × Offsets
      P e × ListFewCases n [] × ListFewCases n [] × FewCases n e)
  head_head_matched ts us e d1 ok =
      let s1 = d1 ok in
      record {
        good = assumption (s1.good);
        left = s1.left;
        small = omega (arith, s1.small, ok.few);
        quarter =
            omega (arith, s1.quarter, s1.small, ok.few);
      }

  head_head_block : (ts : List Token) (us : List Token) (pre : List Tree) (ms : List Tree) (e : Tree)
      → (Ok n P ts → Sized n P ts us (list_nodes pre + list_nodes ms + nodes e) 0 (ListOffsets P pre × ListOffsets
      P ms × Offsets P e × ListFewCases n pre × ListFewCases n ms × FewCases n e)) → Ok n P ts
      → Sized n P ts us (list_nodes pre + list_nodes ms + nodes e) 0 (ListOffsets P pre × ListOffsets P ms ×
      Offsets P e × ListFewCases n pre × ListFewCases n ms × FewCases n e)
  head_head_block ts us pre ms e d1 ok =
      let s1 = d1 ok in
      record {
        good = assumption (s1.good);
        left = s1.left;
        small = omega (arith, s1.small, ok.few);
        quarter =
            omega (arith, s1.quarter, s1.small, ok.few);
      }

  closed_closed_simple : (ts : List Token) (us : List Token) (e : Tree) → (Ok n P ts
      → Sized n P ts us (nodes e) 0 (Offsets P e × FewCases n e)) → Ok n P ts
      → Sized n P ts us (list_nodes [] + list_nodes [] + nodes e) 0 (ListOffsets P [] × ListOffsets P [] × Offsets
      P e × ListFewCases n [] × ListFewCases n [] × FewCases n e)
  closed_closed_simple ts us e d1 ok =
      let s1 = d1 ok in
      record {
        good = assumption (s1.good);
        left = s1.left;
        small = omega (arith, s1.small, ok.few);
        quarter =
            omega (arith, s1.quarter, s1.small, ok.few);
      }

  closed_closed_matched : (ts : List Token) (us : List Token) (e : Tree) → (Ok n P ts
      → Sized n P ts us (nodes e) 0 (Offsets P e × FewCases n e)) → Ok n P ts
      → Sized n P ts us (list_nodes [] + list_nodes [] + nodes e) 0 (ListOffsets P [] × ListOffsets P [] × Offsets
      P e × ListFewCases n [] × ListFewCases n [] × FewCases n e)
  closed_closed_matched ts us e d1 ok =
      let s1 = d1 ok in
      record {
        good = assumption (s1.good);
        left = s1.left;
        small = omega (arith, s1.small, ok.few);
        quarter =
            omega (arith, s1.quarter, s1.small, ok.few);
      }

  closed_closed_block : (ts : List Token) (us : List Token) (pre : List Tree) (ms : List Tree) (e : Tree)
      → (Ok n P ts → Sized n P ts us (list_nodes pre + list_nodes ms + nodes e) 0 (ListOffsets P pre × ListOffsets
      P ms × Offsets P e × ListFewCases n pre × ListFewCases n ms × FewCases n e)) → Ok n P ts
      → Sized n P ts us (list_nodes pre + list_nodes ms + nodes e) 0 (ListOffsets P pre × ListOffsets P ms ×
      Offsets P e × ListFewCases n pre × ListFewCases n ms × FewCases n e)
  closed_closed_block ts us pre ms e d1 ok =
      let s1 = d1 ok in
      record {
        good = assumption (s1.good);
        left = s1.left;
        small = omega (arith, s1.small, ok.few);
        quarter =
            omega (arith, s1.quarter, s1.small, ok.few);
      }

  body_ensuring : (ts : List Token) (us : List Token) (vs : List Token) (pre : List Tree) (ms : List Tree) (e :
      Tree) (claim : Tree) (z : Word) (t : Option TypeTree) (w : Token) → (Ok n P ts
      → Sized n P ts (w ∷ us) (list_nodes pre + list_nodes ms + nodes e) 0 (ListOffsets P pre × ListOffsets P ms ×
      Offsets P e × ListFewCases n pre × ListFewCases n ms × FewCases n e)) → (Ok n P us
      → Sized n P us vs (nodes claim) 0 (WrittenOffsets P t × Offsets P claim × FewCases n claim)) → Ok n P ts
      → Sized n P ts vs (list_nodes pre + list_nodes ms + nodes e + post_nodes (post_at w z t claim)) 0
      (ListOffsets P pre × ListOffsets P ms × Offsets P e × PostOffsets P (post_at w z t claim) × ListFewCases n
      pre × ListFewCases n ms × FewCases n e × PostFewCases n (post_at w z t claim))
  body_ensuring ts us vs pre ms e claim z t w d1 d2 ok =
      let s1 = d1 ok in
      let s2 = d2 (tail n P s1.left) in
      record {
        good = assumption (s1.good, head n P s1.left, s2.good);
        left = s2.left;
        small = omega (
          arith,
          s1.small,
          s2.small,
          ok.few,
        );
        quarter = omega (arith, s1.quarter, s2.quarter, s1.small, s2.small, ok.few);
      }

  body_holds : (ts : List Token) (us : List Token) (pre : List Tree) (ms : List Tree) (e : Tree) (w : Token)
      → (Ok n P ts → Sized n P ts (w ∷ us) (list_nodes pre + list_nodes ms + nodes e) 0 (ListOffsets P pre ×
      ListOffsets P ms × Offsets P e × ListFewCases n pre × ListFewCases n ms × FewCases n e)) → Ok n P ts
      → Sized n P ts us (list_nodes pre + list_nodes ms + nodes e + post_nodes (holding_at w)) 0 (ListOffsets P pre
      × ListOffsets P ms × Offsets P e × PostOffsets P (holding_at w) × ListFewCases n pre × ListFewCases n ms ×
      FewCases n e × PostFewCases n (holding_at w))
  body_holds ts us pre ms e w d1 ok =
      let s1 = d1 ok in
      record {
        good = assumption (s1.good, head n P s1.left);
        left = (tail n P s1.left);
        small = omega (
          arith,
          s1.small,
          ok.few,
        );
        quarter = omega (arith, s1.quarter, s1.small, ok.few);
      }

  body_dot_ensuring : (ts : List Token) (us : List Token) (vs : List Token) (pre : List Tree) (ms : List Tree) (e :
      Tree) (claim : Tree) (z : Word) (t : Option TypeTree) (dot : Token) (w : Token) → (Ok n P ts
      → Sized n P ts (dot ∷ w ∷ us) (list_nodes pre + list_nodes ms + nodes e) 0 (ListOffsets P pre × ListOffsets P
      ms × Offsets P e × ListFewCases n pre × ListFewCases n ms × FewCases n e)) → (Ok n P us
      → Sized n P us vs (nodes claim) 0 (WrittenOffsets P t × Offsets P claim × FewCases n claim)) → Ok n P ts
      → Sized n P ts vs (list_nodes pre + list_nodes ms + nodes e + post_nodes (post_at w z t claim)) 0
      (ListOffsets P pre × ListOffsets P ms × Offsets P e × PostOffsets P (post_at w z t claim) × ListFewCases n
      pre × ListFewCases n ms × FewCases n e × PostFewCases n (post_at w z t claim))
  body_dot_ensuring ts us vs pre ms e claim z t dot w d1 d2 ok =
      let s1 = d1 ok in
      let s2 = d2 (tail n P (tail n P s1.left)) in
      record {
        good = assumption (s1.good, head n P s1.left, head n P ((tail n P s1.left)), s2.good);
        left =
            s2.left;
        small = omega (arith, s1.small, s2.small, ok.few);
        quarter = omega (
          arith,
          s1.quarter,
          s2.quarter,
          s1.small,
          s2.small,
          ok.few,
        );
      }

  body_dot_holds : (ts : List Token) (us : List Token) (pre : List Tree) (ms : List Tree) (e : Tree) (dot : Token)
      (w : Token) → (Ok n P ts → Sized n P ts (dot ∷ w ∷ us) (list_nodes pre + list_nodes ms + nodes e) 0
      (ListOffsets P pre × ListOffsets P ms × Offsets P e × ListFewCases n pre × ListFewCases n ms × FewCases n e))
      → Ok n P ts → Sized n P ts us (list_nodes pre + list_nodes ms + nodes e + post_nodes (holding_at w)) 0
      (ListOffsets P pre × ListOffsets P ms × Offsets P e × PostOffsets P (holding_at w) × ListFewCases n pre ×
      ListFewCases n ms × FewCases n e × PostFewCases n (holding_at w))
  body_dot_holds ts us pre ms e dot w d1 ok =
      let s1 = d1 ok in
      record {
        good = assumption (s1.good, head n P s1.left, head n P ((tail n P s1.left)));
        left = (tail n P (tail
            n P s1.left));
        small = omega (arith, s1.small, ok.few);
        quarter = omega (
          arith,
          s1.quarter,
          s1.small,
          ok.few,
        );
      }

  body_expr_alone : (ts : List Token) (us : List Token) (e : Tree) → (Ok n P ts
      → Sized n P ts us (nodes e) 0 (Offsets P e × FewCases n e)) → Ok n P ts
      → Sized n P ts us (list_nodes [] + list_nodes [] + nodes e + post_nodes None) 0 (ListOffsets P [] ×
      ListOffsets P [] × Offsets P e × PostOffsets P None × ListFewCases n [] × ListFewCases n [] × FewCases n e ×
      PostFewCases n None)
  body_expr_alone ts us e d1 ok =
      let s1 = d1 ok in
      record {
        good = assumption (s1.good);
        left = s1.left;
        small = omega (arith, s1.small, ok.few);
        quarter =
            omega (arith, s1.quarter, s1.small, ok.few);
      }

  body_block_alone : (ts : List Token) (us : List Token) (pre : List Tree) (ms : List Tree) (e : Tree)
      → (Ok n P ts → Sized n P ts us (list_nodes pre + list_nodes ms + nodes e) 0 (ListOffsets P pre × ListOffsets
      P ms × Offsets P e × ListFewCases n pre × ListFewCases n ms × FewCases n e)) → Ok n P ts
      → Sized n P ts us (list_nodes pre + list_nodes ms + nodes e + post_nodes None) 0 (ListOffsets P pre ×
      ListOffsets P ms × Offsets P e × PostOffsets P None × ListFewCases n pre × ListFewCases n ms × FewCases n e ×
      PostFewCases n None)
  body_block_alone ts us pre ms e d1 ok =
      let s1 = d1 ok in
      record {
        good = assumption (s1.good);
        left = s1.left;
        small = omega (arith, s1.small, ok.few);
        quarter =
            omega (arith, s1.quarter, s1.small, ok.few);
      }

  pub size_hole : {ts us : List Token} {l : ℕ} {e : Tree} → IsHole text l ts us e → Ok n P ts
      → Sized n P ts us (nodes e) 0 (Offsets P e × FewCases n e)
  size_hole (looser_hole {l = l} {ts = ts} {us = us} {e = e} d1) = hole_looser_hole text n P l ts us e (size_hole d1)
  size_hole (hole {us = us} {vs = vs} {e = e} h _ d1) = hole_hole text n P us vs e h (size_fields text n P d1)
  size_hole (prefixed_hole {us = us} {vs = vs} {e = e} t h o op _ _ _ d1) = hole_prefixed_hole text n P us vs e t h o op
      (size_fields text n P d1)
  size_hole (hole_on_left {ts = ts} {us = us} {vs = vs} {a = a} {b = b} t o op d1 _ _ d2) =
      hole_hole_on_left text n P ts us
      vs a b t o op (size_hole d1) (size_infix text n P d2)
  size_hole (hole_on_right {ts = ts} {us = us} {vs = vs} {a = a} {b = b} t o op d1 _ _ d2) =
      hole_hole_on_right text n P ts
      us vs a b t o op (size_infix text n P d1) (size_hole d2)

  pub size_lambda : {ts us : List Token} {w : Word} {t : Option TypeTree} {e : Tree} → IsLambda text ts us w t e
      → Ok n P ts → Sized n P ts us (nodes e) 0 (WrittenOffsets P t × Offsets P e × FewCases n e)
  size_lambda (of_name {ts = ts} {us = us} {e = e} z a _ _ d1) =
      lambda_of_name text n P ts us e z a (size_expr text n P d1)
  size_lambda (of_name_in_round {ts = ts} {us = us} {vs = vs} {t = t} {e = e} o z c a _ _ d1 _ _ d2) =
      lambda_of_name_in_round text n P ts us vs t e o z c a (size_ascription text n P d1) (size_expr text n P d2)
  size_lambda (of_typed_name {ts = ts} {us = us} {vs = vs} {t = t} {e = e} z c a _ _ d1 _ d2) =
      lambda_of_typed_name text n P ts us vs t e z c a (size_type text n P d1) (size_expr text n P d2)
  size_lambda (of_hole {ts = ts} {us = us} {e = e} d1) = lambda_of_hole text n P ts us e (size_hole d1)

  pub size_post : {ts us : List Token} {w : Word} {t : Option TypeTree} {e : Tree} → IsPost text ts us w t e
      → Ok n P ts → Sized n P ts us (nodes e) 0 (WrittenOffsets P t × Offsets P e × FewCases n e)
  size_post (post_in_round {ts = ts} {us = us} {w = w} {t = t} {e = e} o c _ d1 _) =
      post_post_in_round text n P ts us w t e
      o c (size_lambda d1)
  size_post (post_in_braces {ts = ts} {us = us} {vs = vs} {ws = ws} {w = w} {t = t} {e = e} o c _ d1 d2 d3 _) =
      post_post_in_braces text n P ts us vs ws w t e o c (size_gap text n P d1) (size_lambda d2) (size_gap text n P d3)

  pub size_measure : {ts us : List Token} {m : List Tree} → IsMeasure text ts us m → Ok n P ts
      → Sized n P ts us (list_nodes m) 0 (ListOffsets P m × ListFewCases n m)
  size_measure (last_component {ts = ts} {us = us} {e = e} c d1 _) =
      measure_last_component text n P ts us e c (size_expr
      text n P d1)
  size_measure (one_more_component {ts = ts} {us = us} {vs = vs} {e = e} {es = es} c d1 _ d2) =
      measure_one_more_component text n P ts us vs e es c (size_expr text n P d1) (size_measure d2)

  pub size_contract : {ts us : List Token} {c : Contract} → IsContract text ts us c → Ok n P ts
      → Sized n P ts us (list_nodes (contract_trees text n P c)) 0
      (ListOffsets P (contract_trees text n P c) × ListFewCases n
      (contract_trees text n P c))
  size_contract (requirement {ts = ts} {us = us} {e = e} w o c _ _ _ d1 _) = contract_requirement text n P ts us e w o c
      (size_expr text n P d1)
  size_contract (measure {ts = ts} {us = us} {es = es} w o _ _ _ d1) =
      contract_measure text n P ts us es w o (size_measure d1)
  size_contract (measure_of_tuple {ts = ts} {us = us} {vs = vs} {e = e} {es = es} w o p c d _ _ _ _ d1 _ d2 _) =
      contract_measure_of_tuple text n P ts us vs e es w o p c d (size_expr text n P d1) (size_measure d2)

  pub size_contracts : {ts us : List Token} {cs : List Contract} → IsContracts text ts us cs → Ok n P ts
      → Sized n P ts us (list_nodes (requirements cs) + list_nodes (components cs)) 0 (ListOffsets P (requirements
      cs) × ListOffsets P (components cs) × ListFewCases n (requirements cs) × ListFewCases n (components cs))
  size_contracts (no_contract {ts = ts}) = contracts_no_contract text n P ts
  size_contracts (one_more_contract {ts = ts} {us = us} {vs = vs} {ws = ws} {c = c} {cs = cs} d1 d2 d3) =
      contracts_more text n P ts us vs ws c cs (size_contract d1) (size_semis text n P d2) (size_contracts d3)

  pub size_contract_block : {ts us : List Token} {pre m : List Tree} {e : Tree}
      → IsContractBlock text ts us pre m e → Ok n P ts → Sized n P ts us (list_nodes pre + list_nodes m + nodes e)
      0 (ListOffsets P pre × ListOffsets P m × Offsets P e × ListFewCases n pre × ListFewCases n m × FewCases n e)
  size_contract_block (contract_block {ts = ts} {us = us} {vs = vs} {ws = ws} {xs = xs} {cs = cs} {e = e} o c _ d1
      d2 _ d3 d4 _) = contract_block_contract_block text n P ts us vs ws xs cs e o c (size_gap text n P d1)
      (size_contracts
      d2) (size_stats text n P d3) (size_gap text n P d4)

  pub size_head : {ts us : List Token} {pre m : List Tree} {e : Tree} → IsHead text ts us pre m e → Ok n P ts
      → Sized n P ts us (list_nodes pre + list_nodes m + nodes e) 0 (ListOffsets P pre × ListOffsets P m × Offsets
      P e × ListFewCases n pre × ListFewCases n m × FewCases n e)
  size_head (head_infix {ts = ts} {us = us} {e = e} d1) = head_head_infix ts us e (size_infix text n P d1)
  size_head (head_matched {ts = ts} {us = us} {e = e} d1) = head_head_matched ts us e (size_matched text n P d1)
  size_head (head_block {ts = ts} {us = us} {pre = pre} {measure = ms} {e = e} d1) = head_head_block ts us pre ms e
      (size_contract_block d1)

  pub size_closed : {ts us : List Token} {pre m : List Tree} {e : Tree} → IsClosed text ts us pre m e → Ok n P ts
      → Sized n P ts us (list_nodes pre + list_nodes m + nodes e) 0 (ListOffsets P pre × ListOffsets P m × Offsets
      P e × ListFewCases n pre × ListFewCases n m × FewCases n e)
  size_closed (closed_simple {ts = ts} {us = us} {e = e} d1) = closed_closed_simple ts us e (size_simple text n P d1)
  size_closed (closed_matched {ts = ts} {us = us} {e = e} d1) = closed_closed_matched ts us e (size_matched text n
      P d1)
  size_closed (closed_block {ts = ts} {us = us} {pre = pre} {measure = ms} {e = e} d1) = closed_closed_block ts us
      pre ms e (size_contract_block d1)

  pub size_body : {ts us : List Token} {pre m : List Tree} {e : Tree} {p : Option PostTree}
      → IsBody text ts us pre m e p → Ok n P ts → Sized n P ts us (list_nodes pre + list_nodes m + nodes e +
      post_nodes p) 0 (ListOffsets P pre × ListOffsets P m × Offsets P e × PostOffsets P p × ListFewCases n pre ×
      ListFewCases n m × FewCases n e × PostFewCases n p)
  size_body (ensuring {ts = ts} {us = us} {vs = vs} {pre = pre} {measure = ms} {e = e} {claim = claim} {n = z} {t =
      t} w d1 _ _ d2) = body_ensuring ts us vs pre ms e claim z t w (size_head d1) (size_post d2)
  size_body (holds {ts = ts} {us = us} {pre = pre} {measure = ms} {e = e} w d1 _ _) = body_holds ts us pre ms e w
      (size_head d1)
  size_body (dot_ensuring {ts = ts} {us = us} {vs = vs} {pre = pre} {measure = ms} {e = e} {claim = claim} {n = z}
      {t = t} dot w d1 _ _ _ d2) = body_dot_ensuring ts us vs pre ms e claim z t dot w (size_closed d1) (size_post d2)
  size_body (dot_holds {ts = ts} {us = us} {pre = pre} {measure = ms} {e = e} dot w d1 _ _ _) = body_dot_holds ts
      us pre ms e dot w (size_closed d1)
  size_body (expr_alone {ts = ts} {us = us} {e = e} d1) = body_expr_alone ts us e (size_expr text n P d1)
  size_body (block_alone {ts = ts} {us = us} {pre = pre} {measure = ms} {e = e} d1) = body_block_alone ts us pre ms
      e (size_contract_block d1)
