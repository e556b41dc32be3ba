-- The body of a function, with its contracts, weighs no more than the tokens that spell it.
use Rattle.std.proofs.Common.{arith, ℕ, ◌+◌, ◌≤◌, List, ◌∷◌, [], ◌≡◌, ◌++◌, Option}
use Rattle.pp_grammar.specs.Bodies.{Contract, IsBody, IsClosed, IsContract, IsContractBlock, IsContracts, IsHead}
use Rattle.pp_grammar.specs.Bodies.{IsHole, IsLambda, IsMeasure, IsPost, block_alone, closed_block, closed_matched}
use Rattle.pp_grammar.specs.Bodies.{closed_simple, components, contract_block, decreases, dot_ensuring, dot_holds}
use Rattle.pp_grammar.specs.Bodies.{ensuring, expr_alone, head_block, head_infix, head_matched, holds, hole}
use Rattle.pp_grammar.specs.Bodies.{hole_on_left, hole_on_right, last_component, looser_hole, measure}
use Rattle.pp_grammar.specs.Bodies.{measure_of_tuple, no_contract, of_hole, of_name, of_name_in_round, of_typed_name}
use Rattle.pp_grammar.specs.Bodies.{one_more_component, one_more_contract, post_in_braces, post_in_round}
use Rattle.pp_grammar.specs.Bodies.{prefixed_hole, require, requirement, requirements}
use Rattle.pp_ordinary.proofs.WeighExprs.{le_expr, le_fields, le_infix, le_matched, le_simple, le_stats}
use Rattle.pp_ordinary.proofs.WeighTypes.{le_ascription, le_gap, le_semis, le_type}
use Rattle.pp_ordinary.proofs.Weights.{weigh, weigh_contract, weigh_list, weigh_post, weight}
use Rattle.pp_tokens.specs.declared.token.Token.{Token}
use Rattle.pp_tree.specs.Plain.{PostTree, Tree, TypeTree, Word}

module _ (text : Word) (mass : ℕ → ℕ) where
  both_lists : (es fs : List Tree) → weigh_list mass (es ++ fs) ≡ weigh_list mass es + weigh_list mass fs
  both_lists [] fs = omega arith
  both_lists (e ∷ es) fs = omega (arith, both_lists es fs)

  with_contract : (c : Contract) (cs : List Contract)
      → weigh_list mass (requirements (c ∷ cs)) + weigh_list mass (components (c ∷ cs))
      ≡ weigh_contract mass c + (weigh_list mass (requirements cs) + weigh_list mass (components cs))
  with_contract (require e) cs = omega arith
  with_contract (decreases es) cs = omega (arith, both_lists es (components cs))

  pub le_hole : {ts us : List Token} {l : ℕ} {e : Tree} → IsHole text l ts us e
      → weigh mass e + weight mass us ≤ weight mass ts
  le_hole (looser_hole d1) = omega (arith, le_hole d1)
  le_hole (hole h e1 d2) = omega (arith, le_fields text mass d2)
  le_hole (prefixed_hole t h o op e1 _ e3 d4) = omega (arith, le_fields text mass d4)
  le_hole (hole_on_left t o op d1 e2 _ d4) = omega (arith, le_hole d1, le_infix text mass d4)
  le_hole (hole_on_right t o op d1 e2 _ d4) = omega (arith, le_infix text mass d1, le_hole d4)

  pub le_lambda : {ts us : List Token} {v : Word} {a : Option TypeTree} {e : Tree} → IsLambda text ts us v a e
      → weigh mass e + weight mass us ≤ weight mass ts
  le_lambda (of_name n a e1 e2 d3) = omega (arith, le_expr text mass d3)
  le_lambda (of_name_in_round o n c a e1 e2 d3 e4 e5 d6) =
      omega (arith, le_ascription text mass d3, le_expr text mass d6)
  le_lambda (of_typed_name n c a e1 e2 d3 e4 d5) = omega (arith, le_type text mass d3, le_expr text mass d5)
  le_lambda (of_hole d1) = omega (arith, le_hole d1)

  pub le_post : {ts us : List Token} {v : Word} {a : Option TypeTree} {e : Tree} → IsPost text ts us v a e
      → weigh mass e + weight mass us ≤ weight mass ts
  le_post (post_in_round o c e1 d2 e3) = omega (arith, le_lambda d2)
  le_post (post_in_braces o c e1 d2 d3 d4 e5) = omega (arith, le_gap text mass d2, le_lambda d3, le_gap text mass d4)

  pub le_measure : {ts us : List Token} {es : List Tree} → IsMeasure text ts us es
      → weigh_list mass es + weight mass us ≤ weight mass ts
  le_measure (last_component c d1 e2) = omega (arith, le_expr text mass d1)
  le_measure (one_more_component c d1 e2 d3) = omega (arith, le_expr text mass d1, le_measure d3)

  pub le_contract : {ts us : List Token} {c : Contract} → IsContract text ts us c
      → weigh_contract mass c + weight mass us ≤ weight mass ts
  le_contract (requirement w o c e1 _ e3 d4 e5) = omega (arith, le_expr text mass d4)
  le_contract (measure w o e1 _ e3 d4) = omega (arith, le_measure d4)
  le_contract (measure_of_tuple w o p c d e1 _ e3 e4 d5 e6 d7 e8) = omega (arith, le_expr text mass d5, le_measure d7)

  pub le_contracts : {ts us : List Token} {cs : List Contract} → IsContracts text ts us cs
      → weigh_list mass (requirements cs) + weigh_list mass (components cs) + weight mass us ≤ weight mass ts
  le_contracts no_contract = omega arith
  le_contracts (one_more_contract {c = c} {cs = cs} d1 d2 d3) =
      omega (arith, le_contract d1, le_semis text mass d2, le_contracts d3, with_contract c cs)

  pub le_contract_block : {ts us : List Token} {pre : List Tree} {measure : List Tree} {e : Tree}
      → IsContractBlock text ts us pre measure e
      → weigh_list mass pre + weigh_list mass measure + weigh mass e + weight mass us ≤ weight mass ts
  le_contract_block (contract_block o c e1 d2 d3 _ d5 d6 e7) =
      omega (arith, le_gap text mass d2, le_contracts d3, le_stats text mass d5, le_gap text mass d6)

  pub le_head : {ts us : List Token} {pre : List Tree} {measure : List Tree} {e : Tree}
      → IsHead text ts us pre measure e
      → weigh_list mass pre + weigh_list mass measure + weigh mass e + weight mass us ≤ weight mass ts
  le_head (head_infix d1) = omega (arith, le_infix text mass d1)
  le_head (head_matched d1) = omega (arith, le_matched text mass d1)
  le_head (head_block d1) = omega (arith, le_contract_block d1)

  pub le_closed : {ts us : List Token} {pre : List Tree} {measure : List Tree} {e : Tree}
      → IsClosed text ts us pre measure e
      → weigh_list mass pre + weigh_list mass measure + weigh mass e + weight mass us ≤ weight mass ts
  le_closed (closed_simple d1) = omega (arith, le_simple text mass d1)
  le_closed (closed_matched d1) = omega (arith, le_matched text mass d1)
  le_closed (closed_block d1) = omega (arith, le_contract_block d1)

  pub le_body : {ts us : List Token} {pre : List Tree} {measure : List Tree} {e : Tree} {p : Option PostTree}
      → IsBody text ts us pre measure e p
      → weigh_list mass pre + weigh_list mass measure + weigh mass e + weigh_post mass p + weight mass us
      ≤ weight mass ts
  le_body (ensuring w d1 e2 _ d4) = omega (arith, le_head d1, le_post d4)
  le_body (holds w d1 e2 _) = omega (arith, le_head d1)
  le_body (dot_ensuring dot w d1 e2 e3 _ d5) = omega (arith, le_closed d1, le_post d5)
  le_body (dot_holds dot w d1 e2 e3 _) = omega (arith, le_closed d1)
  le_body (expr_alone d1) = omega (arith, le_expr text mass d1)
  le_body (block_alone d1) = omega (arith, le_contract_block d1)
