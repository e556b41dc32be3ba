use Rattle.pp_tree.specs.Roots.{param_root, contract_roots, expr_root, type_root, post_roots}
use Rattle.pp_tree_build.specs.Parts.{claim_parts}
use Rattle.pp_tree.specs.Shown.{param_of, tree_of, type_of}
use Rattle.std.proofs.Common.{map, option_map}
use Rattle.pp_tree_build.proofs.Deep.{IsHigh, or_roots, high_map, high_one}
use Rattle.pp_tree_build.proofs.decls.def_deep.Goals as goal

pub returns : goal.returns
returns c =
    let post : IsHigh c.claim_deep.result (post_roots (option_map claim_parts c.args.parts.now.post)) = record {
      is
          = c.claim_deep.ensures;
    } in
    let in_body = or_roots c.or-in_body.result (high_one (expr_root (tree_of c.args.parts.now.body.now.tree))
    c.too_high.result c.too_high.ensures) post c.or-in_body.ensures in
    let contracts : IsHigh c.contracts_deep.result (contract_roots
    (map expr_root (map (λ b. tree_of b.now.tree) c.args.parts.now.pre.now))
    (map expr_root (map (λ b. tree_of b.now.tree) c.args.parts.now.measure.now))) = record {
      is = c.contracts_deep.ensures;
    } in
    let in_contracts = or_roots c.or-in_contracts.result contracts in_body c.or-in_contracts.ensures in
    let in_result = or_roots c.or-in_result.result (high_one (type_root (type_of c.args.parts.now.result.now.tree))
    c.too_high-2.result c.too_high-2.ensures) in_contracts c.or-in_result.ensures in
    (or_roots _ (high_map param_root (λ b. param_of b.now.tree) c.args.parts.now.params.now _
    c.first_too_high.ensures) in_result c.or.ensures).is
