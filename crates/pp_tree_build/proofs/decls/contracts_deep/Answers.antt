use Rattle.std.proofs.Common.{map, sym, true, false, ◌∙◌}
use Rattle.pp_tree.specs.Roots.{expr_root}
use Rattle.pp_tree.specs.Shown.{tree_of}
use Rattle.pp_tree_build.proofs.Deep.{or_roots, high_contracts, high_map}
use Rattle.pp_tree_build.proofs.decls.contracts_deep.Goals as goal

pub returns-then-stands_before : goal.returns-then-stands_before
returns-then-stands_before c =
    let pre = high_map expr_root (λ b. tree_of b.now.tree) c.args.pre.now _ c.first_too_high-in_pre.ensures in
    let measure = high_map expr_root (λ b. tree_of b.now.tree) c.args.measure.now _
    c.first_too_high-in_measure.ensures in
    high_contracts (map expr_root (map (λ b. tree_of b.now.tree) c.args.pre.now))
    (map expr_root (map (λ b. tree_of b.now.tree) c.args.measure.now)) true c.or.result
    (sym c.if-stands_before.true ∙ c.stands_before.ensures) (or_roots c.or.result measure pre c.or.ensures).is

pub returns-else-stands_before : goal.returns-else-stands_before
returns-else-stands_before c =
    let pre = high_map expr_root (λ b. tree_of b.now.tree) c.args.pre.now _ c.first_too_high-in_pre.ensures in
    let measure = high_map expr_root (λ b. tree_of b.now.tree) c.args.measure.now _
    c.first_too_high-in_measure.ensures in
    high_contracts (map expr_root (map (λ b. tree_of b.now.tree) c.args.pre.now))
    (map expr_root (map (λ b. tree_of b.now.tree) c.args.measure.now)) false c.or-else-stands_before.result
    (sym c.if-stands_before.false ∙ c.stands_before.ensures)
    (or_roots c.or-else-stands_before.result pre measure c.or-else-stands_before.ensures).is
