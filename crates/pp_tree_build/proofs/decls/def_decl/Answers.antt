use Rattle.std.proofs.Common.{ap, map}
use Rattle.pp_tree.specs.Shown.{param_of, tree_of, type_of}
use Rattle.pp_tree_build.proofs.Deep.{def_same}
use Rattle.pp_tree_build.proofs.Heights.{map_map}
use Rattle.pp_tree_build.proofs.decls.def_decl.Goals as goal

pub returns : goal.returns
returns c =
    let parts = c.args.parts.now in
    let type_params = ap (map (λ p. p.now)) c.in_ok-type_params.ensures in
    let params = map_map param_of (λ b. b.now.tree) parts.params.now c.in_ok-params.params.now c.in_ok-params.ensures in
    let pre = map_map tree_of (λ b. b.now.tree) parts.pre.now c.in_ok-pre.pre.now c.in_ok-pre.ensures in
    let measure = map_map tree_of (λ b. b.now.tree) parts.measure.now c.in_ok-measure.measure.now
    c.in_ok-measure.ensures in
    def_same parts.at parts.name.now parts.list (type_of parts.result.now.tree) (tree_of parts.body.now.tree) _ _ _ _ _ _
    _ _ _ _ type_params params pre measure c.post_alone.ensures
