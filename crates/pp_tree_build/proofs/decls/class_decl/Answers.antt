use Rattle.std.proofs.Common.{◌∙◌, ap, map, option_map}
use Rattle.pp_tree.specs.Shown.{param_of, type_of}
use Rattle.pp_tree_build.proofs.Heights.{map_map, alone_type}
use Rattle.pp_tree_build.proofs.decls.class_decl.Goals as goal

pub returns : goal.returns
returns c =
    let params = ap (map (λ p. p.now)) c.in_ok-params.ensures in
    let fields = map_map param_of (λ b. b.now.tree) c.args.parts.now.fields.now c.in_ok-fields.fields.now
    c.in_ok-fields.ensures in
    let parent = ap (option_map type_of) c.tree_alone.ensures ∙ alone_type (λ b. b.now.tree) c.args.parts.now.parent in
    cc (params, fields, parent)
