use Rattle.std.proofs.Common.{◌∙◌, sym, ap, map}
use Rattle.std.proofs.lemmas.Result.{IfOk-weaker}
use Rattle.std.specs.Prelude.{flat_map}
use Rattle.pp_tree.specs.Roots.{too_high, decl_roots}
use Rattle.pp_tree.specs.Shown.{decl_of, import_of, unit_of}
use Rattle.pp_tree_build.proofs.Deep.{flat_map_map}
use Rattle.pp_tree_build.proofs.Heights.{map_map}
use Rattle.pp_tree_build.proofs.decls.unit.Goals as goal

pub returns : goal.returns
returns c =
    let imports = ap (map import_of) c.in_ok-imports.ensures in
    let objects = ap (map (λ o. o.now)) c.in_ok-objects.ensures in
    let decls = map_map decl_of (λ d. d.now.tree) c.args.decls.now c.in_ok-decls.decls.now c.in_ok-decls.ensures in
    IfOk-weaker c.keep.result _ _ (λ k same. ap (λ u. unit_of u.tree) same ∙ cc (imports, objects, decls)) c.keep.ensures

pub invariant_of-keep : goal.invariant_of-keep
invariant_of-keep c =
    let decls = map_map decl_of (λ d. d.now.tree) c.args.decls.now c.in_ok-decls.decls.now c.in_ok-decls.ensures in
    record {
      is_deep = c.first_deep-deep.ensures ∙ ap too_high (flat_map_map decl_roots (λ d. decl_of d.now.tree)
          c.args.decls.now ∙ ap (flat_map decl_roots) (sym decls));
    }
