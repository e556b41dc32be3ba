-- What declarations are made of. Source: own.
use Rattle.std.specs.Prelude.{map, option_map}
use Rattle.pp_tree.specs.Plain.{ClassTree, PostTree, DefTree, DeclTree, root, ctor, other}
use Rattle.pp_tree.specs.Shown.{param_of, type_of, tree_of}
use Rattle.pp_tree_build.specs.declared.decls.ClassKind.{ClassKind}
use Rattle.pp_tree_build.specs.declared.decls.ClassKind.TheVariants.{Root, Ctor, Other}
use Rattle.pp_tree_build.specs.declared.decls.ClassParts.{ClassParts}
use Rattle.pp_tree_build.specs.declared.decls.Claim.{Claim}
use Rattle.pp_tree_build.specs.declared.decls.DefParts.{DefParts}

-- the class as a declaration of the kind
abbrev pub class_as : ClassKind → ClassTree → DeclTree
class_as Root c = root c
class_as Ctor c = ctor c
class_as Other c = other c

-- the class that the parts make
abbrev pub class_parts : ClassParts → ClassTree
class_parts c = record {
  at = c.at;
  name = c.name.now;
  params = map (λ p. p.now) c.params.now;
  fields = map (λ f. param_of f.now.tree) c.fields.now;
  parent = option_map (λ t. type_of t.now.tree) c.parent;
  object = c.object;
}

-- the postcondition that the parts make
abbrev pub claim_parts : Claim → PostTree
claim_parts c = record {
  at = c.at;
  name = c.name.now;
  of = option_map (λ t. type_of t.now.tree) c.of;
  claim = tree_of c.claim.now.tree;
}

-- the function that the parts make
abbrev pub def_parts : DefParts → DefTree
def_parts d = record {
  at = d.at;
  name = d.name.now;
  type_params = map (λ p. p.now) d.type_params.now;
  params = map (λ p. param_of p.now.tree) d.params.now;
  list = d.list;
  result = type_of d.result.now.tree;
  pre = map (λ e. tree_of e.now.tree) d.pre.now;
  measure = map (λ e. tree_of e.now.tree) d.measure.now;
  body = tree_of d.body.now.tree;
  post = option_map claim_parts d.post;
}
