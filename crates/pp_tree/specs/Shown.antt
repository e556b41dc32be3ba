-- The plain tree that a value of the arena stands for. Source: own.
use Rattle.std.specs.Prelude.{ℕ, List, [], ◌∷◌, map, Option, Some, None, option_map}
use Rattle.pp_tree.specs.declared.class.ClassDecl.{ClassDecl}
use Rattle.pp_tree.specs.declared.class.Param.{Param}
use Rattle.pp_tree.specs.declared.expr.Case.{Case}
use Rattle.pp_tree.specs.declared.expr.Expr.{Expr}
use Rattle.pp_tree.specs.declared.expr.ExprKind.TheOpen as layer
use Rattle.pp_tree.specs.declared.expr.ExprKind.TheFolds.{fold-Expr, fold-Case}
use Rattle.pp_tree.specs.declared.pattern.Pattern.{Pattern}
use Rattle.pp_tree.specs.declared.pattern.PatternKind.TheOpen as pattern_layer
use Rattle.pp_tree.specs.declared.pattern.PatternKind.TheFolds.{fold-Pattern}
use Rattle.pp_tree.specs.declared.type_text.TypeText.{TypeText}
use Rattle.pp_tree.specs.declared.type_text.TypeText.TheOpen as type_layer
use Rattle.pp_tree.specs.declared.type_text.TypeText.TheFolds.{fold-TypeText}
use Rattle.pp_tree.specs.declared.unit.Decl.{Decl}
use Rattle.pp_tree.specs.declared.unit.Decl.TheVariants.{Root, Ctor, Other, Def}
use Rattle.pp_tree.specs.declared.unit.DefDecl.{DefDecl}
use Rattle.pp_tree.specs.declared.unit.Import.{Import}
use Rattle.pp_tree.specs.declared.unit.Post.{Post}
use Rattle.pp_tree.specs.declared.unit.Unit as unit_type
use Rattle.pp_tree.specs.Plain.{Word, TypeTree, type_text, TypeTrees, no_types, more_types, PatternTree, any}
use Rattle.pp_tree.specs.Plain.{int_pattern, bool_pattern, ctor_pattern, PatternTrees, no_patterns, more_patterns, Tree}
use Rattle.pp_tree.specs.Plain.{int, bool, name, apply, field, unary, binary, choice, matching, val_in, assert_in}
use Rattle.pp_tree.specs.Plain.{Trees, no_trees, more_trees, CaseTrees, no_cases, plain_case, guarded_case, ParamTree}
use Rattle.pp_tree.specs.Plain.{ClassTree, PostTree, DefTree, DeclTree, root, ctor, other, def, ImportTree, UnitTree}

-- a list of types, of patterns, of expressions, of cases
abbrev pub type_trees : List TypeTree → TypeTrees
type_trees [] = no_types
type_trees (t ∷ ts) = more_types t (type_trees ts)

abbrev pub pattern_trees : List PatternTree → PatternTrees
pattern_trees [] = no_patterns
pattern_trees (p ∷ ps) = more_patterns p (pattern_trees ps)

abbrev pub trees : List Tree → Trees
trees [] = no_trees
trees (t ∷ ts) = more_trees t (trees ts)

-- the cases that begin with one more
abbrev pub case_before : PatternTree → Option Tree → Tree → CaseTrees → CaseTrees
case_before p None body rest = plain_case p body rest
case_before p (Some guard) body rest = guarded_case p guard body rest

abbrev pub case_trees : List (CaseTrees → CaseTrees) → CaseTrees
case_trees [] = no_cases
case_trees (c ∷ cs) = c (case_trees cs)

-- the type that a written type stands for
abbrev pub type_step : type_layer.TypeText-F TypeTree → TypeTree
type_step t = type_text t.at t.name.now (type_trees t.args.now)

abbrev pub type_of : TypeText → TypeTree
type_of = fold-TypeText TypeTree type_step

-- the pattern that a pattern stands for
abbrev pub pattern_kind : pattern_layer.PatternKind-F (ℕ → Option Word → PatternTree) PatternTree → ℕ
    → Option Word → PatternTree
pattern_kind pattern_layer.Any at w = any at w
pattern_kind (pattern_layer.Int n) at w = int_pattern at w n
pattern_kind (pattern_layer.Bool b) at w = bool_pattern at w b
pattern_kind (pattern_layer.Ctor c ps) at w = ctor_pattern at w c.now (pattern_trees ps.now)

abbrev pub pattern_step : pattern_layer.Pattern-F (ℕ → Option Word → PatternTree) PatternTree → PatternTree
pattern_step p = p.kind p.at (option_map (λ n. n.now) p.name)

abbrev pub pattern_of : Pattern → PatternTree
pattern_of = fold-Pattern (ℕ → Option Word → PatternTree) PatternTree pattern_kind pattern_step

-- the expression that an expression stands for
abbrev pub kind_step : layer.ExprKind-F (ℕ → Tree) (CaseTrees → CaseTrees) Tree → ℕ → Tree
kind_step (layer.Int n) at = int at n
kind_step (layer.Bool b) at = bool at b
kind_step (layer.Name w) at = name at w.now
kind_step (layer.Apply w ts es) at = apply at w.now (type_trees (map type_of ts.now)) (trees es.now)
kind_step (layer.Field e w) at = field at e.now w.now
kind_step (layer.Unary op a) at = unary at op a.now
kind_step (layer.Binary op a b) at = binary at op a.now b.now
kind_step (layer.If c a b) at = choice at c.now a.now b.now
kind_step (layer.Match e cs) at = matching at e.now (case_trees cs.now)
kind_step (layer.Val w t a b) at = val_in at w.now (option_map type_of t) a.now b.now
kind_step (layer.Assert c e) at = assert_in at c.now e.now

abbrev pub case_step : layer.Case-F (ℕ → Tree) (CaseTrees → CaseTrees) Tree → CaseTrees → CaseTrees
case_step c = case_before (pattern_of c.pattern) c.guard c.body

abbrev pub expr_step : layer.Expr-F (ℕ → Tree) (CaseTrees → CaseTrees) Tree → Tree
expr_step e = e.kind e.at

abbrev pub tree_of : Expr → Tree
tree_of = fold-Expr (ℕ → Tree) (CaseTrees → CaseTrees) Tree kind_step case_step expr_step

-- what a case puts before the cases that follow
abbrev pub case_of : Case → CaseTrees → CaseTrees
case_of = fold-Case (ℕ → Tree) (CaseTrees → CaseTrees) Tree kind_step case_step expr_step

abbrev pub param_of : Param → ParamTree
param_of p = record { at = p.at; name = p.name.now; of = type_of p.of }

abbrev pub class_of : ClassDecl → ClassTree
class_of c = record {
  at = c.at;
  name = c.name.now;
  params = map (λ p. p.now) c.params.now;
  fields = map param_of c.fields.now;
  parent = option_map type_of c.parent;
  object = c.object;
}

abbrev pub post_of : Post → PostTree
post_of p = record { at = p.at; name = p.name.now; of = option_map type_of p.of; claim = tree_of p.claim }

abbrev pub def_of : DefDecl → DefTree
def_of d = record {
  at = d.at;
  name = d.name.now;
  type_params = map (λ p. p.now) d.type_params.now;
  params = map param_of d.params.now;
  list = d.list;
  result = type_of d.result;
  pre = map tree_of d.pre.now;
  measure = map tree_of d.measure.now;
  body = tree_of d.body;
  post = option_map post_of d.post;
}

abbrev pub decl_of : Decl → DeclTree
decl_of (Root c) = root (class_of c)
decl_of (Ctor c) = ctor (class_of c)
decl_of (Other c) = other (class_of c)
decl_of (Def d) = def (def_of d)

abbrev pub import_of : Import → ImportTree
import_of i = record { name = i.name.now; at = i.at }

-- the unit that a unit stands for
abbrev pub unit_of : unit_type.Unit → UnitTree
unit_of u = record {
  imports = map import_of u.imports.now;
  objects = map (λ o. o.now) u.objects.now;
  decls = map decl_of u.decls.now;
}
