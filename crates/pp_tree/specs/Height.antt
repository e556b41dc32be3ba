-- How high trees are: the nodes on the longest path, where expressions, patterns and written types are nodes, and a
-- leaf has height 1. Source: own.
use Rattle.std.specs.Prelude.{ℕ, ◌+◌, max, List, [], ◌∷◌, Option, Some, None}
use Rattle.pp_tree.specs.Plain.{TypeTree, type_text, TypeTrees, no_types, more_types, PatternTree, any, int_pattern}
use Rattle.pp_tree.specs.Plain.{bool_pattern, ctor_pattern, PatternTrees, no_patterns, more_patterns, Tree, int, bool}
use Rattle.pp_tree.specs.Plain.{name, apply, field, unary, binary, choice, matching, val_in, assert_in, Trees, no_trees}
use Rattle.pp_tree.specs.Plain.{more_trees, CaseTrees, no_cases, plain_case, guarded_case, ParamTree, ClassTree}
use Rattle.pp_tree.specs.Plain.{PostTree, DefTree, DeclTree, root, ctor, other, def, UnitTree}

abbrev mutual
  pub type_height : TypeTree → ℕ
  type_height (type_text at n ts) = type_heights ts + 1

  pub type_heights : TypeTrees → ℕ
  type_heights no_types = 0
  type_heights (more_types t ts) = max (type_height t) (type_heights ts)

abbrev mutual
  pub pattern_height : PatternTree → ℕ
  pattern_height (any at w) = 1
  pattern_height (int_pattern at w n) = 1
  pattern_height (bool_pattern at w b) = 1
  pattern_height (ctor_pattern at w c ps) = pattern_heights ps + 1

  pub pattern_heights : PatternTrees → ℕ
  pattern_heights no_patterns = 0
  pattern_heights (more_patterns p ps) = max (pattern_height p) (pattern_heights ps)

-- the height of a type that may be missing
abbrev pub written_height : Option TypeTree → ℕ
written_height None = 0
written_height (Some t) = type_height t

abbrev mutual
  pub height : Tree → ℕ
  height (int at n) = 1
  height (bool at b) = 1
  height (name at w) = 1
  height (apply at w ts es) = max (type_heights ts) (heights es) + 1
  height (field at e w) = height e + 1
  height (unary at op a) = height a + 1
  height (binary at op a b) = max (height a) (height b) + 1
  height (choice at c a b) = max (height c) (max (height a) (height b)) + 1
  height (matching at e cs) = max (height e) (case_heights cs) + 1
  height (val_in at w t a b) = max (written_height t) (max (height a) (height b)) + 1
  height (assert_in at c e) = max (height c) (height e) + 1

  pub heights : Trees → ℕ
  heights no_trees = 0
  heights (more_trees e es) = max (height e) (heights es)

  pub case_heights : CaseTrees → ℕ
  case_heights no_cases = 0
  case_heights (plain_case p body cs) = max (pattern_height p) (max (height body) (case_heights cs))
  case_heights (guarded_case p guard body cs) =
      max (pattern_height p) (max (height guard) (max (height body) (case_heights cs)))

-- the greatest height of a list
abbrev pub highest : {A : Type 0} → (A → ℕ) → List A → ℕ
highest f [] = 0
highest f (x ∷ xs) = max (f x) (highest f xs)

abbrev pub param_height : ParamTree → ℕ
param_height p = type_height p.of

abbrev pub class_height : ClassTree → ℕ
class_height c = max (highest param_height c.fields) (written_height c.parent)

abbrev pub post_height : Option PostTree → ℕ
post_height None = 0
post_height (Some p) = max (written_height p.of) (height p.claim)

abbrev pub def_height : DefTree → ℕ
def_height d =
    max (highest param_height d.params) (max (type_height d.result) (max (highest height d.pre)
    (max (highest height d.measure) (max (height d.body) (post_height d.post)))))

abbrev pub decl_height : DeclTree → ℕ
decl_height (root c) = class_height c
decl_height (ctor c) = class_height c
decl_height (other c) = class_height c
decl_height (def d) = def_height d

-- the height of the highest tree of a unit
abbrev pub unit_height : UnitTree → ℕ
unit_height u = highest decl_height u.decls
