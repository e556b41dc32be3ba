-- How many nodes of expression a tree has, and how many cases a match. Source: own.
use Rattle.std.specs.Prelude.{ℕ, ◌+◌, ◌*◌, ◌<◌, List, [], ◌∷◌, Option, Some, None}
use Rattle.pp_tree.specs.Plain.{Tree, int, bool, name, apply, field, unary, binary, choice, matching, val_in, assert_in}
use Rattle.pp_tree.specs.Plain.{Trees, no_trees, more_trees, CaseTrees, no_cases, plain_case, guarded_case, PostTree}
use Rattle.pp_tree.specs.Plain.{DeclTree, def, UnitTree}

abbrev mutual
  pub nodes : Tree → ℕ
  nodes (int at n) = 1
  nodes (bool at b) = 1
  nodes (name at w) = 1
  nodes (apply at w ts es) = nodes_of es + 1
  nodes (field at e w) = nodes e + 1
  nodes (unary at op a) = nodes a + 1
  nodes (binary at op a b) = nodes a + nodes b + 1
  nodes (choice at c a b) = nodes c + nodes a + nodes b + 1
  nodes (matching at e cs) = nodes e + case_nodes cs + 1
  nodes (val_in at w t a b) = nodes a + nodes b + 1
  nodes (assert_in at c e) = nodes c + nodes e + 1

  pub nodes_of : Trees → ℕ
  nodes_of no_trees = 0
  nodes_of (more_trees e es) = nodes e + nodes_of es

  pub case_nodes : CaseTrees → ℕ
  case_nodes no_cases = 0
  case_nodes (plain_case p body cs) = nodes body + case_nodes cs
  case_nodes (guarded_case p guard body cs) = nodes guard + nodes body + case_nodes cs

abbrev pub maybe_nodes : Option Tree → ℕ
maybe_nodes None = 0
maybe_nodes (Some e) = nodes e

abbrev pub list_nodes : List Tree → ℕ
list_nodes [] = 0
list_nodes (e ∷ es) = nodes e + list_nodes es

abbrev pub post_nodes : Option PostTree → ℕ
post_nodes None = 0
post_nodes (Some p) = nodes p.claim

abbrev pub decl_nodes : DeclTree → ℕ
decl_nodes (def d) = list_nodes d.pre + list_nodes d.measure + nodes d.body + post_nodes d.post
decl_nodes _ = 0

abbrev pub decls_nodes : List DeclTree → ℕ
decls_nodes [] = 0
decls_nodes (d ∷ ds) = decl_nodes d + decls_nodes ds

-- the nodes of expression of a unit
abbrev pub unit_nodes : UnitTree → ℕ
unit_nodes u = decls_nodes u.decls

abbrev pub case_count : CaseTrees → ℕ
case_count no_cases = 0
case_count (plain_case p body cs) = case_count cs + 1
case_count (guarded_case p guard body cs) = case_count cs + 1

-- each match has fewer cases than a quarter of n
module _ (n : ℕ) where
  abbrev mutual
    pub FewCases : Tree → Type 0
    FewCases (int at z) = Unit {0}
    FewCases (bool at b) = Unit {0}
    FewCases (name at w) = Unit {0}
    FewCases (apply at w ts es) = AllFewCases es
    FewCases (field at e w) = FewCases e
    FewCases (unary at op a) = FewCases a
    FewCases (binary at op a b) = FewCases a × FewCases b
    FewCases (choice at c a b) = FewCases c × FewCases a × FewCases b
    FewCases (matching at e cs) = (4 * case_count cs < n) × FewCases e × CasesFewCases cs
    FewCases (val_in at w t a b) = FewCases a × FewCases b
    FewCases (assert_in at c e) = FewCases c × FewCases e

    pub AllFewCases : Trees → Type 0
    AllFewCases no_trees = Unit {0}
    AllFewCases (more_trees e es) = FewCases e × AllFewCases es

    pub CasesFewCases : CaseTrees → Type 0
    CasesFewCases no_cases = Unit {0}
    CasesFewCases (plain_case p body cs) = FewCases body × CasesFewCases cs
    CasesFewCases (guarded_case p guard body cs) = FewCases guard × FewCases body × CasesFewCases cs

  abbrev pub MaybeFewCases : Option Tree → Type 0
  MaybeFewCases None = Unit {0}
  MaybeFewCases (Some e) = FewCases e

  abbrev pub ListFewCases : List Tree → Type 0
  ListFewCases [] = Unit {0}
  ListFewCases (e ∷ es) = FewCases e × ListFewCases es

  abbrev pub PostFewCases : Option PostTree → Type 0
  PostFewCases None = Unit {0}
  PostFewCases (Some p) = FewCases p.claim

  abbrev pub DeclFewCases : DeclTree → Type 0
  DeclFewCases (def d) = ListFewCases d.pre × ListFewCases d.measure × FewCases d.body × PostFewCases d.post
  DeclFewCases _ = Unit {0}

  abbrev pub DeclsFewCases : List DeclTree → Type 0
  DeclsFewCases [] = Unit {0}
  DeclsFewCases (d ∷ ds) = DeclFewCases d × DeclsFewCases ds

  -- each match of a unit
  abbrev pub UnitFewCases : UnitTree → Type 0
  UnitFewCases u = DeclsFewCases u.decls
