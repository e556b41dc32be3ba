-- Which trees have Ints as their numbers: from -2^31 to 2^31 - 1. Source: Scala Language Specification 1.3.1.
use Rattle.std.specs.Prelude.{List, [], ◌∷◌, Option, Some, None, IsTrue, All}
use Rattle.pp_declared.specs.Listed.{DefIn, decls_in, defs_of}
use Rattle.pp_tree.specs.Plain.{PatternTree, any, int_pattern, bool_pattern, ctor_pattern, PatternTrees, no_patterns}
use Rattle.pp_tree.specs.Plain.{more_patterns, Tree, int, bool, name, apply, field, unary, binary, choice, matching}
use Rattle.pp_tree.specs.Plain.{val_in, assert_in, Trees, no_trees, more_trees, CaseTrees, no_cases, plain_case}
use Rattle.pp_tree.specs.Plain.{guarded_case, PostTree, DefTree, UnitTree}
use Rattle.pp_typed.specs.Sorted.{is_int}

abbrev mutual
  pub PatternInts : PatternTree → Type 0
  PatternInts (any at w) = Unit {0}
  PatternInts (int_pattern at w n) = IsTrue (is_int n)
  PatternInts (bool_pattern at w b) = Unit {0}
  PatternInts (ctor_pattern at w c ps) = PatternsInts ps

  pub PatternsInts : PatternTrees → Type 0
  PatternsInts no_patterns = Unit {0}
  PatternsInts (more_patterns p ps) = PatternInts p × PatternsInts ps

abbrev mutual
  pub ExprInts : Tree → Type 0
  ExprInts (int at n) = IsTrue (is_int n)
  ExprInts (bool at b) = Unit {0}
  ExprInts (name at w) = Unit {0}
  ExprInts (apply at w ts es) = ExprsInts es
  ExprInts (field at e w) = ExprInts e
  ExprInts (unary at op a) = ExprInts a
  ExprInts (binary at op a b) = ExprInts a × ExprInts b
  ExprInts (choice at c a b) = ExprInts c × ExprInts a × ExprInts b
  ExprInts (matching at e cs) = ExprInts e × CasesInts cs
  ExprInts (val_in at w t a b) = ExprInts a × ExprInts b
  ExprInts (assert_in at c e) = ExprInts c × ExprInts e

  pub ExprsInts : Trees → Type 0
  ExprsInts no_trees = Unit {0}
  ExprsInts (more_trees e es) = ExprInts e × ExprsInts es

  pub CasesInts : CaseTrees → Type 0
  CasesInts no_cases = Unit {0}
  CasesInts (plain_case p body cs) = PatternInts p × ExprInts body × CasesInts cs
  CasesInts (guarded_case p guard body cs) = PatternInts p × ExprInts guard × ExprInts body × CasesInts cs

abbrev pub ListInts : List Tree → Type 0
ListInts [] = Unit {0}
ListInts (e ∷ es) = ExprInts e × ListInts es

abbrev pub PostInts : Option PostTree → Type 0
PostInts None = Unit {0}
PostInts (Some p) = ExprInts p.claim

-- the numbers of a function's contracts and body
abbrev pub DefInts : DefTree → Type 0
DefInts d = ListInts d.pre × ListInts d.measure × ExprInts d.body × PostInts d.post

-- the numbers of functions, and of units
abbrev pub DefsInts : List DefIn → Type 0
DefsInts = All (λ (d : DefIn). DefInts d.def)

abbrev pub UnitsInts : List UnitTree → Type 0
UnitsInts units = DefsInts (defs_of (decls_in units))
