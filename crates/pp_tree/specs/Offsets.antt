-- What holds of each offset of a tree. Source: own.
use Rattle.std.specs.Prelude.{ℕ, List, [], ◌∷◌, Option, Some, None}
use Rattle.pp_tree.specs.Plain.{TypeTree, type_text, TypeTrees, no_types, more_types, PatternTree, any, int_pattern}
use Rattle.pp_tree.specs.Plain.{bool_pattern, ctor_pattern, PatternTrees, no_patterns, more_patterns, Tree, int, bool}
use Rattle.pp_tree.specs.Plain.{name, apply, field, unary, binary, choice, matching, val_in, assert_in, Trees, no_trees}
use Rattle.pp_tree.specs.Plain.{more_trees, CaseTrees, no_cases, plain_case, guarded_case, ParamTree, ClassTree}
use Rattle.pp_tree.specs.Plain.{PostTree, DeclTree, root, ctor, other, def, ImportTree, UnitTree}

module _ (P : ℕ → Type 0) where
  abbrev mutual
    pub TypeOffsets : TypeTree → Type 0
    TypeOffsets (type_text at n ts) = P at × TypesOffsets ts

    pub TypesOffsets : TypeTrees → Type 0
    TypesOffsets no_types = Unit {0}
    TypesOffsets (more_types t ts) = TypeOffsets t × TypesOffsets ts

  abbrev mutual
    pub PatternOffsets : PatternTree → Type 0
    PatternOffsets (any at w) = P at
    PatternOffsets (int_pattern at w n) = P at
    PatternOffsets (bool_pattern at w b) = P at
    PatternOffsets (ctor_pattern at w c ps) = P at × PatternsOffsets ps

    pub PatternsOffsets : PatternTrees → Type 0
    PatternsOffsets no_patterns = Unit {0}
    PatternsOffsets (more_patterns p ps) = PatternOffsets p × PatternsOffsets ps

  abbrev pub WrittenOffsets : Option TypeTree → Type 0
  WrittenOffsets None = Unit {0}
  WrittenOffsets (Some t) = TypeOffsets t

  abbrev mutual
    pub Offsets : Tree → Type 0
    Offsets (int at n) = P at
    Offsets (bool at b) = P at
    Offsets (name at w) = P at
    Offsets (apply at w ts es) = P at × TypesOffsets ts × AllOffsets es
    Offsets (field at e w) = P at × Offsets e
    Offsets (unary at op a) = P at × Offsets a
    Offsets (binary at op a b) = P at × Offsets a × Offsets b
    Offsets (choice at c a b) = P at × Offsets c × Offsets a × Offsets b
    Offsets (matching at e cs) = P at × Offsets e × CaseOffsets cs
    Offsets (val_in at w t a b) = P at × WrittenOffsets t × Offsets a × Offsets b
    Offsets (assert_in at c e) = P at × Offsets c × Offsets e

    pub AllOffsets : Trees → Type 0
    AllOffsets no_trees = Unit {0}
    AllOffsets (more_trees e es) = Offsets e × AllOffsets es

    pub CaseOffsets : CaseTrees → Type 0
    CaseOffsets no_cases = Unit {0}
    CaseOffsets (plain_case p body cs) = PatternOffsets p × Offsets body × CaseOffsets cs
    CaseOffsets (guarded_case p guard body cs) = PatternOffsets p × Offsets guard × Offsets body × CaseOffsets cs

  abbrev pub MaybeOffsets : Option Tree → Type 0
  MaybeOffsets None = Unit {0}
  MaybeOffsets (Some e) = Offsets e

  abbrev pub ListOffsets : List Tree → Type 0
  ListOffsets [] = Unit {0}
  ListOffsets (e ∷ es) = Offsets e × ListOffsets es

  abbrev pub ParamOffsets : List ParamTree → Type 0
  ParamOffsets [] = Unit {0}
  ParamOffsets (p ∷ ps) = (P p.at × TypeOffsets p.of) × ParamOffsets ps

  abbrev pub ClassOffsets : ClassTree → Type 0
  ClassOffsets c = P c.at × ParamOffsets c.fields × WrittenOffsets c.parent

  abbrev pub PostOffsets : Option PostTree → Type 0
  PostOffsets None = Unit {0}
  PostOffsets (Some p) = P p.at × WrittenOffsets p.of × Offsets p.claim

  abbrev pub DeclOffsets : DeclTree → Type 0
  DeclOffsets (root c) = ClassOffsets c
  DeclOffsets (ctor c) = ClassOffsets c
  DeclOffsets (other c) = ClassOffsets c
  DeclOffsets (def d) =
      P d.at × ParamOffsets d.params × TypeOffsets d.result × ListOffsets d.pre × ListOffsets d.measure × Offsets
      d.body
      × PostOffsets d.post

  abbrev pub DeclsOffsets : List DeclTree → Type 0
  DeclsOffsets [] = Unit {0}
  DeclsOffsets (d ∷ ds) = DeclOffsets d × DeclsOffsets ds

  abbrev pub ImportsOffsets : List ImportTree → Type 0
  ImportsOffsets [] = Unit {0}
  ImportsOffsets (i ∷ is) = P i.at × ImportsOffsets is

  -- of each offset of a unit
  abbrev pub UnitOffsets : UnitTree → Type 0
  UnitOffsets u = ImportsOffsets u.imports × DeclsOffsets u.decls
