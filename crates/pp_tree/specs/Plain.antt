-- Trees as plain values, without pointers. A name is the list of its bytes, and `at` an offset in bytes. Each form
-- stands beside the form of the arena that has its name. Source: own.
use Rattle.std.specs.Prelude.{ℕ, ℤ, Bool, List, Option}
use Rattle.pp_tree.specs.declared.operator.BinaryOp.{BinaryOp}
use Rattle.pp_tree.specs.declared.operator.UnaryOp.{UnaryOp}

-- a name: its bytes
abbrev pub Word : Type 0
Word = List ℕ

mutual
  -- a written type: its place, its name and its arguments
  pub data TypeTree : Type 0 where
    type_text : ℕ → Word → TypeTrees → TypeTree

  pub data TypeTrees : Type 0 where
    no_types : TypeTrees
    more_types : TypeTree → TypeTrees → TypeTrees

mutual
  -- a pattern: its place and the name that it binds, before what it is
  pub data PatternTree : Type 0 where
    any : ℕ → Option Word → PatternTree
    int_pattern : ℕ → Option Word → ℤ → PatternTree
    bool_pattern : ℕ → Option Word → Bool → PatternTree
    ctor_pattern : ℕ → Option Word → Word → PatternTrees → PatternTree

  pub data PatternTrees : Type 0 where
    no_patterns : PatternTrees
    more_patterns : PatternTree → PatternTrees → PatternTrees

mutual
  -- an expression, with its place first
  pub data Tree : Type 0 where
    int : ℕ → ℤ → Tree
    bool : ℕ → Bool → Tree
    name : ℕ → Word → Tree
    apply : ℕ → Word → TypeTrees → Trees → Tree
    field : ℕ → Tree → Word → Tree
    unary : ℕ → UnaryOp → Tree → Tree
    binary : ℕ → BinaryOp → Tree → Tree → Tree
    choice : ℕ → Tree → Tree → Tree → Tree
    matching : ℕ → Tree → CaseTrees → Tree
    val_in : ℕ → Word → Option TypeTree → Tree → Tree → Tree
    assert_in : ℕ → Tree → Tree → Tree

  pub data Trees : Type 0 where
    no_trees : Trees
    more_trees : Tree → Trees → Trees

  -- cases: a pattern, a guard or none, a body, and the cases that follow
  pub data CaseTrees : Type 0 where
    no_cases : CaseTrees
    plain_case : PatternTree → Tree → CaseTrees → CaseTrees
    guarded_case : PatternTree → Tree → Tree → CaseTrees → CaseTrees

-- a parameter or a field
pub record ParamTree : Type 0 where
  pub at : ℕ
  pub name : Word
  pub of : TypeTree

-- a class, a trait or a case object
pub record ClassTree : Type 0 where
  pub at : ℕ
  pub name : Word
  pub params : List Word
  pub fields : List ParamTree
  pub parent : Option TypeTree
  pub object : Bool

-- a postcondition
pub record PostTree : Type 0 where
  pub at : ℕ
  pub name : Word
  pub of : Option TypeTree
  pub claim : Tree

-- a function
pub record DefTree : Type 0 where
  pub at : ℕ
  pub name : Word
  pub type_params : List Word
  pub params : List ParamTree
  pub list : Bool
  pub result : TypeTree
  pub pre : List Tree
  pub measure : List Tree
  pub body : Tree
  pub post : Option PostTree

-- a declaration
pub data DeclTree : Type 0 where
  root : ClassTree → DeclTree
  ctor : ClassTree → DeclTree
  other : ClassTree → DeclTree
  def : DefTree → DeclTree

-- the import of an object
pub record ImportTree : Type 0 where
  pub name : Word
  pub at : ℕ

-- what one source spells
pub record UnitTree : Type 0 where
  pub imports : List ImportTree
  pub objects : List Word
  pub decls : List DeclTree
