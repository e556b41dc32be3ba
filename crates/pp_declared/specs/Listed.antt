-- The declarations of all units in program order, each with the number of its source. Source: own.
use Rattle.std.specs.Prelude.{ℕ, ◌+◌, Bool, true, false, List, [], ◌∷◌, ◌++◌, Option, Some, None, map}
use Rattle.pp_names.specs.Places.{Word}
use Rattle.pp_tree.specs.Plain.{ClassTree, DefTree, DeclTree, root, ctor, other, def, ImportTree, UnitTree}

-- a declaration
pub record DeclIn : Type 0 where
  pub source : ℕ
  pub decl : DeclTree

-- a class, a trait or a case object, and whether it is a sealed root
pub record ClassIn : Type 0 where
  pub source : ℕ
  pub sealed : Bool
  pub class : ClassTree

-- a function
pub record DefIn : Type 0 where
  pub source : ℕ
  pub def : DefTree

-- an import
pub record ImportIn : Type 0 where
  pub source : ℕ
  pub path : ImportTree

abbrev pub decl_in : ℕ → DeclTree → DeclIn
decl_in n d = record { source = n; decl = d }

abbrev pub import_in : ℕ → ImportTree → ImportIn
import_in n i = record { source = n; path = i }

-- the declarations of units, whose sources are numbered from this number on
abbrev pub decls_from : ℕ → List UnitTree → List DeclIn
decls_from n [] = []
decls_from n (u ∷ us) = map (decl_in n) u.decls ++ decls_from (n + 1) us

abbrev pub decls_in : List UnitTree → List DeclIn
decls_in = decls_from 1

abbrev pub imports_from : ℕ → List UnitTree → List ImportIn
imports_from n [] = []
imports_from n (u ∷ us) = map (import_in n) u.imports ++ imports_from (n + 1) us

abbrev pub imports_in : List UnitTree → List ImportIn
imports_in = imports_from 1

-- the names of the objects of all units
abbrev pub objects_in : List UnitTree → List Word
objects_in [] = []
objects_in (u ∷ us) = u.objects ++ objects_in us

-- what is a root: a sealed class or trait, and a case class without a parent
abbrev pub is_missing : {A : Type 0} → Option A → Bool
is_missing None = true
is_missing (Some x) = false

abbrev pub unparented : ℕ → ClassTree → Bool → List ClassIn
unparented n c true = record { source = n; sealed = false; class = c } ∷ []
unparented n c false = []

abbrev pub root_of : ℕ → DeclTree → List ClassIn
root_of n (root c) = record { source = n; sealed = true; class = c } ∷ []
root_of n (ctor c) = unparented n c (is_missing c.parent)
root_of n (other c) = []
root_of n (def d) = []

-- what is a constructor: a case class or a case object
abbrev pub ctor_of : ℕ → DeclTree → List ClassIn
ctor_of n (root c) = []
ctor_of n (ctor c) = record { source = n; sealed = false; class = c } ∷ []
ctor_of n (other c) = []
ctor_of n (def d) = []

abbrev pub def_of : ℕ → DeclTree → List DefIn
def_of n (root c) = []
def_of n (ctor c) = []
def_of n (other c) = []
def_of n (def d) = record { source = n; def = d } ∷ []

-- the roots, the constructors and the functions
abbrev pub roots_of : List DeclIn → List ClassIn
roots_of [] = []
roots_of (d ∷ ds) = root_of d.source d.decl ++ roots_of ds

abbrev pub ctors_of : List DeclIn → List ClassIn
ctors_of [] = []
ctors_of (d ∷ ds) = ctor_of d.source d.decl ++ ctors_of ds

abbrev pub defs_of : List DeclIn → List DefIn
defs_of [] = []
defs_of (d ∷ ds) = def_of d.source d.decl ++ defs_of ds
