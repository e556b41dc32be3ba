-- What the declarations of all units are called. Source: own.
use Rattle.std.specs.Prelude.{◌≡◌, ℕ, ◌<◌, List, Option, map, All, length}
use Rattle.pp_typed.specs.declared.declared.Declared.{Declared}
use Rattle.pp_typed.specs.declared.declared.Signature.{Signature}
use Rattle.pp_typed.specs.declared.typed.TypedCtor.{TypedCtor}
use Rattle.pp_typed.specs.declared.typed.TypedRoot.{TypedRoot}
use Rattle.pp_names.specs.Places.{Word, place_of, places_from}

-- the names of roots
abbrev pub names_of : List TypedRoot → List Word
names_of roots = map (λ (r : TypedRoot). r.name) roots

-- the names of the roots, the constructors and the functions, in order of declaration
abbrev pub root_names : Declared → List Word
root_names d = names_of d.roots

abbrev pub ctor_names : Declared → List Word
ctor_names d = map (λ (c : TypedCtor). c.name) d.ctors

abbrev pub function_names : Declared → List Word
function_names d = map (λ (f : Signature). f.name) d.functions

-- the place of the first root, constructor or function of a name
abbrev pub find_root : Declared → Word → Option ℕ
find_root d w = place_of w (root_names d)

abbrev pub find_ctor : Declared → Word → Option ℕ
find_ctor d w = place_of w (ctor_names d)

abbrev pub find_function : Declared → Word → Option ℕ
find_function d w = place_of w (function_names d)

-- the root of each constructor
abbrev pub owners_of : List TypedCtor → List ℕ
owners_of cs = map (λ (c : TypedCtor). c.root) cs

-- the places of the constructors of a root, in order of declaration
abbrev pub ctors_of : Declared → ℕ → List ℕ
ctors_of d r = places_from 0 r (owners_of d.ctors)

-- each constructor is one of a root of the list
abbrev pub HasOwners : Declared → Type 0
HasOwners d = All (λ r. r < length d.roots) (owners_of d.ctors)

-- three lists of names are those of the declarations
pub record AreNamesOf (d : Declared) (roots ctors functions : List Word) : Type 0 where
  pub roots_named : roots ≡ root_names d
  pub ctors_named : ctors ≡ ctor_names d
  pub functions_named : functions ≡ function_names d
