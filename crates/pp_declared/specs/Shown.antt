-- What classes, functions and declarations of an arena show. Source: own.
use Rattle.std.specs.Prelude.{◌≡◌, ◌<◌, ◌^◌, List, All, length, map}
use Rattle.pp_declared.specs.Listed.{DeclIn, ClassIn, DefIn}
use Rattle.pp_declared.specs.declared.listed.ClassAt.{ClassAt}
use Rattle.pp_declared.specs.declared.listed.DeclAt.{DeclAt}
use Rattle.pp_declared.specs.declared.listed.DefAt.{DefAt}
use Rattle.pp_names.specs.Places.{Word, has}
use Rattle.pp_tree.specs.Plain.{UnitTree}
use Rattle.pp_tree.specs.Shown.{class_of, decl_of, def_of, unit_of}
use Rattle.pp_tree.specs.declared.unit.Unit as unit_type

abbrev pub decl_in : DeclAt → DeclIn
decl_in d = record { source = d.source; decl = decl_of d.decl }

abbrev pub class_in : ClassAt → ClassIn
class_in c = record { source = c.source; sealed = c.sealed; class = class_of c.class }

abbrev pub def_in : DefAt → DefIn
def_in d = record { source = d.source; def = def_of d.def }

abbrev pub decl_ins : List DeclAt → List DeclIn
decl_ins = map decl_in

abbrev pub class_ins : List ClassAt → List ClassIn
class_ins = map class_in

abbrev pub def_ins : List DefAt → List DefIn
def_ins = map def_in

-- the units that units of an arena stand for
abbrev pub units_of : List unit_type.Unit → List UnitTree
units_of = map unit_of

-- two lists have the same names
abbrev pub SameNames : List Word → List Word → Type 0
SameNames vs ws = (w : Word) → has w vs ≡ has w ws

-- each class, or function, has fewer than 2^32 type parameters
abbrev pub AreFew : List ClassIn → Type 0
AreFew = All (λ (c : ClassIn). length c.class.params < 2 ^ 32)

abbrev pub AreFewOfDefs : List DefIn → Type 0
AreFewOfDefs = All (λ (d : DefIn). length d.def.type_params < 2 ^ 32)
