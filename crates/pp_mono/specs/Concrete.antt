-- Which program belongs to typed units. Source: own.
use Rattle.std.specs.Prelude.{◌≡◌, ◌≤◌, ℕ, List, length, map}
use Rattle.pp_instances.specs.Closure.{AreInstances}
use Rattle.pp_instances.specs.Order.{AreListed}
use Rattle.pp_instances.specs.declared.member.Decl.TheVariants.{Function, Root}
use Rattle.pp_instances.specs.declared.member.Instance.{Instance}
use Rattle.pp_instances.specs.declared.member.Member.{Member}
use Rattle.pp_prog.specs.declared.check.Check.{Check}
use Rattle.pp_prog.specs.declared.place.Place.{Place}
use Rattle.pp_prog.specs.declared.program.Program.{Program}
use Rattle.pp_translation.specs.Bare.{bare_function}
use Rattle.pp_translation.specs.Functions.{functions_of}
use Rattle.pp_translation.specs.Numbers.{ctors, datatypes, stands_for}
use Rattle.pp_translation.specs.Places.{places_of}
use Rattle.pp_typed.specs.declared.typed.Typed.{Typed}

abbrev pub place_of_check : Check → Place
place_of_check c = c.place

-- the members that datatypes and functions stand for
abbrev pub root_members : List Instance → List Member
root_members = map (stands_for Root)

abbrev pub function_members : List Instance → List Member
function_members = map (stands_for Function)

-- The program is that of the instances of the typed units, in order, over the texts of their sources. Its validity says
-- which sites carry checks and that these are numbered through all functions in the order of their sites; so with it
-- nothing of the program is left open.
pub record IsConcrete (typed : Typed) (texts : List (List ℕ)) (p : Program) : Type 0 where
  pub members : List Member
  pub instances : AreInstances typed members
  pub few : length members ≤ 512
  pub functions : List Instance
  pub roots : List Instance
  pub listed : AreListed typed members functions roots
  pub has_datatypes : p.types.datatypes ≡ datatypes typed roots
  pub has_ctors : p.types.ctors ≡ ctors typed (root_members roots)
  pub has_functions : map bare_function p.functions ≡ functions_of typed texts (root_members roots)
      (function_members functions) functions
  pub has_places : map place_of_check p.checks ≡ places_of typed texts p.types p.functions p.functions functions
