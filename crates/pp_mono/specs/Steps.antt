-- What the steps on the way to a program say of one another, for the private functions of src/making.rt. The public
-- clause, that of `concrete`, speaks of specs/Concrete alone. Source: own.
use Rattle.std.specs.Prelude.{◌≡◌, ◌≤◌, List, length, map}
use Rattle.pp_call_graph.specs.Groups.{AreGroupsOf}
use Rattle.pp_instances.specs.Closure.{AreInstances}
use Rattle.pp_instances.specs.Order.{AreListed}
use Rattle.pp_instances.specs.declared.member.Decl.TheVariants.{Function, Root}
use Rattle.pp_instances.specs.declared.member.Instance.{Instance}
use Rattle.pp_instances.specs.declared.member.Member.{Member}
use Rattle.pp_numbers.specs.Tables.{AreTables}
use Rattle.pp_translate.specs.declared.target.Target.{Target}
use Rattle.pp_translation.specs.Numbers.{ctors, datatypes, stands_for}
use Rattle.pp_typed.specs.WellSorted.{IsWellSorted}
use Rattle.pp_typed.specs.declared.typed.Typed.{Typed}

-- these are all instances of well-sorted typed units, functions and datatypes apart, at most 512 of each
pub record AreInstancesOf (typed : Typed) (fs rs : List Instance) : Type 0 where
  pub sorted : IsWellSorted typed
  pub members : List Member
  pub instances : AreInstances typed members
  pub few : length members ≤ 512
  pub listed : AreListed typed members fs rs
  pub few_functions : length fs ≤ 512
  pub few_roots : length rs ≤ 512

-- the types and the numbers are those of these instances, and the groups those of their functions
pub record IsTargetOf (typed : Typed) (fs rs : List Instance) (target : Target) : Type 0 where
  pub roots : target.numbers.roots ≡ map (stands_for Root) rs
  pub functions : target.numbers.functions ≡ map (stands_for Function) fs
  pub datatypes : target.types.datatypes ≡ datatypes typed rs
  pub ctors : target.types.ctors ≡ ctors typed (map (stands_for Root) rs)
  pub tables : AreTables typed.ctors target.numbers
  pub groups : AreGroupsOf typed target.numbers.functions fs target.groups
