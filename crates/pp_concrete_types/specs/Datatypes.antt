-- Which instances are the datatypes of a program. Source: own.
use Rattle.std.specs.Prelude.{List, Contains}
use Rattle.pp_instances.specs.Closure.{Distinct}
use Rattle.pp_instances.specs.Uses.{types_in, uses}
use Rattle.pp_instances.specs.declared.member.Member.{Member}
use Rattle.pp_members.specs.Proper.{IsProper}
use Rattle.pp_typed.specs.declared.sort.GenericSort.{GenericSort}
use Rattle.pp_typed.specs.declared.typed.Typed.{Typed}

-- the types that stand in the fields of the members are members
abbrev pub HaveFields : Typed → List Member → Type 0
HaveFields typed ms = (m n : Member) → Contains ms m → Contains (uses typed m) n → Contains ms n

-- the types that the arguments of the members are made of are members
abbrev pub HaveArguments : List Member → Type 0
HaveArguments ms =
    (m n : Member) (s : GenericSort) → Contains ms m → Contains m.args s → Contains (types_in s) n → Contains ms n

-- the roots are the datatypes of a program: each is proper and stands there once, with all types that it is made of
pub record AreDatatypes (typed : Typed) (roots : List Member) : Type 0 where
  pub proper : (m : Member) → Contains roots m → IsProper typed m
  pub once : Distinct roots
  pub fields : HaveFields typed roots
  pub arguments : HaveArguments roots
