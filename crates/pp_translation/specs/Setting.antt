-- What is known of a program before its functions are translated. Source: own.
use Rattle.std.specs.Prelude.{ℕ, List}
use Rattle.pp_instances.specs.declared.member.Member.{Member}
use Rattle.pp_prog.specs.declared.types.TypeTable.{TypeTable}

-- its types, its datatypes and functions as instances, in order, and the number of each function's group
pub record Setting : Type 0 where
  pub types : TypeTable
  pub roots : List Member
  pub functions : List Member
  pub groups : List ℕ
