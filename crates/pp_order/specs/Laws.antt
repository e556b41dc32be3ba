-- What the listing of instances tells. Source: own.
use Rattle.std.specs.Prelude.{List, Contains, map}
use Rattle.pp_instances.specs.Closure.{Distinct}
use Rattle.pp_instances.specs.Laws.{HaveNames}
use Rattle.pp_instances.specs.Order.{AreListed, member_of}
use Rattle.pp_instances.specs.declared.member.Decl.TheVariants.{Function, Root}
use Rattle.pp_instances.specs.declared.member.Instance.{Instance}
use Rattle.pp_instances.specs.declared.member.Member.{Member}
use Rattle.pp_members.specs.Proper.{IsProper}
use Rattle.pp_typed.specs.WellSorted.{IsWellSorted}
use Rattle.pp_typed.specs.declared.typed.Typed.{Typed}

-- no two listed functions, and no two listed datatypes, stand for one member
abbrev pub ListedMembersDiffer : Type 0
ListedMembersDiffer = (typed : Typed) (ms : List Member) (functions roots : List Instance)
    → AreListed typed ms functions roots
    → Distinct (map (member_of typed Function) functions) × Distinct (map (member_of typed Root) roots)

-- where the members are proper, no two listed functions, and no two listed datatypes, have one printed name
abbrev pub ListedNamesDiffer : Type 0
ListedNamesDiffer = (typed : Typed) (ms : List Member) (functions roots : List Instance) → IsWellSorted typed
    → ((m : Member) → Contains ms m → IsProper typed m) → AreListed typed ms functions roots
    → HaveNames functions × HaveNames roots
