-- What the printed names of instances tell. Source: own.
use Rattle.std.specs.Prelude.{◌≡◌, ℕ}
use Rattle.pp_instances.specs.Names.{printed}
use Rattle.pp_instances.specs.declared.member.Decl.{Decl}
use Rattle.pp_instances.specs.declared.member.Decl.TheVariants.{Function, Root}
use Rattle.pp_instances.specs.declared.member.Member.{Member}
use Rattle.pp_members.specs.Proper.{IsProper}
use Rattle.pp_typed.specs.WellSorted.{IsWellSorted}
use Rattle.pp_typed.specs.declared.typed.Typed.{Typed}

-- two declarations are both functions, or both datatypes
pub data AreOneKind : Decl → Decl → Type 0 where
  both_functions : (f g : ℕ) → AreOneKind (Function f) (Function g)
  both_roots : (r q : ℕ) → AreOneKind (Root r) (Root q)

-- no two functions, and no two datatypes, have one printed name
abbrev pub NamesTellMembers : Type 0
NamesTellMembers = (typed : Typed) (a b : Member) → IsWellSorted typed → IsProper typed a → IsProper typed b
    → AreOneKind a.of b.of → printed typed a ≡ printed typed b → a ≡ b
