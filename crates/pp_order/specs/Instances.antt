-- The instances that members are, and which comes first. Source: own.
use Rattle.std.specs.Prelude.{ℕ, List, Option, Some, None, option_map, filter_map}
use Rattle.std.specs.Cmp.Lexicographic.{slice_cmp}
use Rattle.std.specs.Ordering.{nat_cmp, ordering_then}
use Rattle.std.specs.declared.cmp.Ordering.{Ordering}
use Rattle.pp_instances.specs.Names.{printed}
use Rattle.pp_instances.specs.declared.member.Decl.{Decl}
use Rattle.pp_instances.specs.declared.member.Decl.TheVariants.{Function, Root}
use Rattle.pp_instances.specs.declared.member.Instance.{Instance}
use Rattle.pp_instances.specs.declared.member.Member.{Member}
use Rattle.pp_typed.specs.declared.typed.Typed.{Typed}

-- the place of a declaration of one kind; none where it is of the other
abbrev pub as_function : Decl → Option ℕ
as_function (Function f) = Some f
as_function (Root r) = None

abbrev pub as_root : Decl → Option ℕ
as_root (Function f) = None
as_root (Root r) = Some r

-- the instance of the declaration at a place, at the arguments of a member
abbrev pub instance_at : Typed → ℕ → Member → Instance
instance_at typed number m = record { number = number; args = m.args; name = printed typed m }

-- the instances of one kind, in the order of the members
module _ (typed : Typed) (kind : Decl → Option ℕ) where
  abbrev pub instance_of : Member → Option Instance
  instance_of m = option_map (λ n. instance_at typed n m) (kind m.of)

  abbrev pub instances_of : List Member → List Instance
  instances_of = filter_map instance_of

-- by declarations, and then by the bytes of printed names
abbrev pub instance_cmp : Instance → Instance → Ordering
instance_cmp a b = ordering_then (nat_cmp a.number b.number) (slice_cmp nat_cmp a.name b.name)
