-- When two members are the same, as a test, and what of a member is hashed. Source: own.
use Rattle.std.specs.Prelude.{ℕ, nat_eq, Bool, false, if◌then◌else◌, ◌&&◌, List, [], ◌∷◌, ◌++◌, map}
use Rattle.std.specs.Hash as fed
use Rattle.std.specs.List.{list_any, position_or_len}
use Rattle.pp_list.specs.Joined.{joined}
use Rattle.pp_typed.specs.Equal.{equal, pass_all}
use Rattle.pp_instances.specs.declared.member.Decl.{Decl}
use Rattle.pp_instances.specs.declared.member.Decl.TheVariants.{Function, Root}
use Rattle.pp_instances.specs.declared.member.Member.{Member}
use Rattle.pp_typed.specs.declared.sort.GenericSort.{GenericSort}
use Rattle.pp_typed.specs.declared.sort.GenericSort.TheFolds.{fold-GenericSort}
use Rattle.pp_typed.specs.declared.sort.GenericSort.TheOpen as layer

abbrev pub same_decl : Decl → Decl → Bool
same_decl (Function f) (Function g) = nat_eq f g
same_decl (Function f) (Root q) = false
same_decl (Root r) (Function g) = false
same_decl (Root r) (Root q) = nat_eq r q

-- whether two members are the same
abbrev pub same : Member → Member → Bool
same a b = same_decl a.of b.of && pass_all (map equal a.args) b.args

-- the members, with one more where it isn't among them
abbrev pub with_member : List Member → Member → List Member
with_member ms m = if list_any (same m) ms then ms else ms ++ m ∷ []

-- the place of the member, counted from 0; the number of members where it isn't among them
abbrev pub place_of : List Member → Member → ℕ
place_of ms m = position_or_len (same m) ms

-- what is hashed of a sort

abbrev pub fed_step : layer.GenericSort-F fed.HashWrites → fed.HashWrites
fed_step layer.Int = fed.u8 0
fed_step layer.Bool = fed.u8 1
fed_step (layer.Param i) = fed.u8 2 ++ fed.u32 i
fed_step (layer.Root r parts) = fed.u8 3 ++ (fed.u32 r ++ joined parts)

abbrev pub fed_sort : GenericSort → fed.HashWrites
fed_sort = fold-GenericSort fed.HashWrites fed_step

abbrev pub fed_decl : Decl → fed.HashWrites
fed_decl (Function f) = fed.u8 0 ++ fed.u32 f
fed_decl (Root r) = fed.u8 1 ++ fed.u32 r

-- what is hashed of a member
abbrev pub fed_member : Member → fed.HashWrites
fed_member m = fed_decl m.of ++ joined (map fed_sort m.args)
