-- What is known of the instances of a listing.
use Rattle.std.proofs.Common.{◌≡◌, ℕ, List, map, refl, ap, subst}
use Rattle.std.specs.Prelude.{Some, slice_get, Contains}
use Rattle.std.proofs.lemmas.List.Elements.{Contains-append_left, Contains-append_right}
use Rattle.pp_list.specs.Joined.{joined}
use Rattle.pp_instances.specs.Uses.{at_args, ctor_mentions, decl_mentions, def_mentions, def_or_none, function_at}
use Rattle.pp_instances.specs.Uses.{root_at, signature_mentions, text_mentions}
use Rattle.pp_instances.specs.declared.member.Decl.TheVariants.{Function, Root}
use Rattle.pp_instances.specs.declared.member.Instance.{Instance}
use Rattle.pp_instances.specs.declared.member.Member.{Member}
use Rattle.pp_known.proofs.Places.{IsPlaced, listed_member, place_found}
use Rattle.pp_known.specs.SettingOf.{IsSettingOf}
use Rattle.pp_members.proofs.Closed.{types_are_members, uses_are_members}
use Rattle.pp_members.proofs.Lists.{mapped_in}
use Rattle.pp_members.proofs.Proper.{IsFunctionInstance, IsRootInstance, function_instance, members_are_proper}
use Rattle.pp_members.proofs.Proper.{root_instance}
use Rattle.pp_translation.specs.Setting.{Setting}
use Rattle.pp_typed.specs.declared.sort.GenericSort.{GenericSort}
use Rattle.pp_typed.specs.declared.typed.Typed.{Typed}
use Rattle.pp_typed.specs.declared.typed.TypedDef.{TypedDef}
use Rattle.pp_validity.proofs.Known.{HasTypes}
use Rattle.pp_validity.proofs.Within.{Within}

module _ (typed : Typed) (ms : List Member) (fs rs : List Instance) (set : Setting)
    (s : IsSettingOf typed ms fs rs set) where
  -- the place of an instance of a function, and that of an instance of a root
  pub function_place : (f : ℕ) (args : List GenericSort) → Contains ms (function_at f args)
      → IsPlaced Function fs set.functions (function_at f args)
  function_place f args has =
      place_found typed Function ms fs set.functions s.functions s.listed.functions f (function_at f args) refl has

  pub root_place : (r : ℕ) (args : List GenericSort) → Contains ms (root_at r args)
      → IsPlaced Root rs set.roots (root_at r args)
  root_place r args has = place_found typed Root ms rs set.roots s.roots s.listed.roots r (root_at r args) refl has

  pub root_listed : (r : ℕ) (args : List GenericSort) → Contains ms (root_at r args)
      → Contains set.roots (root_at r args)
  root_listed r args has = listed_member typed Root ms rs set.roots s.roots s.listed.roots r (root_at r args) refl has

  pub function_of_member : (f : ℕ) (args : List GenericSort) → Contains ms (function_at f args)
      → IsFunctionInstance typed f args
  function_of_member f args has =
      function_instance typed f args (members_are_proper typed ms s.well s.instances (function_at f args) has)

  pub root_of_member : (r : ℕ) (args : List GenericSort) → Contains ms (root_at r args) → IsRootInstance typed r args
  root_of_member r args has =
      root_instance typed r args (members_are_proper typed ms s.well s.instances (root_at r args) has)

  -- an instance of the listing is of a function
  pub declared : (n : ℕ) (i : Instance) → slice_get fs n ≡ Some i
      → (d : TypedDef) × (slice_get typed.defs i.number ≡ Some d)
  declared n i at = let f = function_of_member i.number i.args (s.listed.functions.only n i at) in (f.d, f.declared)

  -- the types of the arguments of a member are members
  pub args_have_types : (m : Member) → Contains ms m → (t : GenericSort) → Contains m.args t → HasTypes ms t
  args_have_types m has t arg = types_are_members typed ms s.well s.instances m has t arg

  -- what a member mentions is there at its arguments
  mentioned : (m : Member) → Contains ms m → Within ms m.args (decl_mentions typed m.of)
  mentioned m has k inside =
      uses_are_members typed ms s.instances m (at_args m.args k) has
      (mapped_in (at_args m.args) (decl_mentions typed m.of) k inside)

  def_within : (f : ℕ) (d : TypedDef) (args : List GenericSort) → slice_get typed.defs f ≡ Some d
      → Contains ms (function_at f args) → Within ms args (def_mentions d)
  def_within f d args at has = subst (Within ms args) (ap def_or_none at) (mentioned (function_at f args) has)

  pub signature_within : (f : ℕ) (d : TypedDef) (args : List GenericSort) → slice_get typed.defs f ≡ Some d
      → Contains ms (function_at f args) → Within ms args (signature_mentions d)
  signature_within f d args at has k c =
      def_within f d args at has k (Contains-append_left (signature_mentions d) (text_mentions d) k c)

  pub text_within : (f : ℕ) (d : TypedDef) (args : List GenericSort) → slice_get typed.defs f ≡ Some d
      → Contains ms (function_at f args) → Within ms args (text_mentions d)
  text_within f d args at has k c =
      def_within f d args at has k (Contains-append_right (signature_mentions d) (text_mentions d) k c)

  pub root_within : (r : ℕ) (args : List GenericSort) → Contains ms (root_at r args)
      → Within ms args (joined (map (ctor_mentions r) typed.ctors))
  root_within r args has = mentioned (root_at r args) has
