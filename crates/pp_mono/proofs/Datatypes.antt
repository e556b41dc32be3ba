-- The datatypes among all instances of well-sorted typed units are those of a program.
use Rattle.std.proofs.Common.{◌≡◌, ⊎_elim, ℕ, nat_eq, Bool, true, false, if◌then◌else◌, List, [], ◌∷◌, map, refl, sym}
use Rattle.std.proofs.Common.{ap, ◌∙◌, subst}
use Rattle.std.specs.Prelude.{Contains}
use Rattle.std.proofs.lemmas.List.Elements.{Contains-append_cases}
use Rattle.pp_list.specs.Joined.{joined}
use Rattle.pp_concrete_types.proofs.Lists.{stands}
use Rattle.pp_concrete_types.specs.Datatypes.{AreDatatypes}
use Rattle.pp_instances.proofs.Kept.{nothing_in}
use Rattle.pp_instances.proofs.Mentioned.{types_int, types_bool, types_param, types_root}
use Rattle.pp_instances.specs.Uses.{at_args, ctor_mentions, decl_mentions, root_at, types_in, types_of}
use Rattle.pp_instances.specs.declared.member.Decl.{Decl}
use Rattle.pp_instances.specs.declared.member.Decl.TheVariants.{Root}
use Rattle.pp_instances.specs.declared.member.Instance.{Instance}
use Rattle.pp_instances.specs.declared.member.Member.{Member}
use Rattle.pp_known.proofs.Places.{listed_member}
use Rattle.pp_members.proofs.Closed.{types_are_members, uses_are_members}
use Rattle.pp_members.proofs.Lists.{IsMapped, first_or_later, in_mapped}
use Rattle.pp_members.proofs.Proper.{members_are_proper}
use Rattle.pp_mono.specs.Steps.{AreInstancesOf}
use Rattle.pp_order.proofs.Laws.{listed_members_differ}
use Rattle.pp_translation.specs.Numbers.{stands_for}
use Rattle.pp_typed.specs.declared.sort.GenericSort.{GenericSort}
use Rattle.pp_typed.specs.declared.sort.GenericSort.TheFolds.{ind-GenericSort, map-GenericSort}
use Rattle.pp_typed.specs.declared.sort.GenericSort.TheOpen as layer
use Rattle.pp_typed.specs.declared.sort.GenericSort.TheVariants as sort
use Rattle.pp_typed.specs.declared.sort.GenericSort.TheViews.{roll-GenericSort}
use Rattle.pp_typed.specs.declared.typed.Typed.{Typed}
use Rattle.pp_typed.specs.declared.typed.TypedCtor.{TypedCtor}

-- a type, and not a function
abbrev IsType : Member → Type 0
IsType m = (r : ℕ) × (m.of ≡ Root r)

abbrev AreTypes : List Member → Type 0
AreTypes ms = (m : Member) → Contains ms m → IsType m

abbrev P : GenericSort → Type 0
P s = AreTypes (types_in s)

abbrev N : Type 0
N = (s : GenericSort) × P s

none_in : {ms : List Member} → ms ≡ [] → AreTypes ms
none_in e m c = absurd (nothing_in m (subst (λ (l : List Member). Contains l m) e c))

each_in : (ns : List N) → AreTypes (types_of (map (λ (z : N). z.0) ns))
each_in [] m c = absurd (nothing_in m c)
each_in (n ∷ ns) m c =
    ⊎_elim (λ here. n.1 m here) (λ later. each_in ns m later)
    (Contains-append_cases (types_in n.0) (types_of (map (λ (z : N). z.0) ns)) m c)

with_first : (r : ℕ) (args : List GenericSort) (ms : List Member) → AreTypes ms → AreTypes (root_at r args ∷ ms)
with_first r args ms h m c =
    ⊎_elim (λ (e : root_at r args ≡ m). (r, ap (λ z. z.of) (sym e))) (λ later. h m later)
    (first_or_later (root_at r args) ms m c)

at_level : (y : layer.GenericSort-F N) → P (roll-GenericSort (map-GenericSort N GenericSort (λ (z : N). z.0) y))
at_level layer.Int = none_in (ap types_in (sort.rolls-Int) ∙ types_int)
at_level layer.Bool = none_in (ap types_in (sort.rolls-Bool) ∙ types_bool)
at_level (layer.Param i) = none_in (ap types_in (sort.rolls-Param i) ∙ types_param i)
at_level (layer.Root r ns) =
    let ss = map (λ (z : N). z.0) ns in
    subst AreTypes (sym (ap types_in (sort.rolls-Root r ss) ∙ types_root r ss))
    (with_first r ss (types_of ss) (each_in ns))

types_are : (s : GenericSort) → P s
types_are = ind-GenericSort P (λ x y is. subst (λ z. P (roll-GenericSort z)) is (at_level y))

all_types : (ss : List GenericSort) → AreTypes (types_of ss)
all_types [] m c = absurd (nothing_in m c)
all_types (s ∷ ss) m c =
    ⊎_elim (λ here. types_are s m here) (λ later. all_types ss m later)
    (Contains-append_cases (types_in s) (types_of ss) m c)

ctor_types : (b : Bool) (ss : List GenericSort) → AreTypes (if b then types_of ss else [])
ctor_types true ss = all_types ss
ctor_types false ss = λ m c. absurd (nothing_in m c)

root_types : (r : ℕ) (ks : List TypedCtor) → AreTypes (joined (map (ctor_mentions r) ks))
root_types r [] m c = absurd (nothing_in m c)
root_types r (k ∷ ks) m c =
    ⊎_elim (λ here. ctor_types (nat_eq k.root r) k.fields m here) (λ later. root_types r ks m later)
    (Contains-append_cases (ctor_mentions r k) (joined (map (ctor_mentions r) ks)) m c)

-- a type uses types
uses_types : (typed : Typed) (d : Decl) (r : ℕ) (args : List GenericSort) → d ≡ Root r
    → AreTypes (map (at_args args) (decl_mentions typed d))
uses_types typed d r args is m c =
    let from : IsMapped (at_args args) (decl_mentions typed d) m =
    in_mapped (at_args args) (decl_mentions typed d) m c in
    let one = root_types r typed.ctors from.from
    (subst (λ z. Contains (decl_mentions typed z) from.from) is from.has) in
    (one.0, ap (λ z. z.of) from.is ∙ one.1)

module _ (typed : Typed) (fs rs : List Instance) (all : AreInstancesOf typed fs rs) where
  abbrev ms : List Member
  ms = all.members

  abbrev roots : List Member
  roots = map (stands_for Root) rs

  -- a listed datatype is one of all instances, and a type
  among : (m : Member) → Contains roots m → Contains ms m × IsType m
  among m c =
      let from : IsMapped (stands_for Root) rs m = in_mapped (stands_for Root) rs m c in
      let i = from.from in
      let at = from.has.0 in (
        subst (Contains ms) (sym from.is) (all.listed.roots.only at i (stands rs i from.has)),
        (i.number, ap (λ z. z.of) from.is),
      )

  -- and each type of these is listed
  listed : (m : Member) → Contains ms m → IsType m → Contains roots m
  listed m c t = listed_member typed Root ms rs roots refl all.listed.roots t.0 m t.1 c

  pub are_datatypes : AreDatatypes typed roots
  are_datatypes = record {
    proper = λ m c. members_are_proper typed ms all.sorted all.instances m (among m c).0;
    once = (listed_members_differ typed ms fs rs all.listed).1;
    fields = λ m n c used. (let a = among m c in
        listed n (uses_are_members typed ms all.instances m n a.0 used)
        (uses_types typed m.of a.1.0 m.args a.1.1 n used));
    arguments = λ m n s c arg inside. (let a = among m c in
        listed n (types_are_members typed ms all.sorted all.instances m a.0 s arg n inside) (types_are s n inside));
  }
