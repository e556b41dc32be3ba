-- What holds of each typing of units, and of each fault. Source: own.
use Rattle.std.specs.Prelude.{◌≡◌, ℕ, ◌^◌, ◌<◌, ◌≤◌, Bool, List, map, sum, IsTrue}
use Rattle.pp_fault.specs.declared.Fault.{Fault}
use Rattle.pp_tree.specs.Plain.{UnitTree}
use Rattle.pp_typed.specs.Apart.{AreApart}
use Rattle.pp_typed.specs.Limits.{IsSmall, def_nodes}
use Rattle.pp_typed.specs.Stand.{Offset, TypedStands}
use Rattle.pp_typed.specs.Stand as text
use Rattle.pp_typed.specs.WellSorted.{IsWellSorted}
use Rattle.pp_typed.specs.declared.typed.Typed.{Typed}
use Rattle.pp_types_laws.specs.Fault.{Stands}
use Rattle.pp_types_laws.specs.Literals.{UnitsInts}
use Rattle.pp_types_laws.specs.Offsets.{TypedHas, UnitsHave}
use Rattle.pp_types_laws.specs.Sites.{HaveSitesApart}
use Rattle.pp_types_laws.specs.Sizes.{HaveFewCases, nodes_of_units}
use Rattle.pp_types_laws.specs.Typing.{HasTyping}

-- units have at most one typing
abbrev pub TypingsAreUnique : Type 0
TypingsAreUnique = (units : List UnitTree) (t u : Typed) → HasTyping units t → HasTyping units u → t ≡ u

-- a typing of units whose numbers are Ints is well sorted, and each root has a value at all its arguments
abbrev pub TypingsAreSorted : Type 0
TypingsAreSorted = (units : List UnitTree) (t : Typed) → UnitsInts units → HasTyping units t → IsWellSorted t

-- each offset of a typing is one of the units, in the same source: it passes each test that all of theirs pass
abbrev pub OffsetsAreKept : Type 0
OffsetsAreKept =
    (test : Offset → Bool) (units : List UnitTree) (t : Typed) → UnitsHave (λ o. IsTrue (test o)) units
    → HasTyping units t
    → TypedHas (λ o. IsTrue (test o)) t

-- and so does the offset of a fault
abbrev pub FaultsAreInPlace : Type 0
FaultsAreInPlace =
    (test : Offset → Bool) (units : List UnitTree) (f : Fault) → UnitsHave (λ o. IsTrue (test o)) units → Stands units f
    → IsTrue (test (f.source, f.at))

-- where the offsets of units stand in texts, those of their typing do
abbrev pub TypingsStand : Type 0
TypingsStand =
    (texts : List (List ℕ)) (units : List UnitTree) (t : Typed) → UnitsHave (text.Stands texts) units
    → HasTyping units t
    → TypedStands texts t

-- a typing has as many nodes of expression as its units
abbrev pub NodesAreKept : Type 0
NodesAreKept = (units : List UnitTree) (t : Typed) → HasTyping units t
    → sum (map def_nodes t.defs) ≡ nodes_of_units units

-- a typing of small units is small
abbrev pub TypingsAreSmall : Type 0
TypingsAreSmall =
    (most : ℕ) (units : List UnitTree) (t : Typed) → most ≤ 2 ^ 18 → nodes_of_units units < 2 ^ 22
    → HaveFewCases most units
    → HasTyping units t → IsSmall t

-- where the sites of each function of units are apart, those of their typing are
abbrev pub TypingsAreApart : Type 0
TypingsAreApart = (units : List UnitTree) (t : Typed) → HaveSitesApart units → HasTyping units t → AreApart t
