-- What holds of units that texts spell, and of their typing. Source: own.
use Rattle.std.specs.Prelude.{◌≤◌, ◌<◌, ◌^◌, ℕ, List, All, length}
use Rattle.pp_limits.specs.declared.TheConstants.{MOST_SOURCES}
use Rattle.pp_text.specs.Limits.{most_bytes}
use Rattle.pp_tree.specs.Plain.{UnitTree}
use Rattle.pp_typed.specs.Apart.{AreApart}
use Rattle.pp_typed.specs.Limits.{IsSmall}
use Rattle.pp_typed.specs.Stand.{Stands, TypedStands}
use Rattle.pp_typed.specs.WellSorted.{IsWellSorted}
use Rattle.pp_typed.specs.declared.typed.Typed.{Typed}
use Rattle.pp_types_laws.specs.Offsets.{UnitsHave}
use Rattle.pp_types_laws.specs.Sites.{HaveSitesApart}
use Rattle.pp_types_laws.specs.Sizes.{HaveFewCases, nodes_of_units}
use Rattle.pp_types_laws.specs.Typing.{HasTyping}
use Rattle.pp_ordinary.specs.Ordinary.{AreOrdinary}
use Rattle.pp_ordinary.specs.Spelled.{EachSpells}

-- at most 16 texts, none longer than a text may be
pub record AreShort (texts : List (List ℕ)) : Type 0 where
  pub few : length texts ≤ MOST_SOURCES
  pub short : All (λ (text : List ℕ). length text ≤ most_bytes) texts

-- units that texts spell are ordinary: their names are plain, and their numbers are Ints
abbrev pub SpelledAreOrdinary : Type 0
SpelledAreOrdinary = (texts : List (List ℕ)) (units : List UnitTree) → EachSpells texts units → AreOrdinary units

-- their offsets stand in the texts
abbrev pub SpelledStand : Type 0
SpelledStand = (texts : List (List ℕ)) (units : List UnitTree) → EachSpells texts units
    → UnitsHave (Stands texts) units

-- those of short texts have few nodes of expression together, and no match of theirs has many cases
abbrev pub SpelledAreSmall : Type 0
SpelledAreSmall = (texts : List (List ℕ)) (units : List UnitTree) → AreShort texts → EachSpells texts units
    → (nodes_of_units units < 2 ^ 22) × HaveFewCases most_bytes units

-- in one function no two calls, divisions, matches or assertions stand at one offset
abbrev pub SpelledAreApart : Type 0
SpelledAreApart = (texts : List (List ℕ)) (units : List UnitTree) → EachSpells texts units → HaveSitesApart units

-- what holds of a typing of units that short texts spell
pub record IsFit (texts : List (List ℕ)) (typed : Typed) : Type 0 where
  pub sorted : IsWellSorted typed
  pub stands : TypedStands texts typed
  pub small : IsSmall typed
  pub apart : AreApart typed

abbrev pub TypingsAreFit : Type 0
TypingsAreFit = (texts : List (List ℕ)) (units : List UnitTree) (typed : Typed) → AreShort texts
    → EachSpells texts units
    → HasTyping units typed → IsFit texts typed
