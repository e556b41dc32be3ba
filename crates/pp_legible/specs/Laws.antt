-- Programs of sources have legible lines. Source: own.
use Rattle.std.specs.Prelude.{◌≡◌, ℕ, List, Some, slice_get}
use Rattle.pp_line_contents.specs.Laws.{BeginsPlainly, IsLegible}
use Rattle.pp_mono.specs.Concrete.{IsConcrete}
use Rattle.pp_ordinary.specs.Laws.{AreShort}
use Rattle.pp_ordinary.specs.Spelled.{EachSpells}
use Rattle.pp_prog.specs.declared.expr.Function.{Function}
use Rattle.pp_prog.specs.declared.program.Program.{Program}
use Rattle.pp_prog.specs.declared.types.Datatype.{Datatype}
use Rattle.pp_tree.specs.Plain.{UnitTree}
use Rattle.pp_typed.specs.WellSorted.{IsWellSorted}
use Rattle.pp_typed.specs.declared.typed.Typed.{Typed}
use Rattle.pp_types_laws.specs.Typing.{HasTyping}

-- the program of a typing of units that short texts spell is legible
abbrev pub ProgramsAreLegible : Type 0
ProgramsAreLegible = (texts : List (List ℕ)) (units : List UnitTree) (typed : Typed) (p : Program) → AreShort texts
    → EachSpells texts units → HasTyping units typed → IsConcrete typed texts p → IsLegible p

-- the names of the functions of the program of a typing of units that texts spell begin with no blank
abbrev pub NamesBeginPlainly : Type 0
NamesBeginPlainly = (texts : List (List ℕ)) (units : List UnitTree) (typed : Typed) (p : Program)
    → EachSpells texts units → HasTyping units typed → IsConcrete typed texts p → (i : ℕ) (f : Function)
    → slice_get p.functions i ≡ Some f → BeginsPlainly f.name

-- no two items of the list have one name
abbrev pub NamesTell : {X : Type 0} → (X → List ℕ) → List X → Type 0
NamesTell {X} name items = (i j : ℕ) (x y : X) → slice_get items i ≡ Some x → slice_get items j ≡ Some y
    → name x ≡ name y → i ≡ j

-- no two functions, and no two datatypes, of the program of typed units have one printed name
abbrev pub NamesDiffer : Type 0
NamesDiffer = (typed : Typed) (texts : List (List ℕ)) (p : Program) → IsWellSorted typed → IsConcrete typed texts p
    → NamesTell (λ (f : Function). f.name) p.functions × NamesTell (λ (d : Datatype). d.name) p.types.datatypes
