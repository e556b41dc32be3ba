-- What the places of checks tell. Source: own.
use Rattle.std.specs.Prelude.{◌≡◌, ℕ, List, Some, All, slice_get}
use Rattle.std.specs.Str.{IsUtf8}
use Rattle.pp_mono.specs.Concrete.{IsConcrete}
use Rattle.pp_prog.specs.declared.check.Check.{Check}
use Rattle.pp_prog.specs.declared.program.Program.{Program}
use Rattle.pp_typed.specs.Apart.{AreApart}
use Rattle.pp_typed.specs.Stand.{TypedStands}
use Rattle.pp_typed.specs.declared.typed.Typed.{Typed}

-- two checks of one function differ in kind or in place
abbrev pub PlacesTellChecks : Type 0
PlacesTellChecks = (typed : Typed) (texts : List (List ℕ)) (p : Program) → TypedStands texts typed → AreApart typed
    → All IsUtf8 texts
    → IsConcrete typed texts p
    → (i j : ℕ) (a b : Check) → slice_get p.checks i ≡ Some a → slice_get p.checks j ≡ Some b
    → a.function ≡ b.function → a.kind ≡ b.kind → a.place ≡ b.place → i ≡ j
