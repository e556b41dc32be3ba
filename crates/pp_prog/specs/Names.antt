-- Which function has a printed name. Source: own.
use Rattle.std.specs.Prelude.{◌≡◌, ◌<◌, ℕ, List, Some, slice_get}
use Rattle.pp_prog.specs.declared.expr.Function.{Function}

-- function number f has this printed name
abbrev pub IsNamed : List Function → List ℕ → ℕ → Type 0
IsNamed functions name f = (function : Function) × (slice_get functions f ≡ Some function) × (function.name ≡ name)

-- no function has this printed name
abbrev pub NoneNamed : List Function → List ℕ → Type 0
NoneNamed functions name = (f : ℕ) → IsNamed functions name f → ⊥

-- function number f is the first that has this printed name
pub record IsFirstNamed (functions : List Function) (name : List ℕ) (f : ℕ) : Type 0 where
  pub named : IsNamed functions name f
  pub first : (g : ℕ) → g < f → IsNamed functions name g → ⊥
