-- Closed functions: all their runs on arguments up to a height end within a round. Source: own.
use Rattle.std.specs.Prelude.{◌≡◌, ◌↔◌, ◌≤◌, ℕ, zero, suc, List, Option, Some, None, slice_get, Contains}
use Rattle.pp_graph.specs.Reaches.{calls_of}
use Rattle.pp_prog.specs.declared.expr.Function.{Function}
use Rattle.pp_prog.specs.declared.sort.Sort.{Sort}
use Rattle.pp_prog.specs.declared.types.Ctor.{Ctor}
use Rattle.pp_prog.specs.declared.types.TypeTable.{TypeTable}
use Rattle.pp_prog.specs.Calls.{call_table}
use Rattle.pp_prog.specs.Cone.{InCone, IsRecursive}
use Rattle.pp_prog.specs.Sizes.{IsUpTo}
use Rattle.pp_prog.specs.Sorts.{param_sorts}

-- the call tree of f is at most n deep: f calls nothing, or each function that it calls has one that is less deep
abbrev pub Nests : List (List ℕ) → ℕ → ℕ → Type 0
Nests calls zero f = (g : ℕ) → Contains (calls_of calls f) g → ⊥
Nests calls (suc n) f = (g : ℕ) → Contains (calls_of calls f) g → Nests calls n g

-- the depth of the call tree of f, or none where it has no end
abbrev pub IsNesting : List (List ℕ) → ℕ → Option ℕ → Type 0
IsNesting calls f None = (n : ℕ) → Nests calls n f → ⊥
IsNesting calls f (Some k) = (n : ℕ) → Nests calls n f ↔ (k ≤ n)

-- each value of each parameter's sort has at most the height h
abbrev pub AreUpTo : List Ctor → List Sort → ℕ → Type 0
AreUpTo ctors sorts h = (s : Sort) → Contains sorts s → IsUpTo ctors s h

-- the greatest height of a value of one of these sorts, or none where there is no greatest
abbrev pub IsTallest : List Ctor → List Sort → Option ℕ → Type 0
IsTallest ctors sorts None = (h : ℕ) → AreUpTo ctors sorts h → ⊥
IsTallest ctors sorts (Some k) = (h : ℕ) → AreUpTo ctors sorts h ↔ (k ≤ h)

-- f is closed at round n and depth d
pub record Closed (types : TypeTable) (functions : List Function) (f n d : ℕ) : Type 0 where
  -- no function of its cone is recursive
  pub acyclic : (g : ℕ) → InCone functions f g → IsRecursive functions g → ⊥
  -- its call tree, contracts included, is at most n deep
  pub nested : Nests (call_table functions) n f
  -- each value of each parameter's sort has at most the height d
  pub low : (function : Function) → slice_get functions f ≡ Some function
      → AreUpTo types.ctors (param_sorts function.params) d
