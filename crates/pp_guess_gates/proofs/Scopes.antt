-- Numbers in scope, each with the sort of the shape at its place; and what it means that the steps of an expression
-- weigh at most what its visit is worth.
use Rattle.std.proofs.Common.{◌≡◌, ℕ, ◌+◌, ◌≤◌, List, Some, arith}
use Rattle.pp_prog.specs.declared.sort.Sort.{Sort}
use Rattle.pp_prog.specs.declared.types.TypeTable.{TypeTable}
use Rattle.pp_prog.specs.ExprSorts.{Sorting}
use Rattle.pp_estimate.specs.declared.shape.Shape.{Shape}
use Rattle.pp_estimate.specs.Visits.{Visit, Visiting}
use Rattle.pp_steps.specs.declared.step.OpenCall.{OpenCall}
use Rattle.pp_steps.specs.Compile.{Compiling}
use Rattle.pp_steps.specs.Piece.{Piece}
use Rattle.pp_steps.specs.Sorted.{AllSorted, Sorts}
use Rattle.pp_steps_gates.proofs.Aligned.{Aligned}
use Rattle.pp_steps_gates.proofs.Pieces.{IsBit}
use Rattle.pp_guess_gates.proofs.Pieces.{Is, IsLight, load}
use Rattle.pp_guess_gates.proofs.Prices.{Prices, worth}

-- ---- scopes

module _ (σ : Sorts) where
  -- the number has the sort, which is that of the shape
  pub record IsOf (n : ℕ) (h : Shape) (s : Sort) : Type 0 where
    pub has : σ n ≡ s
    pub shape : h.sort ≡ s

-- so has each, and none is left over
abbrev pub Are : Sorts → List ℕ → List Shape → List Sort → Type 0
Are σ = Aligned (IsOf σ)

-- ---- expressions

module _ (types : TypeTable) (σ : Sorts) (ψ : Prices) (left : OpenCall → ℕ) where
  -- The piece begins at number k: its outcome has the sort of the visit's shape, and it weighs at most what the visit
  -- is worth, less half a node.
  pub record IsCovered (k : ℕ) (x : Piece ℕ) (s : Sort) (v : Visit) : Type 0 where
    pub shape : v.shape.sort ≡ s
    pub out : σ x.out ≡ s
    pub alive : IsBit σ x.alive
    pub few : load types σ ψ left k x + 64 ≤ worth ψ v.events

  pub covered : (k : ℕ) (x : Piece ℕ) (s : Sort) (v : Visit) (most : ℕ) → v.shape.sort ≡ s
      → IsLight types σ ψ left (Is σ s) k x most → most + 64 ≤ worth ψ v.events → IsCovered k x s v
  covered k x s v most e h le =
      let few = h.few in record { shape = e; out = h.out; alive = h.alive; few = omega arith }

  pub covered_of : (k : ℕ) (x : Piece ℕ) (s : Sort) (v : Visit) → IsCovered k x s v → IsOf σ x.out v.shape s
  covered_of k x s v h = record { has = h.out; shape = h.shape }

  module _ (old : List Shape) where
    -- in each scope where the expression has a sort, its steps weigh at most what its visit is worth
    abbrev pub Covers : Compiling → Visiting → Sorting → Type 0
    Covers m v t =
        (k : ℕ) (env : List ℕ) (reach : ℕ) (shapes : List Shape) (scope : List Sort) (s : Sort)
        → Are σ env shapes scope → IsBit σ reach → t scope ≡ Some s
        → AllSorted types σ k (m k env reach).steps → IsCovered k (m k env reach) s (v old shapes)
