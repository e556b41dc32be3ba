-- Numbers in scope, each with the sort and at most the height of the shape at its place; and what it means that the
-- steps of an expression take at most what its visit costs.
use Rattle.std.proofs.Common.{◌≡◌, ℕ, zero, suc, ◌+◌, ◌*◌, ◌≤◌, List, [], ◌∷◌, map, Some, None, refl, subst, arith}
use Rattle.std.specs.Prelude.{slice_get, slice_index_or}
use Rattle.pp_prog.specs.declared.sort.Sort.{Sort}
use Rattle.pp_prog.specs.declared.sort.Sort.TheVariants as sort
use Rattle.pp_prog.specs.declared.types.TypeTable.{TypeTable}
use Rattle.pp_prog.specs.ExprSorts.{Sorting}
use Rattle.pp_prog.specs.Values.{greatest}
use Rattle.pp_estimate.specs.declared.shape.Shape.{Shape}
use Rattle.pp_estimate.specs.Events.{cost}
use Rattle.pp_estimate.specs.Visits.{Visit, Visiting, look_at, node, shape_at, tallest}
use Rattle.pp_estimate_laws.proofs.Numbers.{le_then, max_grows}
use Rattle.pp_steps.specs.Compile.{Compiling}
use Rattle.pp_steps.specs.Gates.{Heights}
use Rattle.pp_steps.specs.Piece.{Piece}
use Rattle.pp_steps.specs.Sorted.{Sorts}
use Rattle.pp_steps_gates.proofs.Aligned.{Aligned}
use Rattle.pp_steps_gates.proofs.Pieces.{Has, IsBit, IsFew, IsMade, load}

-- ---- costs

-- a node costs its weight
pub cost_of_node : (n : ℕ) → cost (node n) ≡ 64 + n
cost_of_node n = omega arith

-- a look costs nothing
pub cost_of_look : (s : Sort) → cost (look_at s) ≡ 0
cost_of_look sort.Int = refl
cost_of_look sort.Bool = refl
cost_of_look (sort.Tree d) = refl

-- ---- scopes

-- what stands at one place of a scope is so
pub are_at : (R : ℕ → Shape → Sort → Type 0) (ns : List ℕ) (hs : List Shape) (ss : List Sort) (i : ℕ) (s : Sort)
    → Aligned R ns hs ss → slice_get ss i ≡ Some s → R (slice_index_or ns i 0) (shape_at hs i) s
are_at R [] [] [] i s a is = let no : None ≡ Some s = is in cc
are_at R (n ∷ ns) (h ∷ hs) (t ∷ ss) zero s a is =
    let same : t ≡ s = (let both : Some t ≡ Some s = is in cc) in subst (λ u. R n h u) same a.0
are_at R (n ∷ ns) (h ∷ hs) (t ∷ ss) (suc i) s a is = are_at R ns hs ss i s a.1 is
are_at R ns hs ss i s a is = absurd a

module _ (types : TypeTable) (σ : Sorts) (η : Heights) where
  -- the number has the sort, which is that of the shape, and at most the height of the shape
  pub record IsOf (n : ℕ) (h : Shape) (s : Sort) : Type 0 where
    pub has : Has types σ η s h.height n
    pub shape : h.sort ≡ s

  -- so has each, and none is left over
  abbrev pub Are : List ℕ → List Shape → List Sort → Type 0
  Are = Aligned IsOf

  pub are_as_high : (ns : List ℕ) (hs : List Shape) (ss : List Sort) → Are ns hs ss
      → greatest (map η ns) ≤ tallest hs
  are_as_high [] [] [] a = omega arith
  are_as_high (n ∷ ns) (h ∷ hs) (s ∷ ss) a =
      max_grows (η n) h.height (greatest (map η ns)) (tallest hs) a.0.has.height (are_as_high ns hs ss a.1)
  are_as_high ns hs ss a = absurd a

  pub has_more : (s : Sort) (g h n : ℕ) → Has types σ η s g n → g ≤ h → Has types σ η s h n
  has_more s g h n a le = record { sort = a.sort; height = le_then (η n) g h a.height le }

  -- ---- expressions

  -- The piece begins at number k: its outcome has the sort and at most the height of the visit's shape, and it takes at
  -- most twice what the visit costs, less a node's weight.
  pub record IsCovered (k : ℕ) (x : Piece ℕ) (s : Sort) (v : Visit) : Type 0 where
    pub shape : v.shape.sort ≡ s
    pub out : Has types σ η s v.shape.height x.out
    pub alive : IsBit σ x.alive
    pub few : load types σ η k x + 64 ≤ 2 * cost v.events

  pub covered : (k : ℕ) (x : Piece ℕ) (s : Sort) (v : Visit) (most : ℕ) → v.shape.sort ≡ s
      → IsFew types σ η (Has types σ η s v.shape.height) k x most → most + 64 ≤ 2 * cost v.events → IsCovered k x s v
  covered k x s v most e h le =
      let few = h.few in record { shape = e; out = h.out; alive = h.alive; few = omega arith }

  pub covered_of : (k : ℕ) (x : Piece ℕ) (s : Sort) (v : Visit) → IsCovered k x s v → IsOf x.out v.shape s
  covered_of k x s v h = record { has = h.out; shape = h.shape }

  module _ (old : List Shape) where
    -- in each scope where the expression has a sort, its steps take at most twice what its visit costs
    abbrev pub Covers : Compiling → Visiting → Sorting → Type 0
    Covers m v t =
        (k : ℕ) (env : List ℕ) (reach : ℕ) (shapes : List Shape) (scope : List Sort) (s : Sort) → Are env shapes scope
        → IsBit σ reach → t scope ≡ Some s → IsMade types σ η k (m k env reach).steps
        → IsCovered k (m k env reach) s (v old shapes)
