-- Pairs of held values that are to be the same: when a comparison takes a pair apart, and how much work is left.
-- Source: own.
use Rattle.std.specs.Prelude.{◌≡◌, ◌≢◌, ◌↔◌, ◌<◌, ℕ, Bool, true, false, List, [], ◌∷◌, ◌++◌, All}
use Rattle.std.specs.List.{sum_by}
use Rattle.pp_prog.specs.declared.value.Value.{Value}
use Rattle.pp_store.specs.declared.held.Held.{Held}
use Rattle.pp_store.specs.declared.same.Pair.{Pair}
use Rattle.pp_store.specs.Values.{IsHeld, value_of}
use Rattle.pp_store.specs.Sizes.{size}

-- what stands at each place of both
abbrev pub pairs : List Held → List Held → List Pair
pairs [] ys = []
pairs (x ∷ xs) [] = []
pairs (x ∷ xs) (y ∷ ys) = record { left = x; right = y } ∷ pairs xs ys

module _ (trees : List Value) where
  abbrev pub IsHeldPair : Pair → Type 0
  IsHeldPair p = IsHeld trees p.left × IsHeld trees p.right

  -- the two stand for the same value
  abbrev pub IsSame : Pair → Type 0
  IsSame p = value_of trees p.left ≡ value_of trees p.right

  abbrev pub left_size : Pair → ℕ
  left_size p = size (value_of trees p.left)

  -- how large the values on the left are together
  abbrev pub weight : List Pair → ℕ
  weight ps = sum_by left_size ps

  -- more pairs are pending, smaller together than this one, and all the same exactly if its values are
  pub record Splits (p : Pair) (old new : List Pair) : Type 0 where
    pub more : List Pair
    pub grows : new ≡ old ++ more
    pub held : All IsHeldPair more
    pub same : All IsSame more ↔ IsSame p
    pub less : weight more < left_size p

  -- the pair is taken apart, or its values differ
  abbrev pub IsSplit : Pair → List Pair → List Pair → Bool → Type 0
  IsSplit p old new true = Splits p old new
  IsSplit p old new false = value_of trees p.left ≢ value_of trees p.right
