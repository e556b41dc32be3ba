-- Sizes of values, cut at the greatest number, and the rows in which src/sizes.rt keeps them. This is of the making: no
-- public clause rests on it, for that of `estimate` speaks of specs/Estimates, which takes the sizes themselves.
-- Source: own.
use Rattle.std.specs.Prelude.{◌≡◌, ℕ, zero, suc, List, [], ◌∷◌, ◌++◌, length, map, sum, Some, slice_get}
use Rattle.pp_prog.specs.declared.sort.Sort.{Sort}
use Rattle.pp_prog.specs.declared.sort.Sort.TheVariants as sort
use Rattle.pp_prog.specs.declared.types.TypeTable.{TypeTable}
use Rattle.pp_prog.specs.Sizes.{bits, nodes}
use Rattle.pp_estimate.specs.declared.sizes.Size.{Size}
use Rattle.pp_estimate.specs.Cut.{cut}

-- the bits and the nodes of the values of a sort up to a height
abbrev pub size : TypeTable → ℕ → Sort → Size
size types h s = record { bits = cut (bits types h s); nodes = cut (nodes types h s) }

-- those of several sorts together
abbrev pub sizes : TypeTable → ℕ → List Sort → Size
sizes types h ss = record { bits = cut (sum (map (bits types h) ss)); nodes = cut (sum (map (nodes types h) ss)) }

-- the sizes of the first n datatypes up to a height
abbrev pub row : TypeTable → ℕ → ℕ → List Size
row types h zero = []
row types h (suc n) = row types h n ++ size types h (sort.Tree (record { 0 = n })) ∷ []

-- those of all datatypes of the table
abbrev pub full_row : TypeTable → ℕ → List Size
full_row types h = row types h (length types.datatypes)

-- rows of the first heights, from 0 on
pub record AreRows (types : TypeTable) (rows : List (List Size)) : Type 0 where
  pub each : (h : ℕ) (r : List Size) → slice_get rows h ≡ Some r → r ≡ full_row types h
