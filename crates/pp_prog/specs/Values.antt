-- What a value is: its height, and its proper subtrees. Source: own; the height of a datatype's value counts the
-- constructors on its longest path.
use Rattle.std.specs.Prelude.{◌≡◌, ℕ, ◌+◌, max, List, [], ◌∷◌, Contains}
use Rattle.pp_prog.specs.declared.id.CtorId.{CtorId}
use Rattle.pp_prog.specs.declared.value.Value.{Value}
use Rattle.pp_prog.specs.declared.value.Value.TheVariants.{Tree}
use Rattle.pp_prog.specs.declared.value.Value.TheOpen as layer
use Rattle.pp_prog.specs.declared.value.Value.TheFolds.{fold-Value}

-- the greatest of a list, and 0 of none
abbrev pub greatest : List ℕ → ℕ
greatest [] = 0
greatest (n ∷ ns) = max n (greatest ns)

-- one level, with the heights of the fields in their place
abbrev pub height_step : layer.Value-F ℕ → ℕ
height_step (layer.Int n) = 0
height_step (layer.Bool b) = 0
height_step (layer.Tree c heights) = greatest heights + 1

-- a number and a truth value have height 0, and a tree one more than its highest field
abbrev pub height : Value → ℕ
height = fold-Value ℕ height_step

-- t is a field of u, or below a field of u
pub data IsBelow : Value → Value → Type 0 where
  is_field : {t u : Value} (c : CtorId) (fields : List Value) → u ≡ Tree c fields → Contains fields t → IsBelow t u
  is_deeper : {t v u : Value} (c : CtorId) (fields : List Value) → u ≡ Tree c fields → Contains fields v → IsBelow t v
      → IsBelow t u
