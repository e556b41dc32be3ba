-- When two sorts are the same, as a test. Source: own.
use Rattle.std.specs.Prelude.{ℕ, nat_eq, Bool, true, false, ◌&&◌, List, [], ◌∷◌}
use Rattle.pp_typed.specs.declared.sort.GenericSort.{GenericSort}
use Rattle.pp_typed.specs.declared.sort.GenericSort.TheFolds.{fold-GenericSort}
use Rattle.pp_typed.specs.declared.sort.GenericSort.TheOpen as layer
use Rattle.pp_typed.specs.declared.sort.GenericSort.TheViews.{out-GenericSort}

-- each sort passes the test at its place, and none is left over
abbrev pub pass_all : List (GenericSort → Bool) → List GenericSort → Bool
pass_all [] [] = true
pass_all [] (s ∷ ss) = false
pass_all (p ∷ ps) [] = false
pass_all (p ∷ ps) (s ∷ ss) = p s && pass_all ps ss

-- the test of a root, with the tests of its arguments
abbrev pub root_test : ℕ → List (GenericSort → Bool) → layer.GenericSort-F GenericSort → Bool
root_test r tests (layer.Root q args) = nat_eq r q && pass_all tests args
root_test r tests _ = false

abbrev pub equal_layer : layer.GenericSort-F (GenericSort → Bool) → layer.GenericSort-F GenericSort → Bool
equal_layer layer.Int layer.Int = true
equal_layer layer.Bool layer.Bool = true
equal_layer (layer.Param i) (layer.Param j) = nat_eq i j
equal_layer (layer.Root r tests) s = root_test r tests s
equal_layer _ _ = false

abbrev pub equal_step : layer.GenericSort-F (GenericSort → Bool) → GenericSort → Bool
equal_step tests s = equal_layer tests (out-GenericSort s)

-- whether two sorts are the same
abbrev pub equal : GenericSort → GenericSort → Bool
equal = fold-GenericSort (GenericSort → Bool) equal_step
