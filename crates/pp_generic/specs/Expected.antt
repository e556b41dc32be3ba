-- What is expected of an expression: a sort of which parts may be open. Source: own.
use Rattle.std.specs.Prelude.{ℕ, nat_eq, Bool, true, false, ◌&&◌, List, [], ◌∷◌, ◌++◌, Option, Some, None, slice_get}
use Rattle.pp_generic.specs.declared.expected.Expected.{Expected}
use Rattle.pp_generic.specs.declared.expected.Expected.TheFolds.{fold-Expected}
use Rattle.pp_generic.specs.declared.expected.Expected.TheOpen as expected_layer
use Rattle.pp_generic.specs.declared.expected.Expected.TheVariants as expected
use Rattle.pp_typed.specs.Equal.{pass_all}
use Rattle.pp_typed.specs.declared.sort.GenericSort.{GenericSort}
use Rattle.pp_typed.specs.declared.sort.GenericSort.TheFolds.{fold-GenericSort}
use Rattle.pp_typed.specs.declared.sort.GenericSort.TheOpen as layer
use Rattle.pp_typed.specs.declared.sort.GenericSort.TheVariants as sort
use Rattle.pp_typed.specs.declared.sort.GenericSort.TheViews.{out-GenericSort}

-- what is found of each parameter so far
abbrev pub Found : Type 0
Found = List (Option GenericSort)

abbrev pub exact_step : layer.GenericSort-F Expected → Expected
exact_step layer.Int = expected.Int
exact_step layer.Bool = expected.Bool
exact_step (layer.Param i) = expected.Param i
exact_step (layer.Root r parts) = expected.Root r parts

-- exactly this sort is expected
abbrev pub exact : GenericSort → Expected
exact = fold-GenericSort Expected exact_step

-- what is found of a parameter is expected in its place, and where nothing is found that part is open
abbrev pub expect_found : Option (Option GenericSort) → Expected
expect_found None = expected.Open
expect_found (Some None) = expected.Open
expect_found (Some (Some s)) = exact s

module _ (found : Found) where
  abbrev pub expect_step : layer.GenericSort-F Expected → Expected
  expect_step layer.Int = expected.Int
  expect_step layer.Bool = expected.Bool
  expect_step (layer.Param i) = expect_found (slice_get found i)
  expect_step (layer.Root r parts) = expected.Root r parts

  -- what is expected where a declared sort stands, as far as its parameters are found
  abbrev pub expect : GenericSort → Expected
  expect = fold-GenericSort Expected expect_step

-- these, and then each of the others, where each is there
abbrev pub every_from : List GenericSort → List (Option GenericSort) → Option (List GenericSort)
every_from done [] = Some done
every_from done (None ∷ ss) = None
every_from done (Some s ∷ ss) = every_from (done ++ s ∷ []) ss

-- all of them, where each is there
abbrev pub every : List (Option GenericSort) → Option (List GenericSort)
every = every_from []

abbrev pub whole_root : ℕ → Option (List GenericSort) → Option GenericSort
whole_root r None = None
whole_root r (Some parts) = Some (sort.Root r parts)

abbrev pub whole_step : expected_layer.Expected-F (Option GenericSort) → Option GenericSort
whole_step expected_layer.Open = None
whole_step expected_layer.Int = Some sort.Int
whole_step expected_layer.Bool = Some sort.Bool
whole_step (expected_layer.Param i) = Some (sort.Param i)
whole_step (expected_layer.Root r parts) = whole_root r (every parts)

-- the one sort that is expected, where no part is open
abbrev pub whole : Expected → Option GenericSort
whole = fold-Expected (Option GenericSort) whole_step

-- a declared sort, where each of its parameters is found
abbrev pub known : Found → GenericSort → Option GenericSort
known found s = whole (expect found s)

abbrev pub fits_root : ℕ → List (GenericSort → Bool) → layer.GenericSort-F GenericSort → Bool
fits_root r tests (layer.Root q args) = nat_eq r q && pass_all tests args
fits_root r tests _ = false

abbrev pub fits_layer : expected_layer.Expected-F (GenericSort → Bool) → layer.GenericSort-F GenericSort → Bool
fits_layer expected_layer.Open s = true
fits_layer expected_layer.Int layer.Int = true
fits_layer expected_layer.Bool layer.Bool = true
fits_layer (expected_layer.Param i) (layer.Param j) = nat_eq i j
fits_layer (expected_layer.Root r tests) s = fits_root r tests s
fits_layer _ _ = false

abbrev pub fits_step : expected_layer.Expected-F (GenericSort → Bool) → GenericSort → Bool
fits_step tests s = fits_layer tests (out-GenericSort s)

-- whether a sort is as expected: an open part may be anything
abbrev pub fits : Expected → GenericSort → Bool
fits = fold-Expected (GenericSort → Bool) fits_step
