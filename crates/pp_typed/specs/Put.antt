-- Sorts in place of the parameters of a sort. Source: own.
use Rattle.std.specs.Prelude.{ℕ, List, unwrap_or, slice_get}
use Rattle.pp_typed.specs.declared.sort.GenericSort.{GenericSort}
use Rattle.pp_typed.specs.declared.sort.GenericSort.TheFolds.{fold-GenericSort}
use Rattle.pp_typed.specs.declared.sort.GenericSort.TheOpen as layer
use Rattle.pp_typed.specs.declared.sort.GenericSort.TheVariants.{Int, Bool, Param, Root}

-- the sort at this place; past the end, the parameter itself
abbrev pub put_at : List GenericSort → ℕ → GenericSort
put_at args i = unwrap_or (slice_get args i) (Param i)

module _ (args : List GenericSort) where
  abbrev pub put_step : layer.GenericSort-F GenericSort → GenericSort
  put_step layer.Int = Int
  put_step layer.Bool = Bool
  put_step (layer.Param i) = put_at args i
  put_step (layer.Root r parts) = Root r parts

  -- the sort with each parameter replaced by the sort at its place
  abbrev pub put : GenericSort → GenericSort
  put = fold-GenericSort GenericSort put_step
