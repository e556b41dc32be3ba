-- What lines that are put one after another leave. Source: own.
use Rattle.std.specs.Prelude.{◌≡◌, ℕ, List, ◌++◌, Option, Some, slice_get, take}
use Rattle.std.specs.Io.KnownBytes.{Appends}
use Rattle.std.specs.List.{concat}
use Rattle.pp_print.specs.Values.{Text}

-- The lines were cut: some first of them were taken whole, then a front of the line after these, and nothing more.
pub record IsCut (lines : List Text) (old new : Option (List ℕ)) : Type 0 where
  pub whole : ℕ
  pub line : Text
  pub front : Text
  pub rest : Text
  pub next : slice_get lines whole ≡ Some line
  pub split : line ≡ front ++ rest
  pub taken : Appends old new (concat (take whole lines) ++ front)
