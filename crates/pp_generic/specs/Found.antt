-- What is found of the type parameters of a declaration, where one of its sorts stands beside another. Source: own.
use Rattle.std.specs.Prelude.{ℕ, nat_eq, if◌then◌else◌, List, [], ◌∷◌, Option, Some, None, replicate}
use Rattle.std.specs.Prelude.{slice_get, slice_set}
use Rattle.pp_generic.specs.declared.expected.Expected.{Expected}
use Rattle.pp_generic.specs.declared.expected.Expected.TheOpen as expected_layer
use Rattle.pp_generic.specs.declared.expected.Expected.TheViews.{out-Expected}
use Rattle.pp_generic.specs.Expected.{Found, whole}
use Rattle.pp_typed.specs.declared.sort.GenericSort.{GenericSort}
use Rattle.pp_typed.specs.declared.sort.GenericSort.TheFolds.{fold-GenericSort}
use Rattle.pp_typed.specs.declared.sort.GenericSort.TheOpen as layer

-- nothing is found of so many parameters
abbrev pub none_found : ℕ → Found
none_found n = replicate n None

-- what is found of a parameter first stays; what isn't whole tells nothing
abbrev pub noted : ℕ → Option (Option GenericSort) → Option GenericSort → Found → Found
noted i (Some None) (Some s) found = slice_set found i (Some s)
noted i _ _ found = found

abbrev pub note : ℕ → Option GenericSort → Found → Found
note i s found = noted i (slice_get found i) s found

-- what a declared sort adds to what is found, where this stands in its place
abbrev pub Learning : Type 0
Learning = Expected → Found → Found

abbrev pub learn_all : List Learning → List Expected → Found → Found
learn_all [] es found = found
learn_all (l ∷ ls) [] found = found
learn_all (l ∷ ls) (e ∷ es) found = learn_all ls es (l e found)

abbrev pub learn_root : ℕ → List Learning → expected_layer.Expected-F Expected → Found → Found
learn_root r ls (expected_layer.Root q es) found = if nat_eq r q then learn_all ls es found else found
learn_root r ls _ found = found

abbrev pub learn_step : layer.GenericSort-F Learning → Learning
learn_step layer.Int e found = found
learn_step layer.Bool e found = found
learn_step (layer.Param i) e found = note i (whole e) found
learn_step (layer.Root r ls) e found = learn_root r ls (out-Expected e) found

-- what is found, with what the sort that stands in the place of a declared one tells, from left to right
abbrev pub learn : GenericSort → Learning
learn = fold-GenericSort Learning learn_step
