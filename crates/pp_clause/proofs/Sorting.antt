-- Literals put in order of variable are the same set.
use Rattle.std.proofs.Common.{List, sym}
use Rattle.std.specs.Prelude.{IsPermutation}
use Rattle.std.proofs.lemmas.List.Sorted.{list_any-IsPermutation}
use Rattle.pp_clause.specs.Literal.{Literal}
use Rattle.pp_clause.specs.Clause.{literal_eq, SameLiterals}

pub same_from_permutation : (xs ys : List Literal) → IsPermutation xs ys → SameLiterals ys xs
same_from_permutation xs ys p = record { same = λ l. sym (list_any-IsPermutation (literal_eq l) xs ys p) }
