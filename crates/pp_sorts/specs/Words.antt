-- The names that texts of an arena show. Source: own.
use Rattle.std.specs.Prelude.{List, map, ℕ}
use Rattle.std.specs.Borrow.{Bor}
use Rattle.pp_names.specs.Places.{Word}

abbrev pub words_of : List (Bor (List ℕ)) → List Word
words_of texts = map (λ (t : Bor (List ℕ)). t.now) texts
