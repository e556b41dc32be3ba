-- How many constructors each root has. Source: own.
use Rattle.std.specs.Prelude.{ℕ, zero, suc, ◌+◌, List, [], ◌∷◌, count_by, nat_eq}

-- for so many roots, from this one on, how often each stands among the owners
abbrev pub counts_from : ℕ → ℕ → List ℕ → List ℕ
counts_from r zero owners = []
counts_from r (suc n) owners = count_by (nat_eq r) owners ∷ counts_from (r + 1) n owners
