-- How large units are together. Source: own.
use Rattle.std.specs.Prelude.{ℕ, ◌+◌, List, [], ◌∷◌}
use Rattle.pp_tree.specs.Count.{UnitFewCases, unit_nodes}
use Rattle.pp_tree.specs.Plain.{UnitTree}

-- how many nodes of expression they have
abbrev pub nodes_of_units : List UnitTree → ℕ
nodes_of_units [] = 0
nodes_of_units (u ∷ us) = unit_nodes u + nodes_of_units us

-- each match has fewer cases than a quarter of n
abbrev pub HaveFewCases : ℕ → List UnitTree → Type 0
HaveFewCases n [] = Unit {0}
HaveFewCases n (u ∷ us) = UnitFewCases n u × HaveFewCases n us
