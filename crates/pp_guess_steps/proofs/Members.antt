-- What stands in a list.
use Rattle.std.proofs.Common.{List, [], ◌∷◌, Contains, arith}
use Rattle.std.proofs.lemmas.List.Elements.{Contains-append_right}

pub at_tail : {A : Type 0} (x y : A) (xs : List A) → Contains xs y → Contains (x ∷ xs) y
at_tail x y xs c = Contains-append_right (x ∷ []) xs y c

pub nothing_in : {A : Type 0} (x : A) → Contains [] x → ⊥
nothing_in x (k, lt, is) = omega (arith, lt)
