-- Three lists that are as long, where a relation holds of what stands at each place.
use Rattle.std.proofs.Common.{List, [], ◌∷◌, ◌++◌}

-- R holds of the three that stand at each place, and none is left over
abbrev pub Aligned : {A B C : Type 0} → (A → B → C → Type 0) → List A → List B → List C → Type 0
Aligned R [] [] [] = Unit {0}
Aligned R (x ∷ xs) (y ∷ ys) (z ∷ zs) = R x y z × Aligned R xs ys zs
Aligned R xs ys zs = ⊥

pub aligned_join : {A B C : Type 0} (R : A → B → C → Type 0) (a : List A) (b : List B) (c : List C) (d : List A)
    (e : List B) (f : List C) → Aligned R a b c → Aligned R d e f → Aligned R (a ++ d) (b ++ e) (c ++ f)
aligned_join R [] [] [] d e f h g = g
aligned_join R (x ∷ a) (y ∷ b) (z ∷ c) d e f h g = (h.0, aligned_join R a b c d e f h.1 g)
aligned_join R a b c d e f h g = absurd h
