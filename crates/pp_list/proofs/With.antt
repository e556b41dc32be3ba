-- Elements, each with what is known of it: what an induction has in hand of the parts of a tree.
use Rattle.std.proofs.Common.{List, map}

-- an element with what is known of it
abbrev pub With : {A : Type 0} → (A → Type 0) → Type 0
With {A} P = (x : A) × P x

-- the elements alone
abbrev pub elements : {A : Type 0} {P : A → Type 0} → List (With P) → List A
elements ys = map (λ y. y.0) ys
