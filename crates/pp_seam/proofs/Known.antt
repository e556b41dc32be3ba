-- Known bytes that stay for a while, and then move.
use Rattle.std.proofs.Common.{ℕ, List, ◌++◌, Option, None, Some, ap, ◌∙◌, sym}
use Rattle.std.specs.Io.KnownBytes.{Keeps, Appends, Consumes}

pub kept-Consumes : (a b c : Option (List ℕ)) (bs : List ℕ) → Keeps a b → Consumes b c bs → Consumes a c bs
kept-Consumes None b c bs p q = tt
kept-Consumes (Some x) None c bs p q = absurd p
kept-Consumes (Some x) (Some y) None bs p q = absurd q
kept-Consumes (Some x) (Some y) (Some z) bs p q = sym p ∙ q

pub kept-Appends : (a b c : Option (List ℕ)) (bs : List ℕ) → Keeps a b → Appends b c bs → Appends a c bs
kept-Appends None b c bs p q = tt
kept-Appends (Some x) None c bs p q = absurd p
kept-Appends (Some x) (Some y) None bs p q = absurd q
kept-Appends (Some x) (Some y) (Some z) bs p q = q ∙ ap (λ l. l ++ bs) p
