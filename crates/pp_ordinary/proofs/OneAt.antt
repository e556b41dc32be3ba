-- The weight that is 1 at one offset.
use Rattle.std.proofs.Common.{◌≡◌, ◌<◌, ◌==◌, ℕ, Bool, true, false, ap, arith, refl}
use Rattle.std.proofs.lemmas.Bool.{eq-eqb, eqb-true}

abbrev number : Bool → ℕ
number true = 1
number false = 0

abbrev pub one_at : ℕ → ℕ → ℕ
one_at x at = number (x == at)

pub one_here : (x at : ℕ) → x ≡ at → one_at x at ≡ 1
one_here x at is = ap number (eq-eqb x at is)

not_there : (x at : ℕ) (b : Bool) → (x == at) ≡ b → x < at → number b ≡ 0
not_there x at true e lt = let is = eqb-true x at e in absurd (omega arith)
not_there x at false e lt = refl

pub none_before : (x at : ℕ) → x < at → one_at x at ≡ 0
none_before x at lt = not_there x at (x == at) refl lt

-- an offset is the one, or weighs nothing
pub one_or_none : {A : Type 0} (x at : ℕ) → (x ≡ at → A) → (one_at x at ≡ 0 → A) → A
one_or_none {A} x at here there = by (x == at) refl
  where
    by : (b : Bool) → (x == at) ≡ b → A
    by true e = here (eqb-true x at e)
    by false e = there (ap number e)
