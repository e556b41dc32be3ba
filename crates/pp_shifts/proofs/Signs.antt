-- The sign of a number in two's complement, and what a shift to the right makes of it.
use Rattle.std.proofs.Common.{◌≡◌, ℕ, ◌+◌, ◌-◌, ◌*◌, ◌/◌, ◌^◌, ◌<◌, ⊎_elim, get_or, Bool, true, false, leb, List, []}
use Rattle.std.proofs.Common.{◌∷◌, length, take, refl, sym, ap, ◌∙◌, arith}
use Rattle.std.specs.Int.{int_shr}
use Rattle.std.proofs.Math.Nat.{div-le_self}
use Rattle.std.proofs.lemmas.Bool.{cases_lt, le-leb, lt-leb}
use Rattle.pp_clause.specs.Literal.{Literal, lit_value}
use Rattle.pp_bits.specs.Number.{bit, nat_of, signed_of}
use Rattle.pp_bits.proofs.Numbers.{nat_of_first, nat_of_top}
use Rattle.pp_bits.proofs.Signs.{signed_of-low, signed_of-high}
use Rattle.pp_shifts.specs.Shift.{moved_right}

top_bit : (b : Bool) (p low v : ℕ) → low < p → v ≡ low + p * bit b → b ≡ leb p v
top_bit true p low v h e = sym (le-leb p v (omega arith))
top_bit false p low v h e = sym (lt-leb p v (omega arith))

-- the last literal, which the code read, is the sign
pub sign_value : (s : ℕ → Bool) (ls : List Literal) (l : Literal) → 0 < length ls → l ≡ get_or ls (length ls - 1) l
    → lit_value s l ≡ leb (2 ^ (length ls - 1)) (nat_of s ls)
sign_value s ls l some e =
    let last : ℕ = length ls - 1 in
    top_bit (lit_value s l) (2 ^ last) (nat_of s (take last ls)) (nat_of s ls) (nat_of_first s ls last (omega arith))
    (nat_of_top s ls last l l (omega arith) e)

pub sign_of_none : (s : ℕ → Bool) (ls : List Literal) (b : Bool) → length ls ≡ 0 → b ≡ false
    → b ≡ leb (2 ^ (length ls - 1)) (nat_of s ls)
unfolding nat_of
sign_of_none s [] b h e = e
sign_of_none s (x ∷ xs) b h e = absurd (omega arith)

-- filled with its sign, the number is rounded down
pub signed_of-moved : (n v k : ℕ) (negative : Bool) → v < 2 ^ n → negative ≡ leb (2 ^ (n - 1)) v
    → signed_of n (moved_right n negative v k) ≡ int_shr (signed_of n v) k
signed_of-moved n v k negative h e = ⊎_elim
    (λ low. ap (λ t. signed_of n (moved_right n t v k)) (e ∙ lt-leb (2 ^ (n - 1)) v low)
    ∙ signed_of-low n (v / 2 ^ k) (v / 2 ^ k) (omega (arith, div-le_self v (2 ^ k))) refl
    ∙ ap (λ z. int_shr z k) (sym (signed_of-low n v v low refl)))
    (λ high.
    let rest = 2 ^ n - 1 - v in
    let less = div-le_self rest (2 ^ k) in
    ap (λ t. signed_of n (moved_right n t v k)) (e ∙ le-leb (2 ^ (n - 1)) v high)
    ∙ signed_of-high n (2 ^ n - 1 - rest / 2 ^ k) (rest / 2 ^ k) (omega arith) (omega arith)
    ∙ ap (λ z. int_shr z k) (sym (signed_of-high n v rest high (omega arith))))
    (cases_lt v (2 ^ (n - 1)))
