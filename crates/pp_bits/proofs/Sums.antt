-- The arithmetic of the adder.
use Rattle.std.proofs.Common.{◌≡◌, ℕ, ◌+◌, ◌-◌, ◌*◌, ◌^◌, ◌<◌, ◌%◌, Bool, List, [], ◌∷◌, ◌++◌, length, length-append}
use Rattle.std.proofs.Common.{true, take, get_or, sym, ap, ◌∙◌, arith}
use Rattle.std.proofs.lemmas.Bool.Decides.{nat_tests}
use Rattle.std.proofs.lemmas.List.{length-take-le}
use Rattle.pp_clause.specs.Literal.{Literal, opposite, lit_value}
use Rattle.pp_gate.specs.Gate.{xor_of, majority_of}
use Rattle.pp_bits.specs.Number.{bit, lit_bit, nat_of}
use Rattle.pp_bits.proofs.Numbers.{nat_of_top, nat_of_pushed, nat_of_within, power_next, remainder_is, bit_not}
use Rattle.pp_bits.proofs.Numbers.{lit_value_negated}

pub full_sum : (x y c : Bool) → bit (xor_of (xor_of x y) c) + 2 * bit (majority_of x y c) ≡ bit x + bit y + bit c
full_sum x y c = grind (arith, nat_tests)

-- the sum of numbers of one digit more, from the sum r of the lower digits and that of the digits x and y
pub add_turn : (i r a b sum left right x y z first carry next : ℕ)
    → sum ≡ r + 2 ^ i * z → left ≡ a + 2 ^ i * x → right ≡ b + 2 ^ i * y → z + 2 * next ≡ x + y + carry
    → r + 2 ^ i * carry ≡ a + b + first → sum + 2 ^ (i + 1) * next ≡ left + right + first
add_turn i r a b sum left right x y z first carry next es el er digits lower =
    omega (arith, ap (λ (k : ℕ). 2 ^ i * k) digits, ap (λ (k : ℕ). k * next) (power_next i))

pub wrapping_length : (xs low new : List Literal) (digit : Literal) → 0 < length xs
    → length low ≡ length (take (length xs - 1) xs) → new ≡ low ++ digit ∷ [] → length new ≡ length xs
wrapping_length xs low new digit some len is =
    ap length is ∙ length-append low (digit ∷ []) ∙ omega (arith, len, length-take-le (length xs - 1) xs (omega arith))

-- a sum without the carry that leaves it: the lower digits with their carry, and the highest digit
pub wrapping_turn : (s : ℕ → Bool) (xs ys low new : List Literal) (x y first next digit : Literal) → 0 < length xs
    → length xs ≡ length ys
    → x ≡ get_or xs (length xs - 1) x → y ≡ get_or ys (length xs - 1) y
    → length low ≡ length (take (length xs - 1) xs) → new ≡ low ++ digit ∷ []
    → nat_of s low + 2 ^ length (take (length xs - 1) xs) * lit_bit s next ≡ nat_of s (take (length xs - 1) xs) + nat_of
    s (take (length xs - 1) ys) + lit_bit s first
    → lit_value s digit ≡ xor_of (xor_of (lit_value s x) (lit_value s y)) (lit_value s next)
    → nat_of s new ≡ (nat_of s xs + nat_of s ys + lit_bit s first) % 2 ^ length xs
wrapping_turn s xs ys low new x y first next digit some same ex ey len is lower highest =
    let top = length xs - 1 in
    let more : top + 1 ≡ length xs = omega arith in
    let short : length (take top xs) ≡ top = length-take-le top xs (omega arith) in
    let carried = majority_of (lit_value s x) (lit_value s y) (lit_value s next) in
    let whole : nat_of s new + 2 ^ (top + 1) * bit carried ≡ nat_of s xs + nat_of s ys + lit_bit s first =
    add_turn top (nat_of s low) (nat_of s (take top xs)) (nat_of s (take top ys)) _ _ _ (lit_bit s x) (lit_bit s y)
    (lit_bit s digit) _ (lit_bit s next) (bit carried)
    (nat_of_pushed s low new top digit (len ∙ short) is) (nat_of_top s xs top x x more ex)
    (nat_of_top s ys top y y (more ∙ same) ey)
    (ap (λ (b : Bool). bit b + 2 * bit carried) highest ∙ full_sum (lit_value s x) (lit_value s y) (lit_value s next))
    (ap (λ (k : ℕ). nat_of s low + 2 ^ k * lit_bit s next) (sym short) ∙ lower) in
    remainder_is (2 ^ length xs) (nat_of s new) (bit carried) (nat_of s xs + nat_of s ys + lit_bit s first)
    (nat_of_within s new (length xs) (wrapping_length xs low new digit some len is))
    (ap (λ (k : ℕ). nat_of s new + 2 ^ k * bit carried) (sym more) ∙ whole)

-- the inverted digits and 1 stand for what b is below the power of 2
pub inverted_value : (s : ℕ → Bool) (xs ys inverted lent : List Literal) (one : Literal) → length xs ≡ length ys
    → lit_value s one ≡ true → lent ≡ inverted → nat_of s inverted ≡ 2 ^ length ys - 1 - nat_of s ys
    → nat_of s lent + lit_bit s one + nat_of s ys ≡ 2 ^ length xs
inverted_value s xs ys inverted lent one same on is value =
    let one_is : lit_bit s one ≡ 1 = ap bit on in
    omega (arith, nat_of_within s ys (length xs) (sym same), ap (nat_of s) is, ap (λ (k : ℕ). 2 ^ k) same)

-- a difference, from the sum with them
pub difference_turn : (s : ℕ → Bool) (p r a b v one : ℕ) (carry borrow : Literal)
    → v + one + b ≡ p → borrow ≡ opposite carry → r + p * lit_bit s carry ≡ a + v + one
    → r + b ≡ a + p * lit_bit s borrow
difference_turn s p r a b v one carry borrow inverted e sum =
    let both = ap (λ (x : Bool). p * (bit x + lit_bit s carry)) (lit_value_negated s borrow carry e) in
    omega (arith, both, ap (λ (k : ℕ). p * k) (bit_not (lit_value s carry)))

-- and without the borrow
pub difference_value : (p a b v one : ℕ) → v + one + b ≡ p → (a + v + one) % p ≡ (a + (p - b)) % p
difference_value p a b v one inverted = ap (λ (k : ℕ). k % p) (omega arith)
