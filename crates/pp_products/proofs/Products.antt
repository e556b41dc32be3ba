-- The arithmetic of products, row by row.
use Rattle.std.proofs.Common.{◌≡◌, ℕ, ◌+◌, ◌-◌, ◌*◌, ◌/◌, ◌%◌, ◌^◌, ◌<◌, Bool, true, false, if◌then◌else◌}
use Rattle.std.proofs.Common.{List, ◌∷◌, length, take, drop, get_or, sym, ap, ◌∙◌, arith}
use Rattle.std.proofs.Math.Nat.{add-mul-mod_self_left, mod-add-div, mul_comm}
use Rattle.std.proofs.lemmas.List.{length-take-le, length-drop}
use Rattle.pp_clause.specs.Literal.{Literal, lit_value}
use Rattle.pp_gate.specs.declared.gate.Gate.{Gate}
use Rattle.pp_bits.specs.Number.{bit, lit_bit, nat_of, StandsForNumber}
use Rattle.pp_bits.proofs.Numbers as numbers

-- the gates of the rows
pub mul_budget_at : {X : Type 0} (xs : List X) → 0 < length xs
    → 2 * (length (take (length xs - 1) xs) * (length (take (length xs - 1) xs) + 1)) + 4 * length xs ≡ 2 *
    (length xs * (length xs + 1))
mul_budget_at xs h =
    let more : length xs ≡ length (take (length xs - 1) xs) + 1 =
    omega (arith, length-take-le (length xs - 1) xs (omega arith)) in
    omega (arith, ap (λ (n : ℕ). n * (n + 1)) more)

-- a row: its lowest digit is that of the masked number, the others are those of a sum that drops what is past p
row_value : (p q low high rest sum v : ℕ) → q ≡ 2 * p → low + 2 * sum < q → sum ≡ (high + rest) % p
    → low + 2 * high ≡ v → low + 2 * sum ≡ (v + 2 * rest) % q
row_value p q low high rest sum v twice small e f =
    let k = (high + rest) / p in
    numbers.remainder_is q (low + 2 * sum) k (v + 2 * rest) small
    (omega (arith, mod-add-div (high + rest) p, ap (λ (x : ℕ). x * k) twice))

masked_value : (v : Bool) (a none m : ℕ) → none ≡ 0 → m ≡ (if v then a else none) → m ≡ bit v * a
masked_value true a none m z e = omega arith
masked_value false a none m z e = omega arith

-- the product by a number of one digit more: what the highest digit t of the other adds is past the digits of the row
product_more : (p q a0 t low rest : ℕ) → q ≡ 2 * p → (low * (a0 + p * t) + 2 * ((a0 * rest) % p)) % q ≡
    ((a0 + p * t) * (low + 2 * rest)) % q
product_more p q a0 t low rest twice =
    let k = (a0 * rest) / p + t * rest in
    sym (add-mul-mod_self_left (low * (a0 + p * t) + 2 * ((a0 * rest) % p)) q k)
    ∙ ap (λ (x : ℕ). x % q) (omega (arith, mod-add-div (a0 * rest) p, ap (λ (x : ℕ). x * k) twice))

-- what the code of a row leaves
pub row_turn : (s : ℕ → Bool) (xs rest none masked ms high hs all : List Literal) (low first : Literal)
    → length xs ≡ length rest + 1 → nat_of s none ≡ 0 → nat_of s masked ≡
    (if lit_value s low then nat_of s xs else nat_of s none)
    → length masked ≡ length xs → ms ≡ masked → first ≡ get_or masked 0 first
    → length high ≡ length (take (length ms - 1) (drop 1 ms))
    → nat_of s high ≡ (nat_of s (take (length ms - 1) (drop 1 ms)) + nat_of s rest) % 2 ^ length
    (take (length ms - 1) (drop 1 ms))
    → hs ≡ high → all ≡ first ∷ hs
    → nat_of s all ≡ (lit_bit s low * nat_of s xs + 2 * nat_of s rest) % 2 ^ length xs
row_turn s xs rest none masked ms high hs all low first same off mask mlen ims isfirst hlen sum ihs iall =
    let h = length rest in
    let twice : 2 ^ length xs ≡ 2 * 2 ^ h = ap (λ (k : ℕ). 2 ^ k) same ∙ numbers.power_next h in
    let tail : take (length ms - 1) (drop 1 ms) ≡ drop 1 masked = numbers.tail_is ms ∙ ap (drop 1) ims in
    let len : length (take (length ms - 1) (drop 1 ms)) ≡ h = ap length tail ∙ length-drop 1 masked ∙ omega arith in
    let small : nat_of s high < 2 ^ h = numbers.nat_of_within s high h (hlen ∙ len) in
    ap (nat_of s) (iall ∙ ap (λ (l : List Literal). first ∷ l) ihs) ∙ numbers.nat_of_cons s first high
    ∙ row_value (2 ^ h) (2 ^ length xs) (lit_bit s first) (nat_of s (drop 1 masked)) (nat_of s rest) (nat_of s high)
    (lit_bit s low * nat_of s xs) twice (omega (arith, numbers.bit_small (lit_value s first)))
    (sum ∙ (λ j. (nat_of s (tail j) + nat_of s rest) % 2 ^ len j))
    (sym (numbers.nat_of_uncons s masked first (omega arith) isfirst)
    ∙ masked_value (lit_value s low) (nat_of s xs) (nat_of s none) (nat_of s masked) off mask)

-- the product with a number of one digit more
pub mul_turn : (s : ℕ → Bool) (xs ys rest lent all : List Literal) (low : Literal)
    → 0 < length xs → length xs ≡ length ys → low ≡ get_or ys 0 low → lent ≡ rest
    → nat_of s rest ≡ (nat_of s (take (length xs - 1) xs) * nat_of s (take (length ys - 1) (drop 1 ys))) % 2 ^ length
    (take (length xs - 1) xs)
    → nat_of s all ≡ (lit_bit s low * nat_of s xs + 2 * nat_of s lent) % 2 ^ length xs
    → nat_of s all ≡ (nat_of s xs * nat_of s ys) % 2 ^ length xs
mul_turn s xs ys rest lent all low some same islow il e f =
    let h = length xs - 1 in
    let short : length (take h xs) ≡ h = length-take-le h xs (omega arith) in
    let a0 = nat_of s (take h xs) in
    let above = nat_of s (drop 1 ys) in
    let split = numbers.nat_of_split s xs h (omega arith) in
    let lower : nat_of s lent ≡ (a0 * above) % 2 ^ h =
    ap (nat_of s) il ∙ e ∙ (λ j. (a0 * nat_of s (numbers.tail_is ys j)) % 2 ^ short j) in
    f ∙ (λ j. (lit_bit s low * split.1 j + 2 * lower j) % 2 ^ length xs)
    ∙ product_more (2 ^ h) (2 ^ length xs) a0 (bit split.0) (lit_bit s low) above
    (numbers.power_halves (length xs) some)
    ∙ sym (λ j. (split.1 j * numbers.nat_of_uncons s ys low (omega arith) islow j) % 2 ^ length xs)

-- which factor comes first makes no difference
pub product_swapped : (gs : List Gate) (ls : List Literal) (x y : (ℕ → Bool) → ℕ) (m n : ℕ) → m ≡ n
    → StandsForNumber gs m ls (λ s. (x s * y s) % 2 ^ m) → StandsForNumber gs n ls (λ s. (y s * x s) % 2 ^ n)
product_swapped gs ls x y m n e h = record {
  len = h.len ∙ e;
  of = h.of;
  value = λ s gives. h.value s gives ∙ (λ i. mul_comm (x s) (y s) i % 2 ^ e i);
}
