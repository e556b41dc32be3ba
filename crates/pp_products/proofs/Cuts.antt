-- Numbers of which some digits are cut off, and whether there were any.
use Rattle.std.proofs.Common.{◌≡◌, ℕ, zero, suc, ◌+◌, ◌-◌, ◌*◌, ◌%◌, ◌^◌, ◌<◌, ◌≤◌, ◌||◌, ⊎_elim, min, nat_lt}
use Rattle.std.proofs.Common.{Bool, true, List, [], ◌∷◌, ◌++◌, length, take, drop, replicate, get_or, All, sym, ap, ◌∙◌}
use Rattle.std.proofs.Common.{subst, arith, length-append}
use Rattle.std.specs.Prelude.{nat_le}
use Rattle.std.proofs.Math.Nat.{mod-eq_of_lt}
use Rattle.std.proofs.Math.Pow.{pow_mono}
use Rattle.std.proofs.lemmas.Bool.{cases_lt}
use Rattle.std.proofs.lemmas.Bool.Decides.{nat_tests}
use Rattle.std.proofs.lemmas.List.{take_all, drop_all, length-drop, length-take-le, length-replicate}
use Rattle.std.proofs.lemmas.List.Elements.{All-append, All-take, All-replicate}
use Rattle.pp_clause.specs.Literal.{Literal, opposite, lit_value}
use Rattle.pp_gate.specs.declared.gate.Gate.{Gate}
use Rattle.pp_gate.specs.Circuit.{IsOf, StandsFor}
use Rattle.pp_bits.specs.Number.{bit, nat_of, StandsForNumber}
use Rattle.pp_bits.proofs.Growing as growing
use Rattle.pp_bits.proofs.Numbers as numbers

-- a number of at most n digits has no remainder by 2^n but itself
below_power : (v m n : ℕ) → v < 2 ^ m → m ≤ n → v < 2 ^ n
below_power v m n h le = let p : 2 ^ m ≤ 2 ^ n = pow_mono le in omega arith

pub first_digits : (s : ℕ → Bool) (ls : List Literal) (m n : ℕ) → m ≡ min (length ls) n
    → nat_of s (take m ls) ≡ nat_of s ls % 2 ^ n
first_digits s ls m n e = ⊎_elim
    (λ lt. ap (nat_of s) (take_all m ls (omega arith))
    ∙ sym (mod-eq_of_lt (below_power (nat_of s ls) (length ls) n (numbers.nat_of_below s ls) (omega arith))))
    (λ ge. ap (λ k. nat_of s (take k ls)) (omega arith) ∙ numbers.nat_of_take s n ls ge)
    (cases_lt (length ls) n)

-- digits after the others that are all zeros
pub resized_number : (gs : List Gate) (ls all : List Literal) (n m : ℕ) (zero_lit truth : Literal)
    → m ≡ min (length ls) n
    → all ≡ take m ls ++ replicate (n - m) zero_lit → zero_lit ≡ opposite truth → StandsFor gs truth (λ s. true)
    → All (IsOf gs) ls
    → StandsForNumber gs n all (λ s. nat_of s ls % 2 ^ n)
resized_number gs ls all n m zero_lit truth e is z t of = record {
  len = ap length is ∙ length-append (take m ls) (replicate (n - m) zero_lit)
      ∙ (λ i. length-take-le m ls (omega arith) i + length-replicate (n - m) zero_lit i) ∙ omega arith;
  of = subst (All (IsOf gs)) (sym is)
      (All-append (IsOf gs) (take m ls) (replicate (n - m) zero_lit) (All-take (IsOf gs) m ls of)
      (All-replicate (IsOf gs) (n - m) zero_lit (growing.IsOf_negated gs zero_lit truth z t.of)));
  value = λ s gives.
      ap (nat_of s) is
      ∙ numbers.nat_of_padded s (take m ls) (n - m) zero_lit
      (numbers.negated_truth s zero_lit truth z (t.value s gives))
      ∙ first_digits s ls m n e;
}

some_cases : (x : Bool) (m n : ℕ) → n ≡ bit x + 2 * m → (x || nat_lt 0 m) ≡ nat_lt 0 n
some_cases x m n e = grind (arith, nat_tests)

-- a number is its lowest digit and the others, so it is 0 where all are
pub some_digit_turn : (s : ℕ → Bool) (xs : List Literal) (x : Literal) (b : Bool) → 0 < length xs → x ≡ get_or xs 0 x
    → b ≡ nat_lt 0 (nat_of s (take (length xs - 1) (drop 1 xs))) → (lit_value s x || b) ≡ nat_lt 0 (nat_of s xs)
some_digit_turn s xs x b some at e =
    ap (λ v. lit_value s x || v) (e ∙ ap (λ l. nat_lt 0 (nat_of s l)) (numbers.tail_is xs))
    ∙ some_cases (lit_value s x) (nat_of s (drop 1 xs)) (nat_of s xs) (numbers.nat_of_uncons s xs x some at)

pub some_digit_none : (s : ℕ → Bool) (xs : List Literal) (l truth : Literal) → length xs ≡ 0 → l ≡ opposite truth
    → lit_value s truth ≡ true → lit_value s l ≡ nat_lt 0 (nat_of s xs)
unfolding nat_of
some_digit_none s [] l truth h z t = numbers.negated_truth s l truth z t
some_digit_none s (x ∷ xs) l truth h z t = absurd (omega arith)

at_least : (q h v : ℕ) → q * h ≤ v → v < q * h + q → nat_lt 0 h ≡ nat_le q v
at_least q zero v le lt = grind (arith, nat_tests)
at_least q (suc h) v le lt = let more : q * suc h ≡ q * h + q = omega arith in grind (arith, nat_tests)

-- the digits past the first n, as the code slices them, are a number other than 0 where the whole is at least 2^n
pub exceeds_turn : (s : ℕ → Bool) (ls : List Literal) (m n : ℕ) → m ≡ min (length ls) n
    → nat_lt 0 (nat_of s (take (length ls - m) (drop m ls))) ≡ nat_le (2 ^ n) (nat_of s ls)
unfolding nat_of
exceeds_turn s ls m n e =
    ap (λ l. nat_lt 0 (nat_of s l)) (take_all (length ls - m) (drop m ls) (rw length-drop (omega arith)))
    ∙ ⊎_elim
    (λ lt.
    let small : nat_of s ls < 2 ^ n =
    below_power (nat_of s ls) (length ls) n (numbers.nat_of_below s ls) (omega arith) in
    ap (λ l. nat_lt 0 (nat_of s l)) (drop_all m ls (omega arith))
    ∙ at_least (2 ^ n) 0 (nat_of s ls) (omega arith) (omega arith))
    (λ ge.
    let parts = numbers.nat_of_parts s n ls ge in
    ap (λ k. nat_lt 0 (nat_of s (drop k ls))) (omega arith)
    ∙ at_least (2 ^ n) (nat_of s (drop n ls)) (nat_of s ls) (omega (arith, parts))
    (omega (arith, parts, numbers.nat_of_first s ls n ge)))
    (cases_lt (length ls) n)
