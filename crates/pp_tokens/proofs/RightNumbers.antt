-- Numbers are right.
use Rattle.std.proofs.Common.{ℕ, zero, suc, ◌≡◌, ◌+◌, ◌≤◌, ◌⊎◌, inl, inr, List, [], ◌∷◌, take, drop, length}
use Rattle.std.proofs.Common.{length-take-le, refl, sym, ap, ◌∙◌, subst, arith, Bool, true, not, Some}
use Rattle.std.specs.Prelude.{◌&&◌, ◌||◌, ◌==◌, nat_lt, nat_le}
use Rattle.std.specs.List.{prefix_len}
use Rattle.std.specs.Char.{is_ascii_digit, is_ascii_hexdigit}
use Rattle.pp_tokens.specs.declared.token.TokenKind.TheVariants.{Number, Hex}
use Rattle.pp_tokens.specs.declared.front.Fault.TheVariants.{BadNumber}
use Rattle.pp_tokens.specs.declared.front.Front.TheVariants.{Takes, Bad}
use Rattle.pp_tokens.specs.Characters.{goes_on_with, goes_on}
use Rattle.pp_tokens.specs.Numbers.{value, is_end, is_hexadecimal, decimal, hexadecimal, number_front}
use Rattle.pp_tokens.specs.Layout.{IsHexadecimal}
use Rattle.pp_tokens.proofs.Booleans.{and_left, and_right, not_false, not_both, same_number, at_most, not_above, one_of}
use Rattle.pp_tokens.proofs.Longest.{longest_front, some_pass}
use Rattle.pp_tokens.proofs.Right.{IsRight, by_test}

goes_on_taken : (p : ℕ → Bool) (c : ℕ) (cs : List ℕ) (n : ℕ) → 1 ≤ n → goes_on_with p (take n (c ∷ cs)) ≡ p c
goes_on_taken p c cs zero some = absurd (omega arith)
goes_on_taken p c cs (suc n) some = refl

decimal_right : (c : ℕ) (cs : List ℕ) → is_ascii_digit c ≡ true → IsRight (decimal (c ∷ cs)) (c ∷ cs)
decimal_right c cs digit =
    let xs = c ∷ cs in
    let n = prefix_len is_ascii_digit (c ∷ cs) in
    let v = value 10 (take n (c ∷ cs)) in
    let f = longest_front is_ascii_digit (c ∷ cs) in
    let some : 1 ≤ n = omega (arith, some_pass is_ascii_digit c cs digit) in
    let leading = goes_on 48 (c ∷ cs) && nat_lt 1 n in
    let ending = is_end (drop n (c ∷ cs)) in
    by_test ((not leading && ending) && nat_le v 2147483648) (Takes (Some (Number v)) n) (Bad BadNumber) (c ∷ cs)
    (λ h.
    let both = and_left (not leading && ending) (nat_le v 2147483648) h in
    let none = not_false leading (and_left (not leading) ending both) in
    let len : length (take n (c ∷ cs)) ≡ n = length-take-le n (c ∷ cs) f.within in
    record {
      right = record {
        some = omega arith;
        digits = f.all;
        no_leading_zero = λ g.
            let one : n ≤ 1 = not_above 1 n
            (not_both (goes_on 48 (c ∷ cs)) (nat_lt 1 n) none
            (sym (goes_on_taken (λ (x : ℕ). x == 48) c cs n some) ∙ g)) in
            omega arith;
        value_is = refl;
        small = at_most v 2147483648 (and_right (not leading && ending) (nat_le v 2147483648) h);
        ends = and_right (not leading) ending both;
      };
      some = some;
      within = f.within;
    })
    (λ h. tt)

two_more : (n : ℕ) → 2 + n ≡ suc (suc n)
two_more n = omega arith

mark_right : (a b : ℕ) (ds : List ℕ) → (a == 48) ≡ true → ((b == 120) || (b == 88)) ≡ true
    → (a ∷ b ∷ ds ≡ 48 ∷ 120 ∷ ds) ⊎ (a ∷ b ∷ ds ≡ 48 ∷ 88 ∷ ds)
mark_right a b ds h g =
    let e = ap (λ (x : ℕ). x ∷ b ∷ ds) (same_number a 48 h) in
    elim (one_of (b == 120) (b == 88) g) [
      | inl k ↦ inl (e ∙ ap (λ (x : ℕ). 48 ∷ x ∷ ds) (same_number b 120 k))
      | inr k ↦ inr (e ∙ ap (λ (x : ℕ). 48 ∷ x ∷ ds) (same_number b 88 k))
    ]

hexadecimal_right : (xs : List ℕ) → is_hexadecimal xs ≡ true → IsRight (hexadecimal xs) xs
hexadecimal_right [] h = cc
hexadecimal_right (a ∷ []) h = cc
hexadecimal_right (a ∷ b ∷ []) h = cc
hexadecimal_right (a ∷ b ∷ d ∷ r) h =
    let ds = d ∷ r in
    let opening = (a == 48) && ((b == 120) || (b == 88)) in
    let n = prefix_len is_ascii_hexdigit (d ∷ r) in
    let v = value 16 (take n (d ∷ r)) in
    let f = longest_front is_ascii_hexdigit (d ∷ r) in
    let some : 1 ≤ n = omega (arith, some_pass is_ascii_hexdigit d r (and_right opening (is_ascii_hexdigit d) h)) in
    let first = and_left opening (is_ascii_hexdigit d) h in
    let ending = is_end (drop n (d ∷ r)) in
    let len : length (take n (d ∷ r)) ≡ n = length-take-le n (d ∷ r) f.within in
    by_test (ending && nat_le v 0xFFFFFFFF) (Takes (Some (Hex v)) (2 + n)) (Bad BadNumber) (a ∷ b ∷ d ∷ r)
    (λ h.
    let P : ℕ → Type 0 = λ k. IsHexadecimal v (take k (a ∷ b ∷ d ∷ r)) (drop k (a ∷ b ∷ d ∷ r)) in
    record {
      right = subst P (sym (two_more n)) (record {
        opening = mark_right a b (take n (d ∷ r)) (and_left (a == 48) ((b == 120) || (b == 88)) first)
            (and_right (a == 48) ((b == 120) || (b == 88)) first);
        some = omega arith;
        digits = f.all;
        value_is = refl;
        small = at_most v 0xFFFFFFFF (and_right ending (nat_le v 0xFFFFFFFF) h);
        ends = and_left ending (nat_le v 0xFFFFFFFF) h;
      });
      some = omega arith;
      within = omega (arith, f.within);
    })
    (λ h. tt)

pub number_right : (c : ℕ) (cs : List ℕ) → is_ascii_digit c ≡ true → IsRight (number_front (c ∷ cs)) (c ∷ cs)
number_right c cs digit =
    by_test (is_hexadecimal (c ∷ cs)) (hexadecimal (c ∷ cs)) (decimal (c ∷ cs)) (c ∷ cs) (hexadecimal_right (c ∷ cs))
    (λ h. decimal_right c cs digit)
