-- The longest front that passes a test.
use Rattle.std.proofs.Common.{ℕ, suc, ◌≡◌, ◌+◌, ◌≤◌, List, [], ◌∷◌, take, drop, length, refl, ap, ◌∙◌, arith, Bool}
use Rattle.std.proofs.Common.{true, false, cond}
use Rattle.std.specs.List.{list_all, prefix_len}
use Rattle.pp_tokens.specs.Characters.{goes_on_with}
use Rattle.pp_tokens.proofs.Booleans.{and_both}

pub take_one_more : (n x : ℕ) (xs : List ℕ) → take (1 + n) (x ∷ xs) ≡ x ∷ take n xs
take_one_more n x xs = ap (λ (k : ℕ). take k (x ∷ xs)) (let e : 1 + n ≡ suc n = omega arith in e)

pub drop_one_more : (n x : ℕ) (xs : List ℕ) → drop (1 + n) (x ∷ xs) ≡ drop n xs
drop_one_more n x xs = ap (λ (k : ℕ). drop k (x ∷ xs)) (let e : 1 + n ≡ suc n = omega arith in e)

-- a record, so that antt infers its arguments
pub record IsFrontOf (p : ℕ → Bool) (xs : List ℕ) (n : ℕ) : Type 0 where
  pub all : list_all p (take n xs) ≡ true
  pub stops : goes_on_with p (drop n xs) ≡ false
  pub within : n ≤ length xs

one_more : (p : ℕ → Bool) (x : ℕ) (xs : List ℕ) (b : Bool) (n : ℕ) → p x ≡ b → IsFrontOf p xs n
    → IsFrontOf p (x ∷ xs) (cond b (1 + n) 0)
one_more p x xs true n e r = record {
  all = ap (list_all p) (take_one_more n x xs) ∙ and_both (p x) (list_all p (take n xs)) e r.all;
  stops = ap (goes_on_with p) (drop_one_more n x xs) ∙ r.stops;
  within = omega (arith, r.within);
}
one_more p x xs false n e r = record { all = refl; stops = e; within = omega arith }

pub longest_front : (p : ℕ → Bool) (xs : List ℕ) → IsFrontOf p xs (prefix_len p xs)
longest_front p [] = record { all = refl; stops = refl; within = omega arith }
longest_front p (x ∷ xs) = one_more p x xs (p x) (prefix_len p xs) refl (longest_front p xs)

-- where the first character passes, the front has one
pub some_pass : (p : ℕ → Bool) (x : ℕ) (xs : List ℕ) → p x ≡ true → prefix_len p (x ∷ xs) ≡ 1 + prefix_len p xs
some_pass p x xs e = ap (λ (b : Bool). cond b (1 + prefix_len p xs) 0) e
