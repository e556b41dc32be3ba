-- The binary digits of a mask.
use Rattle.std.proofs.Common.{◌≡◌, ◌∙◌, ℕ, zero, suc, ◌+◌, ◌-◌, ◌*◌, ◌/◌, ◌%◌, ◌<◌, ◌≤◌, Bool, true, false, not, nat_eq}
use Rattle.std.proofs.Common.{if◌then◌else◌, List, [], ◌∷◌, Option, Some, None, slice_get, length, map, drop, drop-cons}
use Rattle.std.proofs.Common.{get_or, refl, sym, ap, arith}
use Rattle.std.proofs.lemmas.List.{length-drop, length-map}
use Rattle.pp_inhabited.specs.Table.{mask_of, is_dead}
use Rattle.pp_typed.specs.declared.sort.GenericSort.{GenericSort}

abbrev pub dead_at : Option Bool → Bool
dead_at None = false
dead_at (Some b) = not b

pub none_dead : (i : ℕ) → is_dead 0 i ≡ false
none_dead zero = refl
none_dead (suc i) = none_dead i

low_digit : (b : Bool) (k : ℕ) → nat_eq (((if b then 0 else 1) + 2 * k) % 2) 1 ≡ not b
low_digit true k = let e : (0 + 2 * k) % 2 ≡ 0 = omega arith in ap (λ n. nat_eq n 1) e
low_digit false k = let e : (1 + 2 * k) % 2 ≡ 1 = omega arith in ap (λ n. nat_eq n 1) e

high_digits : (b : Bool) (k : ℕ) → ((if b then 0 else 1) + 2 * k) / 2 ≡ k
high_digits true k = omega arith
high_digits false k = omega arith

pub mask_digit : (bs : List Bool) (i : ℕ) → is_dead (mask_of bs) i ≡ dead_at (slice_get bs i)
mask_digit [] i = none_dead i
mask_digit (b ∷ bs) zero = low_digit b (mask_of bs)
mask_digit (b ∷ bs) (suc i) = ap (λ n. is_dead n i) (high_digits b (mask_of bs)) ∙ mask_digit bs i

one_more : (b : Bool) (k n : ℕ) → k < n → (if b then 0 else 1) + 2 * k < 2 * n
one_more true k n lt = omega arith
one_more false k n lt = omega arith

pub mask_small : (bs : List Bool) → length bs ≤ 4 → mask_of bs < 16
mask_small [] le = omega arith
mask_small (a ∷ []) le = let x = one_more a 0 8 (omega arith) in omega arith
mask_small (a ∷ b ∷ []) le = let y = one_more b 0 4 (omega arith) in let x = one_more a (mask_of (b ∷ [])) 8 y in
    omega arith
mask_small (a ∷ b ∷ c ∷ []) le =
    let z = one_more c 0 2 (omega arith) in let y = one_more b (mask_of (c ∷ [])) 4 z in let x =
    one_more a (mask_of (b ∷ c ∷ [])) 8 y in omega arith
mask_small (a ∷ b ∷ c ∷ d ∷ []) le =
    let w = one_more d 0 1 (omega arith) in let z = one_more c (mask_of (d ∷ [])) 2 w in let y =
    one_more b (mask_of (c ∷ d ∷ [])) 4 z in
    let x = one_more a (mask_of (b ∷ c ∷ d ∷ [])) 8 y in omega arith
mask_small (a ∷ b ∷ c ∷ d ∷ e ∷ es) le = absurd (omega arith)

dead_step : (m n : ℕ) → 0 < n → is_dead m n ≡ is_dead (m / 2) (n - 1)
dead_step m zero lt = absurd (omega arith)
dead_step m (suc n) lt = let e : n ≡ suc n - 1 = omega arith in ap (is_dead (m / 2)) e

-- a turn of the loop that drops low digits
pub dead_turn : (m param done : ℕ) → done < param → is_dead m (param - done) ≡ is_dead (m / 2) (param - (done + 1))
dead_turn m param done lt =
    let e : param - done - 1 ≡ param - (done + 1) = omega arith in dead_step m (param - done) (omega arith)
    ∙ ap (is_dead (m / 2)) e

module _ (f : GenericSort → Bool) (parts : List GenericSort) where
  -- the mask of at most four sorts is small
  pub mask_bound : (i digits : ℕ) → length parts ≤ 4 → digits ≡ mask_of (map f (drop i parts)) → digits < 16
  mask_bound i digits le e =
      let small = mask_small (map f (drop i parts)) (omega (arith, length-map (drop i parts) f, length-drop i parts))
      in omega arith

  -- a turn of the loop that adds low digits
  pub mask_turn : (i digits low : ℕ) (d : GenericSort) → 0 < i → i ≤ length parts
      → digits ≡ mask_of (map f (drop i parts))
      → low ≡ (if f (get_or parts (i - 1) d) then 0 else 1) → low + 2 * digits ≡ mask_of (map f (drop (i - 1) parts))
  mask_turn i digits low d pos le e is =
      let next : suc (i - 1) ≡ i = omega arith in
      let split : drop (i - 1) parts ≡ get_or parts (i - 1) d ∷ drop i parts =
      drop-cons parts (i - 1) d (omega arith) ∙ ap (λ k. get_or parts (i - 1) d ∷ drop k parts) next in
      ap (λ n. low + 2 * n) e ∙ ap (λ n. n + 2 * mask_of (map f (drop i parts))) is
      ∙ ap (λ l. mask_of (map f l)) (sym split)
