-- What counts tell of the items that are counted.
use Rattle.std.proofs.Common.{◌≡◌, ◌<◌, ◌+◌, ℕ, zero, suc, Bool, true, false, cond, List, [], ◌∷◌, count_by, refl, ap}
use Rattle.std.proofs.Common.{◌∙◌, sym, arith}
use Rattle.std.specs.Prelude.{Some, slice_get}
use Rattle.std.proofs.lemmas.List.Sums.{sum_by-cons}
use Rattle.std.proofs.lemmas.Option.{same_Some, slice_get_within}

module _ {A : Type 0} (test : A → Bool) where
  -- one that passes the test
  pub record HasOne (xs : List A) : Type 0 where
    pub place : ℕ
    pub item : A
    pub here : slice_get xs place ≡ Some item
    pub passes : test item ≡ true

  pub first_of : (x : A) (xs : List A) → count_by test (x ∷ xs) ≡ cond (test x) 1 0 + count_by test xs
  first_of x xs = sum_by-cons (λ y. cond (test y) 1 0) x xs

  later : (x : A) (xs : List A) → HasOne xs → HasOne (x ∷ xs)
  later x xs one = record { place = suc one.place; item = one.item; here = one.here; passes = one.passes }

  -- where some are counted, there is one
  pub some_counted : (xs : List A) → 0 < count_by test xs → HasOne xs
  some_counted [] some = absurd (omega (arith, some))
  some_counted (x ∷ xs) some = by (test x) refl (λ more. some_counted xs more)
    where
      by : (b : Bool) → test x ≡ b → (0 < count_by test xs → HasOne xs) → HasOne (x ∷ xs)
      by true passes rest = record { place = 0; item = x; here = refl; passes = passes }
      by false fails rest =
          let same : count_by test (x ∷ xs) ≡ 0 + count_by test xs =
          first_of x xs ∙ ap (λ b. cond b 1 0 + count_by test xs) fails in
          later x xs (rest (omega (arith, some, same)))

  -- where none is counted, none passes
  pub none_counted : (xs : List A) → count_by test xs ≡ 0 → (i : ℕ) (x : A) → slice_get xs i ≡ Some x → test x ≡ false
  none_counted [] none i x at = absurd (omega (arith, slice_get_within [] i x at))
  none_counted (y ∷ xs) none zero x at =
      let same : y ≡ x = same_Some _ _ at in by (test y) refl same
    where
      by : (b : Bool) → test y ≡ b → y ≡ x → test x ≡ false
      by false fails same = ap test (sym same) ∙ fails
      by true passes same =
          let one : count_by test (y ∷ xs) ≡ 1 + count_by test xs =
          first_of y xs ∙ ap (λ b. cond b 1 0 + count_by test xs) passes in absurd (omega (arith, one, none))
  none_counted (y ∷ xs) none (suc i) x at =
      let more = first_of y xs in none_counted xs (omega (arith, more, none)) i x at

-- where two tests agree on the first item, and count as many of the others, they count as many
pub same_count : {A B : Type 0} (s : A → Bool) (t : B → Bool) (x : A) (xs : List A) (y : B) (ys : List B) → s x ≡ t y
    → count_by s xs ≡ count_by t ys → count_by s (x ∷ xs) ≡ count_by t (y ∷ ys)
same_count s t x xs y ys first rest =
    first_of s x xs ∙ ap (λ b. cond b 1 0 + count_by s xs) first ∙ ap (λ n. cond (t y) 1 0 + n) rest
    ∙ sym (first_of t y ys)
