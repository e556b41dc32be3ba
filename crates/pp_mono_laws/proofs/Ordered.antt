-- Lists in a strict order that have the same elements are the same.
use Rattle.std.proofs.Common.{◌≡◌, ◌⊎◌, ◌<◌, ℕ, zero, suc, List, [], ◌∷◌, length, Contains, Some, slice_get, refl}
use Rattle.std.proofs.Common.{slice_index_or, sym, ap, ◌∙◌, subst, inl, inr, ⊎_elim, arith}
use Rattle.std.proofs.lemmas.Option.{slice_get-get_or}
use Rattle.pp_instances.proofs.Kept.{nothing_in}

module _ {A : Type 0} where
  pub at_place : (xs : List A) (a : A) (has : Contains xs a) → slice_get xs has.0 ≡ Some a
  at_place xs a has = slice_get-get_or xs has.0 a has.1 ∙ ap Some has.2

  pub head_in : (x : A) (xs : List A) → Contains (x ∷ xs) x
  head_in x xs = (0, omega arith, refl)

  pub tail_in : (x : A) (xs : List A) (a : A) → Contains xs a → Contains (x ∷ xs) a
  tail_in x xs a has = let lt = has.1 in (suc has.0, omega arith, has.2)

  pub head_or_tail : (x : A) (xs : List A) (a : A) → Contains (x ∷ xs) a → (x ≡ a) ⊎ Contains xs a
  head_or_tail x xs a has = by has.0 has.1 has.2
    where
      by : (k : ℕ) → k < length (x ∷ xs) → slice_index_or (x ∷ xs) k a ≡ a → (x ≡ a) ⊎ Contains xs a
      by zero lt is = inl is
      by (suc k) lt is = inr (k, omega (arith, lt), is)

module _ {A : Type 0} (R : A → A → Type 0) (strict : (a : A) → R a a → ⊥)
    (through : (a b c : A) → R a b → R b c → R a c) where
  -- each element is before those behind it
  abbrev pub InOrder : List A → Type 0
  InOrder xs = (i j : ℕ) (a b : A) → i < j → slice_get xs i ≡ Some a → slice_get xs j ≡ Some b → R a b

  abbrev pub HasAll : List A → List A → Type 0
  HasAll ys xs = (a : A) → Contains xs a → Contains ys a

  tail_order : (x : A) (xs : List A) → InOrder (x ∷ xs) → InOrder xs
  tail_order x xs order i j a b lt there here = order (suc i) (suc j) a b (omega arith) there here

  head_first : (x : A) (xs : List A) → InOrder (x ∷ xs) → (a : A) → Contains xs a → R x a
  head_first x xs order a has = order 0 (suc has.0) x a (omega arith) refl (at_place xs a has)

  one_head : (x y : A) (xs ys : List A) → InOrder (x ∷ xs) → InOrder (y ∷ ys) → HasAll (y ∷ ys) (x ∷ xs)
      → HasAll (x ∷ xs) (y ∷ ys) → x ≡ y
  one_head x y xs ys p q there back =
      ⊎_elim (λ same. sym same)
      (λ behind. ⊎_elim (λ same. same)
      (λ before. absurd (strict x (through x y x (head_first x xs p y before) (head_first y ys q x behind))))
      (head_or_tail x xs y (back y (head_in y ys))))
      (head_or_tail y ys x (there x (head_in x xs)))

  tail_has : (x y : A) (xs ys : List A) → InOrder (x ∷ xs) → x ≡ y → HasAll (y ∷ ys) (x ∷ xs) → HasAll ys xs
  tail_has x y xs ys p same there a has =
      ⊎_elim (λ is. absurd (strict x (subst (λ z. R x z) (sym (same ∙ is)) (head_first x xs p a has))))
      (λ behind. behind) (head_or_tail y ys a (there a (tail_in x xs a has)))

  pub one_order : (xs ys : List A) → InOrder xs → InOrder ys → HasAll ys xs → HasAll xs ys → xs ≡ ys
  one_order [] [] p q there back = refl
  one_order [] (y ∷ ys) p q there back = absurd (nothing_in y (back y (head_in y ys)))
  one_order (x ∷ xs) [] p q there back = absurd (nothing_in x (there x (head_in x xs)))
  one_order (x ∷ xs) (y ∷ ys) p q there back =
      let same = one_head x y xs ys p q there back in
      ap (λ z. z ∷ xs) same
      ∙ ap (λ l. y ∷ l) (one_order xs ys (tail_order x xs p) (tail_order y ys q) (tail_has x y xs ys p same there)
      (tail_has y x ys xs q (sym same) back))
