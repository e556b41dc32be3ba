-- A list that is part of another one, in order.
use Rattle.std.proofs.Common.{◌≡◌, ℕ, zero, suc, List, [], ◌∷◌, ◌++◌, All, Some, slice_get, refl, sym, ap, subst}
use Rattle.std.proofs.lemmas.List.Elements.{All-nil, All-cons}
use Rattle.std.proofs.lemmas.Option.{same_Some}
use Rattle.pp_declared.proofs.Steps.{all_first, all_rest}

module _ {X : Type 0} where
  pub data IsPart : List X → List X → Type 0 where
    none_left : IsPart [] []
    left_out : {xs ys : List X} (y : X) → IsPart xs ys → IsPart xs (y ∷ ys)
    kept : {xs ys : List X} (x : X) → IsPart xs ys → IsPart (x ∷ xs) (x ∷ ys)

  pub whole : (xs : List X) → IsPart xs xs
  whole [] = none_left
  whole (x ∷ xs) = kept x (whole xs)

  pub nothing_of : (xs : List X) → IsPart [] xs
  nothing_of [] = none_left
  nothing_of (x ∷ xs) = left_out x (nothing_of xs)

  pub joins : {xs ys vs ws : List X} → IsPart xs ys → IsPart vs ws → IsPart (xs ++ vs) (ys ++ ws)
  joins none_left q = q
  joins (left_out y p) q = left_out y (joins p q)
  joins (kept x p) q = kept x (joins p q)

  -- where an element of the part stands in the whole
  record IsAt (ys : List X) (x : X) : Type 0 where
    place : ℕ
    there : slice_get ys place ≡ Some x

  stands : {xs ys : List X} → IsPart xs ys → (i : ℕ) (x : X) → slice_get xs i ≡ Some x → IsAt ys x
  stands none_left i x e = cc
  stands (left_out y p) i x e = let q = stands p i x e in record { place = suc q.place; there = q.there }
  stands (kept y p) zero x e = record { place = zero; there = e }
  stands (kept y p) (suc i) x e = let q = stands p i x e in record { place = suc q.place; there = q.there }

  abbrev pub Once : List X → Type 0
  Once xs = (i j : ℕ) (x : X) → slice_get xs i ≡ Some x → slice_get xs j ≡ Some x → i ≡ j

  once_rest : (y : X) (ys : List X) → Once (y ∷ ys) → Once ys
  once_rest y ys h i j x e f = let g : suc i ≡ suc j = h (suc i) (suc j) x e f in cc

  not_again : (y : X) (ys : List X) → Once (y ∷ ys) → IsAt ys y → ⊥
  not_again y ys h s = let g : zero ≡ suc s.place = h zero (suc s.place) y refl s.there in cc

  pub part_once : {xs ys : List X} → IsPart xs ys → Once ys → Once xs
  part_once none_left h i j x e f = cc
  part_once (left_out {xs} {ys} y p) h i j x e f = part_once p (once_rest y ys h) i j x e f
  part_once (kept {xs} {ys} y p) h zero zero x e f = refl
  part_once (kept {xs} {ys} y p) h zero (suc j) x e f =
      absurd (not_again y ys h (subst (IsAt ys) (sym (same_Some y x e)) (stands p j x f)))
  part_once (kept {xs} {ys} y p) h (suc i) zero x e f =
      absurd (not_again y ys h (subst (IsAt ys) (sym (same_Some y x f)) (stands p i x e)))
  part_once (kept {xs} {ys} y p) h (suc i) (suc j) x e f = ap suc (part_once p (once_rest y ys h) i j x e f)

  pub part_all : (P : X → Type 0) {xs ys : List X} → IsPart xs ys → All P ys → All P xs
  part_all P none_left h = All-nil P
  part_all P (left_out {xs} {ys} y p) h = part_all P p (all_rest P y ys h)
  part_all P (kept {xs} {ys} y p) h = All-cons P y xs (all_first P y ys h) (part_all P p (all_rest P y ys h))
