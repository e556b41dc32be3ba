-- The constructor of a number among those of a node.
use Rattle.std.proofs.Common.{◌≡◌, ℕ, zero, suc, ◌<◌, Bool, true, false, nat_eq, eq-eqb, if◌then◌else◌, List, [], ◌∷◌}
use Rattle.std.proofs.Common.{Some, refl, sym, ap, ◌∙◌, arith, slice_get}
use Rattle.std.proofs.lemmas.Bool.{eqb-true, ne_eqb}
use Rattle.std.proofs.lemmas.Option.{same_Some}
use Rattle.pp_bounded_trees.specs.declared.arena.Alternative.{Alternative}
use Rattle.pp_bounded_trees.specs.Alternatives.{IsPlaceOf, found}

-- where the first of the number stands, it is found
pub found_at : (c : ℕ) (xs : List Alternative) (p : ℕ) → IsPlaceOf c xs p → found c xs ≡ slice_get xs p
found_at c [] p is = refl
found_at c (x ∷ xs) zero is =
    ap (λ (b : Bool). if b then Some x else found c xs) (eq-eqb x.ctor.0 c (is.here x refl))
found_at c (x ∷ xs) (suc p) is =
    ap (λ (b : Bool). if b then Some x else found c xs) (ne_eqb x.ctor.0 c (is.before 0 x (omega arith) refl))
    ∙ found_at c xs p (record {
      most = let m = is.most in omega arith;
      before = λ j y lt at. is.before (suc j) y (omega arith) at;
      here = λ y at. is.here y at;
    })

-- the place of what is found
pub record IsFound (c : ℕ) (xs : List Alternative) (y : Alternative) : Type 0 where
  pub place : ℕ
  pub at : slice_get xs place ≡ Some y
  pub ctor : y.ctor.0 ≡ c

pub found_some : (c : ℕ) (xs : List Alternative) (y : Alternative) → found c xs ≡ Some y → IsFound c xs y
found_some c [] y e = cc
found_some c (x ∷ xs) y e = step (nat_eq x.ctor.0 c) refl (λ f. found_some c xs y f) e
  where
    step : (b : Bool) → nat_eq x.ctor.0 c ≡ b → (found c xs ≡ Some y → IsFound c xs y)
        → (if b then Some x else found c xs) ≡ Some y → IsFound c (x ∷ xs) y
    step true e rest g = record {
      place = 0;
      at = g;
      ctor = ap (λ (z : Alternative). z.ctor.0) (same_Some y x (sym g)) ∙ eqb-true x.ctor.0 c e;
    }
    step false e rest g = let r = rest g in record { place = suc r.place; at = r.at; ctor = r.ctor }

-- in a list in order of the numbers, each is found
pub found_has : (c : ℕ) (xs : List Alternative) (j : ℕ) (y : Alternative)
    → ((i k : ℕ) (y z : Alternative) → i < k → slice_get xs i ≡ Some y → slice_get xs k ≡ Some z → y.ctor.0 < z.ctor.0)
    → slice_get xs j ≡ Some y → y.ctor.0 ≡ c → found c xs ≡ Some y
found_has c [] j y order at is = cc
found_has c (x ∷ xs) zero y order at is =
    ap (λ (b : Bool). if b then Some x else found c xs)
    (eq-eqb x.ctor.0 c (ap (λ (z : Alternative). z.ctor.0) (same_Some x y at) ∙ is))
    ∙ at
found_has c (x ∷ xs) (suc j) y order at is =
    let less = order 0 (suc j) x y (omega arith) refl at in
    ap (λ (b : Bool). if b then Some x else found c xs) (ne_eqb x.ctor.0 c (λ e. omega arith))
    ∙ found_has c xs j y (λ i k y z lt one other. order (suc i) (suc k) y z (omega arith) one other) at is

-- in a list that is the same
pub found_in : (xs ys : List Alternative) (c p : ℕ) → ys ≡ xs → IsPlaceOf c ys p → found c xs ≡ slice_get ys p
found_in xs ys c p same is = ap (found c) (sym same) ∙ found_at c ys p is
