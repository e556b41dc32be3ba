-- `equal` decides equality.
use Rattle.std.proofs.Common.{◌≡◌, Bool, true, false, List, [], ◌∷◌, map, refl, sym, ap, ◌∙◌, subst, arith}
use Rattle.std.proofs.Common.{eq-eqb}
use Rattle.std.specs.Prelude.{IsTrue, ◌↔◌}
use Rattle.std.proofs.lemmas.Bool.{and_parts, eqb-true}
use Rattle.pp_typed.specs.declared.sort.GenericSort.{GenericSort}
use Rattle.pp_typed.specs.declared.sort.GenericSort.TheOpen as layer
use Rattle.pp_typed.specs.declared.sort.GenericSort.TheViews.{out-GenericSort, roll-GenericSort, out-roll-GenericSort}
use Rattle.pp_typed.specs.declared.sort.GenericSort.TheViews.{roll-out-GenericSort}
use Rattle.pp_typed.specs.declared.sort.GenericSort.TheFolds.{fold-roll-GenericSort, ind-GenericSort, map-GenericSort}
use Rattle.pp_typed.specs.Equal.{equal, equal_step, equal_layer, pass_all}

abbrev Sure : GenericSort → Type 0
Sure v = (w : GenericSort) → (equal v w ≡ true → v ≡ w) × (equal v v ≡ true)

abbrev S : Type 0
S = (v : GenericSort) × Sure v

all_same : (ys : List S) (ws : List GenericSort) → pass_all (map equal (map (λ z. z.0) ys)) ws ≡ true
    → map (λ z. z.0) ys ≡ ws
all_same [] [] h = refl
all_same [] (w ∷ ws) h = cc
all_same (y ∷ ys) [] h = cc
all_same (y ∷ ys) (w ∷ ws) h =
    let p = and_parts _ _ h in
    let a = (y.1 w).0 p.0 in let b = all_same ys ws p.1 in cc

level : (y : layer.GenericSort-F S) (o : layer.GenericSort-F GenericSort)
    → equal_layer (map-GenericSort GenericSort (GenericSort → Bool) equal (map-GenericSort S GenericSort (λ z. z.0)
    y)) o ≡ true → map-GenericSort S GenericSort (λ z. z.0) y ≡ o
level layer.Int layer.Int h = refl
level layer.Bool layer.Bool h = refl
level (layer.Param i) (layer.Param j) h = ap layer.Param (eqb-true i j h)
level (layer.Root c ys) (layer.Root d ws) h =
    let p = and_parts _ _ h in
    let same = eqb-true c d p.0 in
    let fields = all_same ys ws p.1 in cc
level layer.Int layer.Bool h = cc
level layer.Int (layer.Param j) h = cc
level layer.Int (layer.Root d ws) h = cc
level layer.Bool layer.Int h = cc
level layer.Bool (layer.Param j) h = cc
level layer.Bool (layer.Root d ws) h = cc
level (layer.Param i) layer.Int h = cc
level (layer.Param i) layer.Bool h = cc
level (layer.Param i) (layer.Root d ws) h = cc
level (layer.Root c ys) layer.Int h = cc
level (layer.Root c ys) layer.Bool h = cc
level (layer.Root c ys) (layer.Param j) h = cc

all_self : (ys : List S) → pass_all (map equal (map (λ z. z.0) ys)) (map (λ z. z.0) ys) ≡ true
all_self [] = refl
all_self (y ∷ ys) = let a = (y.1 y.0).1 in let b = all_self ys in grind (arith, a, b)

level_self : (y : layer.GenericSort-F S) → equal_layer (map-GenericSort GenericSort (GenericSort
    → Bool) equal (map-GenericSort S GenericSort (λ z. z.0) y)) (map-GenericSort S GenericSort (λ z. z.0) y) ≡ true
level_self layer.Int = refl
level_self layer.Bool = refl
level_self (layer.Param i) = eq-eqb i i refl
level_self (layer.Root c ys) = let a = eq-eqb c c refl in let b = all_self ys in grind (arith, a, b)

at_level : (y : layer.GenericSort-F S) → Sure (roll-GenericSort (map-GenericSort S GenericSort (λ z. z.0) y))
at_level y w =
    let z = map-GenericSort S GenericSort (λ v. v.0) y in
    let one = fold-roll-GenericSort (GenericSort → Bool) equal_step z in (
      λ h.
          let e = level y (out-GenericSort w) (sym (ap (λ f. f w) one) ∙ h) in
          ap roll-GenericSort e ∙ roll-out-GenericSort w,
      ap (λ f. f (roll-GenericSort z)) one ∙ ap (equal_layer (map-GenericSort GenericSort (GenericSort
          → Bool) equal z)) (out-roll-GenericSort z) ∙ level_self y,
    )

sure : (v : GenericSort) → Sure v
sure = ind-GenericSort Sure (λ x y is. subst (λ z. Sure (roll-GenericSort z)) is (at_level y))

pub equal_same : (v w : GenericSort) → equal v w ≡ true → v ≡ w
equal_same v w = (sure v w).0

pub equal_self : (v : GenericSort) → equal v v ≡ true
equal_self v = (sure v v).1

agreed : (b c : Bool) → (b ≡ true → c ≡ true) → (c ≡ true → b ≡ true) → b ≡ c
agreed true c there back = sym (there refl)
agreed false true there back = back refl
agreed false false there back = refl

pub agree : (b : Bool) (v w : GenericSort) → IsTrue b ↔ (v ≡ w) → b ≡ equal v w
agree b v w h = agreed b (equal v w) (λ t. subst (λ x. equal v x ≡ true) (h.0 t) (equal_self v)) (λ t. h.1
    (equal_same v w t))
