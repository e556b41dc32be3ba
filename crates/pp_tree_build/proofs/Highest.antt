-- The greatest height of a list.
use Rattle.std.proofs.Common.{◌≡◌, ℕ, ◌+◌, ◌<◌, min, max, length, map, take, get_or, arith, List, [], ◌∷◌, ◌++◌}
use Rattle.std.proofs.Common.{ap, sym, ◌∙◌}
use Rattle.std.proofs.lemmas.List.{take_more, map-append}
use Rattle.pp_tree.specs.Height.{highest}

pub highest_append : {A : Type 0} (f : A → ℕ) (xs : List A) (x : A) → highest f (xs ++ x ∷ []) ≡ max (highest f xs)
    (f x)
highest_append f [] x = omega arith
highest_append f (y ∷ ys) x = let e = highest_append f ys x in omega arith

-- one more tree is looked at
pub highest_turn : {A B : Type 0} (f : A → ℕ) (t : B → A) (xs : List B) (i : ℕ) (x : B) (n m : ℕ) → i < length xs
    → x ≡ get_or xs i x → n ≡ min (highest f (map t (take i xs))) 65 → m ≡ min (f (t x)) 65
    → max n m ≡ min (highest f (map t (take (i + 1) xs))) 65
highest_turn f t xs i x n m below is_item old new =
    let more : highest f (map t (take (i + 1) xs)) ≡ max (highest f (map t (take i xs))) (f (t x)) =
    ap (λ ys. highest f (map t ys)) (take_more xs i x below) ∙ ap (highest f) (map-append t (take i xs) (get_or xs
    i x ∷ []))
    ∙ highest_append f (map t (take i xs)) (t (get_or xs i x)) ∙ ap (λ y. max (highest f (map t (take i xs))) (f (t
    y))) (sym is_item) in
    omega arith
