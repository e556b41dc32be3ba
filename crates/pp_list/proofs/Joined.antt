-- Lists one after another, piece by piece.
use Rattle.std.proofs.Common.{◌≡◌, ℕ, ◌+◌, ◌<◌, List, [], ◌∷◌, ◌++◌, length, get_or, map, take, sym, ap, ◌∙◌}
use Rattle.std.proofs.Common.{append_assoc}
use Rattle.std.proofs.lemmas.List.{append-nil, map_push, take_more}
use Rattle.pp_list.specs.Joined.{joined}

-- two parts, one after the other
pub two_parts : {A : Type 0} (start a b : List A) {mid end whole : List A} → mid ≡ start ++ a → end ≡ mid ++ b
    → whole ≡ a ++ b → end ≡ start ++ whole
two_parts start a b p q r = q ∙ ap (λ l. l ++ b) p ∙ append_assoc start a b ∙ ap (λ l. start ++ l) (sym r)

pub joined_push : {A : Type 0} (xss : List (List A)) (xs : List A) → joined (xss ++ xs ∷ []) ≡ joined xss ++ xs
joined_push [] xs = append-nil xs
joined_push (ys ∷ yss) xs = ap (λ l. ys ++ l) (joined_push yss xs) ∙ sym (append_assoc ys (joined yss) xs)

-- the parts of one more item
pub parts_more : {A B : Type 0} (f : A → List B) (xs : List A) (i : ℕ) (x : A) → i < length xs → x ≡ get_or xs i x
    → joined (map f (take (i + 1) xs)) ≡ joined (map f (take i xs)) ++ f x
parts_more f xs i x lt is =
    ap (λ l. joined (map f l)) (take_more xs i x lt) ∙ ap joined (map_push f (take i xs) (get_or xs i x))
    ∙ joined_push (map f (take i xs)) (f (get_or xs i x)) ∙ ap (λ y. joined (map f (take i xs)) ++ f y) (sym is)

-- where they stand behind something
pub one_more : {A B : Type 0} (f : A → List B) (xs : List A) (i : ℕ) (x : A) (start : List B) {mid end : List B}
    → i < length xs → x ≡ get_or xs i x → mid ≡ start ++ joined (map f (take i xs)) → end ≡ mid ++ f x
    → end ≡ start ++ joined (map f (take (i + 1) xs))
one_more f xs i x start lt is p q =
    two_parts start (joined (map f (take i xs))) (f x) p q (parts_more f xs i x lt is)
