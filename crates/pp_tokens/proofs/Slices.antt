-- A character, and the slice behind it.
use Rattle.std.proofs.Common.{ℕ, ◌≡◌, ◌+◌, ◌-◌, ◌<◌, ◌≤◌, List, ◌∷◌, get_or, take, take_all, drop, length, length-drop}
use Rattle.std.proofs.Common.{sym, ap, ◌∙◌, arith}
use Rattle.std.proofs.lemmas.List.{drop_more}

pub split_here : (cs : List ℕ) (i x : ℕ) → i < length cs → x ≡ get_or cs i x
    → drop i cs ≡ x ∷ take (length cs - (i + 1)) (drop (i + 1) cs)
split_here cs i x lt is =
    let n : length (drop (i + 1) cs) ≤ length cs - (i + 1) = omega (arith, length-drop (i + 1) cs) in
    drop_more cs i x lt ∙ ap (λ (y : ℕ). y ∷ drop (i + 1) cs) (sym is)
    ∙ ap (λ (l : List ℕ). x ∷ l) (sym (take_all _ _ n))
