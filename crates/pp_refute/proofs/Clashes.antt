-- The loop that looks for the one clash.
use Rattle.std.proofs.Common.{ℕ, ◌+◌, ◌≡◌, ◌<◌, Bool, true, false, cond, List, [], ◌∷◌, ◌++◌, Option, Some, None, sym}
use Rattle.std.proofs.Common.{ap, ◌∙◌, take, drop, length, get_or}
use Rattle.std.specs.Prelude.{filter, is_some}
use Rattle.std.specs.Option.{option_to_list}
use Rattle.std.proofs.lemmas.List.Elements.{filter-append, filter_more}
use Rattle.std.proofs.lemmas.List.{take-append-drop}
use Rattle.pp_clause.specs.Literal.{Literal}
use Rattle.pp_clause.specs.Derivation.{only_item}

two_items : (a b : Literal) (rest xs : List Literal) → xs ≡ a ∷ (b ∷ rest) → only_item xs ≡ None
two_items a b rest xs e = ap only_item e

-- one more literal that passes the test
one_more : (p : Literal → Bool) (ys : List Literal) (i : ℕ) (x : Literal) → i < length ys → x ≡ get_or ys i x
    → (b : Bool) → p x ≡ b → filter p (take (i + 1) ys) ≡ filter p (take i ys) ++ cond b (x ∷ []) []
one_more p ys i x lt is b h =
    filter_more p ys i x lt ∙ ap (λ (z : Literal). filter p (take i ys) ++ cond (p z) (z ∷ []) []) (sym is)
    ∙ ap (λ (q : Bool). filter p (take i ys) ++ cond q (x ∷ []) []) h

pub found_second : (p : Literal → Bool) (ys : List Literal) (i : ℕ) (x : Literal) (o : Option Literal) → i < length ys
    → x ≡ get_or ys i x → p x ≡ true → is_some o ≡ true → filter p (take i ys) ≡ option_to_list o
    → only_item (filter p ys) ≡ None
found_second p ys i x None lt is h s e = absurd (let f : false ≡ true = s in cc)
found_second p ys i x (Some a) lt is h s e =
    let both : filter p (take (i + 1) ys) ≡ a ∷ (x ∷ []) =
    one_more p ys i x lt is true h ∙ ap (λ (z : List Literal). z ++ x ∷ []) e in
    let split : filter p ys ≡ filter p (take (i + 1) ys) ++ filter p (drop (i + 1) ys) =
    ap (filter p) (sym (take-append-drop (i + 1) ys)) ∙ filter-append p (take (i + 1) ys) (drop (i + 1) ys) in
    two_items a x (filter p (drop (i + 1) ys)) (filter p ys)
    (split ∙ ap (λ (z : List Literal). z ++ filter p (drop (i + 1) ys)) both)
