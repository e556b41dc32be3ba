-- The equations of `height`, and cases of `IsBelow`.
use Rattle.std.proofs.Common.{◌≡◌, ℕ, ◌+◌, ◌<◌, max, List, [], ◌∷◌, ◌++◌, length, take, map, get_or, refl, sym, ap, ◌∙◌}
use Rattle.std.proofs.Common.{subst, arith, Contains, ⊎_elim, inl, inr, ◌⊎◌}
use Rattle.std.proofs.lemmas.List.{take_more}
use Rattle.std.proofs.lemmas.List.Elements.{Contains-push_cases, Contains-get_or}
use Rattle.pp_prog.specs.Values.{greatest, height_step, height, IsBelow, is_field, is_deeper}
use Rattle.pp_prog.specs.declared.id.CtorId.{CtorId}
use Rattle.pp_prog.specs.declared.value.Value.{Value}
use Rattle.pp_prog.specs.declared.value.Value.TheVariants.{Int, Bool, Tree, rolls-Tree, outs-Tree, rolls-Int}
use Rattle.pp_prog.specs.declared.value.Value.TheVariants.{rolls-Bool}
use Rattle.pp_prog.specs.declared.value.Value.TheOpen as layer
use Rattle.pp_prog.specs.declared.value.Value.TheViews.{out-Value}
use Rattle.pp_prog.specs.declared.value.Value.TheFolds.{fold-roll-Value}

pub height_of_int : (n : _) → height (Int n) ≡ 0
height_of_int n = ap height (sym (rolls-Int n)) ∙ fold-roll-Value ℕ height_step (layer.Int n)

pub height_of_bool : (b : _) → height (Bool b) ≡ 0
height_of_bool b = ap height (sym (rolls-Bool b)) ∙ fold-roll-Value ℕ height_step (layer.Bool b)

pub height_of_tree : (c : CtorId) (fields : List Value) → height (Tree c fields) ≡ greatest (map height fields) + 1
height_of_tree c fields = ap height (sym (rolls-Tree c fields)) ∙ fold-roll-Value ℕ height_step (layer.Tree c fields)

pub greatest_push : (ns : List ℕ) (n : ℕ) → greatest (ns ++ n ∷ []) ≡ max (greatest ns) n
greatest_push [] n = omega arith
greatest_push (m ∷ ns) n = omega (arith, greatest_push ns n)

pub heights_push : (vs : List Value) (v : Value)
    → greatest (map height (vs ++ v ∷ [])) ≡ max (greatest (map height vs)) (height v)
heights_push [] v = omega arith
heights_push (u ∷ vs) v = omega (arith, heights_push vs v)

pub same_ctor : (c d : CtorId) (fs gs : List Value) → Tree c fs ≡ Tree d gs → c ≡ d
same_ctor c d fs gs e = let o = sym (outs-Tree c fs) ∙ ap out-Value e ∙ outs-Tree d gs in cc

-- constructors of one number are the same
pub ctor_same : (c d : CtorId) → c.0 ≡ d.0 → c ≡ d
ctor_same c d e = let mk : ℕ → CtorId = λ n. record { 0 = n } in ap mk e

pub same_fields : (c d : CtorId) (fs gs : List Value) → Tree c fs ≡ Tree d gs → fs ≡ gs
same_fields c d fs gs e = let o = sym (outs-Tree c fs) ∙ ap out-Value e ∙ outs-Tree d gs in cc

-- what lies below a tree is a field of it, or below one
pub below_tree : (t u : Value) (c : CtorId) (fs : List Value) → u ≡ Tree c fs → IsBelow t u → (v : Value)
    × Contains fs v × ((t ≡ v) ⊎ IsBelow t v)
below_tree t u c fs e (is_field d gs f has) =
    let same = same_fields d c gs fs (sym f ∙ e) in (t, subst (λ l. Contains l t) same has, inl refl)
below_tree t u c fs e (is_deeper {v = v} d gs f has b) =
    let same = same_fields d c gs fs (sym f ∙ e) in (v, subst (λ l. Contains l v) same has, inr b)

-- none among the first i + 1, from the first i
pub none_more : (P : Value → Type 0) (vs : List Value) (i : ℕ) (x : Value) → i < length vs → x ≡ get_or vs i x → P x
    → ((v : Value) → Contains (take i vs) v → P v) → (v : Value) → Contains (take (i + 1) vs) v → P v
none_more P vs i x lt is px all v has =
    let e = take_more vs i x lt in
    ⊎_elim (all v) (λ f. subst P (is ∙ f) px)
    (Contains-push_cases (take i vs) (get_or vs i x) v (subst (λ l. Contains l v) e has))

pub contains_read : (vs : List Value) (i : ℕ) (x : Value) → i < length vs → x ≡ get_or vs i x → Contains vs x
contains_read vs i x lt is = subst (λ y. Contains vs y) (sym is) (Contains-get_or vs i x lt)
