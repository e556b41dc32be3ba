-- Which clauses stand in the lists of literals.
use Rattle.std.proofs.Common.{ℕ, zero, suc, ◌+◌, ◌-◌, ◌≡◌, ◌≢◌, ◌<◌, Bool, true, false, List, [], ◌∷◌, ◌++◌}
use Rattle.std.proofs.Common.{sym}
use Rattle.std.proofs.Common.{refl, ap, ◌∙◌, inl, inr, ◌⊎◌, arith, length, get_or, set, take, eqb, All}
use Rattle.std.specs.Prelude.{◌||◌}
use Rattle.std.specs.List.{swap_remove}
use Rattle.std.proofs.lemmas.Bool.{or_cases, or_left, or_right, eqb-true, eq-eqb}
use Rattle.std.proofs.lemmas.List.{get_or-set_same, get_or-set_other, take-take, take-set-le, take_more}
use Rattle.std.proofs.lemmas.List.Elements.{All-set, All-take}
use Rattle.std.proofs.lemmas.List.Folds.{list_any-append}
use Rattle.std.proofs.lemmas.List.Sorted.{IsPermutation-swap_remove, list_any-IsPermutation}
use Rattle.pp_clause.specs.Literal.{Literal}
use Rattle.pp_clause.proofs.Has.{false_not_true}
use Rattle.pp_trail.specs.Marks.{code}
use Rattle.pp_watch.specs.Lists.{watchers_of, with_watchers, is_among}
use Rattle.pp_watch.specs.declared.watcher.Watcher.{Watcher}

-- a list that is written, and the others
pub watchers_same : (lists : List (List Watcher)) (l m : Literal) (ws : List Watcher) → code m ≡ code l →
    code l < length lists → watchers_of (with_watchers lists l ws) m ≡ ws
watchers_same lists l m ws e lt = ap (λ (n : ℕ). get_or (set lists (code l) ws) n []) e ∙ get_or-set_same lists
    (code l) ws [] lt

pub watchers_other : (lists : List (List Watcher)) (l m : Literal) (ws : List Watcher) → code m ≢ code l →
    watchers_of (with_watchers lists l ws) m ≡ watchers_of lists m
watchers_other lists l m ws ne = get_or-set_other lists (code l) (code m) ws [] ne

-- one watcher more
pub among_push : (n : ℕ) (ws : List Watcher) (w : Watcher) → is_among n ws ≡ true → is_among n (ws ++ w ∷ []) ≡ true
among_push n ws w h = list_any-append (λ (x : Watcher). eqb x.number n) ws (w ∷ []) ∙ or_left (is_among n ws)
    (is_among n (w ∷ [])) h

among_one : (n : ℕ) (w : Watcher) → w.number ≡ n → is_among n (w ∷ []) ≡ true
among_one n w e = or_left (eqb w.number n) false (eq-eqb w.number n e)

pub among_last : (n : ℕ) (ws : List Watcher) (w : Watcher) → w.number ≡ n → is_among n (ws ++ w ∷ []) ≡ true
among_last n ws w e = list_any-append (λ (x : Watcher). eqb x.number n) ws (w ∷ []) ∙ or_right (is_among n ws)
    (is_among n (w ∷ [])) (among_one n w e)

pub among_cons_cases : (n : ℕ) (w : Watcher) (ws : List Watcher) → is_among n (w ∷ ws) ≡ true → (w.number ≡ n) ⊎
    (is_among n ws ≡ true)
among_cons_cases n w ws h =
    elim (or_cases (eqb w.number n) (is_among n ws) h) [ inl e ↦ inl (eqb-true w.number n e) | inr k ↦ inr k ]

pub among_push_cases : (n : ℕ) (ws : List Watcher) (w : Watcher) → is_among n (ws ++ w ∷ []) ≡ true →
    (is_among n ws ≡ true) ⊎ (w.number ≡ n)
among_push_cases n ws w h =
    elim (or_cases (is_among n ws) (is_among n (w ∷ []))
    (sym (list_any-append (λ (x : Watcher). eqb x.number n) ws (w ∷ [])) ∙ h)) [
      | inl k ↦ inl k
      | inr k ↦ elim (among_cons_cases n w [] k) [ inl e ↦ inr e | inr f ↦ absurd (false_not_true f) ]
    ]

-- one watcher less
pub among_removed : (n : ℕ) (ws : List Watcher) (i : ℕ) (w : Watcher) → i < length ws → w ≡ get_or ws i w →
    is_among n ws ≡ true → w.number ≢ n → is_among n (swap_remove ws i w) ≡ true
among_removed n ws i w lt is h ne =
    let same : is_among n ws ≡ is_among n (w ∷ swap_remove ws i w) = list_any-IsPermutation
    (λ (x : Watcher). eqb x.number n) ws (w ∷ swap_remove ws i w) (IsPermutation-swap_remove ws i w lt is) in
    elim (among_cons_cases n w (swap_remove ws i w) (sym same ∙ h)) [ inl e ↦ absurd (ne e) | inr k ↦ k ]

pub All_removed : (P : Watcher → Type 0) (ws : List Watcher) (i : ℕ) (w : Watcher) → i < length ws → All P ws →
    All P (swap_remove ws i w)
All_removed P ws i w lt h =
    let last : P (get_or ws (length ws - 1) w) = h (length ws - 1) w (omega arith) in
    All-take P (length ws - 1) (set ws i (get_or ws (length ws - 1) w))
    (All-set P ws i (get_or ws (length ws - 1) w) last h)

pub take_removed : (ws : List Watcher) (i : ℕ) (w : Watcher) → i < length ws → take i (swap_remove ws i w)
    ≡ take i ws
take_removed ws i w lt =
    take-take i (length ws - 1) (set ws i (get_or ws (length ws - 1) w)) (omega arith)
    ∙ take-set-le i ws i (get_or ws (length ws - 1) w) (omega arith)

-- the first watchers and the next one
pub among_more_cases : (n : ℕ) (ws : List Watcher) (i : ℕ) (w : Watcher) → i < length ws → w ≡ get_or ws i w →
    is_among n (take (i + 1) ws) ≡ true → (is_among n (take i ws) ≡ true) ⊎ (w.number ≡ n)
among_more_cases n ws i w lt is h =
    let e : take (i + 1) ws ≡ take i ws ++ w ∷ [] = take_more ws i w lt ∙ ap (λ (x : Watcher). take i ws ++ x ∷ [])
    (sym is) in
    among_push_cases n (take i ws) w (ap (is_among n) (sym e) ∙ h)

-- one watcher for another of the same clause
pub among_set : (n : ℕ) (ws : List Watcher) (i : ℕ) (w : Watcher)
    → ((d : Watcher) → (get_or ws i d).number ≡ w.number) →
    is_among n (set ws i w) ≡ is_among n ws
among_set n [] i w e = refl
among_set n (x ∷ xs) zero w e = ap (λ (k : ℕ). eqb k n || is_among n xs) (sym (e w))
among_set n (x ∷ xs) (suc i) w e = ap (λ (b : Bool). eqb x.number n || b) (among_set n xs i w e)
