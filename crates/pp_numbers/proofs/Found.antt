-- Lists read at a place.
use Rattle.std.proofs.Common.{◌≡◌, ⊎_elim, ℕ, zero, suc, ◌+◌, ◌<◌, List, [], ◌∷◌, ◌++◌, Some, map, take, length, get_or}
use Rattle.std.proofs.Common.{refl, sym, ap, ◌∙◌, subst, Bool, true, false, ◌||◌, if◌then◌else◌, arith}
use Rattle.std.specs.Prelude.{slice_get, slice_set, Contains}
use Rattle.std.proofs.lemmas.List.Elements.{Contains-append_left, Contains-append_right, Contains-push, Contains-get_or}
use Rattle.std.proofs.lemmas.List.Elements.{Contains-append_cases, Contains-push_cases}
use Rattle.std.proofs.lemmas.List.{get_or-map, length-map, take_more, take-map}
use Rattle.std.proofs.lemmas.Option.{get_or_from_slice_get}
use Rattle.std.specs.List.{list_any}
use Rattle.pp_instances.proofs.Kept.{nothing_in}
use Rattle.pp_instances.specs.Closure.{Distinct}
use Rattle.pp_instances.specs.Decides.{same_is}
use Rattle.pp_instances.specs.Same.{same, with_member}
use Rattle.pp_instances.specs.declared.member.Instance.{Instance}
use Rattle.pp_instances.specs.declared.member.Member.{Member}

pub before_push : {A : Type 0} (xs : List A) (y : A) (i : ℕ) → i < length xs
    → slice_get (xs ++ y ∷ []) i ≡ slice_get xs i
before_push [] y i lt = absurd (omega arith)
before_push (x ∷ xs) y zero lt = refl
before_push (x ∷ xs) y (suc i) lt = before_push xs y i (omega arith)

pub at_push : {A : Type 0} (xs : List A) (y : A) → slice_get (xs ++ y ∷ []) (length xs) ≡ Some y
at_push [] y = refl
at_push (x ∷ xs) y = at_push xs y

pub set_here : {A : Type 0} (xs : List A) (i : ℕ) (v : A) → i < length xs → slice_get (slice_set xs i v) i ≡ Some v
set_here [] i v lt = absurd (omega arith)
set_here (x ∷ xs) zero v lt = refl
set_here (x ∷ xs) (suc i) v lt = set_here xs i v (omega arith)

pub set_other : {A : Type 0} (xs : List A) (i j : ℕ) (v : A) → (i ≡ j → ⊥)
    → slice_get (slice_set xs i v) j ≡ slice_get xs j
set_other [] i j v n = refl
set_other (x ∷ xs) zero zero v n = absurd (n refl)
set_other (x ∷ xs) zero (suc j) v n = refl
set_other (x ∷ xs) (suc i) zero v n = refl
set_other (x ∷ xs) (suc i) (suc j) v n = set_other xs i j v (λ e. n (ap suc e))

pub read_at : (xs : List ℕ) (i n : ℕ) → slice_get xs i ≡ Some n → get_or xs i 0 ≡ n
read_at xs i n h = get_or_from_slice_get xs i n 0 h

found_at : (m k : Member) (ks : List Member) (b c : Bool) → same m k ≡ b → b || c ≡ true → (c ≡ true → Contains ks m)
    → Contains (k ∷ ks) m
found_at m k ks true c s h later =
    subst (λ z. Contains (k ∷ ks) z) (sym (same_is m k s)) (Contains-append_left (k ∷ []) ks k (Contains-push [] k))
found_at m k ks false c s h later = Contains-append_right (k ∷ []) ks m (later h)

found_in : (m : Member) (ms : List Member) → list_any (same m) ms ≡ true → Contains ms m
found_in m [] h = cc
found_in m (k ∷ ks) h = found_at m k ks (same m k) (list_any (same m) ks) refl h (found_in m ks)

-- a member that comes once is added at the end
pub with_new : (ms : List Member) (m : Member) → (Contains ms m → ⊥) → with_member ms m ≡ ms ++ m ∷ []
with_new ms m absent = by (list_any (same m) ms) refl
  where
    by : (b : Bool) → list_any (same m) ms ≡ b → (if b then ms else ms ++ m ∷ []) ≡ ms ++ m ∷ []
    by true h = absurd (absent (found_in m ms h))
    by false h = refl

-- an earlier part of distinct members doesn't have the next
pub next_is_new : (ms : List Member) (i : ℕ) (m : Member) → Distinct ms → i < length ms → m ≡ get_or ms i m
    → Contains (take i ms) m → ⊥
next_is_new [] i m d lt is h = absurd (omega arith)
next_is_new (k ∷ ms) zero m d lt is h = nothing_in m h
next_is_new (k ∷ ms) (suc i) m d lt is h =
    ⊎_elim (λ (e : Contains (k ∷ []) m). ⊎_elim (λ (no : Contains [] m). nothing_in m no)
    (λ (q : k ≡ m). d.0 (subst (λ z. Contains ms z) (sym (q ∙ is)) (Contains-get_or ms i m (omega arith))))
    (Contains-push_cases [] k m e))
    (λ (later : Contains (take i ms) m). next_is_new ms i m d.1 (omega arith) is later)
    (Contains-append_cases (k ∷ []) (take i ms) m h)

-- the members that instances stand for, one later
pub members_turn : (f : Instance → Member) (xs : List Instance) (i : ℕ) (x : Instance) {ms new : List Member}
    → Distinct (map f xs)
    → i < length xs → x ≡ get_or xs i x → ms ≡ map f (take i xs) → new ≡ with_member ms (f x)
    → new ≡ map f (take (i + 1) xs)
members_turn f xs i x {ms} {new} d lt is are more =
    let within : i < length (map f xs) = subst (λ n. i < n) (sym (length-map xs f)) lt in
    let here : f x ≡ get_or (map f xs) i (f x) = ap f is ∙ sym (get_or-map f xs i x (f x) lt) in
    let absent : Contains (take i (map f xs)) (f x) → ⊥ = next_is_new (map f xs) i (f x) d within here in
    more ∙ ap (λ l. with_member l (f x)) (are ∙ sym (take-map f i xs)) ∙ with_new (take i (map f xs)) (f x) absent
    ∙ ap (λ z. take i (map f xs) ++ z ∷ []) here ∙ sym (take_more (map f xs) i (f x) within) ∙ take-map f (i + 1) xs
