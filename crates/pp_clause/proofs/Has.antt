-- Membership of a literal in a list, a step at a time.
use Rattle.std.proofs.Common.{ℕ, ◌≡◌, Bool, true, false, cond, List, [], ◌∷◌, ◌++◌, sym, refl, ap, ◌∙◌, subst, inl, inr}
use Rattle.std.proofs.Common.{◌⊎◌, All, eqb, not}
use Rattle.std.specs.Prelude.{filter, ◌||◌}
use Rattle.std.specs.Bool.{beq}
use Rattle.std.proofs.lemmas.Bool.{eqb-true, eq-eqb, and_parts, and_from, or_cases, or_left, or_right}
use Rattle.std.proofs.lemmas.List.Elements.{All-nil, All-cons, All-head, All-tail}
use Rattle.std.proofs.lemmas.List.Folds.{list_any-append}
use Rattle.pp_clause.specs.Literal.{Literal, opposite}
use Rattle.pp_clause.specs.Clause.{literal_eq, has}

pub false_not_true : false ≡ true → ⊥
false_not_true h = cc

pub beq-true : (a b : Bool) → beq a b ≡ true → a ≡ b
beq-true true true h = refl
beq-true false false h = refl
beq-true true false h = absurd (false_not_true h)
beq-true false true h = absurd (false_not_true h)

pub beq-same : (a : Bool) → beq a a ≡ true
beq-same true = refl
beq-same false = refl

pub same_bool : (a b : Bool) → (a ≡ true → b ≡ true) → (b ≡ true → a ≡ true) → a ≡ b
same_bool true b f g = sym (f refl)
same_bool false true f g = g refl
same_bool false false f g = refl

pub literal_of : (x y : ℕ) (s t : Bool) → x ≡ y → s ≡ t
    → (let l : Literal = record { var = x; positive = s } in let m : Literal = record { var = y; positive = t } in
    l ≡ m)
literal_of x y s t h k = cc

pub literal_eq-true : (l m : Literal) → literal_eq l m ≡ true → l ≡ m
literal_eq-true l m h =
    let p = and_parts (eqb l.var m.var) (beq l.positive m.positive) h in
    literal_of l.var m.var l.positive m.positive (eqb-true l.var m.var p.0) (beq-true l.positive m.positive p.1)

pub literal_eq-same : (l : Literal) → literal_eq l l ≡ true
literal_eq-same l = and_from (eqb l.var l.var) (beq l.positive l.positive) (eq-eqb l.var l.var refl)
    (beq-same l.positive)

pub not_twice : (b : Bool) → not (not b) ≡ b
not_twice true = refl
not_twice false = refl

pub opposite_twice : (l : Literal) → opposite (opposite l) ≡ l
opposite_twice l = literal_of l.var l.var (not (not l.positive)) l.positive refl (not_twice l.positive)

pub has-nil : (m : Literal) → has [] m ≡ true → ⊥
has-nil m h = false_not_true h

pub has-cases : (x : Literal) (xs : List Literal) (m : Literal) → has (x ∷ xs) m ≡ true → (m ≡ x) ⊎ (has xs m ≡ true)
has-cases x xs m h =
    elim (or_cases (literal_eq m x) (has xs m) h) [ inl e ↦ inl (literal_eq-true m x e) | inr k ↦ inr k ]

pub has-here : (x : Literal) (xs : List Literal) → has (x ∷ xs) x ≡ true
has-here x xs = or_left (literal_eq x x) (has xs x) (literal_eq-same x)

pub has-at_head : (x : Literal) (xs : List Literal) (m : Literal) → m ≡ x → has (x ∷ xs) m ≡ true
has-at_head x xs m e = subst (λ (z : Literal). has (x ∷ xs) z ≡ true) (sym e) (has-here x xs)

pub has-there : (x : Literal) (xs : List Literal) (m : Literal) → has xs m ≡ true → has (x ∷ xs) m ≡ true
has-there x xs m h = or_right (literal_eq m x) (has xs m) h

pub has-append : (xs ys : List Literal) (m : Literal) → has (xs ++ ys) m ≡ (has xs m || has ys m)
has-append xs ys m = list_any-append (literal_eq m) xs ys

pub has-append_cases : (xs ys : List Literal) (m : Literal) → has (xs ++ ys) m ≡ true → (has xs m ≡ true)
    ⊎ (has ys m ≡ true)
has-append_cases xs ys m h = or_cases (has xs m) (has ys m) (sym (has-append xs ys m) ∙ h)

pub has-append_left : (xs ys : List Literal) (m : Literal) → has xs m ≡ true → has (xs ++ ys) m ≡ true
has-append_left xs ys m h = has-append xs ys m ∙ or_left (has xs m) (has ys m) h

pub has-append_right : (xs ys : List Literal) (m : Literal) → has ys m ≡ true → has (xs ++ ys) m ≡ true
has-append_right xs ys m h = has-append xs ys m ∙ or_right (has xs m) (has ys m) h

-- one more literal at the end
pub has-push_cases : (xs : List Literal) (x m : Literal) → has (xs ++ x ∷ []) m ≡ true → (has xs m ≡ true) ⊎ (m ≡ x)
has-push_cases xs x m h =
    elim (has-append_cases xs (x ∷ []) m h) [
      | inl k ↦ inl k
      | inr k ↦ elim (has-cases x [] m k) [ inl e ↦ inr e | inr n ↦ absurd (has-nil m n) ]
    ]

pub has-push_last : (xs : List Literal) (x m : Literal) → m ≡ x → has (xs ++ x ∷ []) m ≡ true
has-push_last xs x m e = has-append_right xs (x ∷ []) m (has-at_head x [] m e)

pub has-All : (P : Literal → Type 0) (xs : List Literal) (m : Literal) → All P xs → has xs m ≡ true → P m
has-All P [] m a h = absurd (has-nil m h)
has-All P (x ∷ xs) m a h =
    elim (has-cases x xs m h) [
      | inl e ↦ subst P (sym e) (All-head P x xs a)
      | inr k ↦ has-All P xs m (All-tail P x xs a) k
    ]

pub All-from_has : (P : Literal → Type 0) (xs : List Literal) → ((m : Literal) → has xs m ≡ true → P m) → All P xs
All-from_has P [] f = All-nil P
All-from_has P (x ∷ xs) f = All-cons P x xs (f x (has-here x xs)) (All-from_has P xs (λ m h. f m (has-there x xs m h)))

pub has-filter : (p : Literal → Bool) (xs : List Literal) (m : Literal) → has xs m ≡ true → p m ≡ true
    → has (filter p xs) m ≡ true
has-filter p [] m h k = h
has-filter p (x ∷ xs) m h k =
    elim (has-cases x xs m h) [
      | inl e ↦ (let here : p x ≡ true = ap p (sym e) ∙ k in
          ap (λ (b : Bool). has (cond b (x ∷ filter p xs) (filter p xs)) m) here ∙ has-at_head x (filter p xs) m e)
      | inr j ↦ (let rest : has (filter p xs) m ≡ true = has-filter p xs m j k in
          let both : (b : Bool) → has (cond b (x ∷ filter p xs) (filter p xs)) m ≡ true =
          (λ (b : Bool). elim b as (λ v. has (cond v (x ∷ filter p xs) (filter p xs)) m ≡ true)
          [ true ↦ has-there x (filter p xs) m rest | false ↦ rest ]) in
          both (p x))
    ]

filter-has_cons : (p : Literal → Bool) (x : Literal) (xs : List Literal) (m : Literal)
    → (has (filter p xs) m ≡ true → (has xs m ≡ true) × (p m ≡ true)) → (b : Bool) → p x ≡ b
    → has (cond b (x ∷ filter p xs) (filter p xs)) m ≡ true → (has (x ∷ xs) m ≡ true) × (p m ≡ true)
filter-has_cons p x xs m ih true e k =
    elim (has-cases x (filter p xs) m k) [
      | inl s ↦ (has-at_head x xs m s, ap p s ∙ e)
      | inr j ↦ (has-there x xs m (ih j).0, (ih j).1)
    ]
filter-has_cons p x xs m ih false e k = (has-there x xs m (ih k).0, (ih k).1)

pub filter-has : (p : Literal → Bool) (xs : List Literal) (m : Literal) → has (filter p xs) m ≡ true → (has xs m ≡ true)
    × (p m ≡ true)
filter-has p [] m h = absurd (has-nil m h)
filter-has p (x ∷ xs) m h = filter-has_cons p x xs m (filter-has p xs m) (p x) refl h

-- two literals of one variable are equal or opposite
pub same_var_cases : (l m : Literal) → l.var ≡ m.var → (l ≡ m) ⊎ (l ≡ opposite m)
same_var_cases l m e = signs l.positive m.positive refl refl
  where
    signs : (s t : Bool) → l.positive ≡ s → m.positive ≡ t → (l ≡ m) ⊎ (l ≡ opposite m)
    signs true true h k = inl (literal_of l.var m.var l.positive m.positive e (h ∙ sym k))
    signs false false h k = inl (literal_of l.var m.var l.positive m.positive e (h ∙ sym k))
    signs true false h k = inr (literal_of l.var m.var l.positive (not m.positive) e (h ∙ sym (ap not k)))
    signs false true h k = inr (literal_of l.var m.var l.positive (not m.positive) e (h ∙ sym (ap not k)))
