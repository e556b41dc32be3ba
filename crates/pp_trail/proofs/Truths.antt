-- What is said of literals, where a trail gets a step more or one less.
use Rattle.std.proofs.Common.{ℕ, ◌+◌, ◌*◌, ◌≡◌, ◌<◌, ◌≤◌, Bool, true, false, cond, List, [], ◌∷◌, ◌++◌, Some, None}
use Rattle.std.proofs.Common.{sym, refl, ap, ◌∙◌, subst, inl, inr, arith, length, get_or, set, length-set, not}
use Rattle.std.specs.Prelude.{if◌then◌else◌}
use Rattle.std.proofs.lemmas.Bool.{cases_eq, cond-true, cond-false}
use Rattle.std.proofs.lemmas.List.{get_or-set_same, get_or-set_other}
use Rattle.pp_clause.specs.Literal.{Literal, opposite}
use Rattle.pp_clause.specs.Clause.{has}
use Rattle.pp_clause.proofs.Has.{false_not_true, literal_of, same_bool, opposite_twice, has-All, has-append_left}
use Rattle.pp_clause.proofs.Has.{has-push_cases, has-push_last}
use Rattle.pp_trail.specs.declared.step.Step.{Step}
use Rattle.pp_trail.specs.declared.truth.Truth.{Truth}
use Rattle.pp_trail.specs.declared.truth.Truth.TheVariants.{Open, True, False}
use Rattle.pp_trail.specs.Trail.{lits, value_in, IsTrail}
use Rattle.pp_trail.specs.Marks.{code, truth_of, AreTruths}
use Rattle.pp_trail.proofs.Places.{AreDistinct, IsAbsent, absent_lits, distinct_apart}
use Rattle.pp_trail.proofs.Growing.{lits_push}

-- literals by their codes
codes : (x y : ℕ) (s t : Bool) → 2 * x + (if s then 0 else 1) ≡ 2 * y + (if t then 0 else 1) → (x ≡ y) × (s ≡ t)
codes x y true true e = (omega arith, refl)
codes x y false false e = (omega arith, refl)
codes x y true false e = absurd (omega arith)
codes x y false true e = absurd (omega arith)

pub same_code : (l m : Literal) → code l ≡ code m → l ≡ m
same_code l m e =
    let p = codes l.var m.var l.positive m.positive e in
    literal_of l.var m.var l.positive m.positive p.0 p.1

small : (x vars : ℕ) (s : Bool) → x ≤ vars → 2 * x + (if s then 0 else 1) < 2 * vars + 2
small x vars true h = omega arith
small x vars false h = omega arith

pub code_within : (l : Literal) (vars : ℕ) → l.var ≤ vars → code l < 2 * vars + 2
code_within l vars h = small l.var vars l.positive h

large : (x vars : ℕ) (s : Bool) → 2 * vars + 2 ≤ 2 * x + (if s then 0 else 1) → vars < x
large x vars true h = omega arith
large x vars false h = omega arith

-- values of literals among others
not_there : (b : Bool) → (b ≡ true → ⊥) → b ≡ false
not_there true n = absurd (n refl)
not_there false n = refl

value_true : (xs : List Literal) (m : Literal) → has xs m ≡ true → value_in xs m ≡ Some true
value_true xs m h = cond-true (has xs m) (Some true) _ h

value_false : (xs : List Literal) (m : Literal) → has xs m ≡ false → has xs (opposite m) ≡ true
    → value_in xs m ≡ Some false
value_false xs m h k = cond-false (has xs m) (Some true) _ h ∙ cond-true (has xs (opposite m)) (Some false) None k

value_none : (xs : List Literal) (m : Literal) → has xs m ≡ false → has xs (opposite m) ≡ false
    → value_in xs m ≡ None
value_none xs m h k = cond-false (has xs m) (Some true) _ h ∙ cond-false (has xs (opposite m)) (Some false) None k

-- and what a value says of the literal and of its negation
by_true : (a b : Bool) → Some true ≡ cond a (Some true) (cond b (Some false) None) → a ≡ true
by_true true b e = refl
by_true false true e = absurd
    (let f : Some true ≡ Some false = e in let g : true ≡ false = cc in false_not_true (sym g))
by_true false false e = absurd (let f : Some true ≡ None = e in cc)

by_none : (a b : Bool) → None ≡ cond a (Some true) (cond b (Some false) None) → (a ≡ false) × (b ≡ false)
by_none true b e = absurd (let f : None ≡ Some true = e in cc)
by_none false true e = absurd (let f : None ≡ Some false = e in cc)
by_none false false e = (refl, refl)

true_by_value : (xs : List Literal) (m : Literal) → Some true ≡ value_in xs m → has xs m ≡ true
true_by_value xs m e = by_true (has xs m) (has xs (opposite m)) e

open_by_value : (xs : List Literal) (m : Literal) → None ≡ value_in xs m
    → (has xs m ≡ false) × (has xs (opposite m) ≡ false)
open_by_value xs m e = by_none (has xs m) (has xs (opposite m)) e

-- the negation of a literal of a trail doesn't stand there
no_negation : (ss : List Step) (m : Literal) → AreDistinct ss → has (lits ss) m ≡ true
    → has (lits ss) (opposite m) ≡ false
no_negation ss m d h = not_there (has (lits ss) (opposite m))
    (λ k. distinct_apart ss d (record { literal = m; itself = h; negation = k }))

pub not_false : (t : Truth) (ss : List Step) (m : Literal) → AreDistinct ss → truth_of t ≡ value_in (lits ss) m
    → (t ≡ False → ⊥) → has (lits ss) (opposite m) ≡ false
not_false Open ss m d e n = (open_by_value (lits ss) m e).1
not_false True ss m d e n = no_negation ss m d (true_by_value (lits ss) m e)
not_false False ss m d e n = absurd (n refl)

-- of a variable that isn't there nothing is said
absent_value : (ss : List Step) (m : Literal) → IsAbsent m.var ss → value_in (lits ss) m ≡ None
absent_value ss m a =
    value_none (lits ss) m (not_there (has (lits ss) m) (λ h. absent_lits m.var ss m a h refl))
    (not_there (has (lits ss) (opposite m)) (λ h. absent_lits m.var ss (opposite m) a h refl))

pub past_value : (cs : List (List Literal)) (vars : ℕ) (ss : List Step) (m : Literal) → IsTrail cs vars ss
    → 2 * vars + 2 ≤ code m → value_in (lits ss) m ≡ None
past_value cs vars ss m t le =
    let lt = large m.var vars m.positive le in
    value_none (lits ss) m
    (not_there (has (lits ss) m) (λ h. (let b = has-All (λ l. l.var ≤ vars) (lits ss) m t.up_to h in omega arith)))
    (not_there (has (lits ss) (opposite m))
    (λ h. (let b = has-All (λ l. l.var ≤ vars) (lits ss) (opposite m) t.up_to h in omega arith)))

-- one literal more at the end
has_push_other : (xs : List Literal) (x m : Literal) → (m ≡ x → ⊥) → has (xs ++ x ∷ []) m ≡ has xs m
has_push_other xs x m n = same_bool (has (xs ++ x ∷ []) m) (has xs m)
    (λ h. elim (has-push_cases xs x m h) [ inl k ↦ k | inr e ↦ absurd (n e) ])
    (λ h. has-append_left xs (x ∷ []) m h)

turned : (x m : Literal) → opposite m ≡ x → m ≡ opposite x
turned x m e = sym (opposite_twice m) ∙ ap opposite e

value_push_other : (xs : List Literal) (x m : Literal) → (m ≡ x → ⊥) → (m ≡ opposite x → ⊥)
    → value_in (xs ++ x ∷ []) m ≡ value_in xs m
value_push_other xs x m n k =
    ap (λ (b : Bool). cond b (Some true) (cond (has (xs ++ x ∷ []) (opposite m)) (Some false) None))
    (has_push_other xs x m n)
    ∙ ap (λ (b : Bool). cond (has xs m) (Some true) (cond b (Some false) None))
    (has_push_other xs x (opposite m) (λ e. k (turned x m e)))

value_push_same : (xs : List Literal) (x m : Literal) → m ≡ x → value_in (xs ++ x ∷ []) m ≡ Some true
value_push_same xs x m e = value_true (xs ++ x ∷ []) m (has-push_last xs x m e)

value_push_opposite : (xs : List Literal) (x m : Literal) → m ≡ opposite x → has xs m ≡ false
    → value_in (xs ++ x ∷ []) m ≡ Some false
value_push_opposite xs x m e h =
    value_false (xs ++ x ∷ []) m
    (has_push_other xs x m (λ f. signs x.positive (ap (λ (z : Literal). z.positive) (sym e ∙ f))) ∙ h)
    (has-push_last xs x (opposite m) (ap opposite e ∙ opposite_twice x))
  where
    signs : (b : Bool) → not b ≡ b → ⊥
    signs true f = false_not_true f
    signs false f = false_not_true (sym f)

-- two that are written, and the others
written_last : (truths : List Truth) (i j : ℕ) (t u : Truth) (k : ℕ) → k ≡ j → j < length truths
    → get_or (set (set truths i t) j u) k Open ≡ u
written_last truths i j t u k e lt =
    ap (λ (n : ℕ). get_or (set (set truths i t) j u) n Open) e
    ∙ get_or-set_same (set truths i t) j u Open (let b = length-set truths i t in omega arith)

written_first : (truths : List Truth) (i j : ℕ) (t u : Truth) (k : ℕ) → (k ≡ j → ⊥) → k ≡ i → i < length truths
    → get_or (set (set truths i t) j u) k Open ≡ t
written_first truths i j t u k n e lt =
    get_or-set_other (set truths i t) j k u Open n
    ∙ ap (λ (m : ℕ). get_or (set truths i t) m Open) e
    ∙ get_or-set_same truths i t Open lt

unwritten : (truths : List Truth) (i j : ℕ) (t u : Truth) (k : ℕ) → (k ≡ j → ⊥) → (k ≡ i → ⊥)
    → get_or (set (set truths i t) j u) k Open ≡ get_or truths k Open
unwritten truths i j t u k n m =
    get_or-set_other (set truths i t) j k u Open n ∙ get_or-set_other truths i k t Open m

pub length_written : (truths : List Truth) (i j : ℕ) (t u : Truth)
    → length (set (set truths i t) j u) ≡ length truths
length_written truths i j t u = length-set (set truths i t) j u ∙ length-set truths i t

-- a step more
pub truths_push : (truths : List Truth) (ss : List Step) (s : Step) → AreTruths truths ss
    → code s.lit < length truths → code (opposite s.lit) < length truths → IsAbsent s.lit.var ss
    → AreTruths (set (set truths (code s.lit) True) (code (opposite s.lit)) False) (ss ++ s ∷ [])
truths_push truths ss s h lt lt' a = record {
  shown = λ l in'.
      let one = code s.lit in
      let other = code (opposite s.lit) in
      let more : value_in (lits (ss ++ s ∷ [])) l ≡ value_in (lits ss ++ s.lit ∷ []) l =
      ap (λ (z : List Literal). value_in z l) (lits_push ss s) in
      elim (cases_eq (code l) other) [
        | inl e ↦ (
            let is : l ≡ opposite s.lit = same_code l (opposite s.lit) e in
            let free : has (lits ss) l ≡ false = not_there (has (lits ss) l)
            (λ k. absent_lits s.lit.var ss l a k (ap (λ (z : Literal). z.var) is)) in
            ap truth_of (written_last truths one other True False (code l) e lt')
            ∙ sym (more ∙ value_push_opposite (lits ss) s.lit l is free))
        | inr n ↦ elim (cases_eq (code l) one) [
          | inl e ↦ ap truth_of (written_first truths one other True False (code l) n e lt)
              ∙ sym (more ∙ value_push_same (lits ss) s.lit l (same_code l s.lit e))
          | inr m ↦ ap truth_of (unwritten truths one other True False (code l) n m)
              ∙ h.shown l (let k = length_written truths one other True False in omega arith)
              ∙ sym (more ∙ value_push_other (lits ss) s.lit l (λ e. m (ap code e)) (λ e. n (ap code e)))
        ]
      ];
}

-- one less
pub truths_pop : (truths : List Truth) (front : List Step) (s : Step) → AreTruths truths (front ++ s ∷ [])
    → code s.lit < length truths → code (opposite s.lit) < length truths → IsAbsent s.lit.var front
    → AreTruths (set (set truths (code s.lit) Open) (code (opposite s.lit)) Open) front
truths_pop truths front s h lt lt' a = record {
  shown = λ l in'.
      let one = code s.lit in
      let other = code (opposite s.lit) in
      let more : value_in (lits (front ++ s ∷ [])) l ≡ value_in (lits front ++ s.lit ∷ []) l =
      ap (λ (z : List Literal). value_in z l) (lits_push front s) in
      elim (cases_eq (code l) other) [
        | inl e ↦ (
            let is : l ≡ opposite s.lit = same_code l (opposite s.lit) e in
            ap truth_of (written_last truths one other Open Open (code l) e lt')
            ∙ sym (absent_value front l (subst (λ (x : ℕ). IsAbsent x front) (sym (ap (λ (z : Literal). z.var) is)) a)))
        | inr n ↦ elim (cases_eq (code l) one) [
          | inl e ↦ (
              let is : l ≡ s.lit = same_code l s.lit e in
              ap truth_of (written_first truths one other Open Open (code l) n e lt)
              ∙ sym (absent_value front l
              (subst (λ (x : ℕ). IsAbsent x front) (sym (ap (λ (z : Literal). z.var) is)) a)))
          | inr m ↦ ap truth_of (unwritten truths one other Open Open (code l) n m)
              ∙ h.shown l (let k = length_written truths one other Open Open in omega arith)
              ∙ more ∙ value_push_other (lits front) s.lit l (λ e. m (ap code e)) (λ e. n (ap code e))
        ]
      ];
}
