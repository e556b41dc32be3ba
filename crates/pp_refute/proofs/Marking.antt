-- What a table has after the literals of a clause are put into it, and after a step.
use Rattle.std.proofs.Common.{ℕ, ◌≡◌, ◌<◌, Bool, true, false, List, [], ◌∷◌, ◌++◌, Option, Some, None, sym, refl, ap}
use Rattle.std.proofs.Common.{◌∙◌, subst, inl, inr, ◌⊎◌, length, get_or, set, not, length-set}
use Rattle.std.specs.Prelude.{filter}
use Rattle.std.specs.Bool.{beq}
use Rattle.std.specs.Option.{option_map}
use Rattle.std.proofs.lemmas.List.{get_or-set_same, get_or-set_other}
use Rattle.std.proofs.lemmas.List.Elements.{All-tail, All-head, filter_agree}
use Rattle.std.proofs.lemmas.Bool.Decides.{eqb_tells}
use Rattle.pp_clause.specs.Literal.{Literal, opposite}
use Rattle.pp_clause.specs.Clause.{has, IsClause}
use Rattle.pp_clause.specs.Derivation.{clashes, only_item, without, resolvent}
use Rattle.pp_clause.proofs.Resolving.{resolvent_of}
use Rattle.pp_clause.proofs.Has.{beq-same, same_bool, false_not_true, has-nil, has-here, has-there, has-cases}
use Rattle.pp_clause.proofs.Has.{has-append_cases, has-append_left, has-append_right, has-filter, opposite_twice}
use Rattle.pp_clause.proofs.Has.{same_var_cases}
use Rattle.pp_clause.proofs.Resolving.{has-without, without-has}
use Rattle.pp_clause.proofs.Ascending.{Consistent, clause_consistent}
use Rattle.pp_clause.specs.Bound.{Fits}
use Rattle.pp_refute.specs.Table.{is_sign, marked, Agrees, put, put_all, clash_of, Steps, IsStuck}

signs_apart : (b : Bool) → beq (not b) b ≡ true → ⊥
signs_apart true h = false_not_true h
signs_apart false h = false_not_true h

put_same : (t : List (Option Bool)) (l : Literal) → l.var < length t → marked (put t l) l ≡ true
put_same t l h = ap (λ (o : Option Bool). is_sign o l.positive) (get_or-set_same t l.var (Some l.positive) None h)
    ∙ beq-same l.positive

put_opposite : (t : List (Option Bool)) (m : Literal) → m.var < length t → marked (put t (opposite m)) m ≡ true → ⊥
put_opposite t m h k = signs_apart m.positive
    (sym (ap (λ (o : Option Bool). is_sign o m.positive) (get_or-set_same t m.var (Some (not m.positive)) None h)) ∙ k)

pub set_other : (t : List (Option Bool)) (x : ℕ) (o : Option Bool) (m : Literal) → (m.var ≡ x → ⊥)
    → marked (set t x o) m ≡ marked t m
set_other t x o m n = ap (λ (q : Option Bool). is_sign q m.positive) (get_or-set_other t x m.var o None n)

pub clears : (t : List (Option Bool)) (x : ℕ) (m : Literal) → x < length t → m.var ≡ x → marked (set t x None) m ≡ false
clears t x m lt e = ap (λ (n : ℕ). is_sign (get_or (set t x None) n None) m.positive) e
    ∙ ap (λ (o : Option Bool). is_sign o m.positive) (get_or-set_same t x None None lt)

fits_put : (t : List (Option Bool)) (l : Literal) (ys : List Literal) → Fits (length t) ys → Fits (length (put t l)) ys
fits_put t l ys f = subst (λ (n : ℕ). Fits n ys) (sym (length-set t l.var (Some l.positive))) f

consistent_tail : (y : Literal) (ys : List Literal) → Consistent (y ∷ ys) → Consistent ys
consistent_tail y ys c = record { apart = λ m h k. c.apart m (has-there y ys m h) (has-there y ys (opposite m) k) }

put_keeps : (t : List (Option Bool)) (y m : Literal) → y.var < length t → (y ≡ opposite m → ⊥) → marked t m ≡ true
    → marked (put t y) m ≡ true
put_keeps t y m lt n h =
    elim (eqb_tells m.var y.var) [
      | inr p ↦ set_other t y.var (Some y.positive) m p.1 ∙ h
      | inl p ↦ elim (same_var_cases y m (sym p.1)) [
        | inl e ↦ subst (λ (z : Literal). marked (put t y) z ≡ true) e (put_same t y lt)
        | inr e ↦ absurd (n e)
      ]
    ]

marks_keep : (ys : List Literal) (t : List (Option Bool)) (m : Literal) → Fits (length t) ys → marked t m ≡ true
    → (has ys (opposite m) ≡ true → ⊥) → marked (put_all t ys) m ≡ true
marks_keep [] t m f h n = h
marks_keep (y ∷ ys) t m f h n =
    marks_keep ys (put t y) m (fits_put t y ys (All-tail (λ l. l.var < length t) y ys f))
    (put_keeps t y m (All-head (λ l. l.var < length t) y ys f)
    (λ e. n (subst (λ (z : Literal). has (y ∷ ys) z ≡ true) e (has-here y ys))) h)
    (λ k. n (has-there y ys (opposite m) k))

marks_have : (ys : List Literal) (t : List (Option Bool)) (m : Literal) → Fits (length t) ys → Consistent ys
    → has ys m ≡ true → marked (put_all t ys) m ≡ true
marks_have [] t m f c h = absurd (has-nil m h)
marks_have (y ∷ ys) t m f c h =
    let rest = fits_put t y ys (All-tail (λ l. l.var < length t) y ys f) in
    elim (has-cases y ys m h) [
      | inl e ↦ marks_keep ys (put t y) m rest
          (subst (λ (z : Literal). marked (put t y) z ≡ true) (sym e)
          (put_same t y (All-head (λ l. l.var < length t) y ys f)))
          (λ k. c.apart m h (has-there y ys (opposite m) k))
      | inr k ↦ marks_have ys (put t y) m rest (consistent_tail y ys c) k
    ]

marks_from : (ys : List Literal) (t : List (Option Bool)) (m : Literal) → Fits (length t) ys
    → marked (put_all t ys) m ≡ true → (has ys m ≡ true) ⊎ (marked t m ≡ true)
marks_from [] t m f h = inr h
marks_from (y ∷ ys) t m f h =
    let here : y.var < length t = All-head (λ l. l.var < length t) y ys f in
    elim (marks_from ys (put t y) m (fits_put t y ys (All-tail (λ l. l.var < length t) y ys f)) h) [
      | inl k ↦ inl (has-there y ys m k)
      | inr k ↦ elim (eqb_tells m.var y.var) [
        | inr p ↦ inr (sym (set_other t y.var (Some y.positive) m p.1) ∙ k)
        | inl p ↦ elim (same_var_cases y m (sym p.1)) [
          | inl e ↦ inl (subst (λ (z : Literal). has (y ∷ ys) z ≡ true) e (has-here y ys))
          | inr e ↦ absurd (put_opposite t m (subst (λ (n : ℕ). n < length t) (sym p.1) here)
              (subst (λ (z : Literal). marked (put t z) m ≡ true) e k))
        ]
      ]
    ]

pub length_put : (ys : List Literal) (t : List (Option Bool)) → length (put_all t ys) ≡ length t
length_put [] t = refl
length_put (y ∷ ys) t = length_put ys (put t y) ∙ length-set t y.var (Some y.positive)

-- a clause that is put into the table without literals
pub put_first : (t : List (Option Bool)) (ys : List Literal) → Agrees t [] → Fits (length t) ys → IsClause ys
    → Agrees (put_all t ys) ys
put_first t ys a f c = record {
  same = λ m. same_bool _ _
      (λ h. elim (marks_from ys t m f h) [ inl k ↦ k | inr k ↦ absurd (false_not_true (sym (a.same m) ∙ k)) ])
      (λ h. marks_have ys t m f (clause_consistent ys c) h);
}

-- under a table that agrees, the clashes are those that it shows
pub clashes_shown : (t : List (Option Bool)) (xs ys : List Literal) → Agrees t xs
    → clashes xs ys ≡ filter (λ l. marked t (opposite l)) ys
clashes_shown t xs ys a =
    filter_agree (λ l. has xs (opposite l)) (λ l. marked t (opposite l)) (λ l. sym (a.same (opposite l))) ys

item_is : (xs : List Literal) (l : Literal) → only_item xs ≡ Some l → xs ≡ l ∷ []
item_is [] l h = absurd (let e : None ≡ Some l = h in cc)
item_is (x ∷ []) l h = let e : Some x ≡ Some l = h in cc
item_is (x ∷ (y ∷ ys)) l h = absurd (let e : None ≡ Some l = h in cc)

-- the table of the resolvent
resolved_agrees : (t : List (Option Bool)) (xs ys : List Literal) (l : Literal) → Agrees t xs → Fits (length t) ys
    → Consistent ys → clashes xs ys ≡ l ∷ [] → l.var < length (put_all t ys)
    → Agrees (set (put_all t ys) l.var None) (without l.var (xs ++ ys))
resolved_agrees t xs ys l a f c e lt = record {
  same = λ m.
      elim (eqb_tells m.var l.var) [
        | inl p ↦ clears (put_all t ys) l.var m lt p.1
            ∙ sym (same_bool _ false (λ h. absurd ((without-has l.var (xs ++ ys) m h).1 p.1))
            (λ h. absurd (false_not_true h)))
        | inr p ↦ set_other (put_all t ys) l.var None m p.1 ∙ same_bool _ _
            (λ h. has-without l.var (xs ++ ys) m
            (elim (marks_from ys t m f h)
            [ inl k ↦ has-append_right xs ys m k | inr k ↦ has-append_left xs ys m (sym (a.same m) ∙ k) ])
            p.1)
            (λ h. elim (has-append_cases xs ys m (without-has l.var (xs ++ ys) m h).0) [
              | inr k ↦ marks_have ys t m f c k
              | inl k ↦ marks_keep ys t m f (a.same m ∙ k) (λ j.
                  let clash : has (clashes xs ys) (opposite m) ≡ true =
                  has-filter (λ q. has xs (opposite q)) ys (opposite m) j
                  (subst (λ (z : Literal). has xs z ≡ true) (sym (opposite_twice m)) k) in
                  elim (has-cases l [] (opposite m) (subst (λ (z : List Literal). has z (opposite m) ≡ true) e clash)) [
                    | inl s ↦ p.1 (ap (λ (z : Literal). z.var) s)
                    | inr n ↦ has-nil (opposite m) n
                  ])
            ])
      ];
}

no_resolvent : (xs ys : List Literal) → only_item (clashes xs ys) ≡ None → resolvent xs ys ≡ None
unfolding resolvent
no_resolvent xs ys e = ap (option_map (λ k. without k.var (xs ++ ys))) e

-- what `resolve` leaves in the table
pub stepped : (t : List (Option Bool)) (ys : List Literal) (l : Literal) → Fits (length t) ys → IsClause ys
    → clash_of t ys ≡ Some l → l.var < length t → Steps t (set (put_all t ys) l.var None) ys
stepped t ys l f c e lt = record {
  next = λ xs a.
      let one : clashes xs ys ≡ l ∷ [] = clashes_shown t xs ys a ∙ item_is _ l e in (
        without l.var (xs ++ ys),
        resolvent_of xs ys l one,
        resolved_agrees t xs ys l a f (clause_consistent ys c) one
            (subst (λ (n : ℕ). l.var < n) (sym (length_put ys t)) lt),
      );
}

pub stuck : (t : List (Option Bool)) (ys : List Literal) → clash_of t ys ≡ None → IsStuck t ys
stuck t ys e = record { none = λ xs a. no_resolvent xs ys (ap only_item (clashes_shown t xs ys a) ∙ e) }
