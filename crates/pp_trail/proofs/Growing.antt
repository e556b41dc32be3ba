-- A trail that gets one step more, or fewer steps, or one clause more.
use Rattle.std.proofs.Common.{ℕ, zero, suc, ◌+◌, ◌-◌, ◌≡◌, ◌≢◌, ◌<◌, ◌≤◌, Bool, true, false, List, [], ◌∷◌, ◌++◌}
use Rattle.std.proofs.Common.{Option, Some, None, sym, refl, ap, ◌∙◌, subst, inl, inr, ◌⊎◌, arith, length, get_or, take}
use Rattle.std.proofs.Common.{map, set, eqb, All, length-append, length-set, append_assoc}
use Rattle.std.specs.Prelude.{slice_get, IsSome}
use Rattle.std.specs.List.{list_any, IsDistinct, AllByRecursion}
use Rattle.std.proofs.lemmas.Bool.{ne_eqb, eqb-true, or_cases, cases_eq, cond-true, cond-false, eq-eqb}
use Rattle.std.proofs.lemmas.List.{get_or_append_left, get_or_push, take-append-le, take_at, take-take, take-map}
use Rattle.std.proofs.lemmas.List.{map_push, length_push, length-take-le, get_or-take, get_or-set_same}
use Rattle.std.proofs.lemmas.List.{get_or-set_other}
use Rattle.std.proofs.lemmas.List.Elements.{All-head, All-tail, All-push, All-take}
use Rattle.std.proofs.lemmas.List.Quantifiers.{all_pairs_push}
use Rattle.std.proofs.lemmas.Map.Steps.{length-le_from_distinct_below}
use Rattle.pp_clause.specs.Literal.{Literal}
use Rattle.pp_clause.specs.Derivation.{numbered}
use Rattle.pp_clause.proofs.Has.{false_not_true}
use Rattle.pp_trail.specs.declared.step.Step.{Step}
use Rattle.pp_trail.specs.declared.marks.Mark.{Mark}
use Rattle.pp_clause.specs.Bound.{IsUpTo}
use Rattle.pp_trail.specs.Trail.{lits, StandsAt, IsReason, IsTrail, Extends}
use Rattle.pp_trail.specs.Marks.{mark_from, ArePlaces}
use Rattle.pp_trail.proofs.Places.{AreDistinct, IsAbsent, distinct_tail, distinct_head}
use Rattle.pp_trail.proofs.Marking.{mark_absent}

-- a trail is no longer than there are variables
vars_of : List Step → List ℕ
vars_of [] = []
vars_of (s ∷ ss) = s.lit.var ∷ vars_of ss

length_vars : (ss : List Step) → length (vars_of ss) ≡ length ss
unfolding vars_of
length_vars [] = refl
length_vars (s ∷ ss) = ap suc (length_vars ss)

apart_by : (x : ℕ) (ss : List Step) → IsAbsent x ss → AllByRecursion (λ y. eqb x y ≡ false) (vars_of ss)
unfolding vars_of
apart_by x [] a = tt
apart_by x (s ∷ ss) a = (
  ne_eqb x s.lit.var (λ e. All-head (λ t. t.lit.var ≢ x) s ss a (sym e)),
  apart_by x ss
      (All-tail (λ t. t.lit.var ≢ x) s ss a),
)

distinct_vars : (ss : List Step) → AreDistinct ss → IsDistinct eqb (vars_of ss)
unfolding vars_of IsDistinct
distinct_vars [] d = tt
distinct_vars (s ∷ ss) d = (apart_by s.lit.var ss (distinct_head s ss d), distinct_vars ss (distinct_tail s ss d))

up_to_each : (vars : ℕ) (ss : List Step) → IsUpTo vars (lits ss) → (q : ℕ) → list_any (eqb q) (vars_of ss) ≡ true
    → q ≤ vars
unfolding vars_of
up_to_each vars [] h q k = absurd (false_not_true k)
up_to_each vars (s ∷ ss) h q k =
    elim (or_cases (eqb q s.lit.var) (list_any (eqb q) (vars_of ss)) k) [
      | inl e ↦ (let f = eqb-true q s.lit.var e in let b : s.lit.var ≤ vars =
          All-head (λ l. l.var ≤ vars) s.lit (lits ss) h in omega arith)
      | inr j ↦ up_to_each vars ss (All-tail (λ l. l.var ≤ vars) s.lit (lits ss) h) q j
    ]

from_one_absent : (ss : List Step) → All (λ s. 1 ≤ s.lit.var) ss → IsAbsent 0 ss
from_one_absent ss h = λ k d lt e. (let b = h k d lt in absurd (omega arith))

pub few_steps : (cs : List (List Literal)) (vars : ℕ) (ss : List Step) → IsTrail cs vars ss → length ss ≤ vars
unfolding IsDistinct
few_steps cs vars ss t =
    let distinct : IsDistinct eqb (0 ∷ vars_of ss) =
    (apart_by 0 ss (from_one_absent ss t.from_one), distinct_vars ss t.distinct) in
    let below : (q : ℕ) → list_any (eqb q) (0 ∷ vars_of ss) ≡ true → q < vars + 1 = λ q k.
    elim (or_cases (eqb q 0) (list_any (eqb q) (vars_of ss)) k) [
      | inl e ↦ (let f = eqb-true q 0 e in omega arith)
      | inr j ↦ (let b = up_to_each vars ss t.up_to q j in omega arith)
    ] in
    let b : length (0 ∷ vars_of ss) ≤ vars + 1 =
    length-le_from_distinct_below (0 ∷ vars_of ss) (vars + 1) distinct below in
    omega (arith, b, length_vars ss)

-- and shorter, where a variable is absent
pub room_for : (cs : List (List Literal)) (vars : ℕ) (ss : List Step) (x : ℕ) → IsTrail cs vars ss → 1 ≤ x → x ≤ vars
    → IsAbsent x ss → length ss < vars
unfolding IsDistinct
room_for cs vars ss x t low high a =
    let distinct : IsDistinct eqb (0 ∷ (x ∷ vars_of ss)) = (
      (ne_eqb 0 x (λ e. omega arith), apart_by 0 ss (from_one_absent ss t.from_one)),
      (apart_by x ss a, distinct_vars ss t.distinct),
    ) in
    let below : (q : ℕ) → list_any (eqb q) (0 ∷ (x ∷ vars_of ss)) ≡ true → q < vars + 1 = λ q k.
    elim (or_cases (eqb q 0) (list_any (eqb q) (x ∷ vars_of ss)) k) [
      | inl e ↦ (let f = eqb-true q 0 e in omega arith)
      | inr r ↦ elim (or_cases (eqb q x) (list_any (eqb q) (vars_of ss)) r) [
        | inl e ↦ (let f = eqb-true q x e in omega arith)
        | inr j ↦ (let b = up_to_each vars ss t.up_to q j in omega arith)
      ]
    ] in
    let b : length (0 ∷ (x ∷ vars_of ss)) ≤ vars + 1 =
    length-le_from_distinct_below (0 ∷ (x ∷ vars_of ss)) (vars + 1) distinct below in
    omega (arith, b, length_vars ss)

-- one step more
pub lits_push : (ss : List Step) (s : Step) → lits (ss ++ s ∷ []) ≡ lits ss ++ s.lit ∷ []
lits_push ss s = map_push (λ t. t.lit) ss s

stands_push : (ss : List Step) (s : Step) (place : ℕ) (step : Step) → StandsAt (ss ++ s ∷ []) place step
    → (StandsAt ss place step) ⊎ ((place ≡ length ss) × (step ≡ s))
stands_push ss s place step at =
    elim (cases_eq place (length ss)) [
      | inl e ↦ inr (e, at.is ∙ get_or_push ss s step place (sym e))
      | inr ne ↦ (
          let w : place < length ss = (let b = at.within in let k = length_push ss s in omega arith) in
          inl (record { within = w; is = at.is ∙ get_or_append_left ss (s ∷ []) step place w }))
    ]

reasons_push : (cs : List (List Literal)) (vars : ℕ) (ss : List Step) (s : Step) → IsTrail cs vars ss
    → ((n : ℕ) → s.reason ≡ Some n → IsReason cs (lits ss) s.lit n) →
    (place : ℕ) (step : Step) → StandsAt (ss ++ s ∷ []) place step → (n : ℕ) → step.reason ≡ Some n
    → IsReason cs (lits (take place (ss ++ s ∷ []))) step.lit n
reasons_push cs vars ss s t r place step at n e =
    elim (stands_push ss s place step at) [
      | inl old ↦ (
          let before : take place (ss ++ s ∷ []) ≡ take place ss =
          take-append-le place ss (s ∷ []) (let w = old.within in omega arith) in
          subst (λ (z : List Step). IsReason cs (lits z) step.lit n) (sym before) (t.reasons place step old n e))
      | inr p ↦ (
          let before : take place (ss ++ s ∷ []) ≡ ss = take_at ss (s ∷ []) place (sym p.0) in
          subst (λ (z : List Step). IsReason cs (lits z) step.lit n) (sym before)
          (subst (λ (z : Step). IsReason cs (lits ss) z.lit n) (sym p.1)
          (r n (ap (λ (z : Step). z.reason) (sym p.1) ∙ e))))
    ]

pub trail_push : (cs : List (List Literal)) (vars : ℕ) (ss : List Step) (s : Step) → IsTrail cs vars ss → 1 ≤ s.lit.var
    → s.lit.var ≤ vars → IsAbsent s.lit.var ss → ((n : ℕ) → s.reason ≡ Some n → IsReason cs (lits ss) s.lit n)
    → IsTrail cs vars (ss ++ s ∷ [])
trail_push cs vars ss s t low high a r = record {
  distinct = all_pairs_push (λ u v. u.lit.var ≢ v.lit.var) ss s t.distinct a;
  from_one = All-push (λ u. 1 ≤ u.lit.var) ss s t.from_one low;
  up_to = rw (lits_push ss s) (All-push (λ l. l.var ≤ vars) (lits ss) s.lit t.up_to high);
  reasons = reasons_push cs vars ss s t r;
}

mark_push_other : (from : ℕ) (ss : List Step) (s : Step) (x : ℕ) → (s.lit.var ≡ x → ⊥)
    → mark_from from (ss ++ s ∷ []) x ≡ mark_from from ss x
mark_push_other from [] s x n = cond-false (eqb s.lit.var x) _ None (ne_eqb s.lit.var x n)
mark_push_other from (t ∷ ss) s x n =
    ap (λ (o : Option Mark). Rattle.std.proofs.Common.cond (eqb t.lit.var x)
    (Some (record { positive = t.lit.positive; place = from })) o) (mark_push_other (suc from) ss s x n)

mark_push_same : (from : ℕ) (ss : List Step) (s : Step) → IsAbsent s.lit.var ss
    → mark_from from (ss ++ s ∷ []) s.lit.var ≡ Some (record { positive = s.lit.positive; place = from + length ss })
mark_push_same from [] s a =
    cond-true (eqb s.lit.var s.lit.var) _ None (eq-eqb s.lit.var s.lit.var refl)
    ∙ ap (λ (n : ℕ). Some (record { positive = s.lit.positive; place = n }))
    (let e : from ≡ from + 0 = omega arith in e)
mark_push_same from (t ∷ ss) s a =
    cond-false (eqb t.lit.var s.lit.var) _ (mark_from (suc from) (ss ++ s ∷ []) s.lit.var)
    (ne_eqb t.lit.var s.lit.var (All-head (λ u. u.lit.var ≢ s.lit.var) t ss a))
    ∙ mark_push_same (suc from) ss s (All-tail (λ u. u.lit.var ≢ s.lit.var) t ss a)
    ∙ ap (λ (n : ℕ). Some (record { positive = s.lit.positive; place = n }))
    (let e : suc from + length ss ≡ from + suc (length ss) = omega arith in e)

pub shows_push : (marks : List (Option Mark)) (ss : List Step) (s : Step) (place : ℕ) → ArePlaces marks ss
    → s.lit.var < length marks → IsAbsent s.lit.var ss → place ≡ length ss →
    ArePlaces (set marks s.lit.var (Some (record { positive = s.lit.positive; place = place }))) (ss ++ s ∷ [])
shows_push marks ss s place h lt a p = record {
  shown = λ x in'. elim (cases_eq x s.lit.var) [
    | inr ne ↦ get_or-set_other marks s.lit.var x (Some (record { positive = s.lit.positive; place = place })) None ne
        ∙ h.shown x (let e = length-set marks s.lit.var (Some (record { positive = s.lit.positive; place = place })) in
        omega arith)
        ∙ sym (mark_push_other 0 ss s x (λ e. ne (sym e)))
    | inl e ↦ ap (λ (n : ℕ). get_or (set marks s.lit.var (Some (record { positive = s.lit.positive; place = place }))) n
        None) e
        ∙ get_or-set_same marks s.lit.var (Some (record { positive = s.lit.positive; place = place })) None lt
        ∙ ap (λ (n : ℕ). Some (record { positive = s.lit.positive; place = n }))
        (let f : place ≡ 0 + length ss = omega arith in f)
        ∙ sym (mark_push_same 0 ss s a)
        ∙ ap (mark_from 0 (ss ++ s ∷ [])) (sym e)
  ];
}

-- fewer steps
pub lits_take : (n : ℕ) (ss : List Step) → lits (take n ss) ≡ take n (lits ss)
lits_take n ss = sym (take-map (λ t. t.lit) n ss)

pub trail_take : (cs : List (List Literal)) (vars : ℕ) (ss : List Step) (n : ℕ) → n ≤ length ss → IsTrail cs vars ss
    → IsTrail cs vars (take n ss)
trail_take cs vars ss n le t =
    let cut : length (take n ss) ≡ n = length-take-le n ss le in
    record {
      distinct = λ i j d lt in'. (
          let far : (get_or ss i d).lit.var ≢ (get_or ss j d).lit.var = t.distinct i j d lt (omega arith) in
          let a : get_or (take n ss) i d ≡ get_or ss i d = get_or-take n ss i d (omega arith) in
          let b : get_or (take n ss) j d ≡ get_or ss j d = get_or-take n ss j d (omega arith) in
          λ e. far (ap (λ (z : Step). z.lit.var) (sym a) ∙ e ∙ ap (λ (z : Step). z.lit.var) b));
      from_one = All-take (λ u. 1 ≤ u.lit.var) n ss t.from_one;
      up_to = rw (lits_take n ss) (All-take (λ l. l.var ≤ vars) n (lits ss) t.up_to);
      reasons = λ place step at k e. (
          let w : place < n = (let b = at.within in omega arith) in
          let before : take place (take n ss) ≡ take place ss = take-take place n ss (omega arith) in
          subst (λ (z : List Step). IsReason cs (lits z) step.lit k) (sym before)
          (t.reasons place step (record { within = omega arith; is = at.is ∙ get_or-take n ss place step w }) k e));
    }

pub shows_pop : (marks : List (Option Mark)) (front : List Step) (s : Step) → ArePlaces marks (front ++ s ∷ [])
    → s.lit.var < length marks → IsAbsent s.lit.var front → ArePlaces (set marks s.lit.var None) front
shows_pop marks front s h lt a = record {
  shown = λ x in'. elim (cases_eq x s.lit.var) [
    | inr ne ↦ get_or-set_other marks s.lit.var x None None ne
        ∙ h.shown x (let e = length-set marks s.lit.var None in omega arith)
        ∙ mark_push_other 0 front s x (λ e. ne (sym e))
    | inl e ↦ ap (λ (n : ℕ). get_or (set marks s.lit.var None) n None) e
        ∙ get_or-set_same marks s.lit.var None None lt
        ∙ sym (mark_absent 0 front s.lit.var a)
        ∙ ap (mark_from 0 front) (sym e)
  ];
}

pub absent_in_front : (front : List Step) (s : Step) → AreDistinct (front ++ s ∷ []) → IsAbsent s.lit.var front
absent_in_front front s d = λ k e lt. (
    let far : (get_or (front ++ s ∷ []) k e).lit.var ≢ (get_or (front ++ s ∷ []) (length front) e).lit.var =
    d k (length front) e lt (let b = length_push front s in omega arith) in
    let a : get_or (front ++ s ∷ []) k e ≡ get_or front k e = get_or_append_left front (s ∷ []) e k lt in
    let b : get_or (front ++ s ∷ []) (length front) e ≡ s = get_or_push front s e (length front) refl in
    λ same. far (ap (λ (z : Step). z.lit.var) a ∙ same ∙ ap (λ (z : Step). z.lit.var) (sym b)))

-- one clause more
got_append : (cs ds : List (List Literal)) (n : ℕ) (c : List Literal) → slice_get cs n ≡ Some c
    → slice_get (cs ++ ds) n ≡ Some c
got_append [] ds n c h = absurd (let e : None ≡ Some c = h in cc)
got_append (x ∷ xs) ds zero c h = h
got_append (x ∷ xs) ds (suc n) c h = got_append xs ds n c h

pub numbered_append : (cs ds : List (List Literal)) (n : ℕ) (c : List Literal) → numbered cs n ≡ Some c
    → numbered (cs ++ ds) n ≡ Some c
numbered_append cs ds zero c h = absurd (let e : None ≡ Some c = h in cc)
numbered_append cs ds (suc n) c h = got_append cs ds n c h

pub reason_append : (cs ds : List (List Literal)) (before : List Literal) (l : Literal) (n : ℕ) → IsReason cs before l n
    → IsReason (cs ++ ds) before l n
reason_append cs ds before l n r = record {
  clause = r.clause;
  is = numbered_append cs ds n r.clause r.is;
  held =
      r.held;
  others = r.others;
}

pub trail_append : (cs ds : List (List Literal)) (vars : ℕ) (ss : List Step) → IsTrail cs vars ss
    → IsTrail (cs ++ ds) vars ss
trail_append cs ds vars ss t = record {
  distinct = t.distinct;
  from_one = t.from_one;
  up_to = t.up_to;
  reasons = λ place step at n e. reason_append cs ds (lits (take place ss)) step.lit n (t.reasons place step at n e);
}

-- a step more with a reason
pub extends_push : (xs bs : List Step) (s : Step) → Extends xs bs → IsSome s.reason → Extends xs (bs ++ s ∷ [])
extends_push xs bs s e r = record {
  added = e.added ++ s ∷ [];
  is = ap (λ (z : List Step). z ++ s ∷ []) e.is ∙ append_assoc xs e.added (s ∷ []);
  reasons = All-push (λ t. IsSome t.reason) e.added s e.reasons r;
}
