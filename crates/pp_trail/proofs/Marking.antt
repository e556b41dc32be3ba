-- What the marks of a trail say of its literals.
use Rattle.std.proofs.Common.{ℕ, suc, ◌+◌, ◌≡◌, ◌≢◌, ◌<◌, ◌≤◌, List, [], ◌∷◌, Some}
use Rattle.std.proofs.Common.{None, sym, refl, ◌∙◌, subst, inl, inr, arith, eqb}
use Rattle.std.proofs.lemmas.Bool.{cond-true, cond-false, ne_eqb}
use Rattle.std.proofs.lemmas.Bool.Decides.{eqb_tells}
use Rattle.std.proofs.lemmas.List.Elements.{All-nil, All-cons, All-head, All-tail}
use Rattle.pp_clause.specs.Literal.{Literal}
use Rattle.pp_clause.proofs.Has.{has-All}
use Rattle.pp_trail.specs.declared.step.Step.{Step}
use Rattle.pp_trail.specs.declared.marks.Mark.{Mark}
use Rattle.pp_trail.specs.Trail.{lits, StandsAt, IsPlaceOf, IsTrail}
use Rattle.pp_trail.specs.Marks.{mark_from}
use Rattle.pp_trail.proofs.Places.{IsAbsent, absent_from_lits}

pub mark_absent : (from : ℕ) (ss : List Step) (x : ℕ) → IsAbsent x ss → mark_from from ss x ≡ None
mark_absent from [] x a = refl
mark_absent from (s ∷ ss) x a =
    cond-false (eqb s.lit.var x) _ (mark_from (suc from) ss x)
    (ne_eqb s.lit.var x (All-head (λ t. t.lit.var ≢ x) s ss a))
    ∙ mark_absent (suc from) ss x (All-tail (λ t. t.lit.var ≢ x) s ss a)

pub absent_from_mark : (from : ℕ) (ss : List Step) (x : ℕ) → mark_from from ss x ≡ None → IsAbsent x ss
absent_from_mark from [] x h = All-nil (λ t. t.lit.var ≢ x)
absent_from_mark from (s ∷ ss) x h =
    elim (eqb_tells s.lit.var x) [
      | inl p ↦ absurd (let e : Some (record { positive = s.lit.positive; place = from }) ≡ None =
          sym (cond-true (eqb s.lit.var x) (Some (record { positive = s.lit.positive; place = from }))
          (mark_from (suc from) ss x) p.0) ∙ h in cc)
      | inr p ↦ All-cons (λ t. t.lit.var ≢ x) s ss p.1 (absent_from_mark (suc from) ss x
          (sym (cond-false (eqb s.lit.var x) _ (mark_from (suc from) ss x) p.0) ∙ h))
    ]

-- where a mark says that the variable stands
pub record Found (from : ℕ) (ss : List Step) (x : ℕ) (m : Mark) : Type 0 where
  pub index : ℕ
  pub step : Step
  pub stands : StandsAt ss index step
  pub place : m.place ≡ from + index
  pub var : step.lit.var ≡ x

pub mark_found : (from : ℕ) (ss : List Step) (x : ℕ) (m : Mark) → mark_from from ss x ≡ Some m → Found from ss x m
mark_found from [] x m h = absurd (let e : None ≡ Some m = h in cc)
mark_found from (s ∷ ss) x m h =
    elim (eqb_tells s.lit.var x) [
      | inl p ↦ (
          let e : Some (record { positive = s.lit.positive; place = from }) ≡ Some m =
          sym (cond-true (eqb s.lit.var x) (Some (record { positive = s.lit.positive; place = from }))
          (mark_from (suc from) ss x) p.0) ∙ h in
          let f : from ≡ m.place = cc in
          record {
            index = 0;
            step = s;
            stands = record { within = omega arith; is = refl };
            place = omega arith;
            var =
                p.1;
          })
      | inr p ↦ (
          let q : Found (suc from) ss x m =
          mark_found (suc from) ss x m (sym (cond-false (eqb s.lit.var x) _ (mark_from (suc from) ss x) p.0) ∙ h) in
          let w = q.stands.within in
          let k = q.place in
          record {
            index = suc q.index;
            step = q.step;
            stands =
                record { within = omega arith; is = q.stands.is };
            place = omega arith;
            var = q.var;
          })
    ]

-- the place by the mark
pub place_shown : (ss : List Step) (x : ℕ) (m : Mark) → Some m ≡ mark_from 0 ss x → IsPlaceOf ss x m.place
place_shown ss x m e =
    let q : Found 0 ss x m = mark_found 0 ss x m (sym e) in
    record {
      step = q.step;
      stands = subst (λ (n : ℕ). StandsAt ss n q.step) (let k = q.place in omega arith) q.stands;
      is = q.var;
    }

-- a variable above all that a trail may have
pub mark_past : (cs : List (List Literal)) (vars : ℕ) (ss : List Step) (x : ℕ) → IsTrail cs vars ss → vars < x
    → mark_from 0 ss x ≡ None
mark_past cs vars ss x t lt = mark_absent 0 ss x (absent_from_lits x ss (λ m h e.
    let le : m.var ≤ vars = has-All (λ l. l.var ≤ vars) (lits ss) m t.up_to h in
    absurd (omega arith)))
