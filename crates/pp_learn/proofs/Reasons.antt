-- The reasons of a trail, as they are looked up.
use Rattle.std.proofs.Common.{ℕ, ◌+◌, ◌-◌, ◌≡◌, ◌≢◌, ◌<◌, ◌≤◌, Bool, true, false, List, Some, sym, ap, ◌∙◌, subst, inl}
use Rattle.std.proofs.Common.{inr, ◌⊎◌, arith, length, take, refl, All}
use Rattle.std.specs.Prelude.{slice_get}
use Rattle.pp_clause.specs.Literal.{Literal, opposite}
use Rattle.pp_clause.specs.Clause.{has, literal_eq, HasBoth, IsClause}
use Rattle.pp_clause.specs.New.{OthersNegated}
use Rattle.pp_clause.proofs.Has.{All-from_has, literal_eq-true, literal_eq-same, false_not_true}
use Rattle.pp_trail.specs.declared.step.Step.{Step}
use Rattle.pp_trail.specs.Trail.{lits, IsReason, IsTrail}
use Rattle.pp_trail.proofs.Places.{literal_at, distinct_apart}
use Rattle.pp_clause.specs.Bound.{Fits}
use Rattle.pp_learn.specs.Seen.{FitAll}
use Rattle.pp_learn.specs.Reached.{IsTrailFor, Reached, ReasonAt, Forces}
use Rattle.pp_learn.proofs.Places.{step_in_range}
use Rattle.pp_learn.proofs.Chains.{numbered_within, numbered_is, derived_some, derived_numbers}

-- the reason as the trail has it
pub reason_at : (cs : List (List Literal)) (steps : List Step) (seen : List Bool) (place n : ℕ)
    → IsTrailFor cs steps seen → (r : ReasonAt steps place n) → IsReason cs (lits (take place steps)) r.step.lit n
reason_at cs steps seen place n trail r = trail.reasons place r.step r.at n r.is

pub reason_numbered : (cs : List (List Literal)) (steps : List Step) (seen : List Bool) (place n : ℕ)
    → IsTrailFor cs steps seen → ReasonAt steps place n → (1 ≤ n) × (n ≤ length cs)
reason_numbered cs steps seen place n trail r =
    let q = reason_at cs steps seen place n trail r in
    let w = numbered_within cs n q.clause q.is in
    (w.0, w.1)

-- what is looked up is that clause
pub reason_forces : (cs : List (List Literal)) (steps : List Step) (seen : List Bool) (place n : ℕ)
    (c got : List Literal) → IsTrailFor cs steps seen → ReasonAt steps place n → slice_get cs (n - 1) ≡ Some got
    → c ≡ got → IsClause got → Forces cs steps place n c
reason_forces cs steps seen place n c got trail r look same order =
    let q = reason_at cs steps seen place n trail r in
    let is : c ≡ q.clause = same ∙ numbered_is cs n q.clause got q.is look in
    record {
      step = r.step;
      at = r.at;
      number = q.is ∙ ap (λ (z : List Literal). Some z) (sym is);
      order = subst IsClause (sym same) order;
      held = subst (λ (z : List Literal). has z r.step.lit ≡ true) (sym is) q.held;
      others = subst (λ (z : List Literal). OthersNegated (lits (take place steps)) z r.step.lit) (sym is) q.others;
    }

same_or_not : (l m : Literal) → (l ≡ m) ⊎ (l ≢ m)
same_or_not l m = cases (literal_eq l m) refl
  where
    cases : (b : Bool) → literal_eq l m ≡ b → (l ≡ m) ⊎ (l ≢ m)
    cases true e = inl (literal_eq-true l m e)
    cases false e = inr (λ s. false_not_true (sym e ∙ ap (literal_eq l) (sym s) ∙ literal_eq-same l))

-- and its variables are those of the trail
pub reason_fits : (cs : List (List Literal)) (steps : List Step) (seen : List Bool) (place n : ℕ) (c : List Literal)
    → IsTrailFor cs steps seen → Forces cs steps place n c → Fits (length seen) c
reason_fits cs steps seen place n c trail f =
    All-from_has (λ l. l.var < length seen) c (λ m h.
    elim (same_or_not m f.step.lit) [
      | inl e ↦ (let r = step_in_range cs (length seen - 1) steps place f.step trail f.at in
          let b : f.step.lit.var < length seen = omega (arith, r.0, r.1) in
          subst (λ (z : Literal). z.var < length seen) (sym e) b)
      | inr ne ↦ (let p = literal_at steps place (opposite m) (f.others.negated m h ne) in
          let r = step_in_range cs (length seen - 1) steps p.place p.step trail p.stands in
          let same : p.step.lit.var ≡ m.var = ap (λ (z : Literal). z.var) p.is in
          omega (arith, r.0, r.1, same))
    ])

-- each variable of the trail has a place in the marks
pub trail_fits : (cs : List (List Literal)) (steps : List Step) (seen : List Bool) → IsTrailFor cs steps seen
    → FitAll (length seen) steps
trail_fits cs steps seen trail = record {
  fit = λ i s at. let r = step_in_range cs (length seen - 1) steps i s trail at in omega (arith, r.0, r.1);
}

-- the same in the words of the calls
pub fits_from : (cs : List (List Literal)) (vars n : ℕ) (steps read : List Step) → IsTrail cs vars steps → read ≡ steps
    → n ≡ vars + 1 → FitAll n read
fits_from cs vars n steps read trail same every =
    subst (λ (z : List Step). FitAll n z) (sym same)
    (record { fit = λ i s at. let r = step_in_range cs vars steps i s trail at in omega (arith, r.1, every) })

pub apart_from : (cs : List (List Literal)) (vars : ℕ) (steps read : List Step) → IsTrail cs vars steps → read ≡ steps
    → HasBoth (lits read) → ⊥
apart_from cs vars steps read trail same b = distinct_apart steps trail.distinct
    (subst (λ (z : List Step). HasBoth (lits z)) same b)

pub chain_some : (cs : List (List Literal)) (steps : List Step) (seen : List Bool) (chain read : List ℕ)
    → Reached cs steps seen chain → read ≡ chain → 0 < length read
chain_some cs steps seen chain read r same = subst (λ (z : List ℕ). 0 < length z) (sym same)
    (derived_some cs chain r.found r.by_chain)

pub chain_numbers : (cs : List (List Literal)) (steps : List Step) (seen : List Bool) (chain read : List ℕ)
    → Reached cs steps seen chain → read ≡ chain → All (λ n. 1 ≤ n) read
chain_numbers cs steps seen chain read r same = subst (λ (z : List ℕ). All (λ n. 1 ≤ n) z) (sym same)
    (derived_numbers cs chain r.found r.by_chain)
