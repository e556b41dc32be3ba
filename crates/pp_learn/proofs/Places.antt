-- Steps of a trail by their places.
use Rattle.std.proofs.Common.{ℕ, zero, suc, ◌≡◌, ◌<◌, ◌≤◌, true, List, [], ◌∷◌, sym, refl, ap, ◌∙◌, subst, inl, inr}
use Rattle.std.proofs.Common.{arith, length, get_or, take}
use Rattle.std.proofs.Math.Seq.{take-length}
use Rattle.std.proofs.lemmas.Bool.{cases_lt}
use Rattle.std.proofs.lemmas.List.{get_or_default, length-map}
use Rattle.pp_clause.specs.Literal.{Literal}
use Rattle.pp_clause.specs.Clause.{has}
use Rattle.pp_clause.proofs.Ascending.{Consistent}
use Rattle.pp_trail.specs.declared.step.Step.{Step}
use Rattle.pp_trail.specs.Trail.{lits, StandsAt, IsTrail}
use Rattle.pp_trail.proofs.Places.{LiteralAt, literal_at, has_at, distinct_apart}

-- the place of a literal of the trail
pub literal_in : (steps : List Step) (m : Literal) → has (lits steps) m ≡ true → LiteralAt steps (length steps) m
literal_in steps m h = literal_at steps (length steps) m
    (subst (λ (z : List Step). has (lits z) m ≡ true) (sym (take-length steps)) h)

pub has_step : (steps : List Step) (i : ℕ) (s : Step) → StandsAt steps i s → has (lits steps) s.lit ≡ true
has_step steps i s at = subst (λ (z : List Step). has (lits z) s.lit ≡ true) (take-length steps)
    (has_at steps i (length steps) s at at.within)

pub has_more : (steps : List Step) (n : ℕ) (m : Literal) → has (lits (take n steps)) m ≡ true
    → has (lits steps) m ≡ true
has_more steps n m h =
    let p = literal_at steps n m h in
    subst (λ (z : Literal). has (lits steps) z ≡ true) p.is (has_step steps p.place p.step p.stands)

-- one place has one step
pub same_step : (steps : List Step) (i j : ℕ) (s t : Step) → StandsAt steps i s → StandsAt steps j t → i ≡ j → s ≡ t
same_step steps i j s t a b e =
    a.is ∙ get_or_default steps i s t a.within ∙ ap (λ (k : ℕ). get_or steps k t) e ∙ sym b.is

-- a trail has each variable once
pub one_place : (cs : List (List Literal)) (vars : ℕ) (steps : List Step) (i j : ℕ) (s t : Step) → IsTrail cs vars steps
    → StandsAt steps i s → StandsAt steps j t → s.lit.var ≡ t.lit.var → i ≡ j
one_place cs vars steps i j s t trail a b same =
    elim (cases_lt i j) [
      | inl lt ↦ absurd (clash i j s t lt a b same)
      | inr ge ↦ elim (cases_lt j i) [ inl lt ↦ absurd (clash j i t s lt b a (sym same)) | inr le ↦ omega arith ]
    ]
  where
    clash : (k l : ℕ) (u v : Step) → k < l → StandsAt steps k u → StandsAt steps l v → u.lit.var ≡ v.lit.var → ⊥
    clash k l u v lt p q r =
        trail.distinct k l u lt q.within
        (ap (λ (z : Step). z.lit.var) (sym p.is) ∙ r ∙ ap (λ (z : Step). z.lit.var)
        (q.is ∙ get_or_default steps l v u q.within))

-- so a literal of its first steps stands where its variable does
pub literal_place : (cs : List (List Literal)) (vars : ℕ) (steps : List Step) (end i : ℕ) (m : Literal) (s : Step)
    → IsTrail cs vars steps → (p : LiteralAt steps end m) → StandsAt steps i s → m.var ≡ s.lit.var → p.place ≡ i
literal_place cs vars steps end i m s trail p at same = one_place cs vars steps p.place i p.step s trail p.stands at
    (ap (λ (z : Literal). z.var) p.is ∙ same)

-- and no literal together with its negation
pub trail_consistent : (cs : List (List Literal)) (vars : ℕ) (steps : List Step) → IsTrail cs vars steps
    → Consistent (lits steps)
trail_consistent cs vars steps trail = record {
  apart = λ m h k. distinct_apart steps trail.distinct
      (record { literal = m; itself = h; negation = k });
}

-- the step that is read at a place
pub read_at : (steps : List Step) (i : ℕ) (s : Step) → i < length steps → s ≡ get_or steps i s → StandsAt steps i s
read_at steps i s lt e = record { within = lt; is = e }

-- each variable of the trail is in range
pub step_in_range : (cs : List (List Literal)) (vars : ℕ) (steps : List Step) (i : ℕ) (s : Step) → IsTrail cs vars steps
    → StandsAt steps i s → (1 ≤ s.lit.var) × (s.lit.var ≤ vars)
step_in_range cs vars steps i s trail at = (
  subst (λ (z : Step). 1 ≤ z.lit.var) (sym at.is)
      (trail.from_one i s at.within),
  within steps i trail.up_to at,
)
  where
    by_place : (ss : List Step) (k : ℕ) (t : Step) → get_or (lits ss) k t.lit ≡ (get_or ss k t).lit
    by_place [] k t = refl
    by_place (x ∷ xs) zero t = refl
    by_place (x ∷ xs) (suc k) t = by_place xs k t

    within : (ss : List Step) (k : ℕ) → ((j : ℕ) (d : Literal) → j < length (lits ss)
        → (get_or (lits ss) j d).var ≤ vars) → StandsAt ss k s → s.lit.var ≤ vars
    within ss k h a =
        let b : (get_or (lits ss) k s.lit).var ≤ vars =
        h k s.lit (omega (arith, a.within, length-map ss (λ (z : Step). z.lit))) in
        subst (λ (z : Literal). z.var ≤ vars) (by_place ss k s ∙ ap (λ (z : Step). z.lit) (sym a.is)) b
