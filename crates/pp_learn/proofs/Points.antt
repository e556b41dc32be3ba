-- What is left at the implication point is new, and what is left of decisions is made of them.
use Rattle.std.proofs.Common.{ℕ, suc, ◌+◌, ◌-◌, ◌≡◌, ◌≢◌, ◌<◌, ◌≤◌, Bool, true, false, List, Option, Some, None, ◌∷◌}
use Rattle.std.proofs.Common.{◌++◌, [], sym, refl, ap, ◌∙◌, subst, inl, inr, ◌⊎◌, arith, length, get_or, take, zero}
use Rattle.std.specs.Prelude.{filter, is_none}
use Rattle.std.proofs.lemmas.Bool.{cases_lt, and_parts, and_from, false_from_ne_true}
use Rattle.pp_clause.specs.Literal.{Literal, opposite}
use Rattle.pp_clause.specs.Clause.{has}
use Rattle.pp_clause.specs.Log.{all_negated}
use Rattle.pp_clause.specs.New.{OthersNegated, IsOpen, IsClosed, IsNew}
use Rattle.pp_clause.proofs.Has.{has-here, has-there, opposite_twice, false_not_true}
use Rattle.pp_trail.specs.declared.step.Step.{Step}
use Rattle.pp_trail.specs.Trail.{lits, StandsAt, IsTrail}
use Rattle.pp_trail.proofs.Places.{literal_at, has_at}
use Rattle.pp_trail.proofs.Negated.{all_negated_from}
use Rattle.pp_learn.specs.Seen.{is_marked, Shows, MarkedAt, IsPoint, KeepsFrom, FollowsLast}
use Rattle.pp_learn.specs.Reached.{AreDecisions}
use Rattle.pp_learn.specs.Conflict.{decisions, IsBack}
use Rattle.pp_learn.proofs.Places.{literal_in, literal_place, has_step, one_place, same_step}

-- where the analysis ends: one step alone is marked from `start` on
pub record Ends (cs : List (List Literal)) (vars : ℕ) (steps : List Step) (seen : List Bool) (start point back : ℕ)
    (c : List Literal) : Type 0 where
  pub trail : IsTrail cs vars steps
  pub alone : IsPoint steps seen start point
  pub shown : Shows seen (lits steps) c
  pub follows : FollowsLast steps seen start back

-- the implication point is still there after minimization
pub point_kept : (steps : List Step) (old new : List Bool) (start point : ℕ) → KeepsFrom steps start old new
    → IsPoint steps old start point → IsPoint steps new start point
point_kept steps old new start point k p = record {
  low = p.low;
  marked = record {
    step = p.marked.step;
    at = p.marked.at;
    marked = k.same point p.marked.step p.low p.marked.at
        ∙ p.marked.marked;
  };
  before = record { clear = λ i s low high at. k.same i s low at ∙ p.before.clear i s low high at };
  after = record {
    clear =
        λ i s low high at. k.same i s (let h : start ≤ point = p.low in omega arith) at ∙ p.after.clear i s low high at;
  };
}

-- a literal of the clause that is shown, as a step
pub record Shown (steps : List Step) (seen : List Bool) (m : Literal) : Type 0 where
  pub place : ℕ
  pub step : Step
  pub at : StandsAt steps place step
  pub is : step.lit ≡ opposite m
  pub marked : is_marked seen step.lit.var ≡ true

pub shown_step : (steps : List Step) (seen : List Bool) (c : List Literal) (m : Literal) → Shows seen (lits steps) c
    → has c m ≡ true → Shown steps seen m
shown_step steps seen c m k h =
    let both = and_parts (is_marked seen m.var) (has (lits steps) (opposite m)) (sym (k.same m) ∙ h) in
    let p = literal_in steps (opposite m) both.1 in
    record {
      place = p.place;
      step = p.step;
      at = p.stands;
      is = p.is;
      marked =
          ap (is_marked seen) (ap (λ (z : Literal). z.var) p.is) ∙ both.0;
    }

pub step_shown : (steps : List Step) (seen : List Bool) (c : List Literal) (i : ℕ) (s : Step)
    → Shows seen (lits steps) c → StandsAt steps i s → is_marked seen s.lit.var ≡ true → has c (opposite s.lit) ≡ true
step_shown steps seen c i s k at h =
    k.same (opposite s.lit) ∙ and_from (is_marked seen s.lit.var) (has (lits steps) (opposite (opposite s.lit))) h
    (subst (λ (z : Literal). has (lits steps) z ≡ true) (sym (opposite_twice s.lit)) (has_step steps i s at))

pub ends_held : (cs : List (List Literal)) (vars : ℕ) (steps : List Step) (seen : List Bool) (start point back : ℕ)
    (c : List Literal) (s : Step) (u : Literal) → Ends cs vars steps seen start point back c → StandsAt steps point s
    → u ≡ opposite s.lit → has c u ≡ true
ends_held cs vars steps seen start point back c s u e at is =
    let same : e.alone.marked.step ≡ s = same_step steps point point e.alone.marked.step s e.alone.marked.at at refl in
    subst (λ (z : Literal). has c z ≡ true) (sym is) (step_shown steps seen c point s e.shown at
    (subst (λ (z : Step). is_marked seen z.lit.var ≡ true) same e.alone.marked.marked))

-- the other literals were made false before `start`
others_before : (cs : List (List Literal)) (vars : ℕ) (steps : List Step) (seen : List Bool) (start point back : ℕ)
    (c : List Literal) (s : Step) (u m : Literal) → Ends cs vars steps seen start point back c → StandsAt steps point s
    → u ≡ opposite s.lit → has c m ≡ true → m ≢ u → (p : Shown steps seen m) × (p.place < back)
others_before cs vars steps seen start point back c s u m e at is h ne =
    let p = shown_step steps seen c m e.shown h in
    (p, place_before p)
  where
    place_before : (p : Shown steps seen m) → p.place < back
    place_before p =
        elim (cases_lt p.place back) [
          | inl lt ↦ lt
          | inr ge ↦ elim (cases_lt p.place start) [
            | inl lt ↦ absurd (false_not_true (sym (e.follows.rest.clear p.place p.step ge lt p.at) ∙ p.marked))
            | inr high ↦ elim (cases_lt p.place point) [
              | inl lt ↦ absurd (false_not_true (sym (e.alone.before.clear p.place p.step high lt p.at) ∙ p.marked))
              | inr up ↦ elim (cases_lt point p.place) [
                | inl lt ↦ absurd (false_not_true
                    (sym (e.alone.after.clear p.place p.step (omega arith) p.at.within p.at) ∙ p.marked))
                | inr down ↦ (let same : p.step ≡ s = same_step steps p.place point p.step s p.at at (omega arith) in
                    absurd (ne (sym (opposite_twice m) ∙ ap opposite (sym p.is ∙ ap (λ (z : Step). z.lit) same)
                    ∙ sym is)))
              ]
            ]
          ]
        ]

pub ends_back : (cs : List (List Literal)) (vars : ℕ) (steps : List Step) (seen : List Bool) (start point back : ℕ)
    (c : List Literal) (s : Step) (u : Literal) → Ends cs vars steps seen start point back c → StandsAt steps point s
    → u ≡ opposite s.lit → IsBack steps c u back
ends_back cs vars steps seen start point back c s u e at is = record {
  others = record {
    negated = λ m h ne.
        let p = others_before cs vars steps seen start point back c s u m e at is h ne in
        subst (λ (z : Literal). has (lits (take back steps)) z ≡ true) p.0.is
        (has_at steps p.0.place back p.0.step p.0.at p.1);
  };
  least = λ n o. by_back back refl n o;
}
  where
    by_back : (b : ℕ) → back ≡ b → (n : ℕ) → OthersNegated (lits (take n steps)) c u → back ≤ n
    by_back zero same n o = omega arith
    by_back (suc q) same n o =
        let last : MarkedAt steps seen q = e.follows.last q (omega arith) in
        let held : has c (opposite last.step.lit) ≡ true =
        step_shown steps seen c q last.step e.shown last.at last.marked in
        let apart : opposite last.step.lit ≢ u = λ k.
        let one : q ≡ point = one_place cs vars steps q point last.step s e.trail last.at at
        (ap (λ (z : Literal). z.var) (k ∙ is)) in
        let within : back ≤ start = e.follows.within in
        let low : start ≤ point = e.alone.low in
        omega arith in
        let p = literal_at steps n (opposite (opposite last.step.lit))
        (o.negated (opposite last.step.lit) held apart) in
        let one : p.place ≡ q =
        literal_place cs vars steps n q (opposite (opposite last.step.lit)) last.step e.trail p last.at refl in
        let before : p.place < n = p.before in
        omega arith

-- the literal itself is open before `start`
pub ends_open : (cs : List (List Literal)) (vars : ℕ) (steps : List Step) (seen : List Bool) (start point back : ℕ)
    (c : List Literal) (s : Step) (u : Literal) → Ends cs vars steps seen start point back c → StandsAt steps point s
    → u ≡ opposite s.lit → IsOpen (lits (take start steps)) u
ends_open cs vars steps seen start point back c s u e at is = record {
  itself = absent u (ap (λ (z : Literal). z.var) is);
  negation = absent (opposite u) (ap (λ (z : Literal). z.var) is);
}
  where
    absent : (m : Literal) → m.var ≡ s.lit.var → has (lits (take start steps)) m ≡ false
    absent m same = false_from_ne_true (has (lits (take start steps)) m) (λ h.
        let p = literal_at steps start m h in
        let one : p.place ≡ point = literal_place cs vars steps start point m s e.trail p at same in
        let before : p.place < start = p.before in
        let low : start ≤ point = e.alone.low in
        omega arith)

others_more : (steps : List Step) (n k : ℕ) (c : List Literal) (u : Literal) → n ≤ k
    → OthersNegated (lits (take n steps)) c u → OthersNegated (lits (take k steps)) c u
others_more steps n k c u le o = record {
  negated = λ m h ne.
      let p = literal_at steps n (opposite m) (o.negated m h ne) in
      let lt : p.place < n = p.before in
      subst (λ (z : Literal). has (lits (take k steps)) z ≡ true) p.is
      (has_at steps p.place k p.step p.stands (omega arith));
}

-- so the clause is new
pub ends_new : (cs : List (List Literal)) (vars : ℕ) (steps : List Step) (seen : List Bool) (start point back : ℕ)
    (c : List Literal) (s : Step) (u : Literal) → Ends cs vars steps seen start point back c → StandsAt steps point s
    → u ≡ opposite s.lit → IsClosed cs (lits (take start steps)) → IsNew cs c
ends_new cs vars steps seen start point back c s u e at is closed = record {
  literal = u;
  set = lits (take start steps);
  closed = closed;
  held = ends_held cs vars steps seen start point back c s u e at is;
  others = others_more steps back start c u e.follows.within
      (ends_back cs vars steps seen start point back c s u e at is).others;
  open_literal = ends_open cs vars steps seen start point back c s u e at is;
}

-- what is left, in the words of the calls
pub ends_from : (cs : List (List Literal)) (vars : ℕ) (steps read : List Step) (old seen : List Bool)
    (start point back : ℕ) (c : List Literal) → IsTrail cs vars steps → read ≡ steps → IsPoint read old start point
    → KeepsFrom read start old seen → Shows seen (lits read) c → FollowsLast read seen start back
    → Ends cs vars steps seen start point back c
ends_from cs vars steps read old seen start point back c trail same p k shown follows = record {
  trail = trail;
  alone = subst (λ (z : List Step). IsPoint z seen start point) same (point_kept read old seen start point k p);
  shown = subst (λ (z : List Step). Shows seen (lits z) c) same shown;
  follows = subst (λ (z : List Step). FollowsLast z seen start back) same follows;
}

pub stands_from : (steps read : List Step) (seen : List Bool) (start point : ℕ) (s : Step) → read ≡ steps
    → IsPoint read seen start point → s ≡ get_or read point s → StandsAt steps point s
stands_from steps read seen start point s same p is =
    subst (λ (z : List Step). StandsAt z point s) same (record { within = p.marked.at.within; is = is })

pub shown_negated : (steps : List Step) (seen : List Bool) (c : List Literal) → Shows seen (lits steps) c
    → all_negated (lits steps) c ≡ true
shown_negated steps seen c k = all_negated_from (lits steps) c
    (λ m h. (and_parts (is_marked seen m.var) (has (lits steps) (opposite m)) (sym (k.same m) ∙ h)).1)

-- a decision is one of the decisions
decision_there : (steps : List Step) (i : ℕ) (s : Step) → i < length steps → s ≡ get_or steps i s → s.reason ≡ None
    → has (decisions steps) s.lit ≡ true
decision_there [] i s lt e n = absurd (omega arith)
decision_there (x ∷ xs) zero s lt e n =
    subst (λ (b : Bool). has (lits (Rattle.std.proofs.Common.cond b (x ∷ filter (λ t. is_none t.reason) xs)
    (filter (λ t. is_none t.reason) xs))) s.lit ≡ true)
    (sym (ap is_none (ap (λ (z : Step). z.reason) (sym e) ∙ n)))
    (subst (λ (z : Step). has (z.lit ∷ decisions xs) s.lit ≡ true) e (has-here s.lit (decisions xs)))
decision_there (x ∷ xs) (suc i) s lt e n = more (is_none x.reason) (decision_there xs i s (omega arith) e n)
  where
    more : (b : Bool) → has (decisions xs) s.lit ≡ true
        → has (lits (Rattle.std.proofs.Common.cond b (x ∷ filter (λ t. is_none t.reason) xs)
        (filter (λ t. is_none t.reason) xs))) s.lit ≡ true
    more true h = has-there x.lit (decisions xs) s.lit h
    more false h = h

pub shown_decided : (steps : List Step) (seen : List Bool) (c : List Literal) → Shows seen (lits steps) c
    → AreDecisions steps seen 0 → all_negated (decisions steps) c ≡ true
shown_decided steps seen c k d = all_negated_from (decisions steps) c (λ m h.
    let p = shown_step steps seen c m k h in
    subst (λ (z : Literal). has (decisions steps) z ≡ true) p.is
    (decision_there steps p.place p.step p.at.within p.at.is
    (d.decided p.place p.step (omega arith) p.at p.marked)))

pub refuted : (steps read : List Step) (seen : List Bool) (c : List Literal) → read ≡ steps → Shows seen (lits read) c
    → AreDecisions read seen 0 → all_negated (decisions steps) c ≡ true
refuted steps read seen c same k d = subst (λ (z : List Step). all_negated (decisions z) c ≡ true) same
    (shown_decided read seen c k d)
