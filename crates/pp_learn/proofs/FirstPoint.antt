-- The chain up to the first unique implication point.
use Rattle.std.proofs.Common.{ℕ, ◌+◌, ◌-◌, ◌≡◌, ◌≢◌, ◌<◌, ◌≤◌, Bool, true, false, List, ◌∷◌, ◌++◌, [], sym, refl, ap}
use Rattle.std.proofs.Common.{◌∙◌, subst, inl, inr, arith, length, take, append_assoc, append-nil}
use Rattle.std.proofs.lemmas.Bool.{cases_eq, cases_lt, false_from_ne_true}
use Rattle.std.proofs.lemmas.List.{take-append-le, take_at, length_push}
use Rattle.pp_clause.specs.Literal.{Literal, opposite}
use Rattle.pp_clause.specs.Clause.{has}
use Rattle.pp_clause.specs.New.{IsOpen}
use Rattle.pp_clause.proofs.Has.{opposite_twice, false_not_true}
use Rattle.pp_trail.specs.declared.step.Step.{Step}
use Rattle.pp_trail.specs.Trail.{lits, StandsAt, IsTrail}
use Rattle.pp_trail.proofs.Places.{literal_at, has_at}
use Rattle.pp_learn.specs.Seen.{is_marked, MarkedAt, IsPoint, IsMarkedIn, IsLastMarked, Turns}
use Rattle.pp_learn.specs.Reached.{IsTrailFor, Reached}
use Rattle.pp_learn.specs.Conflict.{LeavesTwoOpen, LeavesOpen, AreBeforePoint, ReachesFirstPoint, GoesOnFrom}
use Rattle.pp_learn.proofs.Places.{literal_place, one_place, same_step}
use Rattle.pp_learn.proofs.Walks.{Seeks}
use Rattle.pp_learn.proofs.Points.{Shown, shown_step, step_shown}

-- a literal of a step from `start` on is open before `start`
open_before : (cs : List (List Literal)) (vars : ℕ) (steps : List Step) (start i : ℕ) (s : Step) → IsTrail cs vars steps
    → StandsAt steps i s → start ≤ i → IsOpen (lits (take start steps)) (opposite s.lit)
open_before cs vars steps start i s trail at le = record
    { itself = absent (opposite s.lit) refl; negation = absent (opposite (opposite s.lit)) refl }
  where
    absent : (m : Literal) → m.var ≡ s.lit.var → has (lits (take start steps)) m ≡ false
    absent m same = false_from_ne_true (has (lits (take start steps)) m) (λ h.
        let p = literal_at steps start m h in
        let one : p.place ≡ i = literal_place cs vars steps start i m s trail p at same in
        let before : p.place < start = p.before in
        omega arith)

-- two marked steps from `start` on
pub two_open : (cs : List (List Literal)) (steps : List Step) (seen : List Bool) (chain : List ℕ) (start i j : ℕ)
    → IsTrailFor cs steps seen → Reached cs steps seen chain → MarkedAt steps seen i → MarkedAt steps seen j
    → start ≤ i → i < j → LeavesTwoOpen cs (lits (take start steps)) chain
two_open cs steps seen chain start i j trail r a b low lt = record {
  found = r.found;
  by_chain = r.by_chain;
  one = opposite a.step.lit;
  other = opposite b.step.lit;
  one_held = step_shown steps seen r.found i a.step r.shown a.at a.marked;
  other_held = step_shown steps seen r.found j b.step r.shown b.at b.marked;
  differ = λ e. (let same : i ≡ j =
      one_place cs (length seen - 1) steps i j a.step b.step trail a.at b.at (ap (λ (z : Literal). z.var) e) in
      absurd (omega arith));
  one_open = open_before cs (length seen - 1) steps start i a.step trail a.at low;
  other_open = open_before cs (length seen - 1) steps start j b.step trail b.at (omega arith);
}

-- no front is proper yet
pub before_none : (cs : List (List Literal)) (set : List Literal) (chain : List ℕ) → length chain ≡ 1
    → AreBeforePoint cs set chain
before_none cs set chain e = record { before = λ k low lt. absurd (omega arith) }

-- one step more
pub before_more : (cs : List (List Literal)) (set : List Literal) (old new : List ℕ) (n : ℕ) → new ≡ old ++ n ∷ []
    → AreBeforePoint cs set old → LeavesTwoOpen cs set old → AreBeforePoint cs set new
before_more cs set old new n is b two = record {
  before = λ k low lt. (
      let long : length new ≡ length old + 1 = ap length is ∙ length_push old n in
      let front : take k new ≡ take k old = ap (take k) is ∙ take-append-le k old (n ∷ []) (omega arith) in
      elim (cases_lt k (length old)) [
        | inl in' ↦ subst (λ (z : List ℕ). LeavesTwoOpen cs set z) (sym front) (b.before k low in')
        | inr ge ↦ (let whole : take k new ≡ old =
            ap (take k) is ∙ take_at old (n ∷ []) k (let e : length old ≡ k = omega arith in e) in
            subst (λ (z : List ℕ). LeavesTwoOpen cs set z) (sym whole) two)
      ]);
}

pub goes_none : (chain : List ℕ) → GoesOnFrom chain chain
goes_none chain = record { added = []; is = sym (append-nil chain) }

pub goes_push : (old mid new : List ℕ) (n : ℕ) → GoesOnFrom old mid → new ≡ mid ++ n ∷ [] → GoesOnFrom old new
goes_push old mid new n g is = record {
  added = g.added ++ n ∷ [];
  is = is ∙ ap (λ (z : List ℕ). z ++ n ∷ []) g.is
      ∙ append_assoc old g.added (n ∷ []);
}

pub goes_along : (old mid new : List ℕ) → GoesOnFrom old mid → GoesOnFrom mid new → GoesOnFrom old new
goes_along old mid new g h = record {
  added = g.added ++ h.added;
  is = h.is ∙ ap (λ (z : List ℕ). z ++ h.added) g.is
      ∙ append_assoc old g.added h.added;
}

-- at the point one literal is open, and the others are false before
leaves_open : (cs : List (List Literal)) (steps : List Step) (seen : List Bool) (chain : List ℕ) (start point : ℕ)
    (s : Step) (l : Literal) → IsTrailFor cs steps seen → Reached cs steps seen chain
    → IsPoint steps seen start point → StandsAt steps point s → l ≡ opposite s.lit
    → LeavesOpen cs (lits (take start steps)) l chain
leaves_open cs steps seen chain start point s l trail r p at is = record {
  found = r.found;
  by_chain = r.by_chain;
  held = subst (λ (z : Literal). has r.found z ≡ true) (sym is) (step_shown steps seen r.found point s r.shown at
      (ap (λ (z : Step). is_marked seen z.lit.var) (same_step steps point point s p.marked.step at p.marked.at refl)
      ∙ p.marked.marked));
  others = record {
    negated = λ m h ne.
        let q = shown_step steps seen r.found m r.shown h in
        subst (λ (z : Literal). has (lits (take start steps)) z ≡ true) q.is
        (has_at steps q.place start q.step q.at (low m ne q));
  };
  is_open = subst (λ (z : Literal). IsOpen (lits (take start steps)) z) (sym is)
      (open_before cs (length seen - 1) steps start point s trail at p.low);
}
  where
    low : (m : Literal) → m ≢ l → (q : Shown steps seen m) → q.place < start
    low m ne q = elim (cases_lt q.place start) [
      | inl lt ↦ lt
      | inr high ↦ elim (cases_lt q.place point) [
        | inl lt ↦ absurd (false_not_true (sym (p.before.clear q.place q.step high lt q.at) ∙ q.marked))
        | inr up ↦ elim (cases_lt point q.place) [
          | inl lt ↦ absurd (false_not_true
              (sym (p.after.clear q.place q.step (omega arith) q.at.within q.at) ∙ q.marked))
          | inr down ↦ (let same : q.step ≡ s = same_step steps q.place point q.step s q.at at (omega arith) in
              absurd (ne (sym (opposite_twice m) ∙ ap opposite (sym q.is ∙ ap (λ (z : Step). z.lit) same) ∙ sym is)))
        ]
      ]
    ]

pub reaches_first : (cs : List (List Literal)) (steps : List Step) (seen : List Bool) (part chain : List ℕ)
    (start point : ℕ) (s : Step) (l : Literal) → IsTrailFor cs steps seen → Reached cs steps seen part
    → IsPoint steps seen start point → StandsAt steps point s → l ≡ opposite s.lit
    → AreBeforePoint cs (lits (take start steps)) part → GoesOnFrom part chain
    → ReachesFirstPoint cs (lits (take start steps)) l chain
reaches_first cs steps seen part chain start point s l trail r p at is b g = record {
  part = part;
  rest = g.added;
  is = g.is;
  before = b;
  leaves = leaves_open cs steps seen part start point s l trail r p at is;
}

-- one step of the search for the point
pub seeks_on : (steps : List Step) (old new : List Bool) (start other below place next : ℕ)
    → Seeks steps old start other place → IsMarkedIn steps old start place below → Turns steps place old new
    → IsLastMarked steps new below place next → Seeks steps new start below next
seeks_on steps old new start other below place next k b t n = record {
  low = b.low;
  le = n.low;
  spare = record {
    step = b.marked.step;
    at = b.marked.at;
    marked =
        t.still below b.marked.step (λ e. (let h = b.high in omega arith)) b.marked.at b.marked.marked;
  };
  here = n.marked;
  rest = record {
    clear = λ i s low high at. elim (cases_lt i place) [
      | inl lt ↦ n.rest.clear i s low lt at
      | inr ge ↦ elim (cases_eq i place) [
        | inl e ↦ t.cleared s (subst (λ (z : ℕ). StandsAt steps z s) e at)
        | inr ne ↦ t.keeps.same i s (omega arith) at ∙ k.rest.clear i s (omega arith) high at
      ]
    ];
  };
}
