-- An assignment that is read off a trail.
use Rattle.std.proofs.Common.{ℕ, ◌+◌, ◌-◌, ◌≡◌, ◌<◌, ◌≤◌, Bool, true, false, List, [], ◌∷◌, ◌++◌, sym, refl, ap, ◌∙◌}
use Rattle.std.proofs.Common.{subst, inl, inr, arith, length, get_or, set, take, not, All}
use Rattle.std.specs.List.{list_all}
use Rattle.std.proofs.lemmas.Bool.{both_ways, cases_Bool, cases_eq, and_from, and_cases, and_parts}
use Rattle.std.proofs.lemmas.List.{get_or-set_same, get_or-set_other, get_or_default}
use Rattle.std.proofs.lemmas.List.Elements.{All-head, All-tail, All-take}
use Rattle.pp_clause.specs.Literal.{Literal, opposite, lit_value, IsVariable}
use Rattle.pp_clause.specs.Clause.{has, IsClause, clause_value, clauses_value}
use Rattle.pp_clause.specs.Assignment.{assigned}
use Rattle.pp_clause.specs.Log.{all_negated}
use Rattle.pp_clause.proofs.Has.{has-here, has-there, has-All, same_var_cases, opposite_twice}
use Rattle.pp_clause.proofs.Truth.{true_from_has}
use Rattle.pp_trail.specs.declared.step.Step.{Step}
use Rattle.pp_clause.specs.Bound.{IsUpTo}
use Rattle.pp_trail.specs.Trail.{IsTrail, StandsAt, lits}
use Rattle.pp_trail.proofs.Places.{IsAbsent, literal_at, has_at, absent_before, absent_lits, absent_from_lits}
use Rattle.pp_trail.proofs.Growing.{lits_take}
use Rattle.pp_cdcl.specs.Reading.{Reads, IsFull}

-- the variable of a step is one of those that there are
pub step_up_to : (cs : List (List Literal)) (vars : ℕ) (steps : List Step) (i : ℕ) (s : Step) → IsTrail cs vars steps
    → StandsAt steps i s → s.lit.var ≤ vars
step_up_to cs vars steps i s t at =
    has-All (λ l. l.var ≤ vars) (lits (take (i + 1) steps)) s.lit
    (rw (lits_take (i + 1) steps) (All-take (λ l. l.var ≤ vars) (i + 1) (lits steps) t.up_to))
    (has_at steps i (i + 1) s at (omega arith))

-- the values after one more step
pub reads_more : (cs : List (List Literal)) (vars : ℕ) (steps : List Step) (values : List Bool) (i : ℕ) (s : Step)
    → IsTrail cs vars steps → StandsAt steps i s → length values ≡ vars → Reads values (lits (take i steps))
    → 1 ≤ s.lit.var → Reads (set values (s.lit.var - 1) s.lit.positive) (lits (take (i + 1) steps))
reads_more cs vars steps values i s t at len h low = record {
  read = λ m k.
      let p = literal_at steps (i + 1) m k in
      elim (cases_eq p.place i) [
        | inl e ↦ (
            let same : p.step ≡ s =
            p.stands.is ∙ ap (λ (n : ℕ). get_or steps n p.step) e ∙ get_or_default steps i p.step s at.within
            ∙ sym at.is in
            let is : s.lit ≡ m = ap (λ (z : Step). z.lit) (sym same) ∙ p.is in
            let up : s.lit.var ≤ vars = step_up_to cs vars steps i s t at in
            subst (λ (z : Literal). get_or (set values (s.lit.var - 1) s.lit.positive) (z.var - 1) false ≡ z.positive)
            is
            (get_or-set_same values (s.lit.var - 1) s.lit.positive false (omega arith)))
        | inr ne ↦ (
            let lt : p.place < i = (let b = p.before in omega arith) in
            let there : has (lits (take i steps)) m ≡ true =
            subst (λ (z : Literal). has (lits (take i steps)) z ≡ true) p.is
            (has_at steps p.place i p.step p.stands lt) in
            let far : m.var ≡ s.lit.var → ⊥ =
            absent_lits s.lit.var (take i steps) m (absent_before steps i s t.distinct at) there in
            let one : 1 ≤ m.var = from_one steps p.place p.step m p.stands p.is t.from_one in
            get_or-set_other values (s.lit.var - 1) (m.var - 1) s.lit.positive false (λ e. far (omega arith))
            ∙ h.read m there)
      ];
}
  where
    from_one : (steps : List Step) (place : ℕ) (step : Step) (m : Literal) → StandsAt steps place step → step.lit ≡ m
        → All (λ z. 1 ≤ z.lit.var) steps → 1 ≤ m.var
    from_one steps place step m at is h =
        let a : 1 ≤ (get_or steps place step).lit.var = h place step at.within in
        subst (λ (z : Literal). 1 ≤ z.var) is (subst (λ (z : Step). 1 ≤ z.lit.var) (sym at.is) a)

-- a literal that stands there is true
lit_true : (values : List Bool) (ls : List Literal) (l : Literal) → Reads values ls → has ls l ≡ true
    → lit_value (assigned values) l ≡ true
lit_true values ls l r h = by_sign l.positive refl (r.read l h)
  where
    by_sign : (b : Bool) → l.positive ≡ b → get_or values (l.var - 1) false ≡ l.positive
        → lit_value (assigned values) (record { var = l.var; positive = l.positive }) ≡ true
    by_sign true e r = ap (λ (b : Bool). lit_value (assigned values) (record { var = l.var; positive = b })) e ∙ r ∙ e
    by_sign false e r = ap (λ (b : Bool). lit_value (assigned values) (record { var = l.var; positive = b })) e
        ∙ ap not (r ∙ e)

-- a clause that isn't false under a full trail has a literal that is true
record NotFalse (ls c : List Literal) : Type 0 where
  pub literal : Literal
  pub held : has c literal ≡ true
  pub missing : has ls (opposite literal) ≡ false

not_false : (ls c : List Literal) → all_negated ls c ≡ false → NotFalse ls c
not_false ls [] h = absurd (let e : true ≡ false = h in cc)
not_false ls (l ∷ c) h =
    elim (cases_Bool (has ls (opposite l))) [
      | inr f ↦ record { literal = l; held = has-here l c; missing = f }
      | inl t ↦ (
          let rest : all_negated ls c ≡ false = elim (and_cases (has ls (opposite l)) (all_negated ls c) h) [
            | inl f ↦ absurd (both_ways (has ls (opposite l)) f t)
            | inr r ↦ r
          ] in
          let w = not_false ls c rest in
          record { literal = w.literal; held = has-there l c w.literal w.held; missing = w.missing })
    ]

set_or_negated : (steps : List Step) (l : Literal) → (IsAbsent l.var steps → ⊥) → has (lits steps) (opposite l) ≡ false
    → has (lits steps) l ≡ true
set_or_negated steps l n f =
    elim (cases_Bool (has (lits steps) l)) [
      | inl t ↦ t
      | inr g ↦ absurd (n (absent_from_lits l.var steps (λ m h e. elim (same_var_cases l m (sym e)) [
        | inl s ↦ both_ways (has (lits steps) l) g (subst (λ (z : Literal). has (lits steps) z ≡ true) (sym s) h)
        | inr s ↦ both_ways (has (lits steps) (opposite l)) f
            (subst (λ (z : Literal). has (lits steps) z ≡ true) (sym (ap opposite s ∙ opposite_twice m)) h)
      ])))
    ]

clause_true : (vars : ℕ) (steps : List Step) (values : List Bool) (c : List Literal) → IsFull vars steps
    → Reads values (lits steps) → IsClause c → IsUpTo vars c → all_negated (lits steps) c ≡ false
    → clause_value (assigned values) c ≡ true
clause_true vars steps values c full r o up n =
    let w = not_false (lits steps) c n in
    let range : IsVariable w.literal.var = has-All (λ l. IsVariable l.var) c w.literal o.in_range w.held in
    let high : w.literal.var ≤ vars = has-All (λ l. l.var ≤ vars) c w.literal up w.held in
    let there = set_or_negated steps w.literal (full.none_absent w.literal.var range.0 high) w.missing in
    true_from_has (assigned values) c w.literal w.held (lit_true values (lits steps) w.literal r there)

pub clauses_true : (vars : ℕ) (steps : List Step) (values : List Bool) (cs : List (List Literal)) → IsFull vars steps
    → Reads values (lits steps) → All IsClause cs → All (IsUpTo vars) cs
    → All (λ c. all_negated (lits steps) c ≡ false) cs → clauses_value (assigned values) cs ≡ true
clauses_true vars steps values [] full r o up n = refl
clauses_true vars steps values (c ∷ cs) full r o up n =
    and_from (clause_value (assigned values) c) (clauses_value (assigned values) cs)
    (clause_true vars steps values c full r (All-head IsClause c cs o) (All-head (IsUpTo vars) c cs up)
    (All-head (λ d. all_negated (lits steps) d ≡ false) c cs n))
    (clauses_true vars steps values cs full r (All-tail IsClause c cs o) (All-tail (IsUpTo vars) c cs up)
    (All-tail (λ d. all_negated (lits steps) d ≡ false) c cs n))

pub assumptions_true : (values : List Bool) (ls assumed : List Literal) → Reads values ls
    → All (λ a. has ls a ≡ true) assumed → list_all (lit_value (assigned values)) assumed ≡ true
assumptions_true values ls [] r h = refl
assumptions_true values ls (a ∷ as') r h =
    and_from (lit_value (assigned values) a) (list_all (lit_value (assigned values)) as')
    (lit_true values ls a r (All-head (λ z. has ls z ≡ true) a as' h))
    (assumptions_true values ls as' r (All-tail (λ z. has ls z ≡ true) a as' h))

-- the clauses that come first in a list of more
pub first_true : (s : ℕ → Bool) (cs ds : List (List Literal)) → clauses_value s (cs ++ ds) ≡ true
    → clauses_value s cs ≡ true
first_true s [] ds h = refl
first_true s (c ∷ cs) ds h =
    let p = and_parts (clause_value s c) (clauses_value s (cs ++ ds)) h in
    and_from (clause_value s c) (clauses_value s cs) p.0 (first_true s cs ds p.1)
