-- How the state of the solver goes on.
use Rattle.std.proofs.Common.{ℕ, ◌-◌, ◌≡◌, ◌<◌, ◌≤◌, true, List, [], ◌∷◌, ◌++◌, Option, Some, None, sym, refl, ap, ◌∙◌}
use Rattle.std.proofs.Common.{subst, inl, inr, ◌⊎◌, arith, length, get_or, take, All, length-append}
use Rattle.std.specs.Prelude.{IsSome}
use Rattle.std.proofs.lemmas.Bool.{cases_lt, cases_eq}
use Rattle.std.proofs.lemmas.List.{take-append-le, take_at, length_push, get_or_append_left, get_or-append_right}
use Rattle.std.proofs.lemmas.List.{get_or_push}
use Rattle.pp_clause.specs.Literal.{Literal}
use Rattle.pp_clause.specs.Clause.{has}
use Rattle.pp_clause.specs.New.{IsClosed}
use Rattle.pp_clause.specs.declared.log.Lemma.{Lemma}
use Rattle.pp_clause.proofs.Has.{false_not_true}
use Rattle.pp_trail.specs.declared.step.Step.{Step}
use Rattle.pp_trail.specs.Trail.{Trail, Extends, lits}
use Rattle.pp_cdcl.specs.Invariant.{IsDecision, NoDecision, IsBase, IsLayered, Invariant}

-- steps with reasons are no decisions
decision_before : (old new : List Step) (e : Extends old new) (place : ℕ) (step : Step) → IsDecision new place step
    → IsDecision old place step
decision_before old new e place step at =
    elim (cases_lt place (length old)) [
      | inl lt ↦ record {
        stands = record {
          within = lt;
          is = at.stands.is ∙ ap (λ (z : List Step). get_or z place step) e.is
              ∙ get_or_append_left old e.added step place lt;
        };
        free = at.free;
      }
      | inr ge ↦ absurd (
          let long = ap length e.is ∙ length-append old e.added in
          let w = at.stands.within in
          let is : step ≡ get_or e.added (place - length old) step =
          at.stands.is ∙ ap (λ (z : List Step). get_or z place step) e.is
          ∙ get_or-append_right old e.added (length old) place step refl ge in
          let has_reason : IsSome (get_or e.added (place - length old) step).reason =
          e.reasons (place - length old) step (omega arith) in
          none_some step.reason (subst (λ (z : Step). IsSome z.reason) (sym is) has_reason) at.free)
    ]
  where
    none_some : (o : Option ℕ) → IsSome o → o ≡ None → ⊥
    none_some None h e = false_not_true h
    none_some (Some n) h e = let f : Some n ≡ None = e in cc

front_same : (old new : List Step) (e : Extends old new) (n : ℕ) → n ≤ length old → take n new ≡ take n old
front_same old new e n le = ap (take n) e.is ∙ take-append-le n old e.added le

extends_base : (assumed : List Literal) (old new : List Step) (base : Option ℕ) → Extends old new
    → IsBase assumed old base → IsBase assumed new base
extends_base assumed old new None e h = record {
  each = λ place step at lt. (let d = decision_before old new e place step at in h.each place step d d.stands.within);
}
extends_base assumed old new (Some end) e h = record {
  within = (let long = ap length e.is ∙ length-append old e.added in let w = h.within in omega arith);
  decisions = record {
    each = λ place step at lt. h.decisions.each place step (decision_before old new e place step at)
        lt;
  };
  held = subst (λ (z : List Step). All (λ a. has (lits z) a ≡ true) assumed) (sym (front_same old new e end h.within))
      h.held;
}

-- after a propagation
pub kept_propagated : (cs : List (List Literal)) (assumed : List Literal) (lemmas : ℕ) (old new : Trail)
    (log : List Lemma) (base : Option ℕ) → Invariant cs assumed lemmas old log base → new.clauses ≡ old.clauses
    → new.vars ≡ old.vars → Extends old.steps new.steps → Invariant cs assumed lemmas new log base
kept_propagated cs assumed lemmas old new log base s c v e = record {
  logged = record { clauses = c ∙ s.logged.clauses; right = s.logged.right; some_left = s.logged.some_left };
  up_to = rw v s.up_to;
  small = rw v s.small;
  layered = record {
    closed = λ place step at. (
        let d = decision_before old.steps new.steps e place step at in
        let le : place ≤ length old.steps = (let w = d.stands.within in omega arith) in
        rw (c, front_same old.steps new.steps e place le) (s.layered.closed place step d));
  };
  based = extends_base assumed old.steps new.steps base e s.based;
}

-- one decision more
decision_cases : (steps : List Step) (s : Step) (place : ℕ) (step : Step) → IsDecision (steps ++ s ∷ []) place step
    → IsDecision steps place step ⊎ ((place ≡ length steps) × (step ≡ s))
decision_cases steps s place step at =
    elim (cases_eq place (length steps)) [
      | inl e ↦ inr (e, at.stands.is ∙ get_or_push steps s step place (sym e))
      | inr ne ↦ (
          let lt : place < length steps = (let w = at.stands.within in let k = length_push steps s in omega arith) in
          inl (record {
            stands = record {
              within = lt;
              is = at.stands.is
                  ∙ get_or_append_left steps (s ∷ []) step place lt;
            };
            free = at.free;
          }))
    ]

layered_push : (watch : Trail) (s : Step) → IsLayered watch → IsClosed watch.clauses (lits watch.steps)
    → IsLayered (record watch { steps = watch.steps ++ s ∷ [] })
layered_push watch s h c = record {
  closed = λ place step at.
      elim (decision_cases watch.steps s place step at) [
        | inl d ↦ (
            let le : place ≤ length watch.steps = (let w = d.stands.within in omega arith) in
            rw (take-append-le place watch.steps (s ∷ []) le) (h.closed place step d))
        | inr p ↦ rw (take_at watch.steps (s ∷ []) place (sym p.0)) c
      ];
}

-- an assumption is decided
pub kept_assumed : (cs : List (List Literal)) (assumed : List Literal) (lemmas : ℕ) (watch : Trail) (log : List Lemma)
    (s : Step) → Invariant cs assumed lemmas watch log None → IsClosed watch.clauses (lits watch.steps)
    → has assumed s.lit ≡ true → Invariant cs assumed lemmas (record watch { steps = watch.steps ++ s ∷ [] }) log None
kept_assumed cs assumed lemmas watch log s h c a = record {
  logged = record { clauses = h.logged.clauses; right = h.logged.right; some_left = h.logged.some_left };
  up_to = h.up_to;
  small = h.small;
  layered = layered_push watch s h.layered c;
  based = record {
    each = λ place step at lt. elim (decision_cases watch.steps s place step at) [
      | inl d ↦ h.based.each place step d d.stands.within
      | inr p ↦ subst (λ (z : Step). has assumed z.lit ≡ true) (sym p.1) a
    ];
  };
}

-- another literal is decided, once all assumptions are true
pub kept_decided : (cs : List (List Literal)) (assumed : List Literal) (lemmas : ℕ) (watch : Trail) (log : List Lemma)
    (end : ℕ) (s : Step) → Invariant cs assumed lemmas watch log (Some end) → IsClosed watch.clauses (lits watch.steps)
    → Invariant cs assumed lemmas (record watch { steps = watch.steps ++ s ∷ [] }) log (Some end)
kept_decided cs assumed lemmas watch log end s h c =
    let w = h.based.within in
    record {
      logged = record { clauses = h.logged.clauses; right = h.logged.right; some_left = h.logged.some_left };
      up_to = h.up_to;
      small = h.small;
      layered = layered_push watch s h.layered c;
      based = record {
        within = (let k = length_push watch.steps s in omega arith);
        decisions = record {
          each = λ place step at lt. elim (decision_cases watch.steps s place step at) [
            | inl d ↦ h.based.decisions.each place step d lt
            | inr p ↦ absurd (let e = p.0 in omega arith)
          ];
        };
        held = subst (λ (z : List Step). All (λ a. has (lits z) a ≡ true) assumed)
            (sym (take-append-le end watch.steps (s ∷ []) w)) h.based.held;
      };
    }

-- no decision stands before an earlier place either
pub no_decision_before : (steps : List Step) (back to earlier : ℕ) → NoDecision steps back to → earlier ≤ to →
    NoDecision steps back earlier
no_decision_before steps back to earlier h le = record { none = λ place s d ge lt. h.none place s d ge (omega arith) }
