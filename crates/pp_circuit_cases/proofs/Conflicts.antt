-- What the propagation after a decision leaves.
use Rattle.std.proofs.Common.{ℕ, ◌+◌, ◌-◌, ◌≡◌, List, [], ◌∷◌, ◌++◌, None, sym, ap, ◌∙◌, subst, arith}
use Rattle.std.proofs.Common.{length, get_or, take, length-append, append_assoc}
use Rattle.std.specs.Prelude.{IsSome}
use Rattle.std.proofs.lemmas.List.{take_at, length_push, get_or-append_right}
use Rattle.pp_clause.specs.Literal.{Literal}
use Rattle.pp_clause.specs.New.{IsClosed}
use Rattle.pp_trail.specs.declared.step.Step.{Step}
use Rattle.pp_trail.specs.Trail.{Trail, IsFalse, Extends, lits}
use Rattle.pp_watch.specs.Watching.{Grows}
use Rattle.pp_learn.specs.Reached.{AreForced}
use Rattle.pp_cdcl.proofs.Moves.{not_false_before}
use Rattle.pp_circuit_cases.specs.Conflict.{IsConflict}

-- the steps before a decision are still the first
steps_before : (steps new : List Step) (d : Step) (start : ℕ) → Extends (steps ++ d ∷ []) new → start ≡ length steps
    → take start new ≡ steps
steps_before steps new d start e at =
    ap (take start) (e.is ∙ append_assoc steps (d ∷ []) e.added) ∙ take_at steps (d ∷ e.added) start (sym at)

-- each step after a decision has a reason
forced_after : (steps new : List Step) (d : Step) (start : ℕ) → Extends (steps ++ d ∷ []) new → start ≡ length steps
    → AreForced new start
forced_after steps new d start e at = record {
  forced = λ i s lt stands. (
      let one = length_push steps d in
      let long = ap length e.is ∙ length-append (steps ++ d ∷ []) e.added in
      let w = stands.within in
      let is : s ≡ get_or e.added (i - (start + 1)) s =
      stands.is ∙ ap (λ (z : List Step). get_or z i s) e.is
      ∙ get_or-append_right (steps ++ d ∷ []) e.added (start + 1) i s (omega arith) (omega arith) in
      subst (λ (z : Step). IsSome z.reason) (sym is) (e.reasons (i - (start + 1)) s (omega arith)));
}

pub is_conflict : (old mid new : Trail) (l : Literal) (number start : ℕ) → IsClosed old.clauses (lits old.steps)
    → start ≡ length old.steps → mid ≡ record old { steps = old.steps ++ record { lit = l; reason = None } ∷ [] }
    → Grows mid new → IsFalse new.clauses (lits new.steps) number
    → IsConflict new (record { number = number; start = start })
is_conflict old mid new l number start closed at decided g now =
    let d : Step = record { lit = l; reason = None } in
    let e : Extends (old.steps ++ d ∷ []) new.steps =
    subst (λ (z : Trail). Extends z.steps new.steps) decided g.steps in
    let clauses : new.clauses ≡ old.clauses = g.clauses ∙ ap (λ (z : Trail). z.clauses) decided in
    record {
      is_false = now;
      later = λ f. not_false_before old.clauses (lits old.steps) number closed
          (subst (λ (z : List Step). IsFalse old.clauses (lits z) number)
          (steps_before old.steps new.steps d start e at)
          (subst (λ (z : List (List Literal)). IsFalse z (lits (take start new.steps)) number) clauses f));
      forced = forced_after old.steps new.steps d start e at;
    }
