-- Steps of the trail that have been visited.
use Rattle.std.proofs.Common.{ℕ, ◌+◌, ◌-◌, ◌≡◌, ◌<◌, true, List, sym, ap, ◌∙◌}
use Rattle.std.proofs.Common.{subst, arith, length, get_or, length-append}
use Rattle.std.proofs.lemmas.List.{get_or_append_left}
use Rattle.pp_clause.specs.Literal.{Literal, opposite}
use Rattle.pp_clause.specs.Clause.{has}
use Rattle.pp_clause.proofs.Has.{opposite_twice}
use Rattle.pp_trail.specs.declared.step.Step.{Step}
use Rattle.pp_trail.specs.Trail.{lits, IsTrail}
use Rattle.pp_trail.proofs.Places.{has_at}
use Rattle.pp_trail.proofs.Growing.{few_steps}
use Rattle.pp_watch.specs.Watching.{head_at, IsSound}
use Rattle.pp_watch.specs.Looking.{Watches, AreLookedAt, Advances}
use Rattle.pp_watch.specs.declared.state.State.{State}
use Rattle.pp_watch.proofs.Guarded.{has_before, visited_more}
use Rattle.pp_watch.proofs.Looked.{looked_done}

-- the state with one step more visited
abbrev pub with_visited : State → ℕ → State
with_visited s n = record { trail = s.trail; heads = s.heads; lists = s.lists; levels = s.levels; visited = n }

has_step : (ss : List Step) (i : ℕ) (s : Step) → i < length ss → s ≡ get_or ss i s → has (lits ss) s.lit ≡ true
has_step ss i s lt is = has_before ss (i + 1) s.lit
    (has_at ss i (i + 1) s (record { within = lt; is = is }) (omega arith))

-- the negation of a literal of the trail is false
pub negated_step : (ss : List Step) (i : ℕ) (s : Step) (l : Literal) → i < length ss → s ≡ get_or ss i s → l
    ≡ opposite s.lit → has (lits ss) (opposite l) ≡ true
negated_step ss i s l lt is e = ap (λ (z : Literal). has (lits ss) (opposite z)) e ∙ ap (has (lits ss))
    (opposite_twice s.lit) ∙ has_step ss i s lt is

pub visit_done : (s t : State) (step : Step) (l : Literal) → Advances s t → s.visited < length s.trail.steps → step
    ≡ get_or s.trail.steps s.visited step → l ≡ opposite step.lit → AreLookedAt t l 0 → IsSound
    (with_visited t (t.visited + 1))
visit_done s t step l a lt is e looked =
    let grown = a.grows.steps.is in
    let same = a.visited in
    let long = ap length grown ∙ length-append s.trail.steps a.grows.steps.added in
    let here : step ≡ get_or t.trail.steps t.visited step = is ∙ sym
    (get_or_append_left s.trail.steps a.grows.steps.added step s.visited lt)
    ∙ ap (λ (z : List Step). get_or z s.visited step) (sym grown) ∙ ap (λ (n : ℕ). get_or t.trail.steps n step)
    (sym same) in
    record {
      watching = a.sound.watching;
      visited = visited_more t.trail.clauses t.heads.items t.trail.steps t.visited t.levels.items step
          a.sound.visited (omega arith) here
          (λ k b w. looked_done t l looked k b
          (subst (λ (z : Literal). Watches (head_at t.heads.items k) z) (sym e) w));
    }

-- fewer steps are left to visit
pub visits_fewer : (s t : State) → Advances s t → IsTrail s.trail.clauses s.trail.vars s.trail.steps →
    s.visited < length s.trail.steps → t.trail.vars - (t.visited + 1) < s.trail.vars - s.visited
visits_fewer s t a tr lt =
    let few = few_steps s.trail.clauses s.trail.vars s.trail.steps tr in
    let v = a.grows.vars in
    let n = a.visited in
    omega arith
