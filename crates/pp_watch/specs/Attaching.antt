-- What clauses that begin to watch literals leave. (own)
use Rattle.std.specs.Prelude.{◌≡◌, ◌<◌, true, List, All, length, take}
use Rattle.pp_clause.specs.Literal.{Literal}
use Rattle.pp_clause.specs.Clause.{has}
use Rattle.pp_trail.specs.Trail.{lits}
use Rattle.pp_watch.specs.Watching.{IsSound, Grows, IsGuarded, clause_at}
use Rattle.pp_watch.specs.declared.head.Head.{Head}
use Rattle.pp_watch.specs.declared.state.State.{State}

-- the first clause without a head
abbrev pub waiting : State → List Literal
waiting s = clause_at s.trail.clauses (length s.heads.items)

-- the trail grows, and no step more is visited
pub record Attaches (old new : State) : Type 0 where
  pub grows : Grows old.trail new.trail
  pub visited : new.visited ≡ old.visited
  pub sound : IsSound new

-- the first clause without a head can have this one: the clause has its literals, and is guarded, now and at all levels
pub record CanWatch (s : State) (h : Head) : Type 0 where
  pub few : length s.heads.items < length s.trail.clauses
  pub first_held : has (waiting s) h.first ≡ true
  pub second_held : has (waiting s) h.second ≡ true
  pub guarded : IsGuarded (lits (take s.visited s.trail.steps)) (lits s.trail.steps)
      (waiting s) h
  pub kept : All (λ n. IsGuarded (lits (take n s.trail.steps)) (lits (take n s.trail.steps))
      (waiting s) h) s.levels.items

-- the trail grows, and the first clause without a head can have this one
pub record Settles (old : State) (h : Head) (new : State) : Type 0 where
  pub attaches : Attaches old new
  pub heads : new.heads ≡ old.heads
  pub next : CanWatch new h
