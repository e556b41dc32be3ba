-- What looks at clauses find. (own)
use Rattle.std.specs.Prelude.{ℕ, ◌≡◌, ◌+◌, ◌-◌, ◌<◌, ◌≤◌, ◌⊎◌, ◌≢◌, Some, true, false, List, All, length, take}
use Rattle.std.specs.Prelude.{slice_index_or}
use Rattle.pp_clause.specs.Literal.{Literal, opposite}
use Rattle.pp_clause.specs.Clause.{has}
use Rattle.pp_clause.specs.Derivation.{numbered}
use Rattle.pp_clause.specs.New.{OthersNegated}
use Rattle.pp_clause.specs.Bound.{IsUpTo}
use Rattle.pp_trail.specs.Trail.{lits}
use Rattle.pp_trail.specs.declared.step.Step.{Step}
use Rattle.pp_trail.specs.Marks.{code}
use Rattle.pp_watch.specs.Lists.{watchers_of, is_among}
use Rattle.pp_watch.specs.Watching.{HasTrue, clause_at, head_at, IsSound, Grows}
use Rattle.pp_watch.specs.declared.watcher.Watcher.{Watcher}
use Rattle.pp_watch.specs.declared.head.Head.{Head}
use Rattle.pp_watch.specs.declared.state.State.{State}

-- the clause with this number, whose variables are at most `vars`
pub record IsClauseOf (cs : List (List Literal)) (vars number : ℕ) (c : List Literal) : Type 0 where
  pub is : numbered cs number ≡ Some c
  pub at : clause_at cs (number - 1) ≡ c
  pub up_to : IsUpTo vars c

-- a literal of the clause that isn't false
pub record IsNotFalse (set c : List Literal) (l : Literal) : Type 0 where
  pub held : has c l ≡ true
  pub not_false : has set (opposite l) ≡ false

-- and another one than this
pub record IsOther (set c : List Literal) (l other : Literal) : Type 0 where
  pub held : has c other ≡ true
  pub not_false : has set (opposite other) ≡ false
  pub differs : code other ≢ code l

-- two literals of the clause, the first not false; where the second is false, or the same, all others are
pub record IsChoice (set c : List Literal) (h : Head) : Type 0 where
  pub first_held : has c h.first ≡ true
  pub second_held : has c h.second ≡ true
  pub not_false : has set (opposite h.first) ≡ false
  pub others : (has set (opposite h.second) ≡ true) ⊎ (code h.first ≡ code h.second) → OthersNegated set c h.first

-- before this length there are two watched literals, and the second one isn't false
pub record IsBound (steps : List Step) (h : Head) (bound : ℕ) : Type 0 where
  pub forced : (has (lits steps) (opposite h.second) ≡ true) ⊎ (code h.first ≡ code h.second)
  pub differ : (n : ℕ) → n < bound → code h.first ≢ code h.second
  pub before : (n : ℕ) → n < bound → has (lits (take n steps)) (opposite h.second) ≡ false

-- two literals are watched, and the second one isn't false
pub record IsFree (steps : List Step) (h : Head) : Type 0 where
  pub differ : code h.first ≢ code h.second
  pub not_false : has (lits steps) (opposite h.second) ≡ false

-- the head has the literal
abbrev pub Watches : Head → Literal → Type 0
Watches h l = (code h.first ≡ code l) ⊎ (code h.second ≡ code l)

-- each clause that watches the literal has a true one, or is among the first `count` watchers of it
pub record AreLookedAt (s : State) (l : Literal) (count : ℕ) : Type 0 where
  pub each : (k : ℕ) → k < length s.heads.items → Watches (head_at s.heads.items k) l →
      HasTrue (lits s.trail.steps) (clause_at s.trail.clauses k) ⊎
      (is_among (k + 1) (take count (watchers_of s.lists l)) ≡ true)

-- the trail grows, and nothing is forgotten
pub record Advances (old new : State) : Type 0 where
  pub grows : Grows old.trail new.trail
  pub heads : length new.heads.items ≡ length old.heads.items
  pub visited : new.visited ≡ old.visited
  pub sound : IsSound new

-- the first levels, as far as they are below the bound
pub record IsCut (old : List ℕ) (bound : ℕ) (new : List ℕ) : Type 0 where
  pub count : ℕ
  pub few : count ≤ length old
  pub is : new ≡ take count old
  pub below : All (λ n. n < bound) new

-- the watcher at this place of the literal's list is the clause with this number, which watches the literal and the
-- other one
pub record IsBeside (s : State) (l : Literal) (place number : ℕ) (other : Literal) : Type 0 where
  pub low : 1 ≤ number
  pub high : number ≤ length s.heads.items
  pub within : place < length (watchers_of s.lists l)
  pub watcher : (w : Watcher) → (slice_index_or (watchers_of s.lists l) place w).number ≡ number
  pub heads : ((code (head_at s.heads.items (number - 1)).first ≡ code l) ×
      ((head_at s.heads.items (number - 1)).second ≡ other))
      ⊎ ((code (head_at s.heads.items (number - 1)).second ≡ code l) ×
      ((head_at s.heads.items (number - 1)).first ≡ other))

-- the watcher at this place of the literal's list is the clause with this number, which has the other literal
pub record IsNear (s : State) (l : Literal) (place number : ℕ) (other : Literal) : Type 0 where
  pub within : place < length (watchers_of s.lists l)
  pub watcher : (w : Watcher) → (slice_index_or (watchers_of s.lists l) place w).number ≡ number
  pub held : has (clause_at s.trail.clauses (number - 1)) other ≡ true

-- the clause with this number is one of the state's, and no variable of it is above the greatest
abbrev pub IsNumbered : State → ℕ → Type 0
IsNumbered s number = IsClauseOf s.trail.clauses s.trail.vars number (clause_at s.trail.clauses (number - 1))

-- all literals of the clause with this number are false but this one
abbrev pub AreOthersFalse : State → ℕ → Literal → Type 0
AreOthersFalse s number other =
    OthersNegated (lits s.trail.steps) (clause_at s.trail.clauses (number - 1)) other

-- the clause with this number has a literal besides this one that isn't false
abbrev pub HasOther : State → ℕ → Literal → Literal → Type 0
HasOther s number other l = IsOther (lits s.trail.steps) (clause_at s.trail.clauses (number - 1)) other l
