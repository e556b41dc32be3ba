-- What holds of watched literals all the time. (own; watched literals as in the usual solvers)
use Rattle.std.specs.Prelude.{ℕ, ◌≡◌, ◌≢◌, ◌+◌, ◌*◌, ◌-◌, ◌<◌, ◌≤◌, ◌⊎◌, true, List, [], All, AllPairs, length, take}
use Rattle.std.specs.Prelude.{slice_index_or}
use Rattle.pp_clause.specs.Literal.{Literal, opposite}
use Rattle.pp_clause.specs.Clause.{has}
use Rattle.pp_trail.specs.Trail.{Trail, lits, Extends}
use Rattle.pp_trail.specs.declared.step.Step.{Step}
use Rattle.pp_trail.specs.Marks.{code}
use Rattle.pp_watch.specs.Lists.{watchers_of, is_among}
use Rattle.pp_watch.specs.declared.watcher.Watcher.{Watcher}
use Rattle.pp_watch.specs.declared.head.Head.{Head}
use Rattle.pp_watch.specs.declared.state.State.{State}

-- the clause at this place; its number is one more
abbrev pub clause_at : List (List Literal) → ℕ → List Literal
clause_at cs k = slice_index_or cs k []

-- what the clause at this place watches
abbrev pub head_at : List Head → ℕ → Head
head_at heads k =
    slice_index_or heads k (record {
      first = record { var = 0; positive = true };
      second = record { var = 0; positive = true };
      look = 0;
    })

-- some literal of the clause is true
pub record HasTrue (set c : List Literal) : Type 0 where
  pub literal : Literal
  pub held : has c literal ≡ true
  pub itself : has set literal ≡ true

-- the clause has the third of these literals, and none but the three
pub record IsShort (c : List Literal) (l blocker third : Literal) : Type 0 where
  pub held : has c third ≡ true
  pub whole : (x : Literal) → has c x ≡ true → (x ≡ l) ⊎ ((x ≡ blocker) ⊎ (x ≡ third))

-- the watcher of the literal is one of the first `count` clauses, and its blocker is a literal of that clause; where
-- its third literal isn't the watched one, the clause has no others than these three
pub record IsEntry (cs : List (List Literal)) (count : ℕ) (l : Literal) (w : Watcher) : Type 0 where
  pub low : 1 ≤ w.number
  pub high : w.number ≤ count
  pub held : has (clause_at cs (w.number - 1)) w.blocker ≡ true
  pub short : code w.third ≢ code l → IsShort (clause_at cs (w.number - 1)) l w.blocker w.third

-- the clause at place k has the two literals of the head, and stands in the lists of both
pub record IsWatched (c : List Literal) (lists : List (List Watcher)) (k : ℕ) (h : Head) : Type 0 where
  pub first_held : has c h.first ≡ true
  pub second_held : has c h.second ≡ true
  pub first_listed : is_among (k + 1) (watchers_of lists h.first) ≡ true
  pub second_listed : is_among (k + 1) (watchers_of lists h.second) ≡ true

-- the first clauses, those that have a head, stand in the lists of what they watch
pub record IsWatching (cs : List (List Literal)) (vars : ℕ) (heads : List Head)
    (lists : List (List Watcher)) : Type 0 where
  pub sized : length lists ≡ 2 * vars + 2
  pub few : length heads ≤ length cs
  pub entries : (l : Literal) → All (IsEntry cs (length heads) l) (watchers_of lists l)
  pub watched : (k : ℕ) → k < length heads → IsWatched (clause_at cs k) lists k (head_at heads k)

-- where a watched literal is false in the first set, or there is only one, a literal of the clause is in the second
pub record IsGuarded (below whole c : List Literal) (h : Head) : Type 0 where
  pub first : has below (opposite h.first) ≡ true → HasTrue whole c
  pub second : has below (opposite h.second) ≡ true → HasTrue whole c
  pub single : code h.first ≡ code h.second → HasTrue whole c

-- that is so for each clause that has a head
abbrev pub AreGuarded : List (List Literal) → List Head → List Literal → List Literal → Type 0
AreGuarded cs heads below whole = (k : ℕ) → k < length heads → IsGuarded below whole (clause_at cs k)
    (head_at heads k)

-- a length of the trail at which a propagation ended: what is false before it is guarded before it
pub record IsLevel (cs : List (List Literal)) (heads : List Head) (steps : List Step) (n : ℕ) : Type 0 where
  pub within : n ≤ length steps
  pub guarded : AreGuarded cs heads (lits (take n steps)) (lits (take n steps))

-- the first `visited` steps are looked at, and the levels are in order
pub record IsVisited (cs : List (List Literal)) (heads : List Head) (steps : List Step) (visited : ℕ)
    (levels : List ℕ) : Type 0 where
  pub within : visited ≤ length steps
  pub guarded : AreGuarded cs heads (lits (take visited steps)) (lits steps)
  pub kept : All (IsLevel cs heads steps) levels
  pub ascending : AllPairs (λ m n. m ≤ n) levels

-- what holds of a state all the time
pub record IsSound (s : State) : Type 0 where
  pub watching : IsWatching s.trail.clauses s.trail.vars s.heads.items s.lists
  pub visited : IsVisited s.trail.clauses s.heads.items s.trail.steps s.visited s.levels.items

-- there is a list for each literal
abbrev pub IsSized : State → Type 0
IsSized s = length s.lists ≡ 2 * s.trail.vars + 2

-- the clauses and the greatest variable stay, and the trail gets steps with reasons
pub record Grows (old new : Trail) : Type 0 where
  pub clauses : new.clauses ≡ old.clauses
  pub vars : new.vars ≡ old.vars
  pub steps : Extends old.steps new.steps
