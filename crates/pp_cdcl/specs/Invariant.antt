-- What holds while the solver runs. (own)
use Rattle.std.specs.Prelude.{ℕ, ◌≡◌, ◌+◌, ◌-◌, ◌*◌, ◌^◌, ◌<◌, ◌≤◌, ◌++◌, true, false, List, Option, Some, None, All}
use Rattle.std.specs.Prelude.{length, take}
use Rattle.pp_clause.specs.Literal.{Literal}
use Rattle.pp_clause.specs.Clause.{has}
use Rattle.pp_clause.specs.Log.{AllDerived, all_negated, lemma_clauses}
use Rattle.pp_clause.specs.New.{IsClosed, AllNew}
use Rattle.pp_clause.specs.declared.log.Lemma.{Lemma}
use Rattle.pp_trail.specs.declared.step.Step.{Step}
use Rattle.pp_clause.specs.Bound.{IsUpTo}
use Rattle.pp_trail.specs.Trail.{Trail, lits, StandsAt}

-- a decision stands at this place
pub record IsDecision (steps : List Step) (place : ℕ) (step : Step) : Type 0 where
  pub stands : StandsAt steps place step
  pub free : step.reason ≡ None

-- no decision stands from the one place on, and before the other
pub record NoDecision (steps : List Step) (from to : ℕ) : Type 0 where
  pub none : (place : ℕ) (step : Step) → IsDecision steps place step → from ≤ place → place < to → ⊥

-- the last decision stands at this place
pub record IsLastDecision (steps : List Step) (place : ℕ) : Type 0 where
  pub step : Step
  pub decision : IsDecision steps place step
  pub later : NoDecision steps (place + 1) (length steps)

-- the decisions before this place are assumptions
pub record AreAssumed (assumed : List Literal) (steps : List Step) (end : ℕ) : Type 0 where
  pub each : (place : ℕ) (step : Step) → IsDecision steps place step → place < end → has assumed step.lit ≡ true

-- all the assumptions are among the first steps, and the decisions there are assumptions
pub record HoldsAll (assumed : List Literal) (steps : List Step) (end : ℕ) : Type 0 where
  pub within : end ≤ length steps
  pub decisions : AreAssumed assumed steps end
  pub held : All (λ a. has (lits (take end steps)) a ≡ true) assumed

-- the length of the trail at which all assumptions were true, if that is so; before that only assumptions are decided
abbrev pub IsBase : List Literal → List Step → Option ℕ → Type 0
IsBase assumed steps None = AreAssumed assumed steps (length steps)
IsBase assumed steps (Some end) = HoldsAll assumed steps end

-- before each decision the trail was closed for all the clauses that are there now
pub record IsLayered (watch : Trail) : Type 0 where
  pub closed : (place : ℕ) (step : Step) → IsDecision watch.steps place step
      → IsClosed watch.clauses (lits (take place watch.steps))

-- the lemmas are derived, each is new over all clauses before it, and none has only negated assumptions
pub record IsLog (cs : List (List Literal)) (assumed : List Literal) (log : List Lemma) : Type 0 where
  pub derives : AllDerived cs log
  pub new : AllNew cs (lemma_clauses log)
  pub none_refutes : All (λ m. all_negated assumed m.clause ≡ false) log

-- the clauses of the watch are the given ones and then those of the lemmas, and some lemmas are left
pub record Logged (cs : List (List Literal)) (assumed : List Literal) (lemmas : ℕ) (watch : Trail) (log : List Lemma) :
    Type 0 where
  pub clauses : watch.clauses ≡ cs ++ lemma_clauses log
  pub right : IsLog cs assumed log
  pub some_left : length log < lemmas

-- the state of a solver over these clauses and assumptions
pub record Invariant (cs : List (List Literal)) (assumed : List Literal) (lemmas : ℕ) (watch : Trail) (log : List Lemma)
    (base : Option ℕ) : Type 0 where
  pub logged : Logged cs assumed lemmas watch log
  pub up_to : IsUpTo watch.vars assumed
  pub small : watch.vars ≤ 2 ^ 30
  pub layered : IsLayered watch
  pub based : IsBase assumed watch.steps base

-- how many conflicts and decisions there can still be
abbrev pub left : ℕ → Trail → List Lemma → ℕ
left lemmas watch log = (lemmas - length log) * (watch.vars + 1) + (watch.vars - length watch.steps)
