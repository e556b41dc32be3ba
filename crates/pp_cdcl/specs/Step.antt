-- What the parts of the solver answer. (own)
use Rattle.std.specs.Prelude.{ℕ, ◌≡◌, ◌+◌, ◌<◌, ◌≤◌, true, false, List, Option, Some, None, All, take, nat_le}
use Rattle.std.specs.Prelude.{if◌then◌else◌}
use Rattle.pp_clause.specs.Literal.{Literal}
use Rattle.pp_clause.specs.Clause.{has}
use Rattle.pp_clause.specs.Derivation.{Derives}
use Rattle.pp_clause.specs.Log.{IsLemma, all_negated}
use Rattle.pp_clause.specs.New.{IsOpen, OthersNegated, IsClosed, IsNew, IsSpentLog}
use Rattle.pp_clause.specs.declared.log.Lemma.{Lemma}
use Rattle.pp_trail.specs.declared.step.Step.{Step}
use Rattle.pp_trail.specs.Trail.{Trail, lits, StandsAt}
use Rattle.pp_cdcl.specs.Answer.{Satisfies, RefutesWithin}
use Rattle.pp_cdcl.specs.Invariant.{IsLastDecision, Invariant, left}
use Rattle.pp_cdcl.specs.declared.answer.Answer.{Answer}
use Rattle.pp_cdcl.specs.declared.answer.Answer.TheVariants.{Sat, Unsat, Spent}
use Rattle.pp_cdcl.specs.declared.search.Search.{Search}

-- a spent log of lemmas
pub record SpendsAll (cs : List (List Literal)) (assumed : List Literal) (count : ℕ) (log : List Lemma) : Type 0 where
  pub spent : IsSpentLog cs assumed count log
  pub lemmas : All IsLemma log

-- the answer is right
abbrev pub IsRight : List (List Literal) → List Literal → ℕ → Answer → Type 0
IsRight cs assumed lemmas (Sat a) = Satisfies cs assumed a
IsRight cs assumed lemmas (Unsat log) = RefutesWithin cs assumed lemmas log
IsRight cs assumed lemmas (Spent log) = SpendsAll cs assumed lemmas log

-- the solver goes on, and is nearer to its end
pub record GoesOn (cs : List (List Literal)) (assumed : List Literal) (lemmas before : ℕ) (next : Search) : Type 0 where
  pub invariant : Invariant cs assumed lemmas next.watch next.log next.base
  pub sized : next.analysis ≡ next.watch.vars + 1
  pub nearer : left lemmas next.watch next.log < before

-- what a step of the solver answers, and what it leaves where there is no answer yet
abbrev pub IsStep : List (List Literal) → List Literal → ℕ → ℕ → Option Answer → Search → Type 0
IsStep cs assumed lemmas before (Some answer) next = IsRight cs assumed lemmas answer
IsStep cs assumed lemmas before None next = GoesOn cs assumed lemmas before next

-- the last decision stands at this place, and no assumption was missing then
pub record IsOwn (steps : List Step) (base : Option ℕ) (start : ℕ) : Type 0 where
  pub end : ℕ
  pub is : base ≡ Some end
  pub after : end ≤ start
  pub last : IsLastDecision steps start

-- what is known of a lemma that is learnt at the decision at place `start`: it has a literal that was open before that,
-- and its others were false at length `back`, and not before
pub record IsLearnt (watch : Trail) (start : ℕ) (m : Lemma) (back : ℕ) : Type 0 where
  pub literal : Literal
  pub held : has m.clause literal ≡ true
  pub is_open : IsOpen (lits (take start watch.steps)) literal
  pub others : OthersNegated (lits (take back watch.steps)) m.clause literal
  pub least : (n : ℕ) → OthersNegated (lits (take n watch.steps)) m.clause literal → back ≤ n
  pub within : back ≤ start
  pub negated : all_negated (lits watch.steps) m.clause ≡ true
  pub derives : Derives watch.clauses m.chain m.clause
  pub new : IsClosed watch.clauses (lits (take start watch.steps)) → IsNew watch.clauses m.clause

-- a lemma that is learnt at the last decision, which is no assumption
pub record IsOwnLemma (watch : Trail) (base : Option ℕ) (m : Lemma) (back : ℕ) : Type 0 where
  pub start : ℕ
  pub own : IsOwn watch.steps base start
  pub learnt : IsLearnt watch start m back

-- the base after the trail is cut to this length
abbrev pub cut_base : Option ℕ → ℕ → Option ℕ
cut_base None to = None
cut_base (Some end) to = if nat_le end to then Some end else None

-- an assumption that isn't true yet
pub record IsMissing (assumed set : List Literal) (l : Literal) : Type 0 where
  pub held : has assumed l ≡ true
  pub not_true : has set l ≡ false

-- the literal stands at this place, with this reason
pub record IsReasonOf (steps : List Step) (place : ℕ) (l : Literal) (number : ℕ) : Type 0 where
  pub step : Step
  pub stands : StandsAt steps place step
  pub is : step.lit ≡ l
  pub reason : step.reason ≡ Some number
