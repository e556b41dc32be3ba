-- The evidence of a query that has spent its lemmas: the search for arguments that fail a check, or the proof that no
-- guess run does. Source: own.
use Rattle.std.specs.Prelude.{◌≡◌, ◌↔◌, ◌≤◌, ℕ, Bool, true, List, All}
use Rattle.std.specs.List.{list_all}
use Rattle.pp_prog.specs.declared.id.CheckId.{CheckId}
use Rattle.pp_prog.specs.declared.program.Program.{Program}
use Rattle.pp_prog.specs.declared.value.Value.{Value}
use Rattle.pp_prog.specs.Cone.{IsWordFunction}
use Rattle.pp_clause.specs.declared.spent.Spent.{Spent}
use Rattle.pp_clause.specs.Clause.{clauses_value}
use Rattle.pp_clause.specs.Literal.{Literal, lit_value}
use Rattle.pp_clause.specs.New.{IsSpentLog}
use Rattle.pp_estimate.specs.Estimates.{estimate}
use Rattle.pp_induction.specs.Ends.{GuessFails}
use Rattle.pp_sound.specs.Counterexample.{IsCounterexample}

-- the literal's variable is one of the first n
abbrev pub IsAmong : ℕ → Literal → Type 0
IsAmong n l = l.var ≤ n

-- some assignment makes the clauses and the assumptions true
pub record Satisfiable (cs : List (List Literal)) (assumed : List Literal) : Type 0 where
  pub assignment : ℕ → Bool
  pub clauses : clauses_value assignment cs ≡ true
  pub assumptions : list_all (lit_value assignment) assumed ≡ true

-- what a spent query is: a log of so many lemmas, each of them new, over clauses and assumptions of at most so many
-- variables
pub record IsSpentQuery (variables lemmas : ℕ) (s : Spent) : Type 0 where
  pub log : IsSpentLog s.clauses s.assumptions lemmas s.log
  pub clauses : All (λ clause. All (IsAmong variables) clause) s.clauses
  pub assumptions : All (IsAmong variables) s.assumptions

-- what it is a query for, of check c, which belongs to function number i: as many variables as the estimate of the
-- round says
module _ (p : Program) (i : ℕ) (c : CheckId) (round depth lemmas : ℕ) where
  -- a search: the clauses can be made true together with the assumptions exactly where some arguments up to the depth
  -- fail the check with the round as fuel
  pub record IsSearchEvidence (s : Spent) : Type 0 where
    pub spent : IsSpentQuery (estimate p.types p.functions p.checks c.0 round depth) lemmas s
    pub exact : Satisfiable s.clauses s.assumptions ↔ ((args : List Value) × IsCounterexample p i c round depth args)

  -- a proof: they can wherever some guess run of the round fails the check, and of a function that meets no datatype
  -- only there
  pub record IsProofEvidence (s : Spent) : Type 0 where
    pub spent : IsSpentQuery (estimate p.types p.functions p.checks c.0 round depth) lemmas s
    pub found : GuessFails p i c round → ∥ Satisfiable s.clauses s.assumptions ∥₁
    pub words : IsWordFunction p.types p.functions i → Satisfiable s.clauses s.assumptions → GuessFails p i c round
