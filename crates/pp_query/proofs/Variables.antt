-- Spent queries over few variables.
use Rattle.std.proofs.Common.{◌≤◌, ℕ, List, All, arith}
use Rattle.std.proofs.lemmas.List.Elements.{All-weaker}
use Rattle.pp_clause.specs.declared.spent.Spent.{Spent}
use Rattle.pp_clause.specs.Literal.{Literal}
use Rattle.pp_evidence.specs.Evidence.{IsAmong, IsSpentQuery}

-- a spent query over so many variables is one over more
pub spent_within : (n m lemmas : ℕ) (s : Spent) → n ≤ m → IsSpentQuery n lemmas s → IsSpentQuery m lemmas s
spent_within n m lemmas s le spent = record {
  log = spent.log;
  clauses = All-weaker (λ ls. All (IsAmong n) ls) (λ ls. All (IsAmong m) ls) lits_within s.clauses spent.clauses;
  assumptions = lits_within s.assumptions spent.assumptions;
}
  where
    lits_within : (ls : List Literal) → All (IsAmong n) ls → All (IsAmong m) ls
    lits_within ls few = All-weaker (IsAmong n) (IsAmong m) (λ l among. omega (arith, le, among)) ls few
