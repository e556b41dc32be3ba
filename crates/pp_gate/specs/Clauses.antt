-- Clauses of short length, and clauses that come in. (own)
use Rattle.std.specs.Prelude.{◌≡◌, ℕ, ◌≤◌, ◌+◌, ◌&&◌, Bool, true, not, if◌then◌else◌, List, All, length}
use Rattle.std.specs.Bool.{beq}
use Rattle.pp_clause.specs.Literal.{Literal, lit_value}
use Rattle.pp_clause.specs.Clause.{clause_value, clauses_value}
use Rattle.pp_gate.specs.Circuit.{IsWithin}

-- each literal of the clauses is of one of the first n variables, and no clause has more than four literals
pub record AreShortWithin (n : ℕ) (cs : List (List Literal)) : Type 0 where
  pub within : All (λ c. All (IsWithin n) c) cs
  pub short : All (λ c. length c ≤ 4) cs

-- besides the old clauses the new ones say that one of these literals is true
pub record AddsClause (old new : List (List Literal)) (lits : List Literal) : Type 0 where
  pub most : length new ≤ length old + 1
  pub value : (s : ℕ → Bool) → clauses_value s new ≡ (clauses_value s old && clause_value s lits)
  pub within : (n : ℕ) → All (IsWithin n) lits → AreShortWithin n old → AreShortWithin n new

-- where two values agree, the first is the same
abbrev pub agrees : Bool → Bool → Bool → Bool
agrees o a b = if a then (if b then o else true) else (if b then true else not o)

-- besides the old clauses the new ones say that `out` has the value of these two where they agree
pub record AddsAgreement (old new : List (List Literal)) (out a b : Literal) : Type 0 where
  pub most : length new ≤ length old + 2
  pub value : (s : ℕ → Bool) → clauses_value s new
      ≡ (clauses_value s old && agrees (lit_value s out) (lit_value s a) (lit_value s b))
  pub within : (n : ℕ) → IsWithin n out → IsWithin n a → IsWithin n b → AreShortWithin n old → AreShortWithin n new

-- besides the old clauses the new ones, at most eight more, say that `out`, which stands on these operands, has this
-- value
pub record AddsEquation (old new : List (List Literal)) (out : Literal) (operands : List Literal)
    (meaning : (ℕ → Bool) → Bool)
    : Type 0 where
  pub most : length new ≤ length old + 8
  pub value : (s : ℕ → Bool) → clauses_value s new ≡ (clauses_value s old && beq (lit_value s out) (meaning s))
  pub within : (n : ℕ) → IsWithin n out → All (IsWithin n) operands → AreShortWithin n old → AreShortWithin n new
