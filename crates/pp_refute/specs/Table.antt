-- A set of literals as a table by variable, which has for each variable the one of its two literals that is in
-- the set. (own)
use Rattle.std.specs.Prelude.{ℕ, ◌≡◌, ◌<◌, Bool, false, List, Option, Some, None, slice_index_or, slice_set, All}
use Rattle.std.specs.Prelude.{filter, fold}
use Rattle.std.specs.Bool.{beq}
use Rattle.pp_clause.specs.Literal.{Literal, opposite}
use Rattle.pp_clause.specs.Clause.{has}
use Rattle.pp_clause.specs.Derivation.{only_item, resolvent}

abbrev pub is_sign : Option Bool → Bool → Bool
is_sign None positive = false
is_sign (Some b) positive = beq b positive

-- whether the table has the literal
abbrev pub marked : List (Option Bool) → Literal → Bool
marked table l = is_sign (slice_index_or table l.var None) l.positive

-- the table has the literals of the list, and no others
pub record Agrees (table : List (Option Bool)) (ls : List Literal) : Type 0 where
  pub same : (m : Literal) → marked table m ≡ has ls m

-- the table after the literal is put into it
abbrev pub put : List (Option Bool) → Literal → List (Option Bool)
put table l = slice_set table l.var (Some l.positive)

-- the table after the literals of the clause are put into it
abbrev pub put_all : List (Option Bool) → List Literal → List (Option Bool)
put_all table clause = fold put table clause

-- the one literal of the clause whose negation is in the table, where there is exactly one
abbrev pub clash_of : List (Option Bool) → List Literal → Option Literal
clash_of table clause = only_item (filter (λ l. marked table (opposite l)) clause)

-- the old table has what was reached, and the new one has its resolvent with the clause
pub record Steps (old new : List (Option Bool)) (clause : List Literal) : Type 0 where
  pub next : (reached : List Literal) → Agrees old reached → (zs : List Literal) × (resolvent reached clause ≡ Some zs)
      × Agrees new zs

-- what the table has and the clause have no resolvent
pub record IsStuck (table : List (Option Bool)) (clause : List Literal) : Type 0 where
  pub none : (reached : List Literal) → Agrees table reached → resolvent reached clause ≡ None
