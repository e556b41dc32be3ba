-- The values in scope and the surroundings of an expression. Source: Scala Language Specification 2 (bindings nest: an
-- inner one hides an outer one of the same name).
use Rattle.std.specs.Prelude.{ℕ, ◌+◌, Bool, true, false, ◌||◌, if◌then◌else◌, List, [], ◌∷◌, Option, Some, None, drop}
use Rattle.std.specs.Str.{bytes_eq}
use Rattle.pp_names.specs.Reserved.{is_reserved}
use Rattle.pp_tree.specs.Plain.{Word}
use Rattle.pp_typed.specs.declared.declared.Declared.{Declared}
use Rattle.pp_typed.specs.declared.sort.GenericSort.{GenericSort}

-- what an expression stands in: all declarations, the type parameters and the name of the function around it, and its
-- source from 1
pub record Env : Type 0 where
  pub declared : Declared
  pub type_params : List Word
  pub function : Word
  pub source : ℕ

-- the values in scope, the outermost first: the name and the sort of each
abbrev pub Scope : Type 0
Scope = List (Word × GenericSort)

abbrev pub picked : Bool → ℕ → Option ℕ → Option ℕ
picked true i best = Some i
picked false i best = best

-- the place of the last value of this name, counted from i on, or else this one
abbrev pub place_from : Option ℕ → ℕ → Word → Scope → Option ℕ
place_from best i w [] = best
place_from best i w (l ∷ ls) = place_from (picked (bytes_eq l.0 w) i best) (i + 1) w ls

-- the place of the innermost value of this name
abbrev pub place : Word → Scope → Option ℕ
place = place_from None 0

-- whether a value of these has the name
abbrev pub has_name : Word → Scope → Bool
has_name w [] = false
has_name w (l ∷ ls) = if bytes_eq l.0 w then true else has_name w ls

-- whether a `val`, or a name of a pattern, can't have this name: the word can't be declared, or a value from place k on
-- has it
abbrev pub clashes : Word → ℕ → Scope → Bool
clashes w k sc = is_reserved w || has_name w (drop k sc)
