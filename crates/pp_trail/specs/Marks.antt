-- The trail by variable and by literal: whether and how each variable stands there, and what is said of each literal.
-- (own)
use Rattle.std.specs.Prelude.{ℕ, suc, ◌≡◌, ◌+◌, ◌*◌, ◌<◌, ◌≤◌, ◌==◌, Bool, true, false, List, [], ◌∷◌, Option, Some}
use Rattle.std.specs.Prelude.{None, All, length, slice_index_or, if◌then◌else◌}
use Rattle.pp_clause.specs.Literal.{Literal}
use Rattle.pp_clause.specs.Bound.{IsUpTo}
use Rattle.pp_trail.specs.Trail.{lits, value_in, IsTrail}
use Rattle.pp_trail.specs.declared.step.Step.{Step}
use Rattle.pp_trail.specs.declared.marks.Mark.{Mark}
use Rattle.pp_trail.specs.declared.truth.Truth.{Truth}
use Rattle.pp_trail.specs.declared.truth.Truth.TheVariants.{Open, True, False}

-- the sign of the variable among these steps, and its place, where the first of them has place `from`
abbrev pub mark_from : ℕ → List Step → ℕ → Option Mark
mark_from from [] x = None
mark_from from (s ∷ ss) x = if s.lit.var == x then Some (record { positive = s.lit.positive; place = from }) else
    mark_from (suc from) ss x

-- the marks show the steps, variable by variable
pub record ArePlaces (marks : List (Option Mark)) (steps : List Step) : Type 0 where
  pub shown : (x : ℕ) → x < length marks → slice_index_or marks x None ≡ mark_from 0 steps x

-- a number of its own for each literal: twice its variable, and one more for the negation
abbrev pub code : Literal → ℕ
code l = 2 * l.var + (if l.positive then 0 else 1)

-- what is said of a literal
abbrev pub truth_of : Truth → Option Bool
truth_of Open = None
truth_of True = Some true
truth_of False = Some false

-- the truths show the steps, literal by literal
pub record AreTruths (truths : List Truth) (steps : List Step) : Type 0 where
  pub shown : (l : Literal) → code l < length truths
      → truth_of (slice_index_or truths (code l) Open) ≡ value_in (lits steps) l

-- what holds of the parts of a trail: no variable of the clauses is above `vars`, the steps are a trail over them,
-- the marks and the truths show it, and there is room for a step for each variable
pub record IsSound (cs : List (List Literal)) (steps : List Step) (marks : List (Option Mark))
    (truths : List Truth) (vars capacity : ℕ) : Type 0 where
  pub clauses : All (IsUpTo vars) cs
  pub trail : IsTrail cs vars steps
  pub shows : ArePlaces marks steps
  pub told : AreTruths truths steps
  pub every : length marks ≡ vars + 1
  pub every_truth : length truths ≡ 2 * vars + 2
  pub room : vars ≤ capacity
