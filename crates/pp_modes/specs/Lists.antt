-- What mode `list` prints. Source: own.
use Rattle.std.specs.Prelude.{◌≡◌, ℕ, suc, nat_eq, if◌then◌else◌, List, [], ◌∷◌, ◌++◌, Some, count_by, slice_get}
use Rattle.pp_estimate.specs.Estimates.{estimate}
use Rattle.pp_print.specs.Listed.{count_text, estimate_text}
use Rattle.pp_prog.specs.declared.check.Check.{Check}
use Rattle.pp_prog.specs.declared.expr.Function.{Function}
use Rattle.pp_prog.specs.declared.program.Program.{Program}

-- how many of the checks are those of the function with this number
abbrev pub own_checks : ℕ → List Check → ℕ
own_checks f checks = count_by (λ check. nat_eq check.function.0 f) checks

-- the line of a check with this estimate, where it is one of function f
abbrev pub line_if : ℕ → ℕ → Check → List (List ℕ)
line_if f number check =
    if nat_eq check.function.0 f then estimate_text check.kind check.place number ∷ [] else []

-- the lines of the checks of function f, which share their estimate
abbrev pub lines_with : ℕ → ℕ → List Check → List (List ℕ)
lines_with f number [] = []
lines_with f number (check ∷ checks) = line_if f number check ++ lines_with f number checks

module _ (p : Program) (round depth : ℕ) where
  -- the estimate of each check of function f at this round and depth is this number
  abbrev pub IsSharedEstimate : ℕ → ℕ → Type 0
  IsSharedEstimate f number = (c : ℕ) (check : Check) → slice_get p.checks c ≡ Some check → check.function.0 ≡ f
      → estimate p.types p.functions p.checks c round depth ≡ number

  -- the lines of the checks of function f among these, the first of which has this number
  abbrev pub check_lines : ℕ → ℕ → List Check → List (List ℕ)
  check_lines f c [] = []
  check_lines f c (check ∷ checks) =
      line_if f (estimate p.types p.functions p.checks c round depth) check ++ check_lines f (suc c) checks

  -- the lines of a function: its name with the number of its checks, and then each check with its estimate
  abbrev pub function_lines : ℕ → Function → List (List ℕ)
  function_lines f function = count_text function.name (own_checks f p.checks) ∷ check_lines f 0 p.checks

  -- the lines of functions, the first of which has this number
  abbrev pub lines_from : ℕ → List Function → List (List ℕ)
  lines_from f [] = []
  lines_from f (function ∷ functions) = function_lines f function ++ lines_from (suc f) functions

-- the lines of all functions
abbrev pub list_lines : Program → ℕ → ℕ → List (List ℕ)
list_lines p round depth = lines_from p round depth 0 p.functions
