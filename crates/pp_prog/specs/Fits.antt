-- Which values fit a pattern, and what the pattern binds. Source: Scala Language Specification 8.1; the order of the
-- bound values is own: the outer before the inner, from left to right.
use Rattle.std.specs.Prelude.{ℤ, nat_eq, Bool, true, false, not, ◌||◌, if◌then◌else◌, List, [], ◌∷◌, ◌++◌, Option, Some}
use Rattle.std.specs.Prelude.{None, is_some}
use Rattle.std.specs.Ordering.{int_eq}
use Rattle.pp_prog.specs.declared.expr.Pattern.{Pattern}
use Rattle.pp_prog.specs.declared.expr.Pattern.TheFolds.{fold-Pattern}
use Rattle.pp_prog.specs.declared.expr.Pattern.TheOpen as pattern
use Rattle.pp_prog.specs.declared.id.CtorId.{CtorId}
use Rattle.pp_prog.specs.declared.value.Value.{Value}
use Rattle.pp_prog.specs.declared.value.Value.TheOpen as value
use Rattle.pp_prog.specs.declared.value.Value.TheViews.{out-Value}

-- what a pattern is: the values that it binds at a value, or none where the value doesn't fit
abbrev pub Fitting : Type 0
Fitting = Value → Option (List Value)

-- nothing is bound where the test holds, and otherwise the value doesn't fit
abbrev pub fits_if : Bool → Option (List Value)
fits_if true = Some []
fits_if false = None

abbrev pub same_truth : Bool → Bool → Bool
same_truth true b = b
same_truth false b = not b

abbrev pub bound_before : List Value → Option (List Value) → Option (List Value)
bound_before here None = None
bound_before here (Some more) = Some (here ++ more)

abbrev pub bound_both : Option (List Value) → Option (List Value) → Option (List Value)
bound_both None more = None
bound_both (Some here) more = bound_before here more

-- each value fits the pattern at its place, and none is left over
abbrev pub fit_fields : List Fitting → List Value → Option (List Value)
fit_fields [] [] = Some []
fit_fields [] (v ∷ vs) = None
fit_fields (p ∷ ps) [] = None
fit_fields (p ∷ ps) (v ∷ vs) = bound_both (p v) (fit_fields ps vs)

abbrev pub fit_int : ℤ → value.Value-F Value → Option (List Value)
fit_int n (value.Int m) = fits_if (int_eq n m)
fit_int n (value.Bool b) = None
fit_int n (value.Tree c fields) = None

abbrev pub fit_bool : Bool → value.Value-F Value → Option (List Value)
fit_bool a (value.Int m) = None
fit_bool a (value.Bool b) = fits_if (same_truth a b)
fit_bool a (value.Tree c fields) = None

abbrev pub fit_tree : CtorId → List Fitting → value.Value-F Value → Option (List Value)
fit_tree c patterns (value.Int m) = None
fit_tree c patterns (value.Bool b) = None
fit_tree c patterns (value.Tree d fields) = if nat_eq c.0 d.0 then fit_fields patterns fields else None

-- one level, with the inner patterns' fits in their place
abbrev pub fit_step : pattern.Pattern-F Fitting → Fitting
fit_step pattern.Any v = Some []
fit_step (pattern.Bind inner) v = bound_before (v ∷ []) (inner v)
fit_step (pattern.Int n) v = fit_int n (out-Value v)
fit_step (pattern.Bool b) v = fit_bool b (out-Value v)
fit_step (pattern.Ctor c patterns) v = fit_tree c patterns (out-Value v)

-- the values that the pattern binds, or none where the value doesn't fit
abbrev pub fit : Pattern → Value → Option (List Value)
fit = fold-Pattern Fitting fit_step

-- whether the value fits the pattern
abbrev pub fits : Pattern → Value → Bool
fits p v = is_some (fit p v)

-- whether the value fits one of the patterns
abbrev pub fits_one : List Pattern → Value → Bool
fits_one [] v = false
fits_one (p ∷ ps) v = fits p v || fits_one ps v
