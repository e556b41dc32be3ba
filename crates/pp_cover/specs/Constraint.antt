-- What constraints mean: which values satisfy them, and which constraints a pattern stands for. Source: own; a row of
-- constraints is a row of a pattern matrix but for its wildcards (L. Maranget, "Warnings for pattern matching", 2007).
use Rattle.std.specs.Prelude.{ℕ, suc, nat_eq, Bool, true, false, ◌&&◌, List, [], ◌∷◌, ◌++◌, map, Option, Some, None}
use Rattle.std.specs.Prelude.{slice_get}
use Rattle.std.specs.Ordering.{int_eq}
use Rattle.pp_prog.specs.declared.expr.Pattern.{Pattern}
use Rattle.pp_prog.specs.declared.expr.Pattern.TheFolds.{para-Pattern}
use Rattle.pp_prog.specs.declared.expr.Pattern.TheOpen as pattern
use Rattle.pp_prog.specs.declared.value.Value.{Value}
use Rattle.pp_prog.specs.declared.value.Value.TheOpen as value
use Rattle.pp_prog.specs.declared.value.Value.TheViews.{out-Value}
use Rattle.pp_prog.specs.Fits.{fits, same_truth}
use Rattle.pp_cover.specs.declared.constraint.Constraint.{Constraint}
use Rattle.pp_cover.specs.declared.constraint.Head.{Head}
use Rattle.pp_cover.specs.declared.constraint.Head.TheVariants as head

abbrev pub same_head : Head → Head → Bool
same_head (head.Int a) (head.Int b) = int_eq a b
same_head (head.Int a) (head.Bool b) = false
same_head (head.Int a) (head.Tree b) = false
same_head (head.Bool a) (head.Int b) = false
same_head (head.Bool a) (head.Bool b) = same_truth a b
same_head (head.Bool a) (head.Tree b) = false
same_head (head.Tree a) (head.Int b) = false
same_head (head.Tree a) (head.Bool b) = false
same_head (head.Tree a) (head.Tree b) = nat_eq a.0 b.0

-- the head of a value, which is its number, its truth value or its constructor, and its fields
abbrev pub head_of : value.Value-F Value → Head
head_of (value.Int n) = head.Int n
head_of (value.Bool b) = head.Bool b
head_of (value.Tree c fields) = head.Tree c

abbrev pub fields_of : value.Value-F Value → List Value
fields_of (value.Int n) = []
fields_of (value.Bool b) = []
fields_of (value.Tree c fields) = fields

-- each value fits the pattern at its place, and none is left over
abbrev pub fit_all : List Pattern → List Value → Bool
fit_all [] [] = true
fit_all [] (v ∷ vs) = false
fit_all (p ∷ ps) [] = false
fit_all (p ∷ ps) (v ∷ vs) = fits p v && fit_all ps vs

-- the value satisfies the constraint
abbrev pub value_satisfies : Value → Constraint → Bool
value_satisfies v c = same_head c.head (head_of (out-Value v)) && fit_all c.fields (fields_of (out-Value v))

abbrev pub some_satisfies : Option Value → Constraint → Bool
some_satisfies None c = false
some_satisfies (Some v) c = value_satisfies v c

-- the value in the constraint's column satisfies it
abbrev pub satisfies : List Value → Constraint → Bool
satisfies vs c = some_satisfies (slice_get vs c.column) c

-- the values satisfy each constraint
abbrev pub row_fits : List Constraint → List Value → Bool
row_fits [] vs = true
row_fits (c ∷ row) vs = satisfies vs c && row_fits row vs

-- what a pattern is: at a column, its constraints there
abbrev pub Constraining : Type 0
Constraining = ℕ → List Constraint

abbrev pub constraint_of : Head → List Pattern → Constraining
constraint_of h ps j = record { column = j; head = h; fields = ps } ∷ []

-- one level, with the constraints of the inner patterns beside them
abbrev pub constraint_step : pattern.Pattern-F (Pattern × Constraining) → Constraining
constraint_step pattern.Any j = []
constraint_step (pattern.Bind inner) j = inner.1 j
constraint_step (pattern.Int n) j = constraint_of (head.Int n) [] j
constraint_step (pattern.Bool b) j = constraint_of (head.Bool b) [] j
constraint_step (pattern.Ctor c ps) j = constraint_of (head.Tree c) (map (λ p. p.0) ps) j

-- what a pattern asks of the value in a column
abbrev pub constraints : Pattern → ℕ → List Constraint
constraints = para-Pattern Constraining constraint_step

-- what patterns ask of the values in the columns from j on
abbrev pub placed : ℕ → List Pattern → List Constraint
placed j [] = []
placed j (p ∷ ps) = constraints p j ++ placed (suc j) ps
