-- How the plain descents of a function are found: a mark for each variable in scope says whether it is inside the
-- parameter with which the function's measure begins. The private functions of src/plain.rt compute these definitions,
-- and no public clause speaks of them: specs/Plain says what a plain descent is, and proofs/PlainDescents that the list
-- has those, and no other. Source: own.
use Rattle.std.specs.Prelude.{ℕ, Bool, true, false, ◌||◌, nat_eq, nat_lt, if◌then◌else◌, List, [], ◌∷◌, ◌++◌, map}
use Rattle.std.specs.Prelude.{Option, Some, None, length, replicate, slice_get}
use Rattle.pp_list.specs.Joined.{joined}
use Rattle.pp_graph.specs.Rows.{marked}
use Rattle.pp_prog.specs.declared.expr.Case.{Case}
use Rattle.pp_prog.specs.declared.expr.Expr.{Expr}
use Rattle.pp_prog.specs.declared.expr.Expr.TheFolds.{fold-Case, fold-Expr}
use Rattle.pp_prog.specs.declared.expr.Expr.TheOpen as layer
use Rattle.pp_prog.specs.declared.expr.Expr.TheViews.{out-Expr}
use Rattle.pp_prog.specs.declared.expr.Function.{Function}
use Rattle.pp_prog.specs.declared.expr.Param.{Param}
use Rattle.pp_prog.specs.declared.expr.Pattern.{Pattern}
use Rattle.pp_prog.specs.declared.expr.Pattern.TheFolds.{fold-Pattern}
use Rattle.pp_prog.specs.declared.expr.Pattern.TheOpen as pattern
use Rattle.pp_prog.specs.declared.id.CheckId.{CheckId}
use Rattle.pp_prog.specs.declared.sort.Sort.{Sort}
use Rattle.pp_prog.specs.declared.sort.Sort.TheVariants as sort

-- what a pattern is: a mark for each variable that it binds, by the mark of those at its top and of those below
abbrev pub Marking : Type 0
Marking = Bool → Bool → List Bool

-- one level, with the inner patterns' marks in their place
abbrev pub marking_step : pattern.Pattern-F Marking → Marking
marking_step pattern.Any top below = []
marking_step (pattern.Bind inner) top below = top ∷ inner top below
marking_step (pattern.Int n) top below = []
marking_step (pattern.Bool b) top below = []
marking_step (pattern.Ctor c patterns) top below = joined (map (λ (m : Marking). m below below) patterns)

-- the marks of the variables that the pattern binds
abbrev pub marks_of : Pattern → Marking
marks_of = fold-Pattern Marking marking_step

abbrev pub variable_in : layer.Expr-F Expr Case → Option ℕ
variable_in (layer.Var i) = Some i
variable_in _ = None

-- the variable that the expression is, if it is one
abbrev pub variable_of : Expr → Option ℕ
variable_of e = variable_in (out-Expr e)

abbrev pub variable_first : List Expr → Option ℕ
variable_first [] = None
variable_first (e ∷ es) = variable_of e

abbrev pub if_below : ℕ → Option ℕ → Option ℕ
if_below n None = None
if_below n (Some i) = if nat_lt i n then Some i else None

-- the parameter that is the first component of the function's measure, if one is
abbrev pub first_param : Function → Option ℕ
first_param f = if_below (length f.params) (variable_first f.measure)

abbrev pub first_param_of : Option Function → Option ℕ
first_param_of None = None
first_param_of (Some f) = first_param f

abbrev pub as_check : Option CheckId → List ℕ
as_check None = []
as_check (Some check) = check.0 ∷ []

abbrev pub when : Bool → List ℕ → List ℕ
when true xs = xs
when false xs = []

-- the plain descents in an expression or a case, by the marks of the variables in scope, which say whether a
-- variable is inside the parameter
abbrev pub Descents : Type 0
Descents = List Bool → List ℕ

-- what an expression is: the variable that it is, if it is one, and its descents
abbrev pub Seen : Type 0
Seen = Option ℕ × Descents

-- what a case is: its descents, where the matched value is the parameter or inside it
abbrev pub CaseDescents : Type 0
CaseDescents = Bool → Descents

abbrev pub in_all : List Seen → Descents
in_all [] marks = []
in_all (e ∷ es) marks = e.1 marks ++ in_all es marks

abbrev pub in_guard : Option Seen → Descents
in_guard None marks = []
in_guard (Some guard) marks = guard.1 marks

abbrev pub case_step : layer.Case-F Seen CaseDescents → CaseDescents
case_step c live marks =
    in_guard c.guard (marks ++ marks_of c.pattern false live) ++ c.body.1 (marks ++ marks_of c.pattern false live)

abbrev pub in_cases : List CaseDescents → CaseDescents
in_cases [] live marks = []
in_cases (c ∷ cs) live marks = c live marks ++ in_cases cs live marks

-- whether the variable is inside the parameter
abbrev pub is_inside : List Bool → Option ℕ → Bool
is_inside marks None = false
is_inside marks (Some i) = marked marks i

-- whether the variable is the parameter p, or inside it
abbrev pub is_live : ℕ → List Bool → Option ℕ → Bool
is_live p marks None = false
is_live p marks (Some i) = nat_eq i p || marked marks i

abbrev pub inside_at : Option Seen → List Bool → Bool
inside_at None marks = false
inside_at (Some arg) marks = is_inside marks arg.0

-- whether the argument for the parameter is a variable inside
abbrev pub goes_down : Option ℕ → List Seen → List Bool → Bool
goes_down None args marks = false
goes_down (Some q) args marks = inside_at (slice_get args q) marks

module _ (functions : List Function) (p : ℕ) where
  -- one level, with what the parts are in their place
  abbrev pub seen_step : layer.Expr-F Seen CaseDescents → Seen
  seen_step (layer.Int n) = (None, λ marks. [])
  seen_step (layer.Bool b) = (None, λ marks. [])
  seen_step (layer.Var i) = (Some i, λ marks. [])
  seen_step (layer.Unary op a) = (None, a.1)
  seen_step (layer.Binary op a b check) = (None, λ marks. a.1 marks ++ b.1 marks)
  seen_step (layer.Construct c args) = (None, in_all args)
  seen_step (layer.Field e k) = (None, e.1)
  seen_step (layer.If c a b) = (None, λ marks. c.1 marks ++ a.1 marks ++ b.1 marks)
  seen_step (layer.Match e cases check) = (None, λ marks. e.1 marks ++ in_cases cases (is_live p marks e.0) marks)
  seen_step (layer.Val bound rest) = (None, λ marks. bound.1 marks ++ rest.1 (marks ++ false ∷ []))
  seen_step (layer.Assert check c rest) = (None, λ marks. c.1 marks ++ rest.1 marks)
  seen_step (layer.Call g args pre measure) = (
    None,
    λ marks. in_all args marks ++ when (goes_down (first_param_of (slice_get functions g.0)) args marks)
        (as_check measure),
  )

  -- what an expression is
  abbrev pub seen : Expr → Seen
  seen = fold-Expr Seen CaseDescents seen_step case_step

  -- the plain descents in an expression
  abbrev pub descents : Expr → Descents
  descents e = (seen e).1

  -- those in a case
  abbrev pub descents_in_case : Case → CaseDescents
  descents_in_case = fold-Case Seen CaseDescents seen_step case_step

  abbrev pub pre_descents : Option Expr → Descents
  pre_descents None marks = []
  pre_descents (Some pre) marks = descents pre marks

  -- the result isn't inside a parameter
  abbrev pub post_descents : Option (CheckId × Expr) → Descents
  post_descents None marks = []
  post_descents (Some post) marks = descents post.1 (marks ++ false ∷ [])

  -- the plain descents of a function whose measure begins with its parameter p
  abbrev pub descents_from : Function → List ℕ
  descents_from f =
      let marks = replicate (length f.params) false in
      pre_descents f.pre marks ++ in_all (map seen f.measure) marks ++ descents f.body marks ++ post_descents
      f.post marks

abbrev pub is_tree : Sort → Bool
is_tree sort.Int = false
is_tree sort.Bool = false
is_tree (sort.Tree d) = true

abbrev pub is_tree_param : Option Param → Bool
is_tree_param None = false
is_tree_param (Some p) = is_tree p.sort

abbrev pub if_tree : List Param → Option ℕ → Option ℕ
if_tree params None = None
if_tree params (Some p) = if is_tree_param (slice_get params p) then Some p else None

-- the parameter of a datatype that is the first component of the function's measure, if one is
abbrev pub tree_param : Function → Option ℕ
tree_param f = if_tree f.params (first_param f)

abbrev pub descents_at : List Function → Function → Option ℕ → List ℕ
descents_at functions f None = []
descents_at functions f (Some p) = descents_from functions p f

-- the plain descents of a function: those of its parameter with which its measure begins
abbrev pub plain_descents : List Function → Function → List ℕ
plain_descents functions f = descents_at functions f (tree_param f)
