-- The sites of a function, in order: those in its precondition, its measure, its body and its postcondition, and last
-- that of the postcondition itself. Inside an expression they stand in the order of evaluation. Source: own.
use Rattle.std.specs.Prelude.{Bool, true, false, List, [], ◌∷◌, ◌++◌, map, Option, Some, None}
use Rattle.pp_list.specs.Joined.{joined}
use Rattle.pp_prog.specs.declared.check.CheckKind.{CheckKind}
use Rattle.pp_prog.specs.declared.check.CheckKind.TheVariants as kind
use Rattle.pp_operators.specs.Classes.{is_division}
use Rattle.pp_tree.specs.declared.operator.BinaryOp.{BinaryOp}
use Rattle.pp_prog.specs.declared.expr.Case.{Case}
use Rattle.pp_prog.specs.declared.expr.Expr.{Expr}
use Rattle.pp_prog.specs.declared.expr.Expr.TheFolds.{para-Case, para-Expr}
use Rattle.pp_prog.specs.declared.expr.Expr.TheOpen as layer
use Rattle.pp_prog.specs.declared.expr.Function.{Function}
use Rattle.pp_prog.specs.declared.expr.Pattern.{Pattern}
use Rattle.pp_prog.specs.declared.id.CheckId.{CheckId}
use Rattle.pp_prog.specs.declared.id.FunctionId.{FunctionId}
use Rattle.pp_prog.specs.declared.sort.Sort.{Sort}
use Rattle.pp_prog.specs.declared.types.TypeTable.{TypeTable}
use Rattle.pp_prog.specs.Sorts.{param_sorts}
use Rattle.pp_prog.specs.PatternSorts.{bound_sorts}
use Rattle.pp_prog.specs.ExprSorts.{sort_of}

-- a site, with the check that it carries: an operator that can't fail; `/` or `%`; an assertion; the precondition of
-- the called function; its measure; a match on a value of a sort, with the patterns of its cases without a guard; a
-- postcondition
pub data Site : Type 0 where
  plain : Option CheckId → Site
  division : Option CheckId → Site
  assertion : CheckId → Site
  precondition : FunctionId → Option CheckId → Site
  measure : FunctionId → Option CheckId → Site
  matching : Sort → List Pattern → Option CheckId → Site
  postcondition : CheckId → Site

-- the check that a site carries, with its kind
abbrev pub as_kind : CheckKind → Option CheckId → List (CheckId × CheckKind)
as_kind k None = []
as_kind k (Some check) = (check, k) ∷ []

abbrev pub carried : Site → List (CheckId × CheckKind)
carried (plain check) = []
carried (division check) = as_kind kind.Division check
carried (assertion check) = as_kind kind.Assertion (Some check)
carried (precondition g check) = as_kind kind.Precondition check
carried (measure g check) = as_kind kind.Measure check
carried (matching s patterns check) = as_kind kind.Match check
carried (postcondition check) = as_kind kind.Postcondition (Some check)

abbrev pub division_site : Bool → Option CheckId → Site
division_site true check = division check
division_site false check = plain check

abbrev pub operator_site : BinaryOp → Option CheckId → Site
operator_site op check = division_site (is_division op) check

-- what an expression is: its sites, with the sorts of the variables in scope
abbrev pub Sites : Type 0
Sites = List Sort → List Site

-- what a case is: its sites, at the sort of the matched value
abbrev pub CaseSites : Type 0
CaseSites = Sort → Sites

abbrev pub at_sort : Option Sort → (Sort → List Site) → List Site
at_sort None go = []
at_sort (Some s) go = go s

abbrev pub with_bound : Option (List Sort) → (List Sort → List Site) → List Site
with_bound None go = []
with_bound (Some bound) go = go bound

abbrev pub sites_of_all : List (Expr × Sites) → Sites
sites_of_all [] scope = []
sites_of_all (e ∷ es) scope = e.1 scope ++ sites_of_all es scope

abbrev pub guard_sites : Option (Expr × Sites) → Sites
guard_sites None scope = []
guard_sites (Some guard) scope = guard.1 scope

abbrev pub sites_of_cases : List (Case × CaseSites) → CaseSites
sites_of_cases [] s scope = []
sites_of_cases (c ∷ cs) s scope = c.1 s scope ++ sites_of_cases cs s scope

abbrev pub unless_guarded : Option Expr → Pattern → List Pattern → List Pattern
unless_guarded None p rest = p ∷ rest
unless_guarded (Some guard) p rest = rest

-- the patterns of the cases without a guard
abbrev pub unguarded : List (Case × CaseSites) → List Pattern
unguarded [] = []
unguarded (c ∷ cs) = unless_guarded c.0.guard c.0.pattern (unguarded cs)

module _ (types : TypeTable) (functions : List Function) where
  -- one level, with the sites of the parts beside them
  abbrev pub case_sites : layer.Case-F (Expr × Sites) (Case × CaseSites) → CaseSites
  case_sites c s scope =
      with_bound (bound_sorts types.ctors c.pattern s) (λ bound. guard_sites c.guard (scope ++ bound) ++ c.body.1
      (scope ++ bound))

  abbrev pub site_step : layer.Expr-F (Expr × Sites) (Case × CaseSites) → Sites
  site_step (layer.Int n) scope = []
  site_step (layer.Bool b) scope = []
  site_step (layer.Var i) scope = []
  site_step (layer.Unary op a) scope = a.1 scope
  site_step (layer.Binary op a b check) scope = a.1 scope ++ b.1 scope ++ operator_site op check ∷ []
  site_step (layer.Construct c args) scope = sites_of_all args scope
  site_step (layer.Field e k) scope = e.1 scope
  site_step (layer.If c a b) scope = c.1 scope ++ a.1 scope ++ b.1 scope
  site_step (layer.Match e cases check) scope =
      e.1 scope ++ at_sort (sort_of types functions e.0 scope)
      (λ s. matching s (unguarded cases) check ∷ sites_of_cases cases s scope)
  site_step (layer.Val bound rest) scope =
      bound.1 scope ++ at_sort (sort_of types functions bound.0 scope) (λ s. rest.1 (scope ++ s ∷ []))
  site_step (layer.Assert check c rest) scope = c.1 scope ++ assertion check ∷ rest.1 scope
  site_step (layer.Call g args pre down) scope = sites_of_all args scope ++ precondition g pre ∷ measure g down ∷ []

  -- the sites of an expression, in the order of evaluation
  abbrev pub sites : Expr → List Sort → List Site
  sites = para-Expr Sites CaseSites site_step case_sites

  -- the sites of a case, at the sort of the matched value
  abbrev pub sites_in_case : Case → CaseSites
  sites_in_case = para-Case Sites CaseSites site_step case_sites

  -- expressions and cases, each with its sites beside it
  abbrev pub beside : Expr → Expr × Sites
  beside e = (e, sites e)

  abbrev pub case_beside : Case → Case × CaseSites
  case_beside c = (c, sites_in_case c)

  abbrev pub with_sites : List Expr → List (Expr × Sites)
  with_sites = map beside

  abbrev pub with_case_sites : List Case → List (Case × CaseSites)
  with_case_sites = map case_beside

  abbrev pub pre_sites : Option Expr → Sites
  pre_sites None scope = []
  pre_sites (Some pre) scope = sites pre scope

  abbrev pub measure_sites : List Expr → Sites
  measure_sites [] scope = []
  measure_sites (e ∷ es) scope = sites e scope ++ measure_sites es scope

  -- the claim of a postcondition sees the result after the parameters; the postcondition's own site is the last
  abbrev pub post_sites : Option (CheckId × Expr) → Sort → Sites
  post_sites None result scope = []
  post_sites (Some post) result scope = sites post.1 (scope ++ result ∷ []) ++ postcondition post.0 ∷ []

  -- the sites of a function
  abbrev pub function_sites : Function → List Site
  function_sites f =
      let scope = param_sorts f.params in
      pre_sites f.pre scope ++ measure_sites f.measure scope ++ sites f.body scope ++ post_sites f.post f.result scope

  -- the checks of a function, in order
  abbrev pub function_checks : Function → List (CheckId × CheckKind)
  function_checks f = joined (map carried (function_sites f))
