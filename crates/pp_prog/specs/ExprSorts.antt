-- Which expressions have which sort. Source: Scala Language Specification 6 and 12.2 for the operators; the rest is
-- own.
use Rattle.std.specs.Prelude.{ℕ, nat_eq, Bool, true, false, if◌then◌else◌, ◌&&◌, List, [], ◌∷◌, ◌++◌, map, Option, Some}
use Rattle.std.specs.Prelude.{None, is_some, slice_get}
use Rattle.pp_tree.specs.declared.operator.BinaryOp.{BinaryOp}
use Rattle.pp_operators.specs.Classes.{class_of}
use Rattle.pp_operators.specs.Sorts as operators
use Rattle.pp_operators.specs.declared.class.OperatorClass.{OperatorClass}
use Rattle.pp_prog.specs.declared.expr.Case.{Case}
use Rattle.pp_prog.specs.declared.expr.Expr.{Expr}
use Rattle.pp_prog.specs.declared.expr.Expr.TheFolds.{fold-Case, fold-Expr}
use Rattle.pp_prog.specs.declared.expr.Expr.TheOpen as layer
use Rattle.pp_prog.specs.declared.expr.Function.{Function}
use Rattle.pp_tree.specs.declared.operator.UnaryOp.{UnaryOp}
use Rattle.pp_tree.specs.declared.operator.UnaryOp.TheVariants.{Neg, Not, Flip}
use Rattle.pp_prog.specs.declared.id.CheckId.{CheckId}
use Rattle.pp_prog.specs.declared.id.DataId.{DataId}
use Rattle.pp_prog.specs.declared.sort.Sort.{Sort}
use Rattle.pp_prog.specs.declared.sort.Sort.TheVariants as sort
use Rattle.pp_prog.specs.declared.types.Ctor.{Ctor}
use Rattle.pp_prog.specs.declared.types.Datatype.{Datatype}
use Rattle.pp_prog.specs.declared.types.TypeTable.{TypeTable}
use Rattle.pp_prog.specs.Sorts.{is_int, param_sorts, same_sort}
use Rattle.pp_prog.specs.PatternSorts.{bound_sorts}

-- what an expression is: its sort, with the sorts of the variables in scope, or none
abbrev pub Sorting : Type 0
Sorting = List Sort → Option Sort

-- what a case is: its pattern, with the sorts of its guard and its body
abbrev pub Arm : Type 0
Arm = layer.Case-F Sorting (Unit {0})

abbrev pub arm_step : layer.Case-F Sorting Arm → Arm
arm_step c = record { pattern = c.pattern; guard = c.guard; body = c.body }

abbrev pub then_sort : {A : Type 0} → Option Sort → (Sort → Option A) → Option A
then_sort None go = None
then_sort (Some s) go = go s

-- goes on where the sort is Int
abbrev pub an_int : {A : Type 0} → Option Sort → Option A → Option A
an_int (Some sort.Int) go = go
an_int (Some sort.Bool) go = None
an_int (Some (sort.Tree d)) go = None
an_int None go = None

-- goes on where the sort is Boolean
abbrev pub a_bool : {A : Type 0} → Option Sort → Option A → Option A
a_bool (Some sort.Int) go = None
a_bool (Some sort.Bool) go = go
a_bool (Some (sort.Tree d)) go = None
a_bool None go = None

-- goes on where the sort is a datatype
abbrev pub a_tree : {A : Type 0} → Option Sort → (DataId → Option A) → Option A
a_tree (Some sort.Int) go = None
a_tree (Some sort.Bool) go = None
a_tree (Some (sort.Tree d)) go = go d
a_tree None go = None

abbrev pub sort_if : Bool → Sort → Option Sort
sort_if true s = Some s
sort_if false s = None

-- the sort that both have
abbrev pub alike : Option Sort → Option Sort → Option Sort
alike None t = None
alike (Some s) None = None
alike (Some s) (Some t) = sort_if (same_sort s t) s

-- each has the sort at its place, and none is left over
abbrev pub match_sorts : List (Option Sort) → List Sort → Bool
match_sorts [] [] = true
match_sorts [] (t ∷ ts) = false
match_sorts (s ∷ ss) [] = false
match_sorts (None ∷ ss) (t ∷ ts) = false
match_sorts (Some s ∷ ss) (t ∷ ts) = same_sort s t && match_sorts ss ts

abbrev pub unary_sort : UnaryOp → Option Sort → Option Sort
unary_sort Neg a = an_int a (Some sort.Int)
unary_sort Not a = a_bool a (Some sort.Bool)
unary_sort Flip a = an_int a (Some sort.Int)

-- whether it is a sort of numbers
abbrev pub is_number : Sort → Bool
is_number = same_sort sort.Int

-- whether operators of this class take operands of these sorts
abbrev pub class_takes : OperatorClass → Sort → Sort → Bool
class_takes = operators.class_takes is_number same_sort sort.Bool

-- the sort of the result of an operator of this class, whose left operand has this sort
abbrev pub class_gives : OperatorClass → Sort → Sort
class_gives = operators.class_gives sort.Bool

-- the sort of the operator's result, whose left operand has this sort
abbrev pub gives : BinaryOp → Sort → Sort
gives op s = class_gives (class_of op) s

-- goes on with the sorts of both operands
abbrev pub both_sorts : Option Sort → Option Sort → (Sort → Sort → Option Sort) → Option Sort
both_sorts None b go = None
both_sorts (Some s) None go = None
both_sorts (Some s) (Some t) go = go s t

-- the sort of the result of an operator of this class, at the sorts of its operands
abbrev pub class_sort : OperatorClass → Option Sort → Option Sort → Option Sort
class_sort c a b = both_sorts a b (λ s t. sort_if (class_takes c s t) (class_gives c s))

abbrev pub binary_sort : BinaryOp → Option Sort → Option Sort → Option Sort
binary_sort op a b = class_sort (class_of op) a b

-- a tree of this constructor, with fields of these sorts
abbrev pub tree_sort : Option Ctor → List (Option Sort) → Option Sort
tree_sort None ss = None
tree_sort (Some c) ss = sort_if (match_sorts ss c.fields) (sort.Tree c.of)

-- the result of a call, with arguments of these sorts
abbrev pub call_sort : Option Function → List (Option Sort) → Option Sort
call_sort None ss = None
call_sort (Some f) ss = sort_if (match_sorts ss (param_sorts f.params)) f.result

abbrev pub sort_in : List Sort → Sorting → Option Sort
sort_in scope e = e scope

-- the sorts of several expressions in one scope
abbrev pub sorts_in : List Sort → List Sorting → List (Option Sort)
sorts_in scope = map (sort_in scope)

abbrev pub field_of_ctor : Option Ctor → ℕ → Option Sort
field_of_ctor None k = None
field_of_ctor (Some c) k = slice_get c.fields k

-- a datatype with one constructor has the fields of that constructor
abbrev pub field_of_data : List Ctor → Option Datatype → ℕ → Option Sort
field_of_data ctors None k = None
field_of_data ctors (Some t) k = if nat_eq t.count 1 then field_of_ctor (slice_get ctors t.first.0) k else None

-- a guard that is written is Boolean
abbrev pub guarded_sort : Option Sorting → List Sort → Option Sort → Option Sort
guarded_sort None scope s = s
guarded_sort (Some guard) scope s = a_bool (guard scope) s

-- a case sees the variables of its pattern after those in scope
abbrev pub arm_with : Arm → List Sort → Option (List Sort) → Option Sort
arm_with arm scope None = None
arm_with arm scope (Some bound) = guarded_sort arm.guard (scope ++ bound) (arm.body (scope ++ bound))

module _ (types : TypeTable) (functions : List Function) where
  -- the sort of field k of a value of datatype d
  abbrev pub field_sort : DataId → ℕ → Option Sort
  field_sort d k = field_of_data types.ctors (slice_get types.datatypes d.0) k

  -- the sort of a case's body, at a matched value of sort s
  abbrev pub arm_sort : Arm → Sort → Sorting
  arm_sort arm s scope = arm_with arm scope (bound_sorts types.ctors arm.pattern s)

  abbrev pub arms_like : Option Sort → List Arm → Sort → Sorting
  arms_like t [] s scope = t
  arms_like t (arm ∷ arms) s scope = arms_like (alike t (arm_sort arm s scope)) arms s scope

  -- the one sort of all cases, of which there is at least one
  abbrev pub arms_sort : List Arm → Sort → Sorting
  arms_sort [] s scope = None
  arms_sort (arm ∷ arms) s scope = arms_like (arm_sort arm s scope) arms s scope

  -- one level, with the sorts of the parts in their place
  abbrev pub sort_step : layer.Expr-F Sorting Arm → Sorting
  sort_step (layer.Int n) scope = sort_if (is_int n) sort.Int
  sort_step (layer.Bool b) scope = Some sort.Bool
  sort_step (layer.Var i) scope = slice_get scope i
  sort_step (layer.Unary op a) scope = unary_sort op (a scope)
  sort_step (layer.Binary op a b check) scope = binary_sort op (a scope) (b scope)
  sort_step (layer.Construct c args) scope = tree_sort (slice_get types.ctors c.0) (sorts_in scope args)
  sort_step (layer.Field e k) scope = a_tree (e scope) (λ d. field_sort d k)
  sort_step (layer.If c a b) scope = a_bool (c scope) (alike (a scope) (b scope))
  sort_step (layer.Match e arms check) scope = then_sort (e scope) (λ s. arms_sort arms s scope)
  sort_step (layer.Val bound rest) scope = then_sort (bound scope) (λ s. rest (scope ++ s ∷ []))
  sort_step (layer.Assert check c rest) scope = a_bool (c scope) (rest scope)
  sort_step (layer.Call g args pre measure) scope = call_sort (slice_get functions g.0) (sorts_in scope args)

  -- the sort of an expression, with the sorts of the variables in scope, or none
  abbrev pub sort_of : Expr → List Sort → Option Sort
  sort_of = fold-Expr Sorting Arm sort_step arm_step

  -- a case, with the sorts of its guard and its body
  abbrev pub case_sorts : Case → Arm
  case_sorts = fold-Case Sorting Arm sort_step arm_step

  abbrev pub has_the_sort : Sort → Option Sort → Bool
  has_the_sort s None = false
  has_the_sort s (Some t) = same_sort t s

  -- whether the expression has the sort
  abbrev pub is_of_sort : Sort → List Sort → Expr → Bool
  is_of_sort s scope e = has_the_sort s (sort_of e scope)

  abbrev pub is_sorted_pre : Option Expr → List Sort → Bool
  is_sorted_pre None scope = true
  is_sorted_pre (Some pre) scope = is_of_sort sort.Bool scope pre

  -- each component of a measure has a sort
  abbrev pub is_sorted_measure : List Expr → List Sort → Bool
  is_sorted_measure [] scope = true
  is_sorted_measure (e ∷ es) scope = is_some (sort_of e scope) && is_sorted_measure es scope

  abbrev pub is_sorted_post : Option (CheckId × Expr) → List Sort → Bool
  is_sorted_post None scope = true
  is_sorted_post (Some post) scope = is_of_sort sort.Bool scope post.1

  -- each expression of a function has its sort: the postcondition sees the result after the parameters
  abbrev pub is_sorted : Function → Bool
  is_sorted f =
      let scope = param_sorts f.params in
      is_sorted_pre f.pre scope && (is_sorted_measure f.measure scope && (is_of_sort f.result scope f.body
      && is_sorted_post f.post (scope ++ f.result ∷ [])))
