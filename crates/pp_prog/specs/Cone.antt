-- The cone of a function, recursive functions, and word functions, which meet no datatype. Source: own.
use Rattle.std.specs.Prelude.{◌≡◌, ◌⊎◌, ℕ, Bool, true, false, ◌&&◌, List, [], ◌∷◌, ◌++◌, Option, Some, None, slice_get}
use Rattle.std.specs.Prelude.{IsTrue}
use Rattle.std.specs.List.{list_all}
use Rattle.std.specs.Option.{option_map}
use Rattle.pp_list.specs.Joined.{or_none}
use Rattle.pp_prog.specs.declared.expr.Case.{Case}
use Rattle.pp_prog.specs.declared.expr.Expr.{Expr}
use Rattle.pp_prog.specs.declared.expr.Expr.TheFolds.{para-Expr}
use Rattle.pp_prog.specs.declared.expr.Expr.TheOpen as layer
use Rattle.pp_prog.specs.declared.expr.Function.{Function}
use Rattle.pp_prog.specs.declared.id.CheckId.{CheckId}
use Rattle.pp_prog.specs.declared.sort.Sort.{Sort}
use Rattle.pp_prog.specs.declared.sort.Sort.TheVariants as sort
use Rattle.pp_prog.specs.declared.types.TypeTable.{TypeTable}
use Rattle.pp_prog.specs.Sorts.{param_sorts}
use Rattle.pp_prog.specs.PatternSorts.{bound_sorts}
use Rattle.pp_prog.specs.ExprSorts.{sort_of}
use Rattle.pp_prog.specs.Calls.{FunctionReaches}

-- g is in the cone of f: it is f, or f reaches it by calls, those in contracts included
abbrev pub InCone : List Function → ℕ → ℕ → Type 0
InCone functions f g = (f ≡ g) ⊎ FunctionReaches functions f g

-- f reaches itself
abbrev pub IsRecursive : List Function → ℕ → Type 0
IsRecursive functions f = FunctionReaches functions f f

-- the sort is no datatype
abbrev pub is_word : Sort → Bool
is_word sort.Int = true
is_word sort.Bool = true
is_word (sort.Tree d) = false

abbrev pub is_no_tree : Option Sort → Bool
is_no_tree None = true
is_no_tree (Some s) = is_word s

-- what an expression is: the sorts of its proper parts, with the sorts of the variables in scope
abbrev pub Parts : Type 0
Parts = List Sort → List (Option Sort)

-- what a case is: the sorts of the parts of its guard and its body, at the sort of the matched value
abbrev pub CaseParts : Type 0
CaseParts = Sort → Parts

module _ (types : TypeTable) (functions : List Function) where
  -- the sort of a part, and of its own parts
  abbrev pub part : Expr × Parts → Parts
  part p scope = sort_of types functions p.0 scope ∷ p.1 scope

  abbrev pub each_part : List (Expr × Parts) → Parts
  each_part [] scope = []
  each_part (p ∷ ps) scope = part p scope ++ each_part ps scope

  abbrev pub guard_part : Option (Expr × Parts) → Parts
  guard_part None scope = []
  guard_part (Some p) scope = part p scope

  abbrev pub each_case : List (Case × CaseParts) → CaseParts
  each_case [] s scope = []
  each_case (c ∷ cs) s scope = c.1 s scope ++ each_case cs s scope

  -- one level, with the sorts of the parts' parts beside them
  abbrev pub case_parts : layer.Case-F (Expr × Parts) (Case × CaseParts) → CaseParts
  case_parts c s scope =
      or_none (option_map (λ bound. guard_part c.guard (scope ++ bound) ++ part c.body (scope ++ bound))
      (bound_sorts types.ctors c.pattern s))

  abbrev pub part_step : layer.Expr-F (Expr × Parts) (Case × CaseParts) → Parts
  part_step (layer.Int n) scope = []
  part_step (layer.Bool b) scope = []
  part_step (layer.Var i) scope = []
  part_step (layer.Unary op a) scope = part a scope
  part_step (layer.Binary op a b check) scope = part a scope ++ part b scope
  part_step (layer.Construct c args) scope = each_part args scope
  part_step (layer.Field e k) scope = part e scope
  part_step (layer.If c a b) scope = part c scope ++ part a scope ++ part b scope
  part_step (layer.Match e cases check) scope =
      part e scope ++ or_none (option_map (λ s. each_case cases s scope) (sort_of types functions e.0 scope))
  part_step (layer.Val bound rest) scope =
      part bound scope ++ or_none (option_map (λ s. part rest (scope ++ s ∷ []))
      (sort_of types functions bound.0 scope))
  part_step (layer.Assert check c rest) scope = part c scope ++ part rest scope
  part_step (layer.Call g args pre measure) scope = each_part args scope

  -- the sorts of an expression and of all its parts
  abbrev pub sorts_within : Expr → List Sort → List (Option Sort)
  sorts_within e scope = sort_of types functions e scope ∷ para-Expr Parts CaseParts part_step case_parts e scope

  -- no datatype is the sort of the expression or of a part of it
  abbrev pub is_word_expr : List Sort → Expr → Bool
  is_word_expr scope e = list_all is_no_tree (sorts_within e scope)

  abbrev pub is_word_pre : Option Expr → List Sort → Bool
  is_word_pre None scope = true
  is_word_pre (Some pre) scope = is_word_expr scope pre

  abbrev pub is_word_post : Option (CheckId × Expr) → List Sort → Bool
  is_word_post None scope = true
  is_word_post (Some post) scope = is_word_expr scope post.1

  -- no datatype is the sort of a parameter, the result or an expression of the function
  abbrev pub has_words : Function → Bool
  has_words f =
      let scope = param_sorts f.params in
      list_all is_word scope && (is_word f.result && (is_word_pre f.pre scope &&
      (list_all (is_word_expr scope) f.measure
      && (is_word_expr scope f.body && is_word_post f.post (scope ++ f.result ∷ [])))))

  -- f is a word function: each function of its cone has words alone
  abbrev pub IsWordFunction : ℕ → Type 0
  IsWordFunction f =
      (g : ℕ) (function : Function) → InCone functions f g → slice_get functions g ≡ Some function
      → IsTrue (has_words function)
