-- Which patterns have which sort, and the sorts of the variables that they bind. Source: own.
use Rattle.std.specs.Prelude.{Bool, true, false, ◌&&◌, if◌then◌else◌, List, [], ◌∷◌, ◌++◌, Option, Some, None}
use Rattle.std.specs.Prelude.{slice_get}
use Rattle.pp_prog.specs.declared.expr.Pattern.{Pattern}
use Rattle.pp_prog.specs.declared.expr.Pattern.TheFolds.{fold-Pattern}
use Rattle.pp_prog.specs.declared.expr.Pattern.TheOpen as pattern
use Rattle.pp_prog.specs.declared.sort.Sort.{Sort}
use Rattle.pp_prog.specs.declared.sort.Sort.TheVariants as sort
use Rattle.pp_prog.specs.declared.types.Ctor.{Ctor}
use Rattle.pp_prog.specs.Sorts.{is_int, same_sort}

-- what a pattern is: at a sort, the sorts of its variables, or none where it isn't a pattern of that sort
abbrev pub Binding : Type 0
Binding = Sort → Option (List Sort)

abbrev pub then_bind : Option (List Sort) → (List Sort → Option (List Sort)) → Option (List Sort)
then_bind None go = None
then_bind (Some bound) go = go bound

-- each pattern has the sort at its place, and none is left over
abbrev pub bind_fields : List Binding → List Sort → Option (List Sort)
bind_fields [] [] = Some []
bind_fields [] (s ∷ ss) = None
bind_fields (p ∷ ps) [] = None
bind_fields (p ∷ ps) (s ∷ ss) = then_bind (p s) (λ here. then_bind (bind_fields ps ss) (λ more. Some (here ++ more)))

abbrev pub bind_tree : Option Ctor → List Binding → Sort → Option (List Sort)
bind_tree None patterns s = None
bind_tree (Some c) patterns s = if same_sort (sort.Tree c.of) s then bind_fields patterns c.fields else None

abbrev pub binds_none : Bool → Option (List Sort)
binds_none true = Some []
binds_none false = None

module _ (ctors : List Ctor) where
  -- one level, with the inner patterns' sorts in their place
  abbrev pub bind_step : pattern.Pattern-F Binding → Binding
  bind_step pattern.Any s = Some []
  bind_step (pattern.Bind inner) s = then_bind (inner s) (λ more. Some (s ∷ more))
  bind_step (pattern.Int n) s = binds_none (same_sort sort.Int s && is_int n)
  bind_step (pattern.Bool b) s = binds_none (same_sort sort.Bool s)
  bind_step (pattern.Ctor c patterns) s = bind_tree (slice_get ctors c.0) patterns s

  -- the sorts of the variables that the pattern binds at a value of this sort: the outer before the inner, from left to
  -- right
  abbrev pub bound_sorts : Pattern → Sort → Option (List Sort)
  bound_sorts = fold-Pattern Binding bind_step
