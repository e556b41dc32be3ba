-- The visit of an expression: which events it meets, at most how high its value is, and of which sort. Heights are
-- cut at the greatest number of 64 bits. What a call does is a parameter. Source: own.
use Rattle.std.specs.Prelude.{ℕ, ◌+◌, ◌-◌, ◌*◌, max, List, [], ◌∷◌, ◌++◌, map, length, Option, Some, None, slice_get}
use Rattle.pp_list.specs.Joined.{joined}
use Rattle.pp_operators.specs.Classes.{class_of}
use Rattle.pp_operators.specs.declared.class.OperatorClass.{OperatorClass}
use Rattle.pp_operators.specs.declared.class.OperatorClass.TheVariants as class
use Rattle.pp_operators.specs.Gates.{number_gates, unary_gates}
use Rattle.pp_tree.specs.declared.operator.BinaryOp.{BinaryOp}
use Rattle.pp_prog.specs.ExprSorts.{gives}
use Rattle.pp_prog.specs.declared.expr.Case.{Case}
use Rattle.pp_prog.specs.declared.expr.Expr.{Expr}
use Rattle.pp_prog.specs.declared.expr.Expr.TheFolds.{fold-Case, fold-Expr}
use Rattle.pp_prog.specs.declared.expr.Expr.TheOpen as layer
use Rattle.pp_prog.specs.declared.expr.Pattern.{Pattern}
use Rattle.pp_prog.specs.declared.expr.Pattern.TheFolds.{fold-Pattern}
use Rattle.pp_prog.specs.declared.expr.Pattern.TheOpen as pattern
use Rattle.pp_prog.specs.declared.id.CheckId.{CheckId}
use Rattle.pp_prog.specs.declared.id.FunctionId.{FunctionId}
use Rattle.pp_prog.specs.declared.sort.Sort.{Sort}
use Rattle.pp_prog.specs.declared.sort.Sort.TheVariants as sort
use Rattle.pp_prog.specs.declared.types.Ctor.{Ctor}
use Rattle.pp_prog.specs.declared.types.TypeTable.{TypeTable}
use Rattle.pp_prog.specs.Results.{field_result, fields_of_ctor, tree_result, unary_result}
use Rattle.pp_prog.specs.Sizes.{bits, height_at, nodes}
use Rattle.pp_estimate.specs.declared.shape.Shape.{Shape}
use Rattle.pp_estimate.specs.Cut.{cut}
use Rattle.pp_estimate.specs.Events.{Event, called, compare, look, work}

abbrev pub shape : Sort → ℕ → Shape
shape s h = record { sort = s; height = h }

-- where nothing is known of a variable
abbrev pub word : Shape
word = shape sort.Int 0

abbrev pub or_word : Option Shape → Shape
or_word None = word
or_word (Some s) = s

abbrev pub shape_at : List Shape → ℕ → Shape
shape_at env i = or_word (slice_get env i)

-- a visit: the shape of the value, and the events
pub record Visit : Type 0 where
  pub shape : Shape
  pub events : List Event

abbrev pub visit : Shape → List Event → Visit
visit s es = record { shape = s; events = es }

abbrev pub events_of : Visit → List Event
events_of v = v.events

abbrev pub shape_of : Visit → Shape
shape_of v = v.shape

abbrev pub height_of : Shape → ℕ
height_of s = s.height

-- the events of visits, one after another
abbrev pub all_events : List Visit → List Event
all_events [] = []
all_events (v ∷ vs) = v.events ++ all_events vs

-- the greatest height
abbrev pub tallest : List Shape → ℕ
tallest [] = 0
tallest (s ∷ ss) = max s.height (tallest ss)

-- a look at the datatype, where the sort is one
abbrev pub look_at : Sort → List Event
look_at sort.Int = []
look_at sort.Bool = []
look_at (sort.Tree d) = look d ∷ []

-- a part of a value: at most one less high, and a number or a truth value has no height
abbrev pub part : Shape → Sort → Shape
part whole s = shape s (height_at (whole.height - 1) s)

-- each node of expression and pattern weighs 64, and a literal in a pattern 128 more
abbrev pub node : ℕ → List Event
node extra = work (64 + extra) ∷ []

-- what a pattern is: the shapes of its variables, at a shape
abbrev pub Binding : Type 0
Binding = Shape → List Shape

abbrev pub bind_each : Shape → List Binding → List Sort → List Shape
bind_each whole [] ss = []
bind_each whole (p ∷ ps) [] = []
bind_each whole (p ∷ ps) (s ∷ ss) = p (part whole s) ++ bind_each whole ps ss

module _ (ctors : List Ctor) where
  abbrev pub bind_step : pattern.Pattern-F Binding → Binding
  bind_step pattern.Any s = []
  bind_step (pattern.Bind inner) s = s ∷ inner s
  bind_step (pattern.Int n) s = []
  bind_step (pattern.Bool b) s = []
  bind_step (pattern.Ctor c patterns) s = bind_each s patterns (fields_of_ctor (slice_get ctors c.0))

  -- the shapes of the variables that the pattern binds, at a value of this shape
  abbrev pub bound : Pattern → Shape → List Shape
  bound = fold-Pattern Binding bind_step

  abbrev pub pattern_step : pattern.Pattern-F (List Event) → List Event
  pattern_step pattern.Any = node 0
  pattern_step (pattern.Bind inner) = node 0 ++ inner
  pattern_step (pattern.Int n) = node 128
  pattern_step (pattern.Bool b) = node 128
  pattern_step (pattern.Ctor c patterns) = node 0 ++ look_at (tree_result (slice_get ctors c.0)) ++ joined patterns

  -- the events of a pattern
  abbrev pub pattern_events : Pattern → List Event
  pattern_events = fold-Pattern (List Event) pattern_step

-- an operator on bits weighs nothing on truth values
abbrev pub bits_extra : Sort → ℕ
bits_extra sort.Int = number_gates class.Bitwise
bits_extra sort.Bool = 0
bits_extra (sort.Tree d) = 0

module _ (types : TypeTable) where
  -- two values of one sort, compared for equality: the greater height counts
  abbrev pub equality_extra : Shape → Shape → ℕ
  equality_extra a b = 4 * (32 + bits types (max a.height b.height) a.sort)

  -- what operators of this class weigh besides their node
  abbrev pub class_extra : OperatorClass → Shape → Shape → ℕ
  class_extra class.Equality a b = equality_extra a b
  class_extra class.Bitwise a b = bits_extra a.sort
  class_extra c a b = number_gates c

  abbrev pub binary_extra : BinaryOp → Shape → Shape → ℕ
  binary_extra op a b = class_extra (class_of op) a b

  -- a choice between values of this sort, up to this height
  abbrev pub choice_extra : Sort → ℕ → ℕ
  choice_extra s h = 32 + bits types h s

  abbrev pub component_events : Sort → ℕ → ℕ → List Event
  component_events sort.Int new old = work 1024 ∷ []
  component_events sort.Bool new old = []
  component_events (sort.Tree d) new old =
      compare ∷ work (64 + 4 * (32 + bits types new (sort.Tree d)) * (1 + nodes types old (sort.Tree d))) ∷ []

  -- the new components of a measure, compared with the old ones
  abbrev pub comparison : List Shape → List Shape → List Event
  comparison [] old = []
  comparison (n ∷ ns) [] = []
  comparison (n ∷ ns) (o ∷ os) = component_events n.sort n.height o.height ++ comparison ns os

  -- nothing is compared at a call without a measure check
  abbrev pub compared : Option CheckId → List Shape → List Shape → List Event
  compared None new old = []
  compared (Some check) new old = comparison new old

-- what an expression is: its visit, with the components of the frame's measure and the shapes of the variables in
-- scope
abbrev pub Visiting : Type 0
Visiting = List Shape → List Shape → Visit

-- what a case is: its visit, at the shape of the matched value
abbrev pub Arm : Type 0
Arm = Shape → Visiting

-- what a call does: the function, the site's measure check, the components of the calling frame's measure, and the
-- shapes of the arguments
abbrev pub Calls : Type 0
Calls = FunctionId → Option CheckId → List Shape → List Shape → Visit

abbrev pub in_env : List Shape → List Shape → Visiting → Visit
in_env old env e = e old env

-- the visits of expressions in one scope
abbrev pub visits : List Visiting → List Shape → List Shape → List Visit
visits es old env = map (in_env old env) es

abbrev pub guard_events : Option Visiting → List Shape → List Shape → List Event
guard_events None old env = []
guard_events (Some guard) old env = (guard old env).events

abbrev pub at_shape : Shape → List Shape → List Shape → Arm → Visit
at_shape s old env arm = arm s old env

-- the visits of the cases of a match
abbrev pub arms : List Arm → Shape → List Shape → List Shape → List Visit
arms cs s old env = map (at_shape s old env) cs

abbrev pub first_sort : List Shape → Sort
first_sort [] = sort.Int
first_sort (s ∷ ss) = s.sort

module _ (types : TypeTable) where
  -- a match, after the matched value: each case is a choice
  abbrev pub matched : List Visit → Visit
  matched vs =
      let shapes = map shape_of vs in
      let h = tallest shapes in
      visit (shape (first_sort shapes) h) (all_events vs ++ node (length vs * choice_extra types (first_sort shapes) h))

  abbrev pub arm_step : layer.Case-F Visiting Arm → Arm
  arm_step c s old env =
      let scope = env ++ bound types.ctors c.pattern s in
      let body = c.body old scope in
      visit body.shape (pattern_events types.ctors c.pattern ++ guard_events c.guard old scope ++ body.events)

module _ (types : TypeTable) (calls : Calls) where
  -- one level, with the visits of the parts in their place; a node's own event stands after those of its parts
  abbrev pub visit_step : layer.Expr-F Visiting Arm → Visiting
  visit_step (layer.Int n) old env = visit (shape sort.Int 0) (node 0)
  visit_step (layer.Bool b) old env = visit (shape sort.Bool 0) (node 0)
  visit_step (layer.Var i) old env = visit (shape_at env i) (node 0)
  visit_step (layer.Unary op a) old env =
      visit (shape (unary_result op) 0) ((a old env).events ++ node (unary_gates op))
  visit_step (layer.Binary op a b check) old env =
      visit (shape (gives op (a old env).shape.sort) 0)
      ((a old env).events ++ (b old env).events ++ node (binary_extra types op (a old env).shape (b old env).shape))
  visit_step (layer.Construct c args) old env =
      let s = tree_result (slice_get types.ctors c.0) in
      visit (shape s (cut (tallest (map shape_of (visits args old env)) + 1)))
      (all_events (visits args old env) ++ look_at s ++ node 0)
  visit_step (layer.Field e k) old env =
      let v = e old env in
      visit (part v.shape (field_result types v.shape.sort k)) (v.events ++ look_at v.shape.sort ++ node 0)
  visit_step (layer.If c a b) old env =
      let h = max (a old env).shape.height (b old env).shape.height in
      visit (shape (a old env).shape.sort h)
      ((c old env).events ++ (a old env).events ++ (b old env).events
      ++ node (choice_extra types (a old env).shape.sort h))
  visit_step (layer.Match e cases check) old env =
      let v = e old env in
      let m = matched types (arms cases v.shape old env) in
      visit m.shape (v.events ++ m.events)
  visit_step (layer.Val bound rest) old env =
      let v = bound old env in
      let r = rest old (env ++ v.shape ∷ []) in
      visit r.shape (v.events ++ r.events ++ node 0)
  visit_step (layer.Assert check c rest) old env =
      visit (rest old env).shape ((c old env).events ++ (rest old env).events ++ node 0)
  visit_step (layer.Call g args pre measure) old env =
      let vs = visits args old env in
      let v = calls g measure old (map shape_of vs) in
      visit v.shape (all_events vs ++ node 0 ++ called g ∷ v.events)

  -- the visit of an expression
  abbrev pub visit_of : Expr → Visiting
  visit_of = fold-Expr Visiting Arm visit_step (arm_step types)

  -- that of a case
  abbrev pub visit_case : Case → Arm
  visit_case = fold-Case Visiting Arm visit_step (arm_step types)
