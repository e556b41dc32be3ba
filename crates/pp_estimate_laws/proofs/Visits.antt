-- An expression in a higher scope meets the same looks, calls and comparisons, and costs no less.
use Rattle.std.proofs.Common.{◌≡◌, ◌≤◌, ◌+◌, ℕ, List, [], ◌∷◌, map, max, length, Option, Some, None, refl, ap, sym}
use Rattle.std.proofs.Common.{subst}
use Rattle.std.specs.Prelude.{slice_get}
use Rattle.pp_list.proofs.With.{With, elements}
use Rattle.pp_prog.proofs.Induction.{case_under, each_expr, under}
use Rattle.pp_operators.specs.Classes.{class_of}
use Rattle.pp_operators.specs.declared.class.OperatorClass.{OperatorClass}
use Rattle.pp_operators.specs.declared.class.OperatorClass.TheVariants as class
use Rattle.pp_tree.specs.declared.operator.BinaryOp.{BinaryOp}
use Rattle.pp_prog.specs.ExprSorts.{gives}
use Rattle.pp_prog.specs.declared.expr.Case.{Case}
use Rattle.pp_prog.specs.declared.expr.Expr.{Expr}
use Rattle.pp_prog.specs.declared.expr.Expr.TheFolds.{fold-roll-Case, fold-roll-Expr, map-Case, map-Expr}
use Rattle.pp_prog.specs.declared.expr.Expr.TheOpen as layer
use Rattle.pp_prog.specs.declared.expr.Expr.TheViews.{roll-Case, roll-Expr}
use Rattle.pp_prog.specs.declared.expr.Pattern.{Pattern}
use Rattle.pp_prog.specs.declared.id.CheckId.{CheckId}
use Rattle.pp_prog.specs.declared.id.FunctionId.{FunctionId}
use Rattle.pp_prog.specs.declared.sort.Sort.{Sort}
use Rattle.pp_prog.specs.declared.sort.Sort.TheVariants as sort
use Rattle.pp_prog.specs.declared.types.TypeTable.{TypeTable}
use Rattle.pp_prog.specs.Results.{field_result, tree_result, unary_result}
use Rattle.pp_prog.specs.Sizes.{bits}
use Rattle.pp_estimate.specs.declared.shape.Shape.{Shape}
use Rattle.pp_estimate.specs.Events.{called}
use Rattle.pp_operators.specs.Gates.{number_gates, unary_gates}
use Rattle.pp_estimate.specs.Visits.{Arm, Calls, Visit, Visiting, all_events, arm_step, arms, binary_extra, bits_extra}
use Rattle.pp_estimate.specs.Visits.{class_extra, bound, equality_extra, first_sort, look_at, matched, node, part}
use Rattle.pp_estimate.specs.Visits.{pattern_events, shape_of, tallest, visit_case, visit_of, visit_step, visits}
use Rattle.pp_estimate_laws.proofs.Growth.{EventsGrow, ShapeGrows, ShapesGrow, VisitGrows, VisitsGrow, all_events_grow}
use Rattle.pp_estimate_laws.proofs.Growth.{events_append, events_append_three, events_same, of_sort, shape_at_grows}
use Rattle.pp_estimate_laws.proofs.Growth.{shapes_append, shapes_grow, tallest_grows, weights_grow}
use Rattle.pp_estimate_laws.proofs.Numbers.{cut_grows, le_same, max_grows, plus_grows, suc_grows, times_grow}
use Rattle.pp_estimate_laws.proofs.Patterns.{bound_grows, part_grows}
use Rattle.pp_estimate_laws.proofs.Sizes.{bits_grow}

node_grows : (n m : ℕ) → n ≤ m → EventsGrow (node n) (node m)
node_grows n m le = weights_grow (64 + n) (64 + m) (plus_grows 64 64 n m (le_same 64) le)

module _ (types : TypeTable) where
  sized : (h k : ℕ) (s t : Sort) → s ≡ t → h ≤ k → 32 + bits types h s ≤ 32 + bits types k t
  sized h k s t same le =
      subst (λ (x : Sort). 32 + bits types h s ≤ 32 + bits types k x) same
      (plus_grows 32 32 (bits types h s) (bits types k s) (le_same 32) (bits_grow types h k s le))

  equality_grows : (a b c d : Shape) → ShapeGrows a b → ShapeGrows c d
      → equality_extra types a c ≤ equality_extra types b d
  equality_grows a b c d h k =
      times_grow 4 4 _ _ (le_same 4)
      (sized (max a.height c.height) (max b.height d.height) a.sort b.sort h.sorts
      (max_grows a.height b.height c.height d.height h.heights k.heights))

  bits_same : (a b : Shape) → ShapeGrows a b → bits_extra a.sort ≤ bits_extra b.sort
  bits_same a b h = subst (λ (x : Sort). bits_extra a.sort ≤ bits_extra x) h.sorts (le_same (bits_extra a.sort))

  class_grows : (k : OperatorClass) (a b c d : Shape) → ShapeGrows a b → ShapeGrows c d
      → class_extra types k a c ≤ class_extra types k b d
  class_grows class.Equality a b c d h j = equality_grows a b c d h j
  class_grows class.Bitwise a b c d h j = bits_same a b h
  class_grows k a b c d h j = le_same (number_gates k)

  binary_grows : (op : BinaryOp) (a b c d : Shape) → ShapeGrows a b → ShapeGrows c d
      → binary_extra types op a c ≤ binary_extra types op b d
  binary_grows op a b c d h k = class_grows (class_of op) a b c d h k

  field_grows : (s t : Shape) (k : ℕ) → ShapeGrows s t
      → ShapeGrows (part s (field_result types s.sort k)) (part t (field_result types t.sort k))
  field_grows s t k h =
      subst (λ (x : Sort). ShapeGrows (part s (field_result types s.sort k)) (part t (field_result types x k))) h.sorts
      (part_grows s t (field_result types s.sort k) h)

  look_same : (s t : Shape) → ShapeGrows s t → EventsGrow (look_at s.sort) (look_at t.sort)
  look_same s t h = subst (λ (x : Sort). EventsGrow (look_at s.sort) (look_at x)) h.sorts (events_same (look_at s.sort))

  first_same : (a b : List Shape) → ShapesGrow a b → first_sort a ≡ first_sort b
  first_same [] [] h = refl
  first_same [] (t ∷ b) h = absurd h
  first_same (s ∷ a) [] h = absurd h
  first_same (s ∷ a) (t ∷ b) h = h.0.sorts

  lengths_same : (a b : List Visit) → VisitsGrow a b → length a ≤ length b
  lengths_same [] [] h = le_same 0
  lengths_same [] (w ∷ b) h = absurd h
  lengths_same (v ∷ a) [] h = absurd h
  lengths_same (v ∷ a) (w ∷ b) h = suc_grows (length a) (length b) (lengths_same a b h.1)

  matched_grows : (a b : List Visit) → VisitsGrow a b → VisitGrows (matched types a) (matched types b)
  matched_grows a b h =
      let shapes = shapes_grow a b h in
      let same = first_same (map shape_of a) (map shape_of b) shapes in
      let higher = tallest_grows (map shape_of a) (map shape_of b) shapes in
      record {
        shapes = record { sorts = same; heights = higher };
        events = events_append (all_events a) (all_events b) _ _ (all_events_grow a b h)
            (node_grows _ _ (times_grow (length a) (length b) _ _ (lengths_same a b h)
            (sized (tallest (map shape_of a)) (tallest (map shape_of b)) (first_sort (map shape_of a))
            (first_sort (map shape_of b)) same higher)));
      }

-- one visit costs at most as much as the other, in a scope that is at most as high
abbrev pub Grows : Visiting → Visiting → Type 0
Grows m n =
    (old old' env env' : List Shape) → ShapesGrow old old' → ShapesGrow env env' → VisitGrows (m old env) (n old' env')

abbrev ArmGrows : Arm → Arm → Type 0
ArmGrows a b = (s t : Shape) → ShapeGrows s t → Grows (a s) (b t)

-- what one call does costs at most as much as what the other does
abbrev pub CallsGrow : Calls → Calls → Type 0
CallsGrow c d =
    (g : FunctionId) (check : Option CheckId) (old old' args args' : List Shape) → ShapesGrow old old'
    → ShapesGrow args args'
    → VisitGrows (c g check old args) (d g check old' args')

module _ (types : TypeTable) (c d : Calls) (more : CallsGrow c d) where
  abbrev P : Expr → Type 0
  P e = Grows (visit_of types c e) (visit_of types d e)

  abbrev Q : Case → Type 0
  Q k = ArmGrows (visit_case types c k) (visit_case types d k)

  list_grows : (ys : List (With P)) (old old' env env' : List Shape) → ShapesGrow old old' → ShapesGrow env env'
      → VisitsGrow (visits (map (visit_of types c) (elements ys)) old env)
      (visits (map (visit_of types d) (elements ys)) old' env')
  list_grows [] old old' env env' h k = tt
  list_grows (y ∷ ys) old old' env env' h k = (y.1 old old' env env' h k, list_grows ys old old' env env' h k)

  arms_grow : (ys : List (With Q)) (s t : Shape) (old old' env env' : List Shape) → ShapeGrows s t → ShapesGrow old old'
      → ShapesGrow env env'
      → VisitsGrow (arms (map (visit_case types c) (elements ys)) s old env)
      (arms (map (visit_case types d) (elements ys)) t old' env')
  arms_grow [] s t old old' env env' g h k = tt
  arms_grow (y ∷ ys) s t old old' env env' g h k =
      (y.1 s t g old old' env env' h k, arms_grow ys s t old old' env env' g h k)

  level : (y : layer.Expr-F (With P) (With Q)) (old old' env env' : List Shape) → ShapesGrow old old'
      → ShapesGrow env env'
      → let z = under y in
      VisitGrows (visit_step types c (map-Expr Expr Case Visiting Arm (visit_of types c) (visit_case types c) z) old
      env)
      (visit_step types d (map-Expr Expr Case Visiting Arm (visit_of types d) (visit_case types d) z) old' env')
  level (layer.Int n) old old' env env' h k =
      record { shapes = of_sort sort.Int 0 0 (le_same 0); events = events_same (node 0) }
  level (layer.Bool b) old old' env env' h k =
      record { shapes = of_sort sort.Bool 0 0 (le_same 0); events = events_same (node 0) }
  level (layer.Var i) old old' env env' h k =
      record { shapes = shape_at_grows env env' i k; events = events_same (node 0) }
  level (layer.Unary op a) old old' env env' h k =
      record {
        shapes = of_sort (unary_result op) 0 0 (le_same 0);
        events = events_append _ _ _ _ (a.1 old old' env env' h k).events (events_same (node (unary_gates op)));
      }
  level (layer.Binary op a b check) old old' env env' h k =
      let v = a.1 old old' env env' h k in
      let w = b.1 old old' env env' h k in
      record {
        shapes = record { sorts = ap (gives op) v.shapes.sorts; heights = le_same 0 };
        events = events_append_three _ _ _ _ _ _ v.events w.events
            (node_grows _ _ (binary_grows types op _ _ _ _ v.shapes w.shapes));
      }
  level (layer.Construct n args) old old' env env' h k =
      let vs = list_grows args old old' env env' h k in
      let s = tree_result (slice_get types.ctors n.0) in
      record {
        shapes = of_sort s _ _ (cut_grows _ _
            (plus_grows _ _ 1 1 (tallest_grows _ _ (shapes_grow _ _ vs)) (le_same 1)));
        events = events_append_three _ _ _ _ _ _ (all_events_grow _ _ vs) (events_same (look_at s))
            (events_same (node 0));
      }
  level (layer.Field e n) old old' env env' h k =
      let v = e.1 old old' env env' h k in
      record {
        shapes = field_grows types _ _ n v.shapes;
        events = events_append_three _ _ _ _ _ _ v.events (look_same types _ _ v.shapes) (events_same (node 0));
      }
  level (layer.If t a b) old old' env env' h k =
      let v = a.1 old old' env env' h k in
      let w = b.1 old old' env env' h k in
      let higher = max_grows _ _ _ _ v.shapes.heights w.shapes.heights in
      record {
        shapes = record { sorts = v.shapes.sorts; heights = higher };
        events = events_append _ _ _ _ (events_append_three _ _ _ _ _ _
            (t.1 old old' env env' h k).events v.events w.events)
            (node_grows _ _ (sized types _ _ _ _ v.shapes.sorts higher));
      }
  level (layer.Match e cases check) old old' env env' h k =
      let v = e.1 old old' env env' h k in
      let m = matched_grows types _ _ (arms_grow cases _ _ old old' env env' v.shapes h k) in
      record { shapes = m.shapes; events = events_append _ _ _ _ v.events m.events }
  level (layer.Val bound rest) old old' env env' h k =
      let v = bound.1 old old' env env' h k in
      let r = rest.1 old old' _ _ h (shapes_append env env' _ _ k (v.shapes, tt)) in
      record { shapes = r.shapes; events = events_append_three _ _ _ _ _ _ v.events r.events (events_same (node 0)) }
  level (layer.Assert check t rest) old old' env env' h k =
      let r = rest.1 old old' env env' h k in
      record {
        shapes = r.shapes;
        events =
            events_append_three _ _ _ _ _ _ (t.1 old old' env env' h k).events r.events (events_same (node 0));
      }
  level (layer.Call g args pre measure) old old' env env' h k =
      let vs = list_grows args old old' env env' h k in
      let v = more g measure old old' _ _ h (shapes_grow _ _ vs) in
      record {
        shapes = v.shapes;
        events = events_append_three _ _ _ _ _ _ (all_events_grow _ _ vs) (events_same (node 0))
            (events_append (called g ∷ []) (called g ∷ []) _ _ (events_same (called g ∷ [])) v.events);
      }

  at_level : (y : layer.Expr-F (With P) (With Q)) → P (roll-Expr (under y))
  at_level y old old' env env' h k =
      let z = under y in
      let one = fold-roll-Expr Visiting Arm (visit_step types c) (arm_step types) z in
      let two = fold-roll-Expr Visiting Arm (visit_step types d) (arm_step types) z in
      subst (λ (m : Visiting). VisitGrows (m old env) (visit_of types d (roll-Expr z) old' env')) (sym one)
      (subst (λ (m : Visiting). VisitGrows
      (visit_step types c (map-Expr Expr Case Visiting Arm (visit_of types c) (visit_case types c) z) old env)
      (m old' env'))
      (sym two) (level y old old' env env' h k))

  at_parts : (p : Pattern) (o : Option (With P)) (b : With P)
      → let y : layer.Case-F (With P) (With Q) = record { pattern = p; guard = o; body = b } in
      let z = case_under Q y in
      ArmGrows (arm_step types (map-Case Expr Case Visiting Arm (visit_of types c) (visit_case types c) z))
      (arm_step types (map-Case Expr Case Visiting Arm (visit_of types d) (visit_case types d) z))
  at_parts p None b s t g old old' env env' h k =
      let r = b.1 old old' _ _ h (shapes_append env env' _ _ k (bound_grows types.ctors p s t g)) in
      record {
        shapes = r.shapes;
        events =
            events_append_three _ _ [] [] _ _ (events_same (pattern_events types.ctors p)) (events_same []) r.events;
      }
  at_parts p (Some e) b s t g old old' env env' h k =
      let scope = shapes_append env env' _ _ k (bound_grows types.ctors p s t g) in
      let r = b.1 old old' _ _ h scope in
      record {
        shapes = r.shapes;
        events = events_append_three _ _ _ _ _ _ (events_same (pattern_events types.ctors p))
            (e.1 old old' _ _ h scope).events r.events;
      }

  at_case : (y : layer.Case-F (With P) (With Q)) → Q (roll-Case (case_under Q y))
  at_case y =
      let z = case_under Q y in
      let one = fold-roll-Case Visiting Arm (visit_step types c) (arm_step types) z in
      let two = fold-roll-Case Visiting Arm (visit_step types d) (arm_step types) z in
      subst (λ (a : Arm). ArmGrows a (visit_case types d (roll-Case z))) (sym one)
      (subst (λ (a : Arm). ArmGrows (arm_step types
      (map-Case Expr Case Visiting Arm (visit_of types c) (visit_case types c) z)) a) (sym two)
      (at_parts y.pattern y.guard y.body))

  pub expr_grows : (e : Expr) → Grows (visit_of types c e) (visit_of types d e)
  expr_grows = each_expr P Q at_level at_case
