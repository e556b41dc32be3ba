-- A frame on higher arguments costs no less.
use Rattle.std.proofs.Common.{◌≤◌, ℕ, zero, suc, List, [], ◌∷◌, Option, Some, None, subst}
use Rattle.std.specs.Prelude.{slice_get}
use Rattle.pp_prog.specs.declared.expr.Expr.{Expr}
use Rattle.pp_prog.specs.declared.expr.Function.{Function}
use Rattle.pp_prog.specs.declared.id.CheckId.{CheckId}
use Rattle.pp_prog.specs.declared.sort.Sort.{Sort}
use Rattle.pp_prog.specs.declared.sort.Sort.TheVariants as sort
use Rattle.pp_prog.specs.declared.types.TypeTable.{TypeTable}
use Rattle.pp_prog.specs.Sizes.{bits, nodes}
use Rattle.pp_estimate.specs.declared.shape.Shape.{Shape}
use Rattle.pp_estimate.specs.Events.{compare, work}
use Rattle.pp_estimate.specs.Frames.{Frame, components, contract_at, contract_events, frame, frame_at, inner_calls}
use Rattle.pp_estimate.specs.Frames.{measure_at, own_calls, post_events, pre_events, unfinished}
use Rattle.pp_estimate.specs.Visits.{Calls, compared, comparison, component_events}
use Rattle.pp_estimate.specs.Visits.{word}
use Rattle.pp_estimate_laws.proofs.Growth.{EventsGrow, ShapeGrows, ShapesGrow, VisitsGrow}
use Rattle.pp_estimate_laws.proofs.Growth.{all_events_grow, events_append, events_append_three, events_same, of_sort}
use Rattle.pp_estimate_laws.proofs.Growth.{shape_same, shapes_append, shapes_grow, weights_grow}
use Rattle.pp_estimate_laws.proofs.Numbers.{le_same, plus_grows, times_grow}
use Rattle.pp_estimate_laws.proofs.Sizes.{bits_grow, nodes_grow}
use Rattle.pp_estimate_laws.proofs.Visits.{CallsGrow, expr_grows}

-- ---- comparisons of measures

module _ (types : TypeTable) where
  component_grows : (s : Sort) (n m o p : ℕ) → n ≤ m → o ≤ p
      → EventsGrow (component_events types s n o) (component_events types s m p)
  component_grows sort.Int n m o p h k = events_same (work 1024 ∷ [])
  component_grows sort.Bool n m o p h k = events_same []
  component_grows (sort.Tree d) n m o p h k =
      let tree = sort.Tree d in
      let wider = plus_grows 32 32 (bits types n tree) (bits types m tree) (le_same 32) (bits_grow types n m tree h) in
      let deeper = plus_grows 1 1 (nodes types o tree) (nodes types p tree) (le_same 1) (nodes_grow types o p tree k) in
      events_append (compare ∷ []) (compare ∷ []) _ _ (events_same (compare ∷ []))
      (weights_grow _ _ (plus_grows 64 64 _ _ (le_same 64)
      (times_grow _ _ _ _ (times_grow 4 4 _ _ (le_same 4) wider) deeper)))

  comparison_grows : (a b old old' : List Shape) → ShapesGrow a b → ShapesGrow old old'
      → EventsGrow (comparison types a old) (comparison types b old')
  comparison_grows [] [] old old' h k = events_same []
  comparison_grows [] (t ∷ b) old old' h k = absurd h
  comparison_grows (s ∷ a) [] old old' h k = absurd h
  comparison_grows (s ∷ a) (t ∷ b) [] [] h k = events_same []
  comparison_grows (s ∷ a) (t ∷ b) [] (p ∷ old') h k = absurd k
  comparison_grows (s ∷ a) (t ∷ b) (o ∷ old) [] h k = absurd k
  comparison_grows (s ∷ a) (t ∷ b) (o ∷ old) (p ∷ old') h k =
      events_append _ _ _ _
      (subst (λ (x : Sort). EventsGrow (component_events types s.sort s.height o.height)
      (component_events types x t.height p.height)) h.0.sorts
      (component_grows s.sort s.height t.height o.height p.height h.0.heights k.0.heights))
      (comparison_grows a b old old' h.1 k.1)

  compared_grows : (check : Option CheckId) (a b old old' : List Shape) → ShapesGrow a b → ShapesGrow old old'
      → EventsGrow (compared types check a old) (compared types check b old')
  compared_grows None a b old old' h k = events_same []
  compared_grows (Some check) a b old old' h k = comparison_grows a b old old' h k

-- ---- frames

pub record FrameGrows (f g : Frame) : Type 0 where
  pub shapes : ShapeGrows f.shape g.shape
  pub measures : ShapesGrow f.measure g.measure
  pub events : EventsGrow f.events g.events

module _ (types : TypeTable) (c : Calls) (more : CallsGrow c c) where
  pub components_grow : (es : List Expr) (args args' : List Shape) → ShapesGrow args args'
      → VisitsGrow (components types c es args) (components types c es args')
  components_grow [] args args' h = tt
  components_grow (e ∷ es) args args' h =
      (expr_grows types c c more e [] [] args args' tt h, components_grow es args args' h)

  pre_grows : (o : Option Expr) (args args' : List Shape) → ShapesGrow args args'
      → EventsGrow (pre_events types c o args) (pre_events types c o args')
  pre_grows None args args' h = events_same []
  pre_grows (Some pre) args args' h = (expr_grows types c c more pre [] [] args args' tt h).events

  contract_grows : (f : Function) (args args' : List Shape) → ShapesGrow args args'
      → EventsGrow (contract_events types c f args) (contract_events types c f args')
  contract_grows f args args' h =
      events_append _ _ _ _ (pre_grows f.pre args args' h)
      (all_events_grow _ _ (components_grow f.measure args args' h))

  pub post_grows : (o : Option (CheckId × Expr)) (old old' args args' : List Shape) (r r' : Shape) → ShapesGrow old old'
      → ShapesGrow args args' → ShapeGrows r r'
      → EventsGrow (post_events types c o old args r) (post_events types c o old' args' r')
  post_grows None old old' args args' r r' h k g = events_same []
  post_grows (Some post) old old' args args' r r' h k g =
      (expr_grows types c c more post.1 old old' _ _ h (shapes_append args args' _ _ k (g, tt))).events

  frame_grows : (f : Function) (args args' : List Shape) → ShapesGrow args args'
      → FrameGrows (frame types c f args) (frame types c f args')
  frame_grows f args args' h =
      let measures = shapes_grow _ _ (components_grow f.measure args args' h) in
      let body = expr_grows types c c more f.body _ _ args args' measures h in
      record {
        shapes = of_sort f.result _ _ body.shapes.heights;
        measures = measures;
        events = events_append_three _ _ _ _ _ _ (contract_grows f args args' h) body.events
            (post_grows f.post _ _ args args' _ _ measures h body.shapes);
      }

  frame_at_grows : (o : Option Function) (args args' : List Shape) → ShapesGrow args args'
      → FrameGrows (frame_at types c o args) (frame_at types c o args')
  frame_at_grows None args args' h = record { shapes = shape_same word; measures = tt; events = events_same [] }
  frame_at_grows (Some f) args args' h = frame_grows f args args' h

module _ (types : TypeTable) (functions : List Function) where
  pub inner_grow : (n : ℕ) → CallsGrow (inner_calls types functions n) (inner_calls types functions n)
  inner_grow zero g check old old' args args' h k =
      record { shapes = shape_same (unfinished (slice_get functions g.0)); events = events_same (work 32 ∷ []) }
  inner_grow (suc n) g check old old' args args' h k =
      let f = frame_at_grows types (inner_calls types functions n) (inner_grow n)
      (slice_get functions g.0) args args' k in
      record {
        shapes = f.shapes;
        events =
            events_append _ _ _ _ f.events (compared_grows types check _ _ old old' f.measures h);
      }

  contract_at_grows : (o : Option Function) (args args' : List Shape) → ShapesGrow args args'
      → EventsGrow (contract_at types functions o args) (contract_at types functions o args')
  contract_at_grows None args args' h = events_same []
  contract_at_grows (Some f) args args' h =
      contract_grows types (inner_calls types functions 0) (inner_grow 0) f args args' h

  measure_at_grows : (o : Option Function) (args args' : List Shape) → ShapesGrow args args'
      → ShapesGrow (measure_at types functions o args) (measure_at types functions o args')
  measure_at_grows None args args' h = tt
  measure_at_grows (Some f) args args' h =
      shapes_grow _ _ (components_grow types (inner_calls types functions 0) (inner_grow 0) f.measure args args' h)

  pub own_grow : (n : ℕ) → CallsGrow (own_calls types functions n) (own_calls types functions n)
  own_grow zero g check old old' args args' h k =
      let f = slice_get functions g.0 in
      record {
        shapes = shape_same (unfinished f);
        events = events_append (work 32 ∷ []) (work 32 ∷ []) _ _ (events_same (work 32 ∷ []))
            (events_append _ _ _ _ (contract_at_grows f args args' k)
            (compared_grows types check _ _ old old' (measure_at_grows f args args' k) h));
      }
  own_grow (suc n) g check old old' args args' h k = inner_grow (suc n) g check old old' args args' h k

  pub own_frame_grows : (f : Function) (n : ℕ) (args args' : List Shape) → ShapesGrow args args'
      → EventsGrow (frame types (own_calls types functions n) f args).events
      (frame types (own_calls types functions n) f args').events
  own_frame_grows f n args args' h = (frame_grows types (own_calls types functions n)
      (own_grow n) f args args' h).events
