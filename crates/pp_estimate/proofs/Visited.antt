-- The visit of each form of expression, and events that are counted part by part.
use Rattle.std.proofs.Common.{◌≡◌, ◌+◌, ℕ, max, List, [], ◌∷◌, ◌++◌, map, Option, slice_get, sym, ap, ◌∙◌, arith}
use Rattle.std.proofs.Common.{append_assoc}
use Rattle.pp_tree.specs.declared.operator.BinaryOp.{BinaryOp}
use Rattle.pp_prog.specs.declared.expr.Case.{Case}
use Rattle.pp_prog.specs.declared.expr.Expr.{Expr}
use Rattle.pp_prog.specs.declared.expr.Expr.TheFolds.{fold-roll-Expr}
use Rattle.pp_prog.specs.declared.expr.Expr.TheOpen as layer
use Rattle.pp_prog.specs.declared.expr.Expr.TheVariants.{Unary, Binary, Construct, Field, If, Match, Val, Assert, Call}
use Rattle.pp_prog.specs.declared.expr.Expr.TheVariants.{rolls-Unary, rolls-Binary, rolls-Construct, rolls-Field}
use Rattle.pp_prog.specs.declared.expr.Expr.TheVariants.{rolls-If, rolls-Match, rolls-Val, rolls-Assert, rolls-Call}
use Rattle.pp_tree.specs.declared.operator.UnaryOp.{UnaryOp}
use Rattle.pp_prog.specs.declared.id.CheckId.{CheckId}
use Rattle.pp_prog.specs.declared.id.CtorId.{CtorId}
use Rattle.pp_prog.specs.declared.id.FunctionId.{FunctionId}
use Rattle.pp_prog.specs.declared.types.TypeTable.{TypeTable}
use Rattle.pp_prog.specs.Results.{tree_result}
use Rattle.pp_estimate.specs.declared.counts.Counts.{Counts}
use Rattle.pp_estimate.specs.declared.shape.Shape.{Shape}
use Rattle.pp_estimate.specs.Counted.{counted}
use Rattle.pp_estimate.specs.Cut.{cut}
use Rattle.pp_estimate.specs.Events.{Event, called}
use Rattle.pp_operators.specs.Gates.{unary_gates}
use Rattle.pp_estimate.specs.Visits.{Arm, Calls, Visiting, all_events, arm_step, arms, binary_extra, choice_extra}
use Rattle.pp_estimate.specs.Visits.{look_at, matched, node, shape_of, visit_case, visit_of, visit_step, visits}
use Rattle.pp_estimate.proofs.Merged.{counted_append, work_cut}

-- two, three and four parts, one after another
pub two : (start : Counts) (a b : List Event) {mid end : Counts} → mid ≡ counted start a → end ≡ counted mid b
    → end ≡ counted start (a ++ b)
two start a b p q = q ∙ ap (λ (c : Counts). counted c b) p ∙ sym (counted_append start a b)

pub three : (start : Counts) (a b c : List Event) {one two_ end : Counts} → one ≡ counted start a → two_ ≡ counted one b
    → end ≡ counted two_ c → end ≡ counted start (a ++ b ++ c)
three start a b c p q r = two start (a ++ b) c (two start a b p q) r

pub four : (start : Counts) (a b c d : List Event) {one two_ three_ end : Counts} → one ≡ counted start a
    → two_ ≡ counted one b → three_ ≡ counted two_ c → end ≡ counted three_ d → end ≡ counted start (a ++ b ++ c ++ d)
four start a b c d p q r s = two start (a ++ b ++ c) d (three start a b c p q r) s

-- two parts that were counted at once, behind another
pub then_both : (start : Counts) (a b c : List Event) {mid end : Counts} → mid ≡ counted start a
    → end ≡ counted mid (b ++ c) → end ≡ counted start (a ++ b ++ c)
then_both start a b c p q = two start a (b ++ c) p q ∙ ap (counted start) (sym (append_assoc a b c))

-- a node whose weight was cut
pub node_cut : (start end : Counts) (extra e : ℕ) → extra ≡ cut e → end ≡ counted start (node extra)
    → end ≡ counted start (node e)
node_cut start end extra e is step = step ∙ work_cut start (64 + extra) (64 + e) (omega (arith, is))

module _ (types : TypeTable) (calls : Calls) where
  pub of_unary : (op : UnaryOp) (a : Expr) (old env : List Shape)
      → (visit_of types calls (Unary op a) old env).events
      ≡ (visit_of types calls a old env).events ++ node (unary_gates op)
  of_unary op a old env =
      ap (λ (e : Expr). (visit_of types calls e old env).events) (sym (rolls-Unary op a))
      ∙ ap (λ (f : Visiting). (f old env).events)
      (fold-roll-Expr Visiting Arm (visit_step types calls) (arm_step types) (layer.Unary op a))

  pub of_binary : (op : BinaryOp) (a b : Expr) (check : Option CheckId) (old env : List Shape)
      → (visit_of types calls (Binary op a b check) old env).events
      ≡ (visit_of types calls a old env).events ++ (visit_of types calls b old env).events
      ++ node (binary_extra types op (visit_of types calls a old env).shape (visit_of types calls b old env).shape)
  of_binary op a b check old env =
      ap (λ (e : Expr). (visit_of types calls e old env).events) (sym (rolls-Binary op a b check))
      ∙ ap (λ (f : Visiting). (f old env).events)
      (fold-roll-Expr Visiting Arm (visit_step types calls) (arm_step types) (layer.Binary op a b check))

  pub of_construct : (c : CtorId) (args : List Expr) (old env : List Shape)
      → (visit_of types calls (Construct c args) old env).events
      ≡ all_events (visits (map (visit_of types calls) args) old env)
      ++ look_at (tree_result (slice_get types.ctors c.0)) ++ node 0
  of_construct c args old env =
      ap (λ (e : Expr). (visit_of types calls e old env).events) (sym (rolls-Construct c args))
      ∙ ap (λ (f : Visiting). (f old env).events)
      (fold-roll-Expr Visiting Arm (visit_step types calls) (arm_step types) (layer.Construct c args))

  pub of_field : (e : Expr) (k : ℕ) (old env : List Shape)
      → (visit_of types calls (Field e k) old env).events
      ≡ (visit_of types calls e old env).events ++ look_at (visit_of types calls e old env).shape.sort ++ node 0
  of_field e k old env =
      ap (λ (x : Expr). (visit_of types calls x old env).events) (sym (rolls-Field e k))
      ∙ ap (λ (f : Visiting). (f old env).events)
      (fold-roll-Expr Visiting Arm (visit_step types calls) (arm_step types) (layer.Field e k))

  pub of_if : (c a b : Expr) (old env : List Shape)
      → (visit_of types calls (If c a b) old env).events
      ≡ (visit_of types calls c old env).events ++ (visit_of types calls a old env).events
      ++ (visit_of types calls b old env).events
      ++ node (choice_extra types (visit_of types calls a old env).shape.sort
      (max (visit_of types calls a old env).shape.height (visit_of types calls b old env).shape.height))
  of_if c a b old env =
      ap (λ (x : Expr). (visit_of types calls x old env).events) (sym (rolls-If c a b))
      ∙ ap (λ (f : Visiting). (f old env).events)
      (fold-roll-Expr Visiting Arm (visit_step types calls) (arm_step types) (layer.If c a b))

  pub of_match : (e : Expr) (cases : List Case) (check : Option CheckId) (old env : List Shape)
      → (visit_of types calls (Match e cases check) old env).events
      ≡ (visit_of types calls e old env).events
      ++ (matched types (arms (map (visit_case types calls) cases) (visit_of types calls e old env).shape old
      env)).events
  of_match e cases check old env =
      ap (λ (x : Expr). (visit_of types calls x old env).events) (sym (rolls-Match e cases check))
      ∙ ap (λ (f : Visiting). (f old env).events)
      (fold-roll-Expr Visiting Arm (visit_step types calls) (arm_step types) (layer.Match e cases check))

  pub of_val : (bound rest : Expr) (old env : List Shape)
      → (visit_of types calls (Val bound rest) old env).events
      ≡ (visit_of types calls bound old env).events
      ++ (visit_of types calls rest old (env ++ (visit_of types calls bound old env).shape ∷ [])).events ++ node 0
  of_val bound rest old env =
      ap (λ (x : Expr). (visit_of types calls x old env).events) (sym (rolls-Val bound rest))
      ∙ ap (λ (f : Visiting). (f old env).events)
      (fold-roll-Expr Visiting Arm (visit_step types calls) (arm_step types) (layer.Val bound rest))

  pub of_assert : (check : CheckId) (c rest : Expr) (old env : List Shape)
      → (visit_of types calls (Assert check c rest) old env).events
      ≡ (visit_of types calls c old env).events ++ (visit_of types calls rest old env).events ++ node 0
  of_assert check c rest old env =
      ap (λ (x : Expr). (visit_of types calls x old env).events) (sym (rolls-Assert check c rest))
      ∙ ap (λ (f : Visiting). (f old env).events)
      (fold-roll-Expr Visiting Arm (visit_step types calls) (arm_step types) (layer.Assert check c rest))

  pub of_call : (g : FunctionId) (args : List Expr) (pre measure : Option CheckId) (old env : List Shape)
      → (visit_of types calls (Call g args pre measure) old env).events
      ≡ all_events (visits (map (visit_of types calls) args) old env) ++ node 0
      ++ called g ∷ (calls g measure old (map shape_of (visits (map (visit_of types calls) args) old env))).events
  of_call g args pre measure old env =
      ap (λ (x : Expr). (visit_of types calls x old env).events) (sym (rolls-Call g args pre measure))
      ∙ ap (λ (f : Visiting). (f old env).events)
      (fold-roll-Expr Visiting Arm (visit_step types calls) (arm_step types) (layer.Call g args pre measure))
