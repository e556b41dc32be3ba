-- The conditions and the measure of a function, one at a time.
use Rattle.std.proofs.Common.{◌≡◌, ◌∙◌, ℕ, ◌+◌, ◌<◌, List, [], ◌∷◌, ◌++◌, length, map, drop, get_or, Ok, Err, Result}
use Rattle.std.proofs.Common.{refl, sym, ap, subst}
use Rattle.std.proofs.lemmas.List.{get_or_default}
use Rattle.pp_fault.specs.declared.Halt.{Halt}
use Rattle.pp_fault.specs.Part.{Part, Tells, and_then}
use Rattle.pp_generic.specs.declared.expected.Expected.TheVariants as expected
use Rattle.pp_rules.specs.Bodies.{elab_conditions, elab_measure}
use Rattle.pp_rules.specs.Elab.{condition, name_at}
use Rattle.pp_tree.specs.declared.expr.Expr.{Expr}
use Rattle.pp_tree.specs.Shown.{tree_of}
use Rattle.pp_typed.specs.declared.expr.TypedExpr.{TypedExpr}
use Rattle.pp_typing.proofs.Turns.{stop, turn}
use Rattle.pp_typing.specs.declared.context.Context.{Context}
use Rattle.pp_typing.specs.declared.scope.Local.{Local}
use Rattle.pp_typing.specs.Views.{env_of, part_typing, scope_of}

-- a list of expressions, each typed by itself in one scope
module _ (F : List Local → List TypedExpr → List Expr → Part (List TypedExpr)) (G : List Local → Expr → Part TypedExpr)
    (step : (locals : List Local) (done : List TypedExpr) (x : Expr) (xs : List Expr)
    → F locals done (x ∷ xs) ≡ and_then (G locals x) (λ a. F locals (done ++ a ∷ []) xs))
    (locals sc : List Local) (whole : Part (List TypedExpr)) (es : List Expr) (i : ℕ) (d : Expr) (done : List TypedExpr)
    (lt : i < length es) (same : sc ≡ locals) (e : whole ≡ F locals done (drop i es)) where
  one_turn : (a : TypedExpr) (more : List TypedExpr) → more ≡ done ++ a ∷ [] → G sc (get_or es i d) ≡ Ok a
      → whole ≡ F locals more (drop (i + 1) es)
  one_turn a more push one =
      turn (F locals) (λ (b : List TypedExpr). G locals) (step locals) whole es i (get_or es i d) done a
      lt (get_or_default es i d (get_or es i d) lt) e (ap (λ l. G l (get_or es i d)) (sym same) ∙ one)
      ∙ ap (λ l. F locals l (drop (i + 1) es)) (sym push)

  one_stop : (r : Result (List TypedExpr) Halt) (h : Halt) → r ≡ Err h
      → Tells {A = TypedExpr} (Err h) (G sc (get_or es i d)) → Tells r whole
  one_stop r h is told =
      subst (λ q. Tells q whole) (sym is)
      (stop (F locals) (λ (b : List TypedExpr). G locals) (step locals) whole es i (get_or es i d) done h
      lt (get_or_default es i d (get_or es i d) lt) e
      (subst (λ l. Tells {A = TypedExpr} (Err h) (G l (get_or es i d))) same told))

module _ (c : Context) where
  abbrev pub conditions_typing : List Local → List TypedExpr → List Expr → Part (List TypedExpr)
  conditions_typing locals done es = elab_conditions (env_of c) done (map tree_of es) (scope_of locals)

  abbrev pub condition_typing : List Local → Expr → Part TypedExpr
  condition_typing locals e =
      condition (env_of c) (name_at (env_of c) (tree_of e)) (part_typing c locals expected.Open (tree_of e))

  abbrev pub measure_typing : List Local → List TypedExpr → List Expr → Part (List TypedExpr)
  measure_typing locals done es = elab_measure (env_of c) done (map tree_of es) (scope_of locals)

  abbrev pub component_typing : List Local → Expr → Part TypedExpr
  component_typing locals e = part_typing c locals expected.Open (tree_of e)

  conditions_step : (locals : List Local) (done : List TypedExpr) (x : Expr) (xs : List Expr)
      → conditions_typing locals done (x ∷ xs)
      ≡ and_then (condition_typing locals x) (λ a. conditions_typing locals (done ++ a ∷ []) xs)
  conditions_step locals done x xs = refl

  measure_step : (locals : List Local) (done : List TypedExpr) (x : Expr) (xs : List Expr)
      → measure_typing locals done (x ∷ xs)
      ≡ and_then (component_typing locals x) (λ a. measure_typing locals (done ++ a ∷ []) xs)
  measure_step locals done x xs = refl

  module _ (locals sc : List Local) (whole : Part (List TypedExpr)) (es : List Expr) (i : ℕ) (d : Expr)
      (done : List TypedExpr) (lt : i < length es) (same : sc ≡ locals) where
    pub conditions_turn : whole ≡ conditions_typing locals done (drop i es) → (a : TypedExpr) (more : List TypedExpr)
        → more ≡ done ++ a ∷ [] → condition_typing sc (get_or es i d) ≡ Ok a
        → whole ≡ conditions_typing locals more (drop (i + 1) es)
    conditions_turn =
        one_turn conditions_typing condition_typing conditions_step locals sc whole es i d done lt same

    pub conditions_stop : whole ≡ conditions_typing locals done (drop i es)
        → (r : Result (List TypedExpr) Halt) (h : Halt)
        → r ≡ Err h → Tells {A = TypedExpr} (Err h) (condition_typing sc (get_or es i d)) → Tells r whole
    conditions_stop =
        one_stop conditions_typing condition_typing conditions_step locals sc whole es i d done lt same

    pub measure_turn : whole ≡ measure_typing locals done (drop i es) → (a : TypedExpr) (more : List TypedExpr)
        → more ≡ done ++ a ∷ [] → component_typing sc (get_or es i d) ≡ Ok a
        → whole ≡ measure_typing locals more (drop (i + 1) es)
    measure_turn = one_turn measure_typing component_typing measure_step locals sc whole es i d done lt same

    pub measure_stop : whole ≡ measure_typing locals done (drop i es) → (r : Result (List TypedExpr) Halt) (h : Halt)
        → r ≡ Err h → Tells {A = TypedExpr} (Err h) (component_typing sc (get_or es i d)) → Tells r whole
    measure_stop = one_stop measure_typing component_typing measure_step locals sc whole es i d done lt same
