-- The sort of each form of an expression.
use Rattle.std.proofs.Common.{◌≡◌, ℕ, ℤ, Bool, List, [], ◌∷◌, ◌++◌, map, refl, sym, ap, ◌∙◌}
use Rattle.std.specs.Prelude.{Option, Some, slice_get}
use Rattle.pp_prog.specs.ExprSorts.{Arm, Sorting, a_bool, a_tree, alike, arm_step, arms_sort, binary_sort, call_sort}
use Rattle.pp_prog.specs.ExprSorts.{case_sorts}
use Rattle.pp_prog.specs.ExprSorts.{field_sort, sort_if, sort_of, sort_step, sorts_in, then_sort, tree_sort, unary_sort}
use Rattle.pp_prog.specs.Sorts.{is_int}
use Rattle.pp_tree.specs.declared.operator.BinaryOp.{BinaryOp}
use Rattle.pp_prog.specs.declared.expr.Case.{Case}
use Rattle.pp_prog.specs.declared.expr.Expr.{Expr}
use Rattle.pp_prog.specs.declared.expr.Expr.TheFolds.{fold-roll-Expr}
use Rattle.pp_prog.specs.declared.expr.Expr.TheOpen as layer
use Rattle.pp_prog.specs.declared.expr.Expr.TheVariants as prog
use Rattle.pp_prog.specs.declared.expr.Function.{Function}
use Rattle.pp_tree.specs.declared.operator.UnaryOp.{UnaryOp}
use Rattle.pp_prog.specs.declared.id.CheckId.{CheckId}
use Rattle.pp_prog.specs.declared.id.CtorId.{CtorId}
use Rattle.pp_prog.specs.declared.id.FunctionId.{FunctionId}
use Rattle.pp_prog.specs.declared.sort.Sort.{Sort}
use Rattle.pp_prog.specs.declared.sort.Sort.TheVariants as sort
use Rattle.pp_prog.specs.declared.types.TypeTable.{TypeTable}

module _ (types : TypeTable) (functions : List Function) (scope : List Sort) where
  abbrev pub Sorted : Expr → Option Sort
  Sorted x = sort_of types functions x scope

  one : (x : Expr) (f : Sorting) → sort_of types functions x ≡ f → Sorted x ≡ f scope
  one x f e = ap (λ (g : Sorting). g scope) e

  pub sort_of_int : (n : ℤ) → Sorted (prog.Int n) ≡ sort_if (is_int n) sort.Int
  sort_of_int n = one _ _ (ap (sort_of types functions) (sym (prog.rolls-Int n))
      ∙ fold-roll-Expr Sorting Arm (sort_step types functions) arm_step (layer.Int n))

  pub sort_of_bool : (b : Bool) → Sorted (prog.Bool b) ≡ Some sort.Bool
  sort_of_bool b = one _ _ (ap (sort_of types functions) (sym (prog.rolls-Bool b))
      ∙ fold-roll-Expr Sorting Arm (sort_step types functions) arm_step (layer.Bool b))

  pub sort_of_var : (i : ℕ) → Sorted (prog.Var i) ≡ slice_get scope i
  sort_of_var i = one _ _ (ap (sort_of types functions) (sym (prog.rolls-Var i))
      ∙ fold-roll-Expr Sorting Arm (sort_step types functions) arm_step (layer.Var i))

  pub sort_of_unary : (op : UnaryOp) (a : Expr) → Sorted (prog.Unary op a) ≡ unary_sort op (Sorted a)
  sort_of_unary op a = one _ _ (ap (sort_of types functions) (sym (prog.rolls-Unary op a))
      ∙ fold-roll-Expr Sorting Arm (sort_step types functions) arm_step (layer.Unary op a))

  pub sort_of_binary : (op : BinaryOp) (a b : Expr) (n : Option CheckId)
      → Sorted (prog.Binary op a b n) ≡ binary_sort op (Sorted a) (Sorted b)
  sort_of_binary op a b n = one _ _ (ap (sort_of types functions) (sym (prog.rolls-Binary op a b n))
      ∙ fold-roll-Expr Sorting Arm (sort_step types functions) arm_step (layer.Binary op a b n))

  each_sorted : (xs : List Expr) → sorts_in scope (map (sort_of types functions) xs) ≡ map Sorted xs
  each_sorted [] = refl
  each_sorted (x ∷ xs) = ap (λ l. Sorted x ∷ l) (each_sorted xs)

  pub sort_of_construct : (c : CtorId) (xs : List Expr)
      → Sorted (prog.Construct c xs) ≡ tree_sort (slice_get types.ctors c.0) (map Sorted xs)
  sort_of_construct c xs =
      one _ _ (ap (sort_of types functions) (sym (prog.rolls-Construct c xs))
      ∙ fold-roll-Expr Sorting Arm (sort_step types functions) arm_step (layer.Construct c xs))
      ∙ ap (tree_sort (slice_get types.ctors c.0)) (each_sorted xs)

  pub sort_of_call : (g : FunctionId) (xs : List Expr) (n m : Option CheckId)
      → Sorted (prog.Call g xs n m) ≡ call_sort (slice_get functions g.0) (map Sorted xs)
  sort_of_call g xs n m =
      one _ _ (ap (sort_of types functions) (sym (prog.rolls-Call g xs n m))
      ∙ fold-roll-Expr Sorting Arm (sort_step types functions) arm_step (layer.Call g xs n m))
      ∙ ap (call_sort (slice_get functions g.0)) (each_sorted xs)

  pub sort_of_field : (a : Expr) (k : ℕ) → Sorted (prog.Field a k) ≡ a_tree (Sorted a)
      (λ d. field_sort types functions d k)
  sort_of_field a k = one _ _ (ap (sort_of types functions) (sym (prog.rolls-Field a k))
      ∙ fold-roll-Expr Sorting Arm (sort_step types functions) arm_step (layer.Field a k))

  pub sort_of_if : (c a b : Expr) → Sorted (prog.If c a b) ≡ a_bool (Sorted c) (alike (Sorted a) (Sorted b))
  sort_of_if c a b = one _ _ (ap (sort_of types functions) (sym (prog.rolls-If c a b))
      ∙ fold-roll-Expr Sorting Arm (sort_step types functions) arm_step (layer.If c a b))

  pub sort_of_match : (a : Expr) (ys : List Case) (n : Option CheckId)
      → Sorted (prog.Match a ys n) ≡ then_sort (Sorted a)
      (λ s. arms_sort types functions (map (case_sorts types functions) ys) s scope)
  sort_of_match a ys n = one _ _ (ap (sort_of types functions) (sym (prog.rolls-Match a ys n))
      ∙ fold-roll-Expr Sorting Arm (sort_step types functions) arm_step (layer.Match a ys n))

  pub sort_of_val : (a b : Expr) → Sorted (prog.Val a b) ≡ then_sort (Sorted a)
      (λ s. sort_of types functions b (scope ++ s ∷ []))
  sort_of_val a b = one _ _ (ap (sort_of types functions) (sym (prog.rolls-Val a b))
      ∙ fold-roll-Expr Sorting Arm (sort_step types functions) arm_step (layer.Val a b))

  pub sort_of_assert : (n : CheckId) (a b : Expr) → Sorted (prog.Assert n a b) ≡ a_bool (Sorted a) (Sorted b)
  sort_of_assert n a b = one _ _ (ap (sort_of types functions) (sym (prog.rolls-Assert n a b))
      ∙ fold-roll-Expr Sorting Arm (sort_step types functions) arm_step (layer.Assert n a b))
