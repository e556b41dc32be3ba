-- The measures of a plain descent: the first component goes down to a proper subtree, and the sorts are the same.
use Rattle.std.proofs.Common.{◌≡◌, ℕ, Bool, true, false, ◌&&◌, ◌||◌, List, [], ◌∷◌, map, Option, Some, None, Ok}
use Rattle.std.proofs.Common.{slice_get, length, refl, sym, ap, ◌∙◌}
use Rattle.std.specs.Prelude.{if◌then◌else◌, nat_lt}
use Rattle.std.proofs.lemmas.Bool.{and_from, and_parts}
use Rattle.pp_prog.specs.declared.expr.Case.{Case}
use Rattle.pp_prog.specs.declared.expr.Expr.{Expr}
use Rattle.pp_prog.specs.declared.expr.Expr.TheFolds.{fold_out-Expr, map-Expr}
use Rattle.pp_prog.specs.declared.expr.Expr.TheOpen as layer
use Rattle.pp_prog.specs.declared.expr.Expr.TheViews.{out-Expr}
use Rattle.pp_prog.specs.declared.expr.Function.{Function}
use Rattle.pp_prog.specs.declared.id.CtorId.{CtorId}
use Rattle.pp_prog.specs.declared.sort.Sort.{Sort}
use Rattle.pp_prog.specs.declared.types.Ctor.{Ctor}
use Rattle.pp_prog.specs.declared.value.Value.{Value}
use Rattle.pp_prog.specs.declared.value.Value.TheOpen as value
use Rattle.pp_prog.specs.declared.value.Value.TheVariants.{Tree, outs-Tree}
use Rattle.pp_prog.specs.declared.value.Value.TheViews.{out-Value}
use Rattle.pp_prog.specs.Sorts.{has_sort}
use Rattle.pp_prog.specs.Values.{IsBelow, is_deeper, is_field}
use Rattle.pp_eval.specs.Invocation.{frame_of}
use Rattle.pp_eval.specs.Equality.{equal}
use Rattle.pp_eval.specs.Measure.{falls, goes_down, is_below, layer_down, of_one_shape, one_sort}
use Rattle.pp_eval.specs.Meaning.{Arm, CallMeaning, Frame, Meaning, all_from, arm_step, meaning, meaning_step}
use Rattle.pp_eval.specs.Meaning as mean
use Rattle.pp_eval.specs.Part.{found}
use Rattle.pp_eval.proofs.Trees.{below_true}
use Rattle.pp_eval.proofs.Alike.{alike}
use Rattle.pp_prog.proofs.ValueSorts.{Has, Have}
use Rattle.pp_checks.specs.Marks.{first_param, if_below, variable_first, variable_in, variable_of}
use Rattle.pp_guess_runs.proofs.Truth.{then_value}
use Rattle.pp_plain_laws.proofs.Scope.{found_some, values_behind}

module _ (ctors : List Ctor) where
  -- values of the same sorts have one shape
  shaped : (ss : List Sort) (new old : List Value) → Have ctors ss new → Have ctors ss old
      → of_one_shape ctors new old ≡ true
  shaped [] [] [] h k = refl
  shaped [] [] (y ∷ ys) h k = cc
  shaped [] (x ∷ xs) old h k = cc
  shaped (s ∷ ss) [] old h k = cc
  shaped (s ∷ ss) (x ∷ xs) [] h k = cc
  shaped (s ∷ ss) (x ∷ xs) (y ∷ ys) h k =
      let a = and_parts (has_sort ctors x s) _ h in
      let b = and_parts (has_sort ctors y s) _ k in
      and_from (one_sort ctors (out-Value x) (out-Value y)) _
      (alike ctors s x y a.0 b.0)
      (shaped ss xs ys a.1 b.1)

  down_layers : (x y : Value) (a b : value.Value-F Value) → one_sort ctors a b ≡ true
      → (c : CtorId) (fields : List Value)
      → b ≡ value.Tree c fields → IsBelow x y → layer_down (x, y) a b ≡ true
  down_layers x y (value.Tree d gs) (value.Tree e hs) one c fields is below = below_true x below
  down_layers x y (value.Int n) (value.Tree e hs) one c fields is below = cc
  down_layers x y (value.Bool n) (value.Tree e hs) one c fields is below = cc
  down_layers x y a (value.Int m) one c fields is below = cc
  down_layers x y a (value.Bool m) one c fields is below = cc

  tree_above : (x y : Value) → IsBelow x y → (c : CtorId) × (fields : List Value) × (y ≡ Tree c fields)
  tree_above x y (is_field c fields e has) = (c, fields, e)
  tree_above x y (is_deeper c fields e has b) = (c, fields, e)

  goes_to_subtree : (s : Sort) (x y : Value) → Has ctors s x → Has ctors s y → IsBelow x y → goes_down x y ≡ true
  goes_to_subtree s x y h k below =
      let t = tree_above x y below in
      down_layers x y (out-Value x) (out-Value y)
      (alike ctors s x y h k)
      t.0 t.1 (ap out-Value t.2 ∙ outs-Tree t.0 t.1) below

  -- measure values of the same sorts, whose first goes down to a proper subtree
  pub below_first : (ss : List Sort) (x y : Value) (xs ys : List Value) → Have ctors ss (x ∷ xs)
      → Have ctors ss (y ∷ ys)
      → IsBelow x y → is_below ctors (x ∷ xs) (y ∷ ys) ≡ true
  below_first [] x y xs ys h k below = cc
  below_first (s ∷ ss) x y xs ys h k below =
      let a = and_parts (has_sort ctors x s) _ h in
      let b = and_parts (has_sort ctors y s) _ k in
      and_from (of_one_shape ctors (x ∷ xs) (y ∷ ys)) _ (shaped (s ∷ ss) (x ∷ xs) (y ∷ ys) h k)
      (from_first (goes_down x y) (equal x y && falls xs ys) (goes_to_subtree s x y a.0 b.0 below))
    where
      from_first : (a b : Bool) → a ≡ true → (a || b) ≡ true
      from_first true b e = refl
      from_first false b e = cc

-- ---- a component that is a variable

variable_level : (calls : CallMeaning) (o : layer.Expr-F Expr Case) (k : ℕ) → variable_in o ≡ Some k
    → (frame : Frame) (env : List Value)
    → meaning_step calls (map-Expr Expr Case Meaning Arm (meaning calls) (mean.arm calls) o) frame env ≡ found
    (slice_get env k)
variable_level calls (layer.Var j) k is frame env = let same : j ≡ k = cc in ap (λ n. found (slice_get env n)) same
variable_level calls (layer.Int n) k is frame env = cc
variable_level calls (layer.Bool b) k is frame env = cc
variable_level calls (layer.Unary op a) k is frame env = cc
variable_level calls (layer.Binary op a b check) k is frame env = cc
variable_level calls (layer.Construct d args) k is frame env = cc
variable_level calls (layer.Field e j) k is frame env = cc
variable_level calls (layer.If t a b) k is frame env = cc
variable_level calls (layer.Match e ys check) k is frame env = cc
variable_level calls (layer.Val a b) k is frame env = cc
variable_level calls (layer.Assert check t rest) k is frame env = cc
variable_level calls (layer.Call g args pre down) k is frame env = cc

variable_meaning : (calls : CallMeaning) (e : Expr) (k : ℕ) → variable_of e ≡ Some k
    → (frame : Frame) (env : List Value)
    → meaning calls e frame env ≡ found (slice_get env k)
variable_meaning calls e k is frame env =
    ap (λ (m : Meaning). m frame env) (fold_out-Expr Meaning Arm (meaning_step calls) arm_step e) ∙ variable_level
    calls (out-Expr e) k is frame env

below_is : (n : ℕ) (o : Option ℕ) (q : ℕ) → if_below n o ≡ Some q → o ≡ Some q
below_is n None q e = cc
below_is n (Some k) q e = by (nat_lt k n) e
  where
    by : (t : Bool) → (if t then Some k else None) ≡ Some q → Some k ≡ Some q
    by true e = e
    by false e = cc

-- the first measure value is that of the parameter
pub first_value : (calls : CallMeaning) (f : Function) (q : ℕ) → first_param f ≡ Some q
    → (args : List Value) (v : Value)
    → slice_get args q ≡ Some v → (vs : List Value) → frame_of calls f.measure args ≡ Ok (Some vs)
    → (rest : List Value) × (vs ≡ v ∷ rest)
first_value calls f q is args v at vs e = by f.measure (below_is (length f.params) (variable_first f.measure) q is) e
  where
    by : (es : List Expr) → variable_first es ≡ Some q → frame_of calls es args ≡ Ok (Some vs)
        → (rest : List Value) × (vs ≡ v ∷ rest)
    by [] first e = cc
    by (x ∷ xs) first e =
        let all = then_value (all_from [] (map (meaning calls) (x ∷ xs)) None args) (λ values. Ok (Some values))
        (Some vs) e in
        let head = then_value (meaning calls x None args) (λ w. all_from (w ∷ []) (map (meaning calls) xs) None args)
        all.0 all.1 in
        let known : found (slice_get args q) ≡ Ok head.0 = sym (variable_meaning calls x q first None args) ∙ head.1 in
        let both : Some v ≡ Some head.0 = sym at ∙ found_some (slice_get args q) head.0 known in
        let same : head.0 ≡ v = cc in
        let more = values_behind (map (meaning calls) xs) (head.0 ∷ []) None args all.0 head.2 in
        let whole : all.0 ≡ vs = (let two : Some all.0 ≡ Some vs = (let three = all.2 in cc) in cc) in
        (more.0, sym whole ∙ more.1 ∙ ap (λ w. w ∷ more.0) same)
