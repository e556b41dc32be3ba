-- How the parts of an expression stop that make no call: at a check, or stuck.
use Rattle.std.proofs.Common.{◌≡◌, refl, ℕ, Bool, true, false, Option, Some, None, Ok, Err}
use Rattle.std.specs.Prelude.{pos, slice_get}
use Rattle.std.specs.Ordering.{int_eq}
use Rattle.pp_tree.specs.declared.operator.BinaryOp.{BinaryOp}
use Rattle.pp_tree.specs.declared.operator.BinaryOp.TheVariants.{Div, Rem, Equal, Differ, AndAlso, OrElse, And, Or, Xor}
use Rattle.pp_tree.specs.declared.operator.UnaryOp.{UnaryOp}
use Rattle.pp_tree.specs.declared.operator.UnaryOp.TheVariants.{Neg, Not, Flip}
use Rattle.pp_prog.specs.declared.id.CheckId.{CheckId}
use Rattle.pp_prog.specs.declared.value.Value.{Value}
use Rattle.pp_prog.specs.declared.value.Value.TheOpen as value
use Rattle.pp_prog.specs.declared.value.Value.TheViews.{out-Value}
use Rattle.pp_eval.specs.declared.outcome.Stop.{Stop}
use Rattle.pp_eval.specs.declared.outcome.Stop.TheVariants.{Fails, Stuck}
use Rattle.pp_eval.specs.Meaning.{field, field_in}
use Rattle.pp_eval.specs.Operators.{number, number_in, on_layers, on_numbers, on_truths, operated, truth, truth_in}
use Rattle.pp_eval.specs.Operators.{unary}
use Rattle.pp_eval.specs.Part.{Part, and_then, either, failed, found}
use Rattle.pp_run_laws.proofs.Follows.{Stops}
use lib.IntN.{ℤ}

-- each failing check is allowed, and so is an expression without meaning
pub record IsClosed (T : Stop → Type 0) : Type 0 where
  pub fails : (c : CheckId) → T (Fails c)
  pub stuck : T Stuck

module _ (T : Stop → Type 0) (stuck : T Stuck) where
  stops_then : {A B : Type 0} (part : Part A) (go : A → Part B) → Stops T part → ((a : A) → Stops T (go a))
      → Stops T (and_then part go)
  stops_then (Ok a) go h k = k a
  stops_then (Err x) go h k = h

  -- the failure of the check is allowed, if there is one
  abbrev pub MayFail : Option CheckId → Type 0
  MayFail check = (c : CheckId) → check ≡ Some c → T (Fails c)

  pub failed_stops : (A : Type 0) (check : Option CheckId) → MayFail check → Stops {A = A} T (failed check)
  failed_stops A None may = stuck
  failed_stops A (Some c) may = may c refl

  pub found_stops : {A : Type 0} (o : Option A) → Stops T (found o)
  found_stops None = stuck
  found_stops (Some a) = tt

  truth_in_stops : (o : value.Value-F Value) → Stops T (truth_in o)
  truth_in_stops (value.Int n) = stuck
  truth_in_stops (value.Bool b) = tt
  truth_in_stops (value.Tree c fields) = stuck

  pub truth_stops : (v : Value) → Stops T (truth v)
  truth_stops v = truth_in_stops (out-Value v)

  number_in_stops : (o : value.Value-F Value) → Stops T (number_in o)
  number_in_stops (value.Int n) = tt
  number_in_stops (value.Bool b) = stuck
  number_in_stops (value.Tree c fields) = stuck

  field_in_stops : (o : value.Value-F Value) (k : ℕ) → Stops T (field_in o k)
  field_in_stops (value.Int n) k = stuck
  field_in_stops (value.Bool b) k = stuck
  field_in_stops (value.Tree c fields) k = found_stops (slice_get fields k)

  pub field_stops : (v : Value) (k : ℕ) → Stops T (field v k)
  field_stops v k = field_in_stops (out-Value v) k

  pub unary_stops : (op : UnaryOp) (v : Value) → Stops T (unary op v)
  unary_stops Neg v = stops_then (number v) _ (number_in_stops (out-Value v)) (λ n. tt)
  unary_stops Not v = stops_then (truth v) _ (truth_stops v) (λ b. tt)
  unary_stops Flip v = stops_then (number v) _ (number_in_stops (out-Value v)) (λ n. tt)

  divided_stops : (t : Bool) (check : Option CheckId) (v : Value) → MayFail check
      → Stops T (either t (failed check) (Ok v))
  divided_stops true check v may = failed_stops Value check may
  divided_stops false check v may = tt

  -- a divisor of 0 alone fails a check
  abbrev pub MayDivide : BinaryOp → Option CheckId → Type 0
  MayDivide Div check = MayFail check
  MayDivide Rem check = MayFail check
  MayDivide op check = Unit {0}

  numbers_stop : (op : BinaryOp) (check : Option CheckId) → MayDivide op check → (a b : ℤ)
      → Stops T (on_numbers op check a b)
  numbers_stop Div check may a b = divided_stops (int_eq b (pos 0)) check _ may
  numbers_stop Rem check may a b = divided_stops (int_eq b (pos 0)) check _ may
  numbers_stop Equal check may a b = stuck
  numbers_stop Differ check may a b = stuck
  numbers_stop AndAlso check may a b = stuck
  numbers_stop OrElse check may a b = stuck
  numbers_stop op check may a b = tt

  truths_stop : (op : BinaryOp) (a b : Bool) → Stops T (on_truths op a b)
  truths_stop And a b = tt
  truths_stop Or a b = tt
  truths_stop Xor a b = tt
  truths_stop op a b = stuck

  layers_stop : (op : BinaryOp) (check : Option CheckId) → MayDivide op check → (x y : value.Value-F Value)
      → Stops T (on_layers op check x y)
  layers_stop op check may (value.Int a) (value.Int b) = numbers_stop op check may a b
  layers_stop op check may (value.Bool a) (value.Bool b) = truths_stop op a b
  layers_stop op check may x y = stuck

  pub operated_stops : (op : BinaryOp) (check : Option CheckId) → MayDivide op check → (x y : Value)
      → Stops T (operated op check x y)
  operated_stops Equal check may x y = tt
  operated_stops Differ check may x y = tt
  operated_stops op check may x y = layers_stop op check may (out-Value x) (out-Value y)

  -- where each failing check is allowed
  pub may_divide : (op : BinaryOp) (check : Option CheckId) → MayFail check → MayDivide op check
  may_divide Div check may = may
  may_divide Rem check may = may
  may_divide op check may = tt
