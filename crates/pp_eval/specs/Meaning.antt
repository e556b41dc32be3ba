-- What an expression means: big-step evaluation, where what a call does is a parameter. Operands, arguments and fields
-- go from left to right, `&&` and `||` skip the right side where the left decides, `val` is strict, and a match takes
-- the first case whose pattern fits and whose guard is true. Source: Scala Language Specification 6.6, 6.12, 8.4 and
-- 12.2.2. Where a form has no meaning, as an operator for values of other sorts, it is Stuck. A valid program never
-- comes there: `pp_sound` has that law. (own)
use Rattle.std.specs.Prelude.{ℕ, Bool, true, false, List, [], ◌∷◌, ◌++◌, Option, Some, None, Ok, Err, slice_get}
use Rattle.pp_tree.specs.declared.operator.BinaryOp.{BinaryOp}
use Rattle.pp_tree.specs.declared.operator.BinaryOp.TheVariants.{AndAlso, OrElse}
use Rattle.pp_prog.specs.declared.expr.Case.{Case}
use Rattle.pp_prog.specs.declared.expr.Expr.{Expr}
use Rattle.pp_prog.specs.declared.expr.Expr.TheFolds.{fold-Expr, fold-Case}
use Rattle.pp_prog.specs.declared.expr.Expr.TheOpen as layer
use Rattle.pp_prog.specs.declared.id.CheckId.{CheckId}
use Rattle.pp_prog.specs.declared.id.FunctionId.{FunctionId}
use Rattle.pp_prog.specs.declared.value.Value.{Value}
use Rattle.pp_prog.specs.declared.value.Value.TheOpen as value
use Rattle.pp_prog.specs.declared.value.Value.TheVariants.{Int, Bool as Truth, Tree}
use Rattle.pp_prog.specs.declared.value.Value.TheViews.{out-Value}
use Rattle.pp_prog.specs.Fits.{fit}
use Rattle.pp_eval.specs.declared.outcome.Stop.TheVariants.{Fails, Stuck}
use Rattle.pp_eval.specs.Operators.{operated, truth, unary}
use Rattle.pp_eval.specs.Part.{Part, and_then, either, failed, found}

-- the measure values of a frame, which has none while its precondition and its measure list are evaluated
abbrev pub Frame : Type 0
Frame = Option (List Value)

-- what an expression is: its outcome in a frame, with the values in scope
abbrev pub Meaning : Type 0
Meaning = Frame → List Value → Part Value

-- what a case is: its pattern, with the meanings of its guard and its body
abbrev pub Arm : Type 0
Arm = layer.Case-F Meaning (Unit {0})

-- what a call does: the frame that it comes from, the function, the site's precondition check and measure check, and
-- the arguments
abbrev pub CallMeaning : Type 0
CallMeaning = Frame → FunctionId → Option CheckId → Option CheckId → List Value → Part Value

abbrev pub all_from : List Value → List Meaning → Frame → List Value → Part (List Value)
all_from done [] frame env = Ok done
all_from done (m ∷ ms) frame env = and_then (m frame env) (λ v. all_from (done ++ v ∷ []) ms frame env)

-- each value, from left to right
abbrev pub all : List Meaning → Frame → List Value → Part (List Value)
all = all_from []

-- an operator with two operands. The right side of `&&` counts only where the left is true, and that of `||` only where
-- it is false.
abbrev pub binary : BinaryOp → Meaning → Meaning → Option CheckId → Meaning
binary AndAlso a b check frame env =
    and_then (a frame env) (λ x. and_then (truth x) (λ t. either t (b frame env) (Ok (Truth false))))
binary OrElse a b check frame env =
    and_then (a frame env) (λ x. and_then (truth x) (λ t. either t (Ok (Truth true)) (b frame env)))
binary op a b check frame env = and_then (a frame env) (λ x. and_then (b frame env) (λ y. operated op check x y))

abbrev pub field_in : value.Value-F Value → ℕ → Part Value
field_in (value.Int n) k = Err Stuck
field_in (value.Bool b) k = Err Stuck
field_in (value.Tree c fields) k = found (slice_get fields k)

-- the field at this place
abbrev pub field : Value → ℕ → Part Value
field v k = field_in (out-Value v) k

-- whether a guard is true; none always is
abbrev pub guarded : Option Meaning → Frame → List Value → Part Bool
guarded None frame env = Ok true
guarded (Some guard) frame env = and_then (guard frame env) truth

-- what a case gives where its pattern fits: the body's value where the guard is true
abbrev pub taken : Bool → Part Value → Part (Option Value)
taken true body = and_then body (λ v. Ok (Some v))
taken false body = Ok None

abbrev pub attempt_with : Option (List Value) → Arm → Frame → List Value → Part (Option Value)
attempt_with None arm frame env = Ok None
attempt_with (Some bound) arm frame env =
    and_then (guarded arm.guard frame (env ++ bound)) (λ t. taken t (arm.body frame (env ++ bound)))

-- what a case gives for a value: nothing where its pattern doesn't fit or its guard is false
abbrev pub attempt : Arm → Value → Frame → List Value → Part (Option Value)
attempt arm v frame env = attempt_with (fit arm.pattern v) arm frame env

abbrev pub or_next : Option Value → Part Value → Part Value
or_next None next = next
or_next (Some v) next = Ok v

-- the first case that gives a value; where none does, the match's check fails
abbrev pub first_case : List Arm → Option CheckId → Value → Meaning
first_case [] check v frame env = failed check
first_case (arm ∷ arms) check v frame env =
    and_then (attempt arm v frame env) (λ o. or_next o (first_case arms check v frame env))

abbrev pub arm_step : layer.Case-F Meaning Arm → Arm
arm_step c = record { pattern = c.pattern; guard = c.guard; body = c.body }

module _ (calls : CallMeaning) where
  -- one level of an expression, with the meanings of its parts in their place
  abbrev pub meaning_step : layer.Expr-F Meaning Arm → Meaning
  meaning_step (layer.Int n) frame env = Ok (Int n)
  meaning_step (layer.Bool b) frame env = Ok (Truth b)
  meaning_step (layer.Var i) frame env = found (slice_get env i)
  meaning_step (layer.Unary op a) frame env = and_then (a frame env) (unary op)
  meaning_step (layer.Binary op a b check) frame env = binary op a b check frame env
  meaning_step (layer.Construct c args) frame env = and_then (all args frame env) (λ fields. Ok (Tree c fields))
  meaning_step (layer.Field e k) frame env = and_then (e frame env) (λ v. field v k)
  meaning_step (layer.If c a b) frame env =
      and_then (c frame env) (λ v. and_then (truth v) (λ t. either t (a frame env) (b frame env)))
  meaning_step (layer.Match e arms check) frame env = and_then (e frame env) (λ v. first_case arms check v frame env)
  meaning_step (layer.Val bound rest) frame env = and_then (bound frame env) (λ v. rest frame (env ++ v ∷ []))
  meaning_step (layer.Assert check c rest) frame env =
      and_then (c frame env) (λ v. and_then (truth v) (λ t. either t (rest frame env) (Err (Fails check))))
  meaning_step (layer.Call g args pre measure) frame env =
      and_then (all args frame env) (λ values. calls frame g pre measure values)

  -- the meaning of an expression
  abbrev pub meaning : Expr → Meaning
  meaning = fold-Expr Meaning Arm meaning_step arm_step

  -- a case, with the meanings of its guard and its body
  abbrev pub arm : Case → Arm
  arm = fold-Case Meaning Arm meaning_step arm_step
