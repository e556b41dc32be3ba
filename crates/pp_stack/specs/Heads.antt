-- What operators tell of a value: its number, its truth value, or that it is a tree, and of which constructor. Source:
-- own.
use Rattle.std.specs.Prelude.{◌≡◌, List, Option, Result, Ok, Err}
use Rattle.pp_tree.specs.declared.operator.BinaryOp.{BinaryOp}
use Rattle.pp_tree.specs.declared.operator.UnaryOp.{UnaryOp}
use Rattle.pp_prog.specs.declared.id.CheckId.{CheckId}
use Rattle.pp_prog.specs.declared.types.Ctor.{Ctor}
use Rattle.pp_prog.specs.declared.value.Value.{Value}
use Rattle.pp_prog.specs.declared.value.Value.TheOpen as layer
use Rattle.pp_prog.specs.declared.value.Value.TheVariants as value
use Rattle.pp_prog.specs.declared.value.Value.TheViews.{out-Value}
use Rattle.pp_eval.specs.declared.outcome.Halt.{Halt}
use Rattle.pp_eval.specs.declared.outcome.Halt.TheVariants.{Memory, Stopped}
use Rattle.pp_eval.specs.Measure.{one_sort}
use Rattle.pp_eval.specs.Operators.{on_layers, truth, unary}
use Rattle.pp_eval.specs.Part.{Part}
use Rattle.pp_store.specs.declared.held.Held.{Held}
use Rattle.pp_store.specs.Values.{AreHeld, IsHeld, value_of, values_of}
use Rattle.pp_stack.specs.declared.head.Look.{Look}
use Rattle.pp_stack.specs.declared.head.Look.TheVariants as look

-- operators that don't compare trees make the same of the two
pub record IsHeadOf (head v : Value) : Type 0 where
  pub truths : truth head ≡ truth v
  pub unaries : (op : UnaryOp) → unary op head ≡ unary op v
  pub lefts : (op : BinaryOp) (check : Option CheckId) (y : layer.Value-F Value)
      → on_layers op check (out-Value head) y ≡ on_layers op check (out-Value v) y
  pub rights : (op : BinaryOp) (check : Option CheckId) (x : layer.Value-F Value)
      → on_layers op check x (out-Value head) ≡ on_layers op check x (out-Value v)
  pub firsts : (ctors : List Ctor) (y : layer.Value-F Value)
      → one_sort ctors (out-Value head) y ≡ one_sort ctors (out-Value v) y
  pub seconds : (ctors : List Ctor) (x : layer.Value-F Value)
      → one_sort ctors x (out-Value head) ≡ one_sort ctors x (out-Value v)

-- what a call that may be out of memory says of a part whose value is held
abbrev pub Shows : List Value → Result Held Halt → Part Value → Type 0
Shows trees (Ok held) part = IsHeld trees held × (part ≡ Ok (value_of trees held))
Shows trees (Err Memory) part = Unit {0}
Shows trees (Err (Stopped s)) part = part ≡ Err s

-- the outermost layer of a value
abbrev pub IsLook : List Value → Look → Value → Type 0
IsLook trees (look.Int n) v = v ≡ value.Int n
IsLook trees (look.Bool b) v = v ≡ value.Bool b
IsLook trees (look.Tree p) v = (v ≡ value.Tree p.ctor (values_of trees p.fields.now)) × AreHeld trees p.fields.now
