-- How stops and truth values are seen through the frame of a call.
use Rattle.std.proofs.Common.{◌≡◌, ◌∙◌, Option, Some, None, Ok, Err, refl, sym, ap}
use Rattle.pp_prog.specs.declared.id.FunctionId.{FunctionId}
use Rattle.pp_prog.specs.declared.value.Value.{Value}
use Rattle.pp_prog.specs.declared.value.Value.TheOpen as layer
use Rattle.pp_prog.specs.declared.value.Value.TheViews.{out-Value}
use Rattle.pp_eval.specs.declared.outcome.Stop.{Stop}
use Rattle.pp_eval.specs.declared.outcome.Stop.TheVariants.{Fails, Inner, Deep, Stuck}
use Rattle.pp_eval.specs.Operators.{truth, truth_in}
use Rattle.pp_eval.specs.Part.{Part, inside, raised}
use Rattle.pp_stack.specs.declared.todo.Here.{Here}
use Rattle.pp_stack.specs.Left.{go_on}
use Rattle.pp_stack.specs.See.{seen}
use Rattle.pp_stack.specs.State.{State}

-- an inner failure stays what it is
pub seen_raised : (called : Option FunctionId) (g : FunctionId) (stop : Stop)
    → seen called (raised g stop) ≡ raised g stop
seen_raised None g stop = refl
seen_raised (Some h) g (Fails c) = refl
seen_raised (Some h) g (Inner i c) = refl
seen_raised (Some h) g Deep = refl
seen_raised (Some h) g Stuck = refl

-- a part in the frame of a call, told by that frame or by its caller's
pub go_on_inside : {A : Type 0} (here deeper : Here) (g : FunctionId) (part : Part A) (go : A → Part State)
    → deeper.called ≡ Some g → go_on deeper part go ≡ go_on here (inside g part) go
go_on_inside here deeper g (Ok a) go is = refl
go_on_inside here deeper g (Err stop) go is =
    ap (λ (o : Option FunctionId). let r : Part State = Err (seen o stop) in r) is
    ∙ ap (λ (x : Stop). let r : Part State = Err x in r) (sym (seen_raised here.called g stop))

truth_layer : (g : FunctionId) (y : layer.Value-F Value) → inside g (truth_in y) ≡ truth_in y
truth_layer g (layer.Int n) = refl
truth_layer g (layer.Bool b) = refl
truth_layer g (layer.Tree c fields) = refl

-- a condition that is no truth value is stuck, wherever that is told
pub truth_inside : (g : FunctionId) (v : Value) → inside g (truth v) ≡ truth v
truth_inside g v = truth_layer g (out-Value v)
