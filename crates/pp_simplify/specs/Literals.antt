-- Operators on literals: what they come to is known before the run. Source: own; constant folding, as compilers do it
-- on straight-line code.
use Rattle.std.specs.Prelude.{◌≡◌, ℕ, List, [], Option, Some, None, Ok, Err, slice_get}
use Rattle.pp_prog.specs.declared.value.Value.{Value}
use Rattle.pp_prog.specs.declared.value.Value.TheOpen as layer
use Rattle.pp_prog.specs.declared.value.Value.TheVariants.{Int, Bool as Truth}
use Rattle.pp_prog.specs.declared.value.Value.TheViews.{out-Value}
use Rattle.pp_eval.specs.declared.outcome.Stop.TheVariants.{Stuck}
use Rattle.pp_eval.specs.Measure.{goes_down, one_sort}
use Rattle.pp_eval.specs.Operators.{operated, unary}
use Rattle.pp_eval.specs.Part.{Part, and_then}
use Rattle.pp_steps.specs.declared.step.Step.{Step}
use Rattle.pp_steps.specs.declared.step.Step.TheVariants as steps

abbrev pub literal_of : Option Step → Part Value
literal_of (Some (steps.Int n)) = Ok (Int n)
literal_of (Some (steps.Bool b)) = Ok (Truth b)
literal_of o = Err Stuck

-- the value of the step with the number, which has to be a literal
abbrev pub literal_at : List Step → ℕ → Part Value
literal_at news a = literal_of (slice_get news a)

-- what two literals come to
abbrev pub of_two : List Step → ℕ → ℕ → (Value → Value → Part Value) → Part Value
of_two news a b f = and_then (literal_at news a) (λ x. and_then (literal_at news b) (λ y. f x y))

-- What the step behind these ones comes to, where its operands are literals. A quotient by 0 comes to nothing, since
-- there is no check that it fails. No literal is a tree, so no constructors are looked up.
abbrev pub computed : List Step → Step → Part Value
computed news (steps.Unary op a) = and_then (literal_at news a) (unary op)
computed news (steps.Binary op a b) = of_two news a b (operated op None)
computed news (steps.IsAlike a b) = of_two news a b (λ x y. Ok (Truth (one_sort [] (out-Value x) (out-Value y))))
computed news (steps.GoesDown a b) = of_two news a b (λ x y. Ok (Truth (goes_down x y)))
computed news s = Err Stuck

abbrev pub literal_or : Step → layer.Value-F Value → Step
literal_or s (layer.Int n) = steps.Int n
literal_or s (layer.Bool b) = steps.Bool b
literal_or s (layer.Tree c fields) = s

-- the literal with the part's value, or the step where there is none
abbrev pub stated : Step → Part Value → Step
stated s (Ok v) = literal_or s (out-Value v)
stated s (Err e) = s
