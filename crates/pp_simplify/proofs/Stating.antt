-- What stands in the place of an operator on literals.
use Rattle.std.proofs.Common.{◌≡◌, Bool, refl, sym, ap, ◌∙◌, Ok, Err}
use Rattle.std.specs.Prelude.{ℤ}
use Rattle.pp_prog.specs.declared.value.Value.{Value}
use Rattle.pp_prog.specs.declared.value.Value.TheOpen as layer
use Rattle.pp_prog.specs.declared.value.Value.TheVariants.{Int, Bool as Truth, rolls-Int, rolls-Bool}
use Rattle.pp_prog.specs.declared.value.Value.TheViews.{out-Value, roll-Value, roll-out-Value}
use Rattle.pp_eval.specs.Part.{Part}
use Rattle.pp_steps.specs.declared.step.Step.{Step}
use Rattle.pp_steps.specs.declared.step.Step.TheVariants as steps
use Rattle.pp_simplify.specs.Literals.{literal_or, stated}

-- What holds of the step, and of the literal whose value the part has, holds of what is stated in the step's place.
pub stated_by : (P : Step → Type 0) (s : Step) (p : Part Value) → P s
    → ((n : ℤ) → p ≡ Ok (Int n) → P (steps.Int n)) → ((b : Bool) → p ≡ Ok (Truth b) → P (steps.Bool b))
    → P (stated s p)
stated_by P s (Err e) own int truth = own
stated_by P s (Ok v) own int truth = by (out-Value v) refl
  where
    is : (o : layer.Value-F Value) → out-Value v ≡ o → v ≡ roll-Value o
    is o e = sym (roll-out-Value v) ∙ ap roll-Value e

    by : (o : layer.Value-F Value) → out-Value v ≡ o → P (literal_or s o)
    by (layer.Int n) e = int n (ap Ok (is (layer.Int n) e ∙ rolls-Int n))
    by (layer.Bool b) e = truth b (ap Ok (is (layer.Bool b) e ∙ rolls-Bool b))
    by (layer.Tree c fields) e = own
