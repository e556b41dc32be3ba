-- What a truth value is as a bit.
use Rattle.std.proofs.Common.{◌≡◌, Bool, ap}
use Rattle.pp_prog.specs.declared.value.Value.TheVariants.{Bool as Truth, outs-Bool}
use Rattle.pp_steps.specs.Meaning.{bit, bit_in}

pub bit_truth : (b : Bool) → bit (Truth b) ≡ b
bit_truth b = ap bit_in (outs-Bool b)
