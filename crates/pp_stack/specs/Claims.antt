-- What a postcondition makes of a result. Source: own.
use Rattle.std.specs.Prelude.{Ok, Err}
use Rattle.pp_prog.specs.declared.id.CheckId.{CheckId}
use Rattle.pp_prog.specs.declared.value.Value.{Value}
use Rattle.pp_eval.specs.declared.outcome.Stop.TheVariants.{Fails}
use Rattle.pp_eval.specs.Operators.{truth}
use Rattle.pp_eval.specs.Part.{Part, and_then, either}

-- the result, where the claim is true; else its check fails
abbrev pub claimed : CheckId → Value → Part Value → Part Value
claimed check v claim = and_then claim (λ p. and_then (truth p) (λ t. either t (Ok v) (Err (Fails check))))
