use Rattle.std.proofs.Common.{◌≡◌, take, map}
use Rattle.pp_translation.specs.Functions.{param_at}
use Rattle.pp_translate.proofs.functions.params_at.Given as goal

abbrev pub invariant-loop-param : goal.invariant-loop-param
invariant-loop-param l = l.done ≡ map (param_at l.numbers.roots l.args) (take l.param-index l.params)
