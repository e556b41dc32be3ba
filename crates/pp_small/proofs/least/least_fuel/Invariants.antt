use Rattle.std.proofs.Common.{ℕ, ◌<◌}
use Rattle.pp_small.specs.Failing.{FailWith}
use Rattle.pp_small.proofs.least.least_fuel.Given as goal

abbrev pub invariant-loop-less : goal.invariant-loop-less
invariant-loop-less l = (m : ℕ) → m < l.less → FailWith l.program l.function.0 l.check l.args m → ⊥
