-- How large a value is. Source: own.
use Rattle.std.specs.Prelude.{ℕ, ◌+◌, sum}
use Rattle.pp_prog.specs.declared.value.Value.{Value}
use Rattle.pp_prog.specs.declared.value.Value.TheOpen as layer
use Rattle.pp_prog.specs.declared.value.Value.TheFolds.{fold-Value}

abbrev pub size_step : layer.Value-F ℕ → ℕ
size_step (layer.Int n) = 1
size_step (layer.Bool b) = 1
size_step (layer.Tree c sizes) = sum sizes + 1

-- how many numbers, truth values and constructors the value has
abbrev pub size : Value → ℕ
size = fold-Value ℕ size_step
