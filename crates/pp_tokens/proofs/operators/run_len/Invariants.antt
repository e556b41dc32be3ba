use Rattle.std.proofs.Common.{◌≡◌, ◌+◌, drop}
use Rattle.pp_tokens.specs.Operators.{run_len}
use Rattle.pp_tokens.proofs.operators.run_len.Given as goal

abbrev pub invariant-loop-i : goal.invariant-loop-i
invariant-loop-i l = l.i + run_len (drop l.i l.cs) ≡ run_len l.cs
