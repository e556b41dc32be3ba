use Rattle.std.proofs.Common.{◌≡◌, ◌++◌, string_bytes}
use Rattle.pp_made.specs.Made.{functions_to, opening}
use Rattle.pp_made.proofs.made.made_source.Given as goal

abbrev pub invariant-loop-earlier : goal.invariant-loop-earlier
invariant-loop-earlier l = string_bytes l.out ≡ opening ++ functions_to l.earlier
