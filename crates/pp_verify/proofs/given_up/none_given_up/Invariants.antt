use Rattle.std.proofs.Common.{◌≡◌, replicate, false}
use Rattle.pp_verify.proofs.given_up.none_given_up.Given as goal

abbrev pub invariant-loop-function : goal.invariant-loop-function
invariant-loop-function l = l.marks ≡ replicate l._function false
