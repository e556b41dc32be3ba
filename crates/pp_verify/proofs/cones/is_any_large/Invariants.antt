use Rattle.std.proofs.Common.{ℕ, ◌<◌}
use Rattle.pp_verify.specs.GivenUp.{IsLargeAt}
use Rattle.pp_verify.proofs.cones.is_any_large.Given as goal

abbrev pub invariant-loop-c : goal.invariant-loop-c
invariant-loop-c l = (k : ℕ) → k < l.c → IsLargeAt l.ends k → ⊥
