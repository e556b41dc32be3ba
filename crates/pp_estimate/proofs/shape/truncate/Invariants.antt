use Rattle.std.proofs.Common.{◌≡◌, take, length}
use Rattle.pp_estimate.proofs.shape.truncate.Given as goal

abbrev pub invariant-loop-env : goal.invariant-loop-env
invariant-loop-env l = take l.n l.env ≡ take l.n l.initial.env

abbrev pub decreases-loop-env : goal.decreases-loop-env
decreases-loop-env l = length l.env
