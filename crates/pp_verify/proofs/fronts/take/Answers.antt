use Rattle.std.proofs.Common.{subst}
use Rattle.pp_verify.specs.Shared.{AreFailures}
use Rattle.pp_verify.proofs.fronts.take.Goals as goal

pub returns-in-Some-clause-shared : goal.returns-in-Some-clause-shared
returns-in-Some-clause-shared c p limits i shared = record {
  sizes = shared.sizes;
  lowest = shared.lowest;
  failures = c.take_out.ensures.rest p i limits.rounds limits.depth
      (subst (AreFailures p limits i) c.in-Some.is shared.failures);
}
