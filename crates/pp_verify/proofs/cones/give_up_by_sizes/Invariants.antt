use Rattle.pp_estimate.specs.Shared.{AreOf}
use Rattle.pp_verify.specs.GivenUp.{GivesUpOthers, HasTriedSize}
use Rattle.pp_verify.proofs.cones.give_up_by_sizes.Given as goal

abbrev pub invariant-loop-c : goal.invariant-loop-c
invariant-loop-c l = record {
  others : GivesUpOthers l.program l.ends (HasTriedSize l.program l.limits) l.c l.fn.given_up l.given_up;
  estimates : AreOf l.program l.estimates;
}
