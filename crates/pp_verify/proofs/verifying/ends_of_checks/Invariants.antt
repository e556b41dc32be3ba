use Rattle.pp_verify.specs.Shared.{AreShared}
use Rattle.pp_verify.proofs.Ends.{AreEndsTo}
use Rattle.pp_verify.proofs.verifying.ends_of_checks.Given as goal

abbrev pub invariant-loop-c : goal.invariant-loop-c
invariant-loop-c l = record {
  ends : AreEndsTo l.program l.limits l.c l.ends;
  shared : AreShared l.program l.limits l.owner.0 l.shared;
}
