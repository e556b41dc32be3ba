use Rattle.std.proofs.Common.{◌≡◌, ◌-◌}
use Rattle.pp_verify.specs.Rounds.{HasCome}
use Rattle.pp_verify.specs.Shared.{AreShared}
use Rattle.pp_verify.proofs.rounds.end_of_check.Given as goal

abbrev pub invariant-loop-end : goal.invariant-loop-end
invariant-loop-end l = record {
  come : HasCome l.program l.limits l.progress;
  function : l.progress.function ≡ l.fn.function;
  check : l.progress.check ≡ l.fn.check;
  shared : AreShared l.program l.limits l.fn.function.0 l.shared;
}

abbrev pub decreases-loop-end : goal.decreases-loop-end
decreases-loop-end l = l.limits.rounds - l.progress.round
