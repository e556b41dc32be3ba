use Rattle.pp_verify.specs.Shared.{AreShared}
use Rattle.pp_verify.proofs.fronts.end_by_cases.Given as goal

abbrev pub invariant-loop-more : goal.invariant-loop-more
invariant-loop-more l = record { shared : AreShared l.program l.limits l.progress.function.0 l.shared }
