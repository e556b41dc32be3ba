use Rattle.std.proofs.Common.{◌≡◌}
use Rattle.pp_cdcl.specs.Reading.{IsFull}
use Rattle.pp_cdcl.proofs.choosing.any_free.Given as goal

abbrev pub invariant-loop-before : goal.invariant-loop-before
invariant-loop-before l = record { end : l.before-end ≡ l.watch.vars; full : IsFull l.before l.watch.steps }
