use Rattle.std.proofs.Common.{◌≡◌, []}
use Rattle.pp_declared.specs.Counts.{counts_from}
use Rattle.pp_declared.proofs.counted.CountedCtors.new.Given as goal

abbrev pub invariant-loop : goal.invariant-loop
invariant-loop l = l.counts ≡ counts_from 0 l.counter []
