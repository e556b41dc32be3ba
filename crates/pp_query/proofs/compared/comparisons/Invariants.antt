use Rattle.std.proofs.Common.{◌<◌, All}
use Rattle.pp_query.proofs.compared.comparisons.Given as goal

abbrev pub invariant-loop-done : goal.invariant-loop-done
invariant-loop-done l = All (λ v. v < l.count) l.found.items
