use Rattle.std.proofs.Common.{◌≡◌}
use Rattle.std.specs.Prelude.{replicate}
use Rattle.pp_typed.specs.declared.sort.GenericSort.TheVariants.{Int}
use Rattle.pp_instances.proofs.closure.member_at_ints.Given as goal

abbrev pub invariant-loop-i : goal.invariant-loop-i
invariant-loop-i l = l.args ≡ replicate l.i Int
