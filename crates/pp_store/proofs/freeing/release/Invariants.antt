use Rattle.std.specs.List.{sum_by}
use Rattle.pp_store.specs.Sizes.{size}
use Rattle.pp_store.proofs.freeing.release.Given as goal

abbrev pub decreases-loop-next : goal.decreases-loop-next
decreases-loop-next l = sum_by size l.pending
