use Rattle.pp_verify.specs.Sizes.{AreSizes}
use Rattle.pp_verify.proofs.sizes.size_of.Given as goal

abbrev pub invariant-loop-next : goal.invariant-loop-next
invariant-loop-next l = AreSizes l.program l.fn.progress.function.0 l.fn.depth l.sizes
