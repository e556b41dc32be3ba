use Rattle.std.proofs.Common.{take, ◌++◌, arith}
use Rattle.std.proofs.lemmas.Grind.{common_steps}
use Rattle.std.proofs.KnownBytes.{Consumes-trans}
use Rattle.pp_seam.proofs.reads.read_within.Goals as goal

pub returns-in_err-extend_from_slice-in-Some-clause-at_most :
    goal.returns-in_err-extend_from_slice-in-Some-clause-at_most
returns-in_err-extend_from_slice-in-Some-clause-at_most g c = (
  c.chunks.bytes.items ++ take c.in-Some.count c.read_some.new.buffer,
  grind (arith, common_steps),
  Consumes-trans _ _ _ _ _ c.chunks.invariant.1 c.in-Some.ensures.bytes,
)
