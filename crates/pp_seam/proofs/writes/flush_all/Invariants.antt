-- Interrupted flushes change nothing that is known.
use Rattle.std.specs.Io.KnownBytes.{Keeps}
use Rattle.pp_seam.proofs.writes.flush_all.Given as goal

abbrev pub invariant-loop : goal.invariant-loop
invariant-loop g l = Keeps (g.W.Write.contents l.initial.writer) (g.W.Write.contents l.writer)
