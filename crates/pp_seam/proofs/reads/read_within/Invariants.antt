-- The bytes so far are those that were consumed.
use Rattle.std.proofs.Common.{◌≤◌, ◌+◌, ◌-◌, length}
use Rattle.std.specs.Io.KnownBytes.{Consumes}
use Rattle.pp_seam.proofs.reads.read_within.Given as goal

abbrev pub invariant-chunks : goal.invariant-chunks
invariant-chunks g l = (length l.bytes.items ≤ l.fn.limit + 1)
    × Consumes (g.R.Read.remaining l.initial.reader) (g.R.Read.remaining l.reader) l.bytes.items

abbrev pub decreases-chunks : goal.decreases-chunks
decreases-chunks g l = l.fn.limit + 1 - length l.bytes.items
