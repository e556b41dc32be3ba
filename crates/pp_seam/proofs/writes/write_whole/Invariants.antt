-- What is gone from `rest` was taken.
use Rattle.std.proofs.Common.{◌≡◌, ℕ, List, ◌++◌, length}
use Rattle.std.specs.Io.KnownBytes.{Appends}
use Rattle.pp_seam.proofs.writes.write_whole.Given as goal

abbrev pub invariant-rests : goal.invariant-rests
invariant-rests g l = (done : List ℕ) × (l.initial.rest ≡ done ++ l.rest)
    × Appends (g.W.Write.contents l.initial.writer) (g.W.Write.contents l.writer) done

abbrev pub decreases-rests : goal.decreases-rests
decreases-rests g l = length l.rest
