use Rattle.std.proofs.Common.{◌≡◌, false, take}
use Rattle.pp_refute.specs.Line.{has_newline}
use Rattle.pp_refute.proofs.reading.first_line.Given as goal

abbrev pub invariant-loop-place : goal.invariant-loop-place
invariant-loop-place l = has_newline (take l.place l.bytes) ≡ false
