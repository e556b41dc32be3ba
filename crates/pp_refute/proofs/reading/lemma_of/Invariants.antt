use Rattle.std.proofs.Common.{◌≡◌, take}
use Rattle.pp_refute.specs.Scan.{scan_start, scan_of}
use Rattle.pp_refute.proofs.reading.lemma_of.Given as goal

abbrev pub invariant-loop-byte : goal.invariant-loop-byte
invariant-loop-byte l = l.reader ≡ scan_of scan_start (take l.byte-index l.line)
