use Rattle.std.proofs.Common.{◌≡◌, ◌≤◌, ◌+◌, take}
use Rattle.pp_text.specs.Table.{past_bytes}
use Rattle.pp_text.proofs.place.past_bytes.Given as goal

-- the place behind the bytes that were passed, which is further by no more than their number
abbrev pub invariant-loop-byte : goal.invariant-loop-byte
invariant-loop-byte l = record {
  place : (l.line, l.column) ≡ past_bytes l.fn.start (take l.byte-index l.bytes);
  line_small : l.line ≤ l.fn.start.0 + l.byte-index;
  column_small : l.column ≤ l.fn.start.1 + l.byte-index;
}
