use Rattle.std.proofs.Common.{◌≡◌, ◌+◌, ◌≤◌, drop, false}
use Rattle.pp_tokens.specs.Comments.{block_len, more_by}
use Rattle.pp_tokens.proofs.comments.block_len.Given as goal

abbrev pub invariant-loop-i : goal.invariant-loop-i
invariant-loop-i l = record {
  so_far : more_by l.i (block_len l.depth l.passed (drop l.i l.cs)) ≡ block_len 1 false l.cs;
  some : 1 ≤ l.depth;
  small : l.depth ≤ l.i + 1;
}
