use Rattle.std.proofs.Common.{◌≡◌, length}
use Rattle.std.specs.Slice.Iter.{chunks_rest, chunks_size}
use Rattle.pp_text.specs.declared.place.TheConstants.{BYTES_APART}
use Rattle.pp_text.proofs.Tables.{IsTableOf}
use Rattle.pp_text.proofs.place.table.Given as goal

-- the table of the chunks that were passed
abbrev pub invariant-loop-chunk : goal.invariant-loop-chunk
invariant-loop-chunk l = record {
  can_next : (goal.iterator-loop-chunk).can_next l.chunk-iterator;
  finite : (goal.iterator-loop-chunk).is_finite l.chunk-iterator;
  size : chunks_size l.chunk-iterator ≡ BYTES_APART;
  made : IsTableOf l.bytes (length l.yielded) l.place l.table.items (chunks_rest l.chunk-iterator);
}
