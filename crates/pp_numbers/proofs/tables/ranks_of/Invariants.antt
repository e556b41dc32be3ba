use Rattle.std.proofs.Common.{◌≡◌, ◌<◌, ℕ, take, length}
use Rattle.std.specs.Prelude.{Some, slice_get}
use Rattle.pp_translation.specs.Numbers.{rank_of}
use Rattle.pp_typed.specs.Sorted.{ctors_of}
use Rattle.pp_typed.specs.declared.typed.TypedCtor.{TypedCtor}
use Rattle.pp_numbers.proofs.tables.ranks_of.Given as goal

abbrev pub invariant-loop-c : goal.invariant-loop-c
invariant-loop-c l = record {
  counts : length l.counts ≡ l.roots;
  counted : (r : ℕ) → r < l.roots → slice_get l.counts r ≡ Some (length (ctors_of (take l.c-index l.ctors) r));
  ranks : length l.ranks ≡ l.c-index;
  ranked : (c : ℕ) (k : TypedCtor) → c < l.c-index → slice_get l.ctors c ≡ Some k
      → slice_get l.ranks c ≡ Some (rank_of l.ctors c k);
}
