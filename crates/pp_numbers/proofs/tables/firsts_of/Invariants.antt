use Rattle.std.proofs.Common.{◌≡◌, ◌<◌, ℕ, length}
use Rattle.std.specs.Prelude.{Some, slice_get}
use Rattle.pp_translation.specs.Numbers.{first_of}
use Rattle.pp_numbers.proofs.tables.firsts_of.Given as goal

abbrev pub invariant-loop-i : goal.invariant-loop-i
invariant-loop-i l = record {
  sized : length l.firsts ≡ l.i;
  each : (d : ℕ) → d < l.i → slice_get l.firsts d ≡ Some (first_of l.ctors l.roots d);
  first : l.first ≡ first_of l.ctors l.roots l.i;
}
