use Rattle.std.proofs.Common.{◌≡◌, ℕ, Bool, drop}
use Rattle.pp_named_instances.specs.OrderTests.{level_value}
use Rattle.pp_named_instances.proofs.order.level_word.Given as goal

abbrev pub invariant-loop-place : goal.invariant-loop-place
invariant-loop-place l = record {
  none : (a : ℕ → Bool) → level_value a l.levels l.d ≡ level_value a (drop l.place l.levels) l.d;
}
