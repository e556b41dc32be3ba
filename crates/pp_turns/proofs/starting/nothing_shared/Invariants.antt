use Rattle.std.proofs.Common.{◌≡◌, length}
use Rattle.pp_induct.specs.declared.limits.Limits.{Limits}
use Rattle.pp_turns.specs.Turns.{AreAllShared}
use Rattle.pp_turns.proofs.starting.nothing_shared.Given as goal

abbrev pub invariant-loop-function : goal.invariant-loop-function
invariant-loop-function l = record {
  size : length l.shared.items ≡ l._function;
  shared : (limits : Limits) → AreAllShared l.program limits l.shared.items;
}
