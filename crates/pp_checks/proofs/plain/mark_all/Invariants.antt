use Rattle.std.proofs.Common.{◌≡◌, ◌↔◌, ◌⊎◌, ◌<◌, ℕ, length, take, Contains, IsTrue}
use Rattle.pp_graph.specs.Rows.{marked}
use Rattle.pp_checks.proofs.plain.mark_all.Given as goal

abbrev pub invariant-loop-c : goal.invariant-loop-c
invariant-loop-c l =
    (length l.plains ≡ length l.initial.plains)
    × ((k : ℕ) → k < length l.initial.plains → IsTrue (marked l.plains k) ↔ (IsTrue (marked l.initial.plains k) ⊎
    Contains (take l.c-index l.checks) k))
