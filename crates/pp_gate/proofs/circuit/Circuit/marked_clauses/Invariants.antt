use Rattle.std.proofs.Common.{◌≡◌, ℕ, ◌*◌, ◌≤◌, ◌↔◌, Bool, true, length, take}
use Rattle.pp_clause.specs.Clause.{clauses_value}
use Rattle.pp_gate.specs.Clauses.{AreShortWithin}
use Rattle.pp_gate.specs.Marks.{GivesMarked}
use Rattle.pp_gate.proofs.circuit.Circuit.marked_clauses.Given as goal

abbrev pub invariant-loop-i : goal.invariant-loop-i
invariant-loop-i l = record {
  count : length l.all ≤ 8 * l.i;
  value : (s : ℕ → Bool) → (clauses_value s l.all ≡ true) ↔ GivesMarked s (take l.i l.gates) l.marks;
  shape : AreShortWithin (length l.gates) l.all;
}
