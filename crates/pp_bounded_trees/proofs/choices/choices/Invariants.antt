use Rattle.std.proofs.Common.{◌≡◌, ◌*◌, ◌++◌, [], ◌∷◌, length}
use Rattle.pp_gate.specs.Circuit.{IsCircuit}
use Rattle.pp_gate.specs.Growth.{Grows}
use Rattle.pp_bounded_trees.specs.Choices.{AreChoices}
use Rattle.pp_bounded_trees.proofs.choices.choices.Given as goal

abbrev pub invariant-loop-place : goal.invariant-loop-place
invariant-loop-place l = record {
  grows : Grows l.initial.circuit l.circuit (3 * l._place);
  circuit : IsCircuit l.circuit;
  len : length l.lits ≡ l._place;
  choices : AreChoices l.initial.circuit l.circuit (l.lits ++ l.none ∷ []);
}
