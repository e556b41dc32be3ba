use Rattle.std.proofs.Common.{ℕ, ◌^◌, ◌<◌, Bool}
use Rattle.pp_gate.specs.Circuit.{IsCircuit, Gives}
use Rattle.pp_gate.specs.Growth.{Grows}
use Rattle.pp_bits.specs.Inputs.{AreInputs, ChosenNumber}
use Rattle.pp_bits.proofs.fresh.inputs.Given as goal

abbrev pub invariant-loop-place : goal.invariant-loop-place
invariant-loop-place l = record {
  grows : Grows l.initial.circuit l.circuit l._place;
  circuit : IsCircuit l.circuit;
  inputs : AreInputs l.initial.circuit l.circuit l._place l.digits.items;
  chosen : (s : ℕ → Bool) → Gives s l.initial.circuit → (v : ℕ) → v < 2 ^ l._place
      → ChosenNumber l.initial.circuit l.circuit s l.digits.items v;
}
