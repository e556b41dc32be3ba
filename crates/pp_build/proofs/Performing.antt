-- What a step that can be performed asks of the calls that perform it.
use Rattle.std.proofs.Common.{◌≡◌, ℕ, ◌+◌, ◌≤◌, ◌^◌, Bool, true, false, if◌then◌else◌, List, Some, length, refl, sym}
use Rattle.std.proofs.Common.{◌∙◌, slice_get, subst}
use Rattle.pp_prog.specs.declared.types.TypeTable.{TypeTable}
use Rattle.pp_gate.specs.declared.gate.Gate.{Gate}
use Rattle.pp_gate.specs.Growth.{Grows}
use Rattle.pp_gate.proofs.Growing.{Grows_none}
use Rattle.pp_domain.specs.declared.symbol.Symbol.{Symbol}
use Rattle.pp_domain.specs.declared.symbol.Symbol.TheVariants as symbol
use Rattle.pp_domain.specs.Allowance.{look_at_gates}
use Rattle.pp_domain.specs.Moves.{Moves}
use Rattle.pp_domain.specs.Sense.{Sense}
use Rattle.pp_steps.specs.declared.step.Step.{Step}
use Rattle.pp_build.specs.StepGates.{is_seen, step_gates}
use Rattle.pp_build.specs.Performed.{CanPerform, Leaves}

module _ {D T : Type 0} (m : Sense D T) (types : TypeTable) (d : D) (gs : List Gate) (rs : List (Symbol T))
    (step : Step) where
  -- the number of gates is the step's
  abbrev pub IsCount : ℕ → Type 0
  IsCount k = (can : CanPerform m types d gs rs step)
      → k ≡ step_gates m types can.sorts can.heights (m.looks d) (m.compares d) can.seen (length rs) step

  pub room_for : (k : ℕ) → IsCount k → CanPerform m types d gs rs step → length gs + k ≤ 2 ^ 30
  room_for k is can = subst (λ n. length gs + n ≤ 2 ^ 30) (sym (is can)) can.room

  pub leaves_by : (e : D) (hs : List Gate) (k : ℕ) → IsCount k → Moves m types d gs e hs k
      → Leaves m types d gs rs step e hs
  leaves_by e hs k is moves can = subst (λ n. Moves m types d gs e hs n) (is can) moves

  -- the number of gates is that of a look at the tree of step number i, unless it was looked at before
  abbrev pub IsLookCount : ℕ → T → Type 0
  IsLookCount i t = (can : CanPerform m types d gs rs step)
      → (if is_seen can.seen i then 0 else look_at_gates m types d t)
      ≡ step_gates m types can.sorts can.heights (m.looks d) (m.compares d) can.seen (length rs) step

  -- where the tree isn't expanded there is room for the look
  pub look_room : (i : ℕ) (t : T) → slice_get rs i ≡ Some (symbol.Tree t) → IsLookCount i t
      → CanPerform m types d gs rs step → (m.Expanded d t → ⊥) → length gs + look_at_gates m types d t ≤ 2 ^ 30
  look_room i t at is can new = by (is_seen can.seen i) refl (is can)
    where
      by : (b : Bool) → is_seen can.seen i ≡ b → (if b then 0 else look_at_gates m types d t)
          ≡ step_gates m types can.sorts can.heights (m.looks d) (m.compares d) can.seen (length rs) step
          → length gs + look_at_gates m types d t ≤ 2 ^ 30
      by true found same = absurd (new (can.expanded.expanded i found t at))
      by false found same = subst (λ n. length gs + n ≤ 2 ^ 30) (sym same) can.room

  -- a call that adds nothing to the circuit moves by nothing
  moves_still : (e : D) (hs : List Gate) (n : ℕ) → Moves m types d gs e hs n → hs ≡ gs → Moves m types d gs e hs 0
  moves_still e hs n moves same = record {
    grows = subst (λ is. Grows gs is 0) (sym same) (Grows_none gs);
    fits = moves.fits;
    nodes = moves.nodes;
    stands = moves.stands;
    back = moves.back;
  }

  -- where it is, nothing is left
  pub look_leaves : (i : ℕ) (t : T) → slice_get rs i ≡ Some (symbol.Tree t) → IsLookCount i t → (e : D)
      (hs : List Gate) → Moves m types d gs e hs (look_at_gates m types d t) → (m.Expanded d t → hs ≡ gs)
      → Leaves m types d gs rs step e hs
  look_leaves i t at is e hs moves still can = by (is_seen can.seen i) refl (is can)
    where
      by : (b : Bool) → is_seen can.seen i ≡ b → (if b then 0 else look_at_gates m types d t)
          ≡ step_gates m types can.sorts can.heights (m.looks d) (m.compares d) can.seen (length rs) step
          → Moves m types d gs e hs
          (step_gates m types can.sorts can.heights (m.looks d) (m.compares d) can.seen (length rs) step)
      by true found same =
          subst (λ n. Moves m types d gs e hs n) same
          (moves_still e hs (look_at_gates m types d t) moves (still (can.expanded.expanded i found t at)))
      by false found same = subst (λ n. Moves m types d gs e hs n) same moves
