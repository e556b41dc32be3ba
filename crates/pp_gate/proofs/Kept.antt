-- Gates that are equal are one gate, an inserted gate leaves a circuit, and an input holds its own variable.
use Rattle.std.proofs.Common.{◌≡◌, ℕ, ◌+◌, ◌-◌, ◌≤◌, Bool, true, false, if◌then◌else◌, List, [], ◌∷◌, ◌++◌, length}
use Rattle.std.proofs.Common.{slice_get, Some, refl, sym, ap, ◌∙◌, ◌⊎◌, inl, inr, arith, rules}
use Rattle.std.specs.List.{list_any}
use Rattle.std.proofs.lemmas.Bool.{false≢true}
use Rattle.std.proofs.lemmas.Map.Keys.{any_passes_from_place}
use Rattle.std.proofs.lemmas.Option.{slice_get_within}
use Rattle.indexmap.specs.IndexSet.{insert_key}
use Rattle.pp_gate.specs.Circuit.{IsCircuit, FitsAfter}
use Rattle.pp_gate.specs.declared.gate.Gate.{Gate}
use Rattle.pp_gate.specs.declared.gate.Gate.TheVariants.{Truth, Input, And, Xor, Mux, Majority}
use Rattle.pp_gate.specs.contracts.gate.GatePartialEq.TheImpl.{ghosts}
use Rattle.pp_gate.specs.contracts.gate.GateEq.TheImpl.Laws.{laws-law}
use Rattle.pp_gate.proofs.Places.{at_left, at_push}

-- gates that `==` takes for equal are one gate
pub gate_same : (a b : Gate) → ghosts.eq a b ≡ true → a ≡ b
gate_same Truth Truth e = refl
gate_same (Input x) (Input y) e = search rules
gate_same (And a b) (And c d) e = search rules
gate_same (Xor a b) (Xor c d) e = search rules
gate_same (Mux a b c) (Mux d f g) e = search rules
gate_same (Majority a b c) (Majority d f g) e = search rules
gate_same _ _ e = cc

IsCircuit-push : (gs : List Gate) (g : Gate) → IsCircuit gs → FitsAfter (length gs) g
    → ((k : ℕ) → slice_get gs k ≡ Some g → ⊥) → IsCircuit (gs ++ g ∷ [])
IsCircuit-push gs g is fits new = record {
  first = at_left gs (g ∷ []) 0 Truth is.first;
  fits = λ k h at. elim (at_push gs g k h at) [ inl a ↦ is.fits k h a | inr b ↦ rw (b.0, ← b.1) fits ];
  apart = λ j k h one other. elim (at_push gs g j h one) [
    | inl a ↦ elim (at_push gs g k h other) [ inl b ↦ is.apart j k h a b | inr d ↦ absurd (new j (rw d.1 a)) ]
    | inr c ↦ elim (at_push gs g k h other) [ inl b ↦ absurd (new k (rw c.1 b)) | inr d ↦ c.0 ∙ sym d.0 ]
  ];
}

pub IsCircuit-insert : (gs new : List Gate) (g : Gate) → IsCircuit gs → FitsAfter (length gs) g
    → new ≡ insert_key ghosts.eq gs g → IsCircuit new
IsCircuit-insert gs new g is fits e = rw e (by (list_any (ghosts.eq g) gs) refl)
  where
    by : (b : Bool) → list_any (ghosts.eq g) gs ≡ b → IsCircuit (if b then gs else gs ++ g ∷ [])
    by true h = is
    by false h = IsCircuit-push gs g is fits
        (λ k at. false≢true (sym h ∙ any_passes_from_place (ghosts.eq g) gs k g at (laws-law.refl g)))

-- an input that isn't there yet is added
pub input_added : (gs new : List Gate) (n k : ℕ) → n ≡ length gs → IsCircuit new → (new ≡ gs)
    ⊎ (new ≡ gs ++ Input (n + 1) ∷ []) → slice_get new k ≡ Some (Input (n + 1)) → new ≡ gs ++ Input (length gs + 1) ∷ []
input_added gs new n k count is (inr e) at = e ∙ ap (λ (m : ℕ). gs ++ Input (m + 1) ∷ []) count
input_added gs new n k count is (inl e) at =
    absurd (omega (arith, is.fits k (Input (n + 1)) at, slice_get_within new k (Input (n + 1)) at, ap length e))

-- an input holds its own variable
pub input_var : (gs : List Gate) (n x : ℕ) → IsCircuit gs → slice_get gs (x - 1) ≡ Some (Input n) → 1 ≤ x → x ≡ n
input_var gs n x is at low = omega (arith, is.fits (x - 1) (Input n) at)
