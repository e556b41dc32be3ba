-- Circuits that grow by several calls: what a caller of them cites.
use Rattle.std.proofs.Common.{◌⊎◌, inl, inr, ◌∷◌, ◌≡◌, ℕ, ◌+◌, ◌-◌, ◌≤◌, List, [], ◌++◌, length, sym, ap, ◌∙◌}
use Rattle.std.proofs.Common.{append_assoc, length-append, arith}
use Rattle.std.proofs.lemmas.List.{append-nil}
use Rattle.pp_clause.specs.Literal.{Literal}
use Rattle.pp_gate.specs.declared.gate.Gate.{Gate}
use Rattle.pp_gate.specs.declared.gate.Gate.TheVariants.{Input}
use Rattle.pp_gate.specs.Circuit.{IsOf, IsInput, IsCircuit}
use Rattle.pp_gate.specs.Growth.{Grows, AddsGates}
use Rattle.pp_gate.proofs.Places.{at_left, at_push}

pub Grows_none : (gs : List Gate) → Grows gs gs 0
Grows_none gs = record { added = []; is = sym (append-nil gs); most = omega arith }

pub Grows_weaker : (old new : List Gate) (m n : ℕ) → Grows old new m → m ≤ n → Grows old new n
Grows_weaker old new m n g le = record { added = g.added; is = g.is; most = omega arith }

pub Grows_more : (a b c : List Gate) (m n k : ℕ) → Grows a b m → Grows b c n → m + n ≤ k → Grows a c k
Grows_more a b c m n k g h le = record {
  added = g.added ++ h.added;
  is = h.is ∙ ap (λ (l : List Gate). l ++ h.added) g.is ∙ append_assoc a g.added h.added;
  most = simp length-append (omega arith);
}

pub length-Grows : (old new : List Gate) (n : ℕ) → Grows old new n → (length old ≤ length new)
    × (length new ≤ length old + n)
length-Grows old new n g =
    let e : length new ≡ length old + length g.added = ap length g.is ∙ length-append old g.added in
    (omega arith, omega arith)

pub IsOf_more : (old new : List Gate) (n : ℕ) (l : Literal) → Grows old new n → IsOf old l → IsOf new l
IsOf_more old new n l g of = record { least = of.least; most = omega (arith, (length-Grows old new n g).0) }

pub IsInput_more : (old new : List Gate) (n x : ℕ) → Grows old new n → IsInput old x → IsInput new x
IsInput_more old new n x g is = record { stands = rw g.is (at_left old g.added (x - 1) (Input x) is.stands) }

AddsGates_from : (old new : List Gate) (n : ℕ) → Grows old new n → ((x : ℕ) → IsInput new x → IsInput old x)
    → IsCircuit new → AddsGates old new n
AddsGates_from old new n grows inputs is =
    record { grows = grows; inputs = inputs; circuit = is; literals = λ l of. IsOf_more old new n l grows of }

pub AddsGates_none : (gs : List Gate) (n : ℕ) → IsCircuit gs → AddsGates gs gs n
AddsGates_none gs n is = AddsGates_from gs gs n (Grows_weaker gs gs 0 n (Grows_none gs) (omega arith)) (λ x h. h) is

pub AddsGates_more : (a b c : List Gate) (m n k : ℕ) → AddsGates a b m → AddsGates b c n → m + n ≤ k → AddsGates a c k
AddsGates_more a b c m n k g h le = record {
  grows = Grows_more a b c m n k g.grows h.grows le;
  inputs = λ x is. g.inputs x (h.inputs x is);
  circuit = h.circuit;
  literals = λ l of. h.literals l (g.literals l of);
}

pub AddsGates_weaker : (old new : List Gate) (m n : ℕ) → AddsGates old new m → m ≤ n → AddsGates old new n
AddsGates_weaker old new m n g le = AddsGates_more old new new m 0 n g (AddsGates_none new 0 g.circuit) (omega arith)

-- a gate that isn't an input, where it is the only one that may have come in
pub AddsGates_one : (old new : List Gate) (g : Gate) → ((x : ℕ) → g ≡ Input x → ⊥) → IsCircuit new → (new ≡ old)
    ⊎ (new ≡ old ++ g ∷ []) → AddsGates old new 1
AddsGates_one old new g other is (inl e) = rw e (AddsGates_none old 1 (rw e at is))
AddsGates_one old new g other is (inr e) =
    AddsGates_from old new 1 (record { added = g ∷ []; is = e; most = omega arith })
    (λ x input. elim (at_push old g (x - 1) (Input x) (rw e at input.stands)) [
      | inl a ↦ record { stands = a }
      | inr b ↦ absurd (other x b.1)
    ]) is
