-- The gates on which literals stand, marked from the last one down; and the assignments that give them their values.
use Rattle.std.proofs.Common.{◌≡◌, ℕ, ◌+◌, ◌<◌, ◌≤◌, Bool, true, false, List, length, slice_get, Some, Contains, All}
use Rattle.std.proofs.Common.{slice_index_or, replicate, sym, ap, ◌∙◌, inl, inr, arith}
use Rattle.std.proofs.lemmas.Bool.{false≢true, cases_Bool, cases_lt}
use Rattle.std.proofs.lemmas.List.{length-replicate}
use Rattle.std.proofs.lemmas.List.Elements.{All-contains}
use Rattle.std.proofs.lemmas.Option.{slice_get_within}
use Rattle.pp_clause.specs.Literal.{Literal}
use Rattle.pp_clause.specs.Assignment.{assigned}
use Rattle.pp_gate.specs.declared.gate.Gate.{Gate}
use Rattle.pp_gate.specs.Gate.{operands}
use Rattle.pp_gate.specs.Circuit.{IsOf, IsCircuit}
use Rattle.pp_gate.specs.Cone.{StandsOn, asked_for, operand, AskedGiven, AskedComplete, AskedKeep}
use Rattle.pp_gate.specs.Marks.{Marks, IsCone}
use Rattle.pp_gate.proofs.Agreement.{agree_on, operand_within}
use Rattle.pp_gate.proofs.Extension.{inputs_complete}
use Rattle.pp_gate.proofs.Marking.{none_marked}
use Rattle.pp_gate.proofs.Places.{at_read}

-- what is marked once the last gates are done, as many as `done` says
pub record IsConeFrom (gs : List Gate) (asked : List Literal) (done : ℕ) (marks : List Bool) : Type 0 where
  pub len : length marks ≡ length gs
  pub asked_marked : (l : Literal) → Contains asked l → assigned marks l.var ≡ true
  pub closed : (k : ℕ) (g : Gate) (l : Literal) → length gs ≤ k + done → slice_get gs k ≡ Some g
      → assigned marks (k + 1) ≡ true → Contains (operands g) l → assigned marks l.var ≡ true
  pub only : (x : ℕ) → 1 ≤ x → assigned marks x ≡ true → StandsOn gs asked x

-- before the first turn the literals themselves are marked
pub cone_start : (gs : List Gate) (asked : List Literal) (marks : List Bool)
    → Marks (replicate (length gs) false) marks asked → IsConeFrom gs asked 0 marks
cone_start gs asked marks m = record {
  len = m.len ∙ length-replicate (length gs) false;
  asked_marked = m.these;
  closed = λ k g l above at marked o. let within : k < length gs = slice_get_within gs k g at in absurd (omega arith);
  only = λ x some h. elim (m.only x some h) [
    | inl before ↦ absurd (none_marked (length gs) x before)
    | inr here ↦ rw (here.2) (asked_for here.0 here.1)
  ];
}

-- of a marked gate the operands are marked, and one that isn't marked needs nothing
pub cone_next : (gs : List Gate) (asked : List Literal) (done i : ℕ) (g : Gate) (old marks : List Bool) → IsCircuit gs
    → g ≡ slice_index_or gs i g → i + done + 1 ≡ length gs
    → (assigned old (i + 1) ≡ true → Marks old marks (operands g)) → (assigned old (i + 1) ≡ false → marks ≡ old)
    → IsConeFrom gs asked done old → IsConeFrom gs asked (done + 1) marks
cone_next gs asked done i g old marks is read place on off c =
    elim (cases_Bool (assigned old (i + 1))) [ inl h ↦ operands_marked h (on h) | inr h ↦ rw (off h) (skipped h) ]
  where
    at : slice_get gs i ≡ Some g
    at = at_read gs i g (omega arith) read

    skipped : assigned old (i + 1) ≡ false → IsConeFrom gs asked (done + 1) old
    skipped h = record {
      len = c.len;
      asked_marked = c.asked_marked;
      closed = λ k x l above there marked. elim (cases_lt i k) [
        | inl later ↦ c.closed k x l (omega arith) there marked
        | inr last ↦ (let same : k ≡ i = omega arith in absurd (false≢true (sym h ∙ rw same at marked)))
      ];
      only = c.only;
    }

    operands_marked : assigned old (i + 1) ≡ true → Marks old marks (operands g) → IsConeFrom gs asked (done + 1) marks
    operands_marked h m = record {
      len = m.len ∙ c.len;
      asked_marked = λ l o. m.stays l.var (c.asked_marked l o);
      closed = λ k x l above there marked o. elim (cases_lt i k) [
        | inl later ↦ elim (m.only (k + 1) (omega arith) marked) [
          | inl before ↦ m.stays l.var (c.closed k x l (omega arith) there before o)
          | inr here ↦ (let low = operand_within i g here.0 (is.fits i g at) here.1 in
              absurd (omega (arith, low.most, here.2)))
        ]
        | inr last ↦ (let same : k ≡ i = omega arith in
            let one : x ≡ g = cc (at, ap (slice_get gs) same) in
            m.these l (rw one at o))
      ];
      only = λ x some marked. elim (m.only x some marked) [
        | inl before ↦ c.only x some before
        | inr here ↦ rw (here.2) (operand i g here.0 (c.only (i + 1) (omega arith) h) at here.1)
      ];
    }

pub cone_end : (gs hs : List Gate) (asked : List Literal) (done : ℕ) (marks : List Bool) → hs ≡ gs → length hs ≤ done
    → IsConeFrom hs asked done marks → IsCone gs asked marks
cone_end gs hs asked done marks same all c = rw (← same) (record { len = c.len; every = every; only = c.only })
  where
    every : (x : ℕ) → StandsOn hs asked x → assigned marks x ≡ true
    every x (asked_for l at) = c.asked_marked l at
    every x (operand k g l on at o) = c.closed k g l (omega arith) at (every (k + 1) on) o

-- ---- the laws

pub asked_given : AskedGiven
asked_given s gs asked all = record { gives = λ k g at on. all.gives k g at }

stood_within : (gs : List Gate) → IsCircuit gs → (asked : List Literal) → All (IsOf gs) asked → (x : ℕ)
    → StandsOn gs asked x → (1 ≤ x) × (x ≤ length gs)
stood_within gs is asked of x (asked_for l at) =
    let within = All-contains (IsOf gs) asked l of at in (within.least, within.most)
stood_within gs is asked of x (operand k g l on at o) =
    let below = operand_within k g l (is.fits k g at) o in
    (below.least, omega (arith, below.most, slice_get_within gs k g at))

pub asked_keep : AskedKeep
asked_keep gs is asked s t of part all inputs x on =
    let within = stood_within gs is asked of x on in
    agree_on gs is (StandsOn gs asked) (λ k g l from at o. operand k g l from at o) s t part.gives all
    (λ y from at. inputs.agree y at) x within.0 within.1 on

pub asked_complete : AskedComplete
asked_complete gs is asked s of part =
    let all = inputs_complete gs is s in
    record {
      assignment = all.assignment;
      gives = all.gives;
      inputs = all.inputs;
      keeps = asked_keep gs is asked s all.assignment of part all.gives all.inputs;
    }
