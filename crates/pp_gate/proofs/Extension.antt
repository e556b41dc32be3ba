-- The assignment that the inputs determine, made a variable at a time; and the assignments that extend another.
use Rattle.std.proofs.Common.{◌≡◌, ℕ, zero, suc, ◌+◌, ◌-◌, Bool, false, leb, if◌then◌else◌, List, [], ◌∷◌, ◌++◌}
use Rattle.std.proofs.Common.{slice_get, Some, refl, sym, ap, ◌∙◌, subst, ◌⊎◌, inl, inr, ◌<◌, ◌≤◌, length, arith}
use Rattle.std.proofs.lemmas.Bool.{cases_lt, le-leb, lt-leb}
use Rattle.std.proofs.lemmas.List.{get_or_append_left, get_or_push, length_push}
use Rattle.std.proofs.lemmas.Option.{slice_get_within}
use Rattle.pp_clause.specs.Assignment.{assigned}
use Rattle.pp_gate.specs.declared.gate.Gate.{Gate}
use Rattle.pp_gate.specs.declared.gate.Gate.TheVariants.{Input}
use Rattle.pp_gate.specs.Gate.{gate_value}
use Rattle.pp_gate.specs.Circuit.{FitsAfter, IsCircuit, Gives}
use Rattle.pp_gate.specs.Completion.{next_value}
use Rattle.pp_gate.specs.Laws.{AgreeUpTo, AgreeOnInputs, InputsComplete, GrowthExtends}
use Rattle.pp_gate.proofs.Places.{at_left, at_some}
use Rattle.pp_gate.proofs.Agreement.{gate_agree, operand_within, agree_on}
use Rattle.pp_gate.proofs.Growing.{length-Grows}

-- each of the first n variables has the value of its gate, and an input that of `values`
pub record CompletedTo (n : ℕ) (gs : List Gate) (values t : ℕ → Bool) : Type 0 where
  pub value : (k : ℕ) (g : Gate) → k < n → slice_get gs k ≡ Some g → t (k + 1) ≡ next_value t values g

-- the next value depends on the variables before it alone
next_agree : (n : ℕ) (s t values : ℕ → Bool) (g : Gate) → FitsAfter n g → AgreeUpTo n s t
    → next_value s values g ≡ next_value t values g
next_agree n s t values (Input x) f a = refl
next_agree n s t values g f a = gate_agree n s t g f a (λ x e. cc)

next_is : (n : ℕ) (t values : ℕ → Bool) (g : Gate) → FitsAfter n g → t (n + 1) ≡ next_value t values g
    → t (n + 1) ≡ gate_value t g
next_is n t values (Input x) f e = ap t (sym f)
next_is n t values g f e = e

-- one variable more
pub completed_next : (n : ℕ) (gs : List Gate) (values : ℕ → Bool) (old new : List Bool) (v : Bool) (g : Gate)
    → IsCircuit gs → slice_get gs n ≡ Some g → length old ≡ n → v ≡ next_value (assigned old) values g
    → new ≡ old ++ v ∷ [] → CompletedTo n gs values (assigned old) → CompletedTo (n + 1) gs values (assigned new)
completed_next n gs values old new v g is at len next pushed before = record {
  value = λ k h below there. this k h below there (cases_lt k n)
      ∙ next_agree k (assigned old) (assigned new) values h (is.fits k h there)
      (record { agree = λ x low high. kept x low (omega arith) });
}
  where
    kept : (x : ℕ) → 1 ≤ x → x ≤ n → assigned old x ≡ assigned new x
    kept x low high = rw pushed (sym (get_or_append_left old (v ∷ []) false (x - 1) (omega arith)))

    this : (k : ℕ) (h : Gate) → k < n + 1 → slice_get gs k ≡ Some h → (k < n) ⊎ (n ≤ k)
        → assigned new (k + 1) ≡ next_value (assigned old) values h
    this k h below there (inl earlier) =
        sym (kept (k + 1) (omega arith) (omega arith)) ∙ before.value k h earlier there
    this k h below there (inr last) =
        let same : k ≡ n = omega arith in
        let one : g ≡ h = cc (ap (slice_get gs) same) in
        let value : assigned new (k + 1) ≡ v = rw pushed (get_or_push old v false (k + 1 - 1) (omega arith)) in
        value ∙ next ∙ ap (next_value (assigned old) values) one

-- all variables
pub completed_all : (n : ℕ) (gs : List Gate) (values t : ℕ → Bool) → IsCircuit gs → length gs ≤ n
    → CompletedTo n gs values t → Gives t gs × AgreeOnInputs gs values t
completed_all n gs values t is le all = (
  record { gives = λ k g at. next_is k t values g (is.fits k g at) (value k g at) },
  record {
    agree = λ x input. sym (ap t (is.fits (x - 1) (Input x) input.stands) ∙ value (x - 1) (Input x) input.stands);
  },
)
  where
    value : (k : ℕ) (g : Gate) → slice_get gs k ≡ Some g → t (k + 1) ≡ next_value t values g
    value k g at = all.value k g (omega (arith, slice_get_within gs k g at)) at

pub inputs_complete : InputsComplete
inputs_complete gs is values =
    let all = first (length gs) (omega arith) in
    let whole = completed_all (length gs) gs values (assigned all.0) is (omega arith) all.2 in
    record { assignment = assigned all.0; gives = whole.0; inputs = whole.1 }
  where
    -- the values of the first n variables
    first : (n : ℕ) → n ≤ length gs → (bs : List Bool) × (length bs ≡ n) × CompletedTo n gs values (assigned bs)
    first zero le = ([], refl, record { value = λ k g below at. absurd (omega arith) })
    first (suc n) le =
        let before = first n (omega arith) in
        let here = at_some gs n (omega arith) in
        let v = next_value (assigned before.0) values here.0 in
        let next = completed_next n gs values before.0 (before.0 ++ v ∷ []) v here.0 is here.1 before.1 refl refl
        before.2 in (
          before.0 ++ v ∷ [],
          omega (arith, length_push before.0 v, before.1),
          subst (λ (m : ℕ). CompletedTo m gs values (assigned (before.0 ++ v ∷ []))) (omega arith) next,
        )

-- with the old inputs as `s` has them and the new ones as `values` has them, the old variables keep their values
pub growth_extends : GrowthExtends
growth_extends old new n grows is s values gives =
    let all = inputs_complete new is (λ x. if leb x (length old) then s x else values x) in
    record {
      assignment = all.assignment;
      gives = all.gives;
      keeps = record {
        agree = λ x low high.
            agree_on new is (λ y. y ≤ length old)
            (λ k g l le at o. let of = operand_within k g l (is.fits k g at) o in omega (arith, of.most))
            s all.assignment (λ k g at le. gives.gives k g (at_old k g le at)) all.gives
            (λ y le input. rw (le-leb y (length old) le) at (all.inputs.agree y input))
            x low (omega (arith, (length-Grows old new n grows).0)) high;
      };
      inputs = λ x above input. rw (lt-leb x (length old) above) at (all.inputs.agree x input);
    }
  where
    at_old : (k : ℕ) (g : Gate) → k + 1 ≤ length old → slice_get new k ≡ Some g → slice_get old k ≡ Some g
    at_old k g le at =
        let was = at_some old k (omega arith) in
        was.1 ∙ sym (rw grows.is (at_left old grows.added k was.0 was.1)) ∙ at
