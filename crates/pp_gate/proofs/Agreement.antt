-- Assignments that agree on variables give literals and gates one value.
use Rattle.std.proofs.Common.{◌≡◌, ℕ, zero, suc, ◌+◌, ◌-◌, Bool, true, not, if◌then◌else◌, List, [], ◌∷◌, slice_get}
use Rattle.std.proofs.Common.{Some, Contains, All, refl, sym, ap, ◌∙◌, subst, ◌<◌, ◌≤◌, length, arith}
use Rattle.std.proofs.lemmas.List.Elements.{All-cons, All-nil, All-contains, Contains-get_or}
use Rattle.std.proofs.lemmas.Option.{slice_get_within}
use Rattle.pp_clause.specs.Literal.{Literal, lit_value}
use Rattle.pp_gate.specs.declared.gate.Gate.{Gate}
use Rattle.pp_gate.specs.declared.gate.Gate.TheVariants.{Truth, Input, And, Xor, Mux, Majority}
use Rattle.pp_gate.specs.Gate.{gate_value, operands}
use Rattle.pp_gate.specs.Circuit.{IsWithin, FitsAfter, IsCircuit, IsInput, Gives}
use Rattle.pp_gate.specs.Laws.{AgreeUpTo, InputsDetermine, GrowthKeeps, GivesByVariables, LiteralByVariables}
use Rattle.pp_gate.proofs.Places.{at_left, at_some}

pub agree_along : (m n : ℕ) (r s t : ℕ → Bool) → m ≤ n → AgreeUpTo m r s → AgreeUpTo n s t → AgreeUpTo m r t
agree_along m n r s t le a b = record { agree = λ x low high. a.agree x low high ∙ b.agree x low (omega arith) }

pub lit_agree : (n : ℕ) (s t : ℕ → Bool) (l : Literal) → IsWithin n l → AgreeUpTo n s t → lit_value s l ≡ lit_value t l
lit_agree n s t l of a = ap (λ (v : Bool). if l.positive then v else not v) (a.agree l.var of.least of.most)

-- a positive literal has the value of its variable
pub positive_value : (s : ℕ → Bool) (l : Literal) (x : ℕ) → l.var ≡ x → l.positive ≡ true → lit_value s l ≡ s x
positive_value s l x e p = rw p (ap s e)

pub all_of_one : (n : ℕ) (x : Literal) → IsWithin n x → All (IsWithin n) (x ∷ [])
all_of_one n x p = All-cons (IsWithin n) x [] p (All-nil (IsWithin n))

pub all_of_two : (n : ℕ) (x y : Literal) → IsWithin n x → IsWithin n y → All (IsWithin n) (x ∷ y ∷ [])
all_of_two n x y p q = All-cons (IsWithin n) x (y ∷ []) p (all_of_one n y q)

pub all_of_three : (n : ℕ) (x y z : Literal) → IsWithin n x → IsWithin n y → IsWithin n z
    → All (IsWithin n) (x ∷ y ∷ z ∷ [])
all_of_three n x y z p q r = All-cons (IsWithin n) x (y ∷ z ∷ []) p (all_of_two n y z q r)

-- what a gate stands on is of earlier variables
pub operands_within : (k : ℕ) (g : Gate) → FitsAfter k g → All (IsWithin k) (operands g)
operands_within k Truth f = All-nil (IsWithin k)
operands_within k (Input x) f = All-nil (IsWithin k)
operands_within k (And a b) f = all_of_two k a b f.0 f.1
operands_within k (Xor a b) f = all_of_two k a b f.0 f.1
operands_within k (Mux a b c) f = all_of_three k a b c f.0 f.1.0 f.1.1
operands_within k (Majority a b c) f = all_of_three k a b c f.0 f.1.0 f.1.1

pub operand_within : (k : ℕ) (g : Gate) (l : Literal) → FitsAfter k g → Contains (operands g) l → IsWithin k l
operand_within k g l fits at = All-contains (IsWithin k) (operands g) l (operands_within k g fits) at

-- a gate has one value where its operands have; an input's is the only one that may come from its own variable
gate_same_value : (s t : ℕ → Bool) (g : Gate) → All (λ l. s l.var ≡ t l.var) (operands g)
    → ((x : ℕ) → g ≡ Input x → s x ≡ t x) → gate_value s g ≡ gate_value t g
gate_same_value s t Truth f own = refl
gate_same_value s t (Input x) f own = own x refl
gate_same_value s t (And a b) f own = rw (f 0 a (omega arith), f 1 b (omega arith))
gate_same_value s t (Xor a b) f own = rw (f 0 a (omega arith), f 1 b (omega arith))
gate_same_value s t (Mux a b c) f own = rw (f 0 a (omega arith), f 1 b (omega arith), f 2 c (omega arith))
gate_same_value s t (Majority a b c) f own = rw (f 0 a (omega arith), f 1 b (omega arith), f 2 c (omega arith))

pub gate_agree : (n : ℕ) (s t : ℕ → Bool) (g : Gate) → FitsAfter n g → AgreeUpTo n s t
    → ((x : ℕ) → g ≡ Input x → s x ≡ t x) → gate_value s g ≡ gate_value t g
gate_agree n s t g f a own = gate_same_value s t g
    (λ i d lt. let of = operands_within n g f i d lt in a.agree _ of.least of.most) own

pub gives_by_variables : GivesByVariables
gives_by_variables gs is s t a gives = record {
  gives = λ k g at.
      let in_range : k < length gs = slice_get_within gs k g at in
      let fits = is.fits k g at in
      sym (a.agree (k + 1) (omega arith) (omega arith)) ∙ gives.gives k g at
      ∙ gate_agree k s t g fits (record { agree = λ x low high. a.agree x low (omega arith) })
      (λ x e. let own : x ≡ k + 1 = rw e at fits in a.agree x (omega arith) (omega arith));
}

pub literal_by_variables : LiteralByVariables
literal_by_variables gs l of s t a = lit_agree (length gs) s t l of a

pub Gives_old : GrowthKeeps
Gives_old old new n grows s gives = record {
  gives = λ k g at. gives.gives k g
      (rw grows.is (at_left old grows.added k g at));
}

-- two assignments with the same inputs agree on variables with which each one's gate has its operands, where both give
-- those gates their values; n bounds the variables so far
pub agree_on : (gs : List Gate) → IsCircuit gs → (P : ℕ → Type 0)
    → ((k : ℕ) (g : Gate) (l : Literal) → P (k + 1) → slice_get gs k ≡ Some g → Contains (operands g) l → P l.var)
    → (s t : ℕ → Bool) → ((k : ℕ) (g : Gate) → slice_get gs k ≡ Some g → P (k + 1) → s (k + 1) ≡ gate_value s g)
    → Gives t gs → ((x : ℕ) → P x → IsInput gs x → s x ≡ t x) → (x : ℕ) → 1 ≤ x → x ≤ length gs → P x → s x ≡ t x
agree_on gs is P closed s t part all inputs x low high on = up_to x x low (omega arith) high on
  where
    up_to : (n x : ℕ) → 1 ≤ x → x ≤ n → x ≤ length gs → P x → s x ≡ t x
    up_to zero x low le high on = absurd (omega arith)
    up_to (suc n) x low le high on =
        let here = at_some gs (x - 1) (omega arith) in
        let fits = is.fits (x - 1) here.0 here.1 in
        let back : x ≡ x - 1 + 1 = omega arith in
        let on_gate : P (x - 1 + 1) = subst P back on in
        let same : gate_value s here.0 ≡ gate_value t here.0 = gate_same_value s t here.0
        (λ i d lt. let of = operands_within (x - 1) here.0 fits i d lt in
        up_to n _ of.least (omega (arith, of.most)) (omega (arith, of.most))
        (closed (x - 1) here.0 _ on_gate here.1 (Contains-get_or (operands here.0) i d lt)))
        (λ y e. let own : y ≡ x = omega (arith, rw e at fits) in
        inputs y (subst P (sym own) on)
        (record { stands = ap (λ (z : ℕ). slice_get gs (z - 1)) own ∙ here.1 ∙ ap Some e })) in
        rw back (part (x - 1) here.0 here.1 on_gate ∙ same ∙ sym (all.gives (x - 1) here.0 here.1))

pub inputs_determine : InputsDetermine
inputs_determine gs is s t gs_s gs_t inputs = record {
  agree = λ x low high.
      agree_on gs is (λ y. Unit {0}) (λ k g l on at o. tt) s t (λ k g at on. gs_s.gives k g at) gs_t
      (λ y on at. inputs.agree y at) x low high tt;
}
