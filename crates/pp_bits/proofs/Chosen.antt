-- Inputs are chosen so that they stand for a number.
use Rattle.std.proofs.Common.{◌≡◌, ℕ, suc, ◌+◌, ◌-◌, ◌*◌, ◌^◌, ◌<◌, ⊎_elim, Bool, true, false, not, if◌then◌else◌, List}
use Rattle.std.proofs.Common.{[], ◌∷◌, ◌++◌, length, take, drop, get_or, All, refl, sym, ap, ◌∙◌, subst, arith}
use Rattle.std.proofs.Common.{length-append}
use Rattle.std.proofs.lemmas.Bool.{cases_lt}
use Rattle.std.proofs.lemmas.List.Elements.{All-push, All-nil}
use Rattle.pp_clause.specs.Literal.{Literal, lit_value}
use Rattle.pp_gate.specs.declared.gate.Gate.{Gate}
use Rattle.pp_gate.specs.Circuit.{IsOf, IsInput, IsCircuit, Gives}
use Rattle.pp_gate.specs.Growth.{Grows}
use Rattle.pp_gate.specs.Laws.{AgreeUpTo, Extended}
use Rattle.pp_gate.proofs.Agreement.{lit_agree, agree_along}
use Rattle.pp_gate.proofs.Extension.{growth_extends}
use Rattle.pp_gate.proofs.Growing.{IsInput_more}
use Rattle.pp_bits.specs.Number.{bit, lit_bit, nat_of}
use Rattle.pp_bits.specs.Inputs.{AreInputs, ChosenNumber}
use Rattle.pp_bits.proofs.Growing.{AreOf_more, length-Grows}
use Rattle.pp_bits.proofs.Numbers.{nat_of_nil, nat_of_cons, nat_of_pushed, nat_of_uncons, power_next, tail_is}

-- assignments that agree on the variables of the circuit give its literals one number
pub nat_of_agree : (gs : List Gate) (s t : ℕ → Bool) (ls : List Literal) → All (IsOf gs) ls → AgreeUpTo (length gs) s t
    → nat_of s ls ≡ nat_of t ls
nat_of_agree gs s t [] of a = nat_of_nil s ∙ sym (nat_of_nil t)
nat_of_agree gs s t (l ∷ ls) of a =
    let here = lit_agree (length gs) s t l (of 0 l (omega arith)) a in
    let rest = nat_of_agree gs s t ls (λ k d lt. of (suc k) d (omega arith)) a in
    nat_of_cons s l ls ∙ (λ i. bit (here i) + 2 * rest i) ∙ sym (nat_of_cons t l ls)

pub inputs_none : (gs : List Gate) (ls : List Literal) → ls ≡ [] → AreInputs gs gs 0 ls
inputs_none gs ls e = subst (AreInputs gs gs 0) (sym e)
    (record {
      len = refl;
      count = omega arith;
      of = All-nil (IsOf gs);
      inputs = All-nil (λ l. IsInput gs l.var);
      fresh =
          All-nil (λ l. length gs < l.var);
    })

pub inputs_push : (old mid new : List Gate) (i : ℕ) (ls all : List Literal) (l : Literal) → Grows old mid i
    → Grows mid new 1 → all ≡ ls ++ l ∷ []
    → IsOf new l → IsInput new l.var → l.var ≡ length mid + 1 → AreInputs old mid i ls → AreInputs old new (i + 1) all
inputs_push old mid new i ls all l before grows e of input var are = subst (AreInputs old new (i + 1)) (sym e) (record {
  len = length-append ls (l ∷ []) ∙ ap (λ n. n + 1) are.len;
  count = omega (arith, var, of.most, (length-Grows mid new 1 grows).1, are.count);
  of = All-push (IsOf new) ls l (AreOf_more mid new 1 ls grows are.of) of;
  inputs = All-push (λ m. IsInput new m.var) ls l (λ k d lt. IsInput_more mid new 1 (get_or ls k d).var grows
      (are.inputs k d lt)) input;
  fresh = All-push (λ m. length old < m.var) ls l are.fresh (omega (arith, (length-Grows old mid i before).0));
})

pub chosen_none : (gs : List Gate) (ls : List Literal) → ls ≡ [] → (s : ℕ → Bool) → Gives s gs → (v : ℕ) → v < 1
    → ChosenNumber gs gs s ls v
chosen_none gs ls e s gives v lt = record {
  assignment = s;
  gives = gives;
  keeps = record { agree = λ x low high. refl };
  number = ap (nat_of s) e ∙ nat_of_nil s ∙ omega arith;
}

-- the next input is the next digit
pub chosen_turn : (old mid new : List Gate) (i : ℕ) (ls all : List Literal) (l : Literal) → Grows old mid i
    → Grows mid new 1 → IsCircuit new → all ≡ ls ++ l ∷ []
    → IsInput new l.var → l.var ≡ length mid + 1 → l.positive ≡ true → AreInputs old mid i ls
    → ((s : ℕ → Bool) → Gives s old → (v : ℕ) → v < 2 ^ i → ChosenNumber old mid s ls v)
    → (s : ℕ → Bool) → Gives s old → (v : ℕ) → v < 2 ^ (i + 1) → ChosenNumber old new s all v
chosen_turn old mid new i ls all l before grows is e input var positive are chosen s gives v lt = ⊎_elim
    (λ low. with_digit false v low (omega arith))
    (λ high. with_digit true (v - 2 ^ i) (let twice = power_next i in omega arith) (omega arith))
    (cases_lt v (2 ^ i))
  where
    with_digit : (b : Bool) (rest : ℕ) → rest < 2 ^ i → rest + 2 ^ i * bit b ≡ v → ChosenNumber old new s all v
    with_digit b rest small whole =
        let lower : ChosenNumber old mid s ls rest = chosen s gives rest small in
        let next : Extended mid new lower.assignment (λ x. b) =
        growth_extends mid new 1 grows is lower.assignment (λ x. b) lower.gives in
        let t = next.assignment in
        let digit : lit_value t l ≡ b =
        ap (λ (p : Bool). if p then t l.var else not (t l.var)) positive
        ∙ sym (next.inputs l.var (omega arith) input) in
        let same : nat_of t ls ≡ rest = sym (nat_of_agree mid lower.assignment t ls are.of next.keeps) ∙ lower.number in
        record {
          assignment = t;
          gives = next.gives;
          keeps = agree_along (length old) (length mid) s lower.assignment t (length-Grows old mid i before).0
              lower.keeps next.keeps;
          number = nat_of_pushed t ls all i l are.len e ∙ (λ j. same j + 2 ^ i * bit (digit j)) ∙ whole;
        }

-- ---- the number that is read

pub number_none : (s : ℕ → Bool) (xs : List Literal) → length xs ≡ 0 → 0 ≡ nat_of s xs
number_none s [] h = sym (nat_of_nil s)
number_none s (x ∷ xs) h = absurd (omega arith)

pub number_turn : (s : ℕ → Bool) (xs : List Literal) (x : Literal) (d above : ℕ) → 0 < length xs → x ≡ get_or xs 0 x
    → d ≡ lit_bit s x
    → above ≡ nat_of s (take (length xs - 1) (drop 1 xs)) → d + 2 * above ≡ nat_of s xs
number_turn s xs x d above some at e f =
    (λ i. e i + 2 * (f ∙ ap (nat_of s) (tail_is xs)) i) ∙ sym (nat_of_uncons s xs x some at)
