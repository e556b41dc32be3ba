-- One more choice: exactly one literal stays true, and each can be.
use Rattle.std.proofs.Common.{◌≡◌, ℕ, zero, suc, ◌+◌, ◌&&◌, Bool, true, false, not, List, [], ◌∷◌, ◌++◌, length, Some}
use Rattle.std.proofs.Common.{refl, sym, ap, ◌∙◌, subst, arith, slice_get, inl, inr}
use Rattle.std.proofs.lemmas.Option.{same_Some}
use Rattle.pp_clause.specs.Literal.{Literal, lit_value, opposite}
use Rattle.pp_gate.specs.declared.gate.Gate.{Gate}
use Rattle.pp_gate.specs.Circuit.{Gives, IsCircuit, IsInput, IsOf, StandsFor}
use Rattle.pp_gate.specs.Growth.{AddsGates, Grows}
use Rattle.pp_gate.proofs.Agreement.{Gives_old, agree_along, lit_agree}
use Rattle.pp_gate.proofs.Extension.{growth_extends}
use Rattle.pp_gate.proofs.Growing.{Grows_more, IsInput_more, IsOf_more, length-Grows}
use Rattle.pp_gate.proofs.Places.{at_left, at_next, at_push}
use Rattle.pp_bits.specs.Number.{bit, lit_bit}
use Rattle.pp_bits.proofs.Numbers.{lit_value_negated}
use Rattle.pp_bounded_trees.specs.Choices.{AreChoices, Picked, true_in}

pub true_in_push : (a : ℕ → Bool) (ls : List Literal) (l : Literal)
    → true_in a (ls ++ l ∷ []) ≡ true_in a ls + lit_bit a l
true_in_push a [] l = omega arith
true_in_push a (m ∷ ls) l = let r = true_in_push a ls l in omega arith

-- a literal that can be picked can be where gates and inputs come in
pub picked_later : (gs fs hs : List Gate) (k n : ℕ) (a values : ℕ → Bool) (l : Literal) → Grows gs fs k → Grows fs hs n
    → IsCircuit hs → IsOf fs l → Picked gs fs a l → Picked gs hs a l
picked_later gs fs hs k n a values l before grows is of p =
    let x = growth_extends fs hs n grows is p.next values p.gives in record {
      next = x.assignment;
      gives = x.gives;
      keeps = agree_along (length gs) (length fs) a p.next x.assignment (length-Grows gs fs k before).0 p.keeps x.keeps;
      is = sym (lit_agree (length fs) p.next x.assignment l of x.keeps) ∙ p.is;
    }

-- the only one
pub choices_none : (gs : List Gate) (ls : List Literal) (none : Literal) → ls ≡ [] → StandsFor gs none (λ s. true)
    → AreChoices gs gs (ls ++ none ∷ [])
choices_none gs ls none empty stands =
    subst (λ (ms : List Literal). AreChoices gs gs (ms ++ none ∷ [])) (sym empty) (record {
      of = λ j l at. subst (IsOf gs) (one_at j l at) stands.of;
      one = λ a gives. ap (λ b. bit b + 0) (stands.value a gives);
      picked = λ a j l gives at. record {
        next = a;
        gives = gives;
        keeps = record { agree = λ x low high. refl };
        is = ap (lit_value a) (sym (one_at j l at)) ∙ stands.value a gives;
      };
    })
  where
    one_at : (j : ℕ) (l : Literal) → slice_get (none ∷ []) j ≡ Some l → none ≡ l
    one_at zero l at = same_Some none l at
    one_at (suc j) l at = cc

split_bit : (b i : Bool) → bit (b && i) + bit (b && not i) ≡ bit b
split_bit true true = refl
split_bit true false = refl
split_bit false i = refl

module _ (gs fs h1 h2 hs : List Gate) (k : ℕ) (ls ms : List Literal) (none input turned first rest : Literal)
    (before : Grows gs fs k) (grown : Grows fs h1 1) (at_input : IsInput h1 input.var)
    (var : input.var ≡ length fs + 1) (value : (s : ℕ → Bool) → lit_value s input ≡ s (length fs + 1))
    (adds : AddsGates h1 h2 1) (firsts : StandsFor h2 first (λ s. lit_value s none && lit_value s input))
    (negated : turned ≡ opposite input) (more : AddsGates h2 hs 1)
    (rests : StandsFor hs rest (λ s. lit_value s none && lit_value s turned)) (push : ms ≡ ls ++ first ∷ [])
    (now : AreChoices gs fs (ls ++ none ∷ [])) where
  grows : Grows fs hs 3
  grows = Grows_more fs h2 hs 2 1 3 (Grows_more fs h1 h2 1 1 2 grown adds.grows (omega arith)) more.grows (omega arith)

  none_of : IsOf fs none
  none_of = now.of (length ls) none (at_next ls [] none)

  first_value : (a : ℕ → Bool) → Gives a hs → lit_value a first ≡ (lit_value a none && lit_value a input)
  first_value a gives = firsts.value a (Gives_old h2 hs 1 more.grows a gives)

  rest_value : (a : ℕ → Bool) → Gives a hs → lit_value a rest ≡ (lit_value a none && not (lit_value a input))
  rest_value a gives =
      rests.value a gives ∙ ap (λ b. lit_value a none && b) (lit_value_negated a turned input negated)

  of_ls : (j : ℕ) (l : Literal) → slice_get ls j ≡ Some l → IsOf fs l
  of_ls j l at = now.of j l (at_left ls (none ∷ []) j l at)

  all_of : (j : ℕ) (l : Literal) → slice_get ((ls ++ first ∷ []) ++ rest ∷ []) j ≡ Some l → IsOf hs l
  all_of j l at = elim (at_push (ls ++ first ∷ []) rest j l at) [
    | inr last ↦ subst (IsOf hs) last.1 rests.of
    | inl early ↦ elim (at_push ls first j l early) [
      | inl old ↦ IsOf_more fs hs 3 l grows (of_ls j l old)
      | inr new ↦ subst (IsOf hs) new.1 (more.literals first firsts.of)
    ]
  ]

  -- the input has any value, where none has been picked
  extended : (a : ℕ → Bool) (b : Bool) → Gives a gs
      → (x : Picked gs hs a none) × (lit_value x.next input ≡ b)
  extended a b gives =
      let p = now.picked a (length ls) none gives (at_next ls [] none) in
      let x = growth_extends fs hs 3 grows more.circuit p.next (λ v. b) p.gives in
      let there = IsInput_more h1 hs 2 input.var (Grows_more h1 h2 hs 1 1 2 adds.grows more.grows (omega arith))
      at_input in (
        record {
          next = x.assignment;
          gives = x.gives;
          keeps = agree_along (length gs) (length fs) a p.next x.assignment (length-Grows gs fs k before).0 p.keeps
              x.keeps;
          is = sym (lit_agree (length fs) p.next x.assignment none none_of x.keeps) ∙ p.is;
        },
        value x.assignment ∙ ap x.assignment (sym var) ∙ sym (x.inputs input.var (omega arith) there),
      )

  pick_first : (a : ℕ → Bool) → Gives a gs → Picked gs hs a first
  pick_first a gives =
      let x = extended a true gives in record {
        next = x.0.next;
        gives = x.0.gives;
        keeps = x.0.keeps;
        is = first_value x.0.next x.0.gives ∙ both _ _ x.0.is x.1;
      }
    where
      both : (b i : Bool) → b ≡ true → i ≡ true → (b && i) ≡ true
      both true i e f = f
      both false i e f = e

  pick_rest : (a : ℕ → Bool) → Gives a gs → Picked gs hs a rest
  pick_rest a gives =
      let x = extended a false gives in record {
        next = x.0.next;
        gives = x.0.gives;
        keeps = x.0.keeps;
        is = rest_value x.0.next x.0.gives ∙ both _ _ x.0.is x.1;
      }
    where
      both : (b i : Bool) → b ≡ true → i ≡ false → (b && not i) ≡ true
      both true i e f = ap not f
      both false i e f = e

  pub choices_turn : AreChoices gs hs (ms ++ rest ∷ [])
  choices_turn = subst (λ (ns : List Literal). AreChoices gs hs (ns ++ rest ∷ [])) (sym push) (record {
    of = all_of;
    one = λ a gives.
        let split = split_bit (lit_value a none) (lit_value a input) in
        let f : lit_bit a first ≡ bit (lit_value a none && lit_value a input) = ap bit (first_value a gives) in
        let r : lit_bit a rest ≡ bit (lit_value a none && not (lit_value a input)) = ap bit (rest_value a gives) in
        let one = now.one a (Gives_old fs hs 3 grows a gives) in
        let was = true_in_push a ls none in
        let is = true_in_push a (ls ++ first ∷ []) rest in
        let mid = true_in_push a ls first in
        omega (arith, split, f, r, one, was, is, mid);
    picked = λ a j l gives at.
        elim (at_push (ls ++ first ∷ []) rest j l at) [
          | inr last ↦ subst (λ m. Picked gs hs a m) last.1 (pick_rest a gives)
          | inl early ↦ elim (at_push ls first j l early) [
            | inl old ↦ picked_later gs fs hs k 3 a (λ v. true) l before grows more.circuit (of_ls j l old)
                (now.picked a j l gives (at_left ls (none ∷ []) j l old))
            | inr new ↦ subst (λ m. Picked gs hs a m) new.1 (pick_first a gives)
          ]
        ];
  })
