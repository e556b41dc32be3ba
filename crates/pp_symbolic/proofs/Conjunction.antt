-- The conjunction of registers, one after another.
use Rattle.std.proofs.Common.{◌≡◌, ℕ, ◌+◌, ◌≤◌, ◌<◌, ◌^◌, ◌&&◌, List, [], ◌∷◌, ◌++◌, length, Bool, true, false, refl}
use Rattle.std.proofs.Common.{sym, ap, ◌∙◌}
use Rattle.std.proofs.Common.{subst, arith, take}
use Rattle.std.proofs.Math.Bool.{and_assoc}
use Rattle.std.specs.Prelude.{slice_get, get_or}
use Rattle.std.proofs.lemmas.List.{take_more}
use Rattle.pp_clause.specs.Literal.{Literal, lit_value}
use Rattle.pp_gate.specs.declared.gate.Gate.{Gate}
use Rattle.pp_gate.specs.Circuit.{IsCircuit, IsOf, StandsFor}
use Rattle.pp_gate.specs.Growth.{AddsGates}
use Rattle.pp_gate.proofs.Agreement.{Gives_old}
use Rattle.pp_gate.proofs.Growing.{AddsGates_more, AddsGates_none, length-Grows}
use Rattle.pp_domain.specs.declared.symbol.Symbol.{Symbol}
use Rattle.pp_symbolic.specs.Guessed.{HaveLiterals, all_bits, register_bit}

and_true : (b : Bool) → b ≡ (b && true)
and_true true = refl
and_true false = refl

module _ {T : Type 0} (s : ℕ → Bool) (rs : List (Symbol T)) where
  bits_push : (ks : List ℕ) (k : ℕ)
      → all_bits s rs (ks ++ k ∷ []) ≡ (all_bits s rs ks && register_bit s (slice_get rs k))
  bits_push [] k = sym (and_true (register_bit s (slice_get rs k)))
  bits_push (j ∷ ks) k =
      ap (λ b. register_bit s (slice_get rs j) && b) (bits_push ks k)
      ∙ sym (and_assoc (register_bit s (slice_get rs j)) (all_bits s rs ks) (register_bit s (slice_get rs k)))

  bits_more : (ks : List ℕ) (i d : ℕ) → i < length ks
      → all_bits s rs (take (i + 1) ks) ≡ (all_bits s rs (take i ks) && register_bit s (slice_get rs (get_or ks i d)))
  bits_more ks i d lt = ap (all_bits s rs) (take_more ks i d lt) ∙ bits_push (take i ks) (get_or ks i d)

-- the literal is true where the first one is and so many registers are
pub record Joins {T : Type 0} (gs : List Gate) (first : Literal) (rs : List (Symbol T)) (ks : List ℕ) (i : ℕ)
    (hs : List Gate) (all : Literal) : Type 0 where
  pub adds : AddsGates gs hs i
  pub stands : StandsFor hs all (λ s. lit_value s first && all_bits s rs (take i ks))

module _ {T : Type 0} (gs : List Gate) (first : Literal) (rs : List (Symbol T)) (ks : List ℕ) where
  pub joins_start : IsCircuit gs → IsOf gs first → Joins gs first rs ks 0 gs first
  joins_start is of = record {
    adds = AddsGates_none gs 0 is;
    stands = record { of = of; value = λ s gives. and_true (lit_value s first) };
  }

  pub literals_later : (i : ℕ) (hs : List Gate) (all : Literal) → Joins gs first rs ks i hs all → HaveLiterals gs rs
      → HaveLiterals hs rs
  literals_later i hs all joins have = record { of = λ k l at. joins.adds.literals l (have.of k l at) }

  pub joins_room : (i : ℕ) (hs : List Gate) (all : Literal) → Joins gs first rs ks i hs all → i < length ks
      → length gs + length ks ≤ 2 ^ 30 → length hs < 2 ^ 30
  joins_room i hs all joins lt room = let grown = (length-Grows gs hs i joins.adds.grows).1 in omega arith

  pub joins_turn : (i : ℕ) (hs is : List Gate) (all one next : Literal) (d : ℕ) → Joins gs first rs ks i hs all
      → i < length ks → StandsFor hs one (λ s. register_bit s (slice_get rs (get_or ks i d))) → AddsGates hs is 1
      → StandsFor is next (λ s. lit_value s all && lit_value s one) → Joins gs first rs ks (i + 1) is next
  joins_turn i hs is all one next d joins lt own adds stands = record {
    adds = AddsGates_more gs hs is i 1 (i + 1) joins.adds adds (omega arith);
    stands = record {
      of = stands.of;
      value = λ s gives.
          let before = Gives_old hs is 1 adds.grows s gives in
          stands.value s gives
          ∙ ap (λ (b : Bool). b && lit_value s one) (joins.stands.value s before)
          ∙ ap (λ (b : Bool). (lit_value s first && all_bits s rs (take i ks)) && b) (own.value s before)
          ∙ and_assoc (lit_value s first) (all_bits s rs (take i ks)) (register_bit s (slice_get rs (get_or ks i d)))
          ∙ ap (λ (b : Bool). lit_value s first && b) (sym (bits_more s rs ks i d lt));
    };
  }

  pub joins_end : (hs : List Gate) (all : Literal) → Joins gs first rs ks (length ks) hs all
      → StandsFor hs all (λ s. lit_value s first && all_bits s rs ks)
  joins_end hs all joins =
      subst (λ (l : List ℕ). StandsFor hs all (λ s. lit_value s first && all_bits s rs l)) (take_whole ks) joins.stands
    where
      take_whole : (xs : List ℕ) → take (length xs) xs ≡ xs
      take_whole [] = refl
      take_whole (x ∷ xs) = ap (λ l. x ∷ l) (take_whole xs)
