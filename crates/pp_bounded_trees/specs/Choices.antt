-- Literals of which exactly one is true. (own)
use Rattle.std.specs.Prelude.{◌≡◌, ℕ, ◌+◌, Bool, true, List, [], ◌∷◌, length, Some, slice_get}
use Rattle.pp_clause.specs.Literal.{Literal, lit_value}
use Rattle.pp_gate.specs.declared.gate.Gate.{Gate}
use Rattle.pp_gate.specs.Circuit.{Gives, IsOf}
use Rattle.pp_gate.specs.Laws.{AgreeUpTo}
use Rattle.pp_bits.specs.Number.{lit_bit}

-- how many of them are true
abbrev pub true_in : (ℕ → Bool) → List Literal → ℕ
true_in a [] = 0
true_in a (l ∷ ls) = lit_bit a l + true_in a ls

-- an assignment of the new circuit that goes on from `a`, under which the literal is true
pub record Picked (gs hs : List Gate) (a : ℕ → Bool) (l : Literal) : Type 0 where
  pub next : ℕ → Bool
  pub gives : Gives next hs
  pub keeps : AgreeUpTo (length gs) a next
  pub is : lit_value next l ≡ true

-- literals of the circuit, of which exactly one is true, and each can be
pub record AreChoices (gs hs : List Gate) (ls : List Literal) : Type 0 where
  pub of : (j : ℕ) (l : Literal) → slice_get ls j ≡ Some l → IsOf hs l
  pub one : (a : ℕ → Bool) → Gives a hs → true_in a ls ≡ 1
  pub picked : (a : ℕ → Bool) (j : ℕ) (l : Literal) → Gives a gs → slice_get ls j ≡ Some l → Picked gs hs a l
