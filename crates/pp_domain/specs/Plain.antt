-- Symbols of numbers and truth values, which stand for their values without a domain. (own)
use Rattle.std.specs.Prelude.{◌≡◌, ℕ, ◌<◌, ◌^◌, ℤ, Bool, true, false, List, All, length}
use Rattle.std.specs.Int.{w32}
use Rattle.std.specs.Int.RustNames.{FitsSigned}
use Rattle.pp_prog.specs.declared.sort.Sort.{Sort}
use Rattle.pp_prog.specs.declared.sort.Sort.TheVariants as sort
use Rattle.pp_prog.specs.declared.value.Value.{Value}
use Rattle.pp_prog.specs.declared.value.Value.TheVariants as value
use Rattle.pp_prog.specs.Sizes.{by_sort}
use Rattle.pp_clause.specs.Literal.{Literal, lit_value}
use Rattle.pp_gate.specs.declared.gate.Gate.{Gate}
use Rattle.pp_gate.specs.Circuit.{Gives, IsOf}
use Rattle.pp_gate.specs.Laws.{AgreeUpTo}
use Rattle.pp_bits.specs.Number.{nat_of}
use Rattle.pp_wordgate.specs.Meaning.{word_of}
use Rattle.pp_domain.specs.declared.symbol.Symbol.{Symbol}
use Rattle.pp_domain.specs.declared.symbol.Symbol.TheVariants as symbol

-- the symbol is of the circuit, and of this sort, which is no datatype
abbrev pub IsPlain : {T : Type 0} → List Gate → Sort → Symbol T → Type 0
IsPlain gs sort.Int (symbol.Word w) = (length w ≡ 32) × All (IsOf gs) w
IsPlain gs sort.Bool (symbol.Bit l) = IsOf gs l
IsPlain gs s x = ⊥

-- under the assignment the symbol stands for the value
abbrev pub PlainStands : {T : Type 0} → (ℕ → Bool) → Symbol T → Value → Type 0
PlainStands a (symbol.Word w) v = v ≡ value.Int (word_of w32 a w)
PlainStands a (symbol.Bit l) v = v ≡ value.Bool (lit_value a l)
PlainStands a (symbol.Tree t) v = ⊥

-- the value is one of the sort, which is no datatype
abbrev pub IsPlainValue : Sort → Value → Type 0
IsPlainValue sort.Int v = (z : ℤ) × (v ≡ value.Int z) × FitsSigned w32 z
IsPlainValue sort.Bool v = (b : Bool) × (v ≡ value.Bool b)
IsPlainValue (sort.Tree d) v = ⊥

-- the numbers of all words
abbrev pub IsAnyWord : ℕ → Type 0
IsAnyWord v = v < 2 ^ 32

-- under the assignment the symbol is 0 or false
abbrev pub IsZero : {T : Type 0} → (ℕ → Bool) → Symbol T → Type 0
IsZero a (symbol.Word w) = nat_of a w ≡ 0
IsZero a (symbol.Bit l) = lit_value a l ≡ false
IsZero a (symbol.Tree t) = ⊥

-- the inputs of a symbol of the sort
abbrev pub plain_gates : Sort → ℕ
plain_gates s = by_sort 32 1 (λ d. 0) s

-- an assignment of the new circuit that goes on from `a`, under which the symbol stands for the value
pub record ChosenPlain {T : Type 0} (gs hs : List Gate) (a : ℕ → Bool) (x : Symbol T) (v : Value) : Type 0 where
  pub next : ℕ → Bool
  pub gives : Gives next hs
  pub keeps : AgreeUpTo (length gs) a next
  pub stands : PlainStands next x v

-- a symbol of inputs, which can stand for each value of the sort
pub record IsUnknownPlain {T : Type 0} (gs hs : List Gate) (s : Sort) (x : Symbol T) : Type 0 where
  pub of : IsPlain hs s x
  pub chosen : (a : ℕ → Bool) (v : Value) → Gives a gs → IsPlainValue s v → ChosenPlain gs hs a x v

-- a symbol that is always 0 or false
pub record IsBlankPlain {T : Type 0} (gs : List Gate) (s : Sort) (x : Symbol T) : Type 0 where
  pub of : IsPlain gs s x
  pub blank : (a : ℕ → Bool) → Gives a gs → IsZero a x

-- an assignment that goes on from `a`, under which the word has this number if the literal is true
pub record ChosenMaskedWord (gs hs : List Gate) (l : Literal) (a : ℕ → Bool) (r : List Literal) (v : ℕ) : Type 0 where
  pub next : ℕ → Bool
  pub gives : Gives next hs
  pub keeps : AgreeUpTo (length gs) a next
  pub is : lit_value a l ≡ true → nat_of next r ≡ v

-- the word is 0 where the literal is false, and can have each number of these where it is true
pub record IsMaskedWord (gs hs : List Gate) (P : ℕ → Type 0) (l : Literal) (r : List Literal) : Type 0 where
  pub len : length r ≡ 32
  pub of : All (IsOf hs) r
  pub blank : (a : ℕ → Bool) → Gives a hs → lit_value a l ≡ false → nat_of a r ≡ 0
  pub chosen : (a : ℕ → Bool) (v : ℕ) → Gives a gs → P v → ChosenMaskedWord gs hs l a r v

-- an assignment that goes on from `a`, under which the symbol stands for the value if the literal is true
pub record ChosenMasked {T : Type 0} (gs hs : List Gate) (l : Literal) (a : ℕ → Bool) (x : Symbol T) (v : Value)
    : Type 0
  where
    pub next : ℕ → Bool
    pub gives : Gives next hs
    pub keeps : AgreeUpTo (length gs) a next
    pub stands : lit_value a l ≡ true → PlainStands next x v

-- a symbol of inputs that is 0 or false where the literal is false, and can stand for each value of the sort where it
-- is true
pub record IsMaskedPlain {T : Type 0} (gs hs : List Gate) (l : Literal) (s : Sort) (x : Symbol T) : Type 0 where
  pub of : IsPlain hs s x
  pub blank : (a : ℕ → Bool) → Gives a hs → lit_value a l ≡ false → IsZero a x
  pub chosen : (a : ℕ → Bool) (v : Value) → Gives a gs → IsPlainValue s v → ChosenMasked gs hs l a x v
