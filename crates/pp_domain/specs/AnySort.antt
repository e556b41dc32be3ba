-- What the operations on symbols of any sort answer: choosing, equality, and a symbol of which nothing is known. (own)
use Rattle.std.specs.Prelude.{◌≡◌, ◌↔◌, ◌≤◌, max, ℕ, Bool, true, false, if◌then◌else◌, List, IsTrue}
use Rattle.pp_prog.specs.declared.sort.Sort.{Sort}
use Rattle.pp_prog.specs.declared.types.TypeTable.{TypeTable}
use Rattle.pp_prog.specs.declared.value.Value.{Value}
use Rattle.pp_prog.specs.Sizes.{by_sort, height_at}
use Rattle.pp_prog.specs.Sorts.{has_sort}
use Rattle.pp_prog.specs.Values.{height as value_height}
use Rattle.pp_clause.specs.Literal.{Literal, lit_value}
use Rattle.pp_gate.specs.declared.gate.Gate.{Gate}
use Rattle.pp_gate.specs.Circuit.{IsOf}
use Rattle.pp_domain.specs.declared.symbol.Symbol.{Symbol}
use Rattle.pp_domain.specs.declared.symbol.Symbol.TheVariants as symbol
use Rattle.pp_domain.specs.Moves.{SameLooks}
use Rattle.pp_domain.specs.Naming.{Naming, Names}
use Rattle.pp_domain.specs.Sense.{Sense, Good, Extended, Inexact}
use Rattle.pp_domain.specs.Symbols.{IsSymbol, SymbolStands, symbol_height}
use Rattle.pp_domain.specs.Allowance.{merge_gates, equal_gates, unknown_gates}

-- the value has the sort, and at most this height
pub record IsUpTo (types : TypeTable) (s : Sort) (h : ℕ) (v : Value) : Type 0 where
  pub sorted : IsTrue (has_sort types.ctors v s)
  pub low : value_height v ≤ h

module _ {D T : Type 0} (m : Sense D T) (types : TypeTable) where
  -- the gates of a choice, and of a comparison, of two symbols of one sort; and of a new symbol
  abbrev pub choose_gates : D → Symbol T → Symbol T → ℕ
  choose_gates d (symbol.Word a) (symbol.Word b) = 32
  choose_gates d (symbol.Bit a) (symbol.Bit b) = 1
  choose_gates d (symbol.Tree t) (symbol.Tree u) = merge_gates m types d t u
  choose_gates d _ _ = 0

  abbrev pub compare_gates : D → Symbol T → Symbol T → ℕ
  compare_gates d (symbol.Word a) (symbol.Word b) = 64
  compare_gates d (symbol.Bit a) (symbol.Bit b) = 1
  compare_gates d (symbol.Tree t) (symbol.Tree u) = equal_gates m types d t u
  compare_gates d _ _ = 0

  abbrev pub fresh_gates : Sort → ℕ → ℕ
  fresh_gates s h = by_sort 32 1 (λ of. unknown_gates m types of h) s

  -- the two symbols are of one sort
  pub record AreOfOneSort (d : D) (gs : List Gate) (left right : Symbol T) : Type 0 where
    pub sort : Sort
    pub first : IsSymbol m d gs sort left
    pub second : IsSymbol m d gs sort right

  -- the left value where the choice is true, and else the right one
  pub record IsChoice (d : D) (gs : List Gate) (e : D) (hs : List Gate) (choice : Literal) (left right r : Symbol T)
      : Type 0
    where
      pub of : (s : Sort) → IsSymbol m d gs s left → IsSymbol m e hs s r
      pub height : symbol_height m e r ≡ max (symbol_height m d left) (symbol_height m d right)
      pub means : (n : Naming) (a : ℕ → Bool) (v : Value) → Good m types e hs n a
          → SymbolStands m e a n (if lit_value a choice then left else right) v → SymbolStands m e a n r v
      pub extends : (n : Naming) (a : ℕ → Bool) → Good m types d gs n a
          → Inexact m ((v w : Value) × SymbolStands m d a n left v × SymbolStands m d a n right w
          × Names types n (if lit_value a choice then v else w))
          → Extended m types gs n a e hs

  -- whether the two values are equal
  pub record IsSame (d : D) (gs : List Gate) (e : D) (hs : List Gate) (left right : Symbol T) (l : Literal) : Type 0
    where
      pub of : IsOf hs l
      pub means : (n : Naming) (a : ℕ → Bool) (v w : Value) → Good m types e hs n a → SymbolStands m e a n left v
          → SymbolStands m e a n right w → (lit_value a l ≡ true) ↔ (v ≡ w)
      pub extends : (n : Naming) (a : ℕ → Bool) → Good m types d gs n a
          → Inexact m ((v w : Value) × SymbolStands m d a n left v × SymbolStands m d a n right w)
          → Extended m types gs n a e hs

  -- under the assignment the symbol stands for a value of the sort, of at most this height
  pub record SymbolStandsUpTo (e : D) (a : ℕ → Bool) (n : Naming) (s : Sort) (h : ℕ) (r : Symbol T) : Type 0 where
    pub value : Value
    pub stands : SymbolStands m e a n r value
    pub is : IsUpTo types s h value

  -- a symbol that can stand for each value of the sort up to the height, and stands for no other. With the height 0 a
  -- tree stands for nothing, and each good assignment extends over it.
  pub record IsUnknownSymbol (d : D) (gs : List Gate) (e : D) (hs : List Gate) (s : Sort) (h : ℕ) (r : Symbol T)
      : Type 0 where
    pub of : IsSymbol m e hs s r
    pub height : symbol_height m e r ≡ height_at h s
    pub looks : SameLooks m d e
    pub bounded : m.exact ≡ true → 1 ≤ h → (n : Naming) (a : ℕ → Bool) → Good m types e hs n a
        → SymbolStandsUpTo e a n s h r
    pub chosen : m.exact ≡ true → (n : Naming) (a : ℕ → Bool) (v : Value) → Good m types d gs n a → IsUpTo types s h v
        → (x : Extended m types gs n a e hs) × SymbolStands m e x.next n r v
    pub named : m.exact ≡ false → (n : Naming) (a : ℕ → Bool) (v : Value) → Good m types d gs n a
        → IsTrue (has_sort types.ctors v s) → Names types n v
        → (x : Extended m types gs n a e hs) × SymbolStands m e x.next n r v
    pub extends : m.exact ≡ true → h ≡ 0 → (n : Naming) (a : ℕ → Bool) → Good m types d gs n a
        → Extended m types gs n a e hs
