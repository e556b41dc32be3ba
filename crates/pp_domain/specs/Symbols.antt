-- Symbols and lists of them: which are of a domain, and which values they stand for. (own)
use Rattle.std.specs.Prelude.{◌≡◌, ℕ, Bool, List, [], ◌∷◌, All, length}
use Rattle.std.specs.Int.{w32}
use Rattle.pp_prog.specs.declared.sort.Sort.{Sort}
use Rattle.pp_prog.specs.declared.sort.Sort.TheVariants as sort
use Rattle.pp_prog.specs.declared.value.Value.{Value}
use Rattle.pp_prog.specs.declared.value.Value.TheVariants as value
use Rattle.pp_clause.specs.Literal.{lit_value}
use Rattle.pp_gate.specs.declared.gate.Gate.{Gate}
use Rattle.pp_gate.specs.Circuit.{IsOf}
use Rattle.pp_wordgate.specs.Meaning.{word_of}
use Rattle.pp_domain.specs.declared.symbol.Symbol.{Symbol}
use Rattle.pp_domain.specs.declared.symbol.Symbol.TheVariants as symbol
use Rattle.pp_domain.specs.Naming.{Naming}
use Rattle.pp_domain.specs.Sense.{Sense}

-- the symbol is a word or a literal, and no tree
abbrev pub IsWordSymbol : {T : Type 0} → Symbol T → Type 0
IsWordSymbol (symbol.Tree t) = ⊥
IsWordSymbol x = Unit {0}

module _ {D T : Type 0} (m : Sense D T) where
  -- the symbol is of the domain and the circuit, and of this sort
  abbrev pub IsSymbol : D → List Gate → Sort → Symbol T → Type 0
  IsSymbol d gs sort.Int (symbol.Word w) = (length w ≡ 32) × All (IsOf gs) w
  IsSymbol d gs sort.Bool (symbol.Bit l) = IsOf gs l
  IsSymbol d gs (sort.Tree of) (symbol.Tree t) = m.Node d t × (m.data_of d t ≡ of)
  IsSymbol d gs _ _ = ⊥

  -- so is each symbol of the list, of the sort at its place
  abbrev pub AreSymbols : D → List Gate → List Sort → List (Symbol T) → Type 0
  AreSymbols d gs [] [] = Unit {0}
  AreSymbols d gs (s ∷ ss) (x ∷ xs) = IsSymbol d gs s x × AreSymbols d gs ss xs
  AreSymbols d gs _ _ = ⊥

  -- under the assignment and the naming the symbol stands for the value
  abbrev pub SymbolStands : D → (ℕ → Bool) → Naming → Symbol T → Value → Type 0
  SymbolStands d a n (symbol.Word w) v = v ≡ value.Int (word_of w32 a w)
  SymbolStands d a n (symbol.Bit l) v = v ≡ value.Bool (lit_value a l)
  SymbolStands d a n (symbol.Tree t) v = m.Stands d a n t v

  -- so does each symbol of the list for the value at its place
  abbrev pub SymbolsStand : D → (ℕ → Bool) → Naming → List (Symbol T) → List Value → Type 0
  SymbolsStand d a n [] [] = Unit {0}
  SymbolsStand d a n (x ∷ xs) (v ∷ vs) = SymbolStands d a n x v × SymbolsStand d a n xs vs
  SymbolsStand d a n _ _ = ⊥

  -- the height of a symbol: that of its tree, and 0 of a word and a bit
  abbrev pub symbol_height : D → Symbol T → ℕ
  symbol_height d (symbol.Word w) = 0
  symbol_height d (symbol.Bit l) = 0
  symbol_height d (symbol.Tree t) = m.height d t
