-- Symbols and lists of symbols over calls: they are kept, and stand for what they stood for.
use Rattle.std.proofs.Common.{◌≡◌, ℕ, List, [], ◌∷◌, length, Bool, All, refl, sym, ap, ◌∙◌}
use Rattle.std.specs.Int.{Width, w32, cast_signed}
use Rattle.pp_prog.specs.declared.sort.Sort.{Sort}
use Rattle.pp_prog.specs.declared.sort.Sort.TheVariants as sort
use Rattle.pp_prog.specs.declared.types.TypeTable.{TypeTable}
use Rattle.pp_prog.specs.declared.value.Value.{Value}
use Rattle.pp_prog.specs.declared.value.Value.TheVariants as value
use Rattle.pp_clause.specs.Literal.{Literal}
use Rattle.pp_gate.specs.declared.gate.Gate.{Gate}
use Rattle.pp_gate.specs.Circuit.{IsOf}
use Rattle.pp_gate.specs.Laws.{AgreeUpTo}
use Rattle.pp_gate.proofs.Agreement.{lit_agree}
use Rattle.pp_gate.proofs.Growing.{IsOf_more}
use Rattle.pp_bits.proofs.Growing.{AreOf_more}
use Rattle.pp_bits.proofs.Chosen.{nat_of_agree}
use Rattle.pp_wordgate.specs.Meaning.{word_of}
use Rattle.pp_domain.specs.declared.symbol.Symbol.{Symbol}
use Rattle.pp_domain.specs.declared.symbol.Symbol.TheVariants as symbol
use Rattle.pp_domain.specs.Naming.{Naming}
use Rattle.pp_domain.specs.Sense.{Sense, Good}
use Rattle.pp_domain.specs.Symbols.{IsSymbol, AreSymbols, SymbolStands, SymbolsStand, symbol_height}
use Rattle.pp_domain.specs.Moves.{Moves}
use Rattle.pp_domain.specs.Laws.{Lawful}

-- the integer of a word of the circuit depends on the variables of the circuit alone
pub word_of_agree : (w : Width) (gs : List Gate) (a b : ℕ → Bool) (ls : List Literal) → All (IsOf gs) ls
    → AgreeUpTo (length gs) a b → word_of w a ls ≡ word_of w b ls
unfolding word_of
word_of_agree w gs a b ls of agree = ap (λ (v : ℕ). cast_signed w v) (nat_of_agree gs a b ls of agree)

module _ {D T : Type 0} (m : Sense D T) (types : TypeTable) where
  pub IsSymbol_later : (d e : D) (gs hs : List Gate) (k : ℕ) (s : Sort) (x : Symbol T) → Moves m types d gs e hs k
      → IsSymbol m d gs s x → IsSymbol m e hs s x
  IsSymbol_later d e gs hs k sort.Int (symbol.Word w) moves is = (is.0, AreOf_more gs hs k w moves.grows is.1)
  IsSymbol_later d e gs hs k sort.Bool (symbol.Bit l) moves is = IsOf_more gs hs k l moves.grows is
  IsSymbol_later d e gs hs k (sort.Tree of) (symbol.Tree t) moves is =
      let keeps = moves.nodes t is.0 in (keeps.node, keeps.data_of ∙ is.1)
  IsSymbol_later d e gs hs k sort.Int (symbol.Bit l) moves is = absurd is
  IsSymbol_later d e gs hs k sort.Int (symbol.Tree t) moves is = absurd is
  IsSymbol_later d e gs hs k sort.Bool (symbol.Word w) moves is = absurd is
  IsSymbol_later d e gs hs k sort.Bool (symbol.Tree t) moves is = absurd is
  IsSymbol_later d e gs hs k (sort.Tree of) (symbol.Word w) moves is = absurd is
  IsSymbol_later d e gs hs k (sort.Tree of) (symbol.Bit l) moves is = absurd is

  pub AreSymbols_later : (d e : D) (gs hs : List Gate) (k : ℕ) (ss : List Sort) (xs : List (Symbol T))
      → Moves m types d gs e hs k → AreSymbols m d gs ss xs → AreSymbols m e hs ss xs
  AreSymbols_later d e gs hs k [] [] moves are = tt
  AreSymbols_later d e gs hs k (s ∷ ss) (x ∷ xs) moves are =
      (IsSymbol_later d e gs hs k s x moves are.0, AreSymbols_later d e gs hs k ss xs moves are.1)
  AreSymbols_later d e gs hs k [] (x ∷ xs) moves are = absurd are
  AreSymbols_later d e gs hs k (s ∷ ss) [] moves are = absurd are

  pub symbol_height_later : (d e : D) (gs hs : List Gate) (k : ℕ) (s : Sort) (x : Symbol T) → Moves m types d gs e hs k
      → IsSymbol m d gs s x → symbol_height m e x ≡ symbol_height m d x
  symbol_height_later d e gs hs k s (symbol.Word w) moves is = refl
  symbol_height_later d e gs hs k s (symbol.Bit l) moves is = refl
  symbol_height_later d e gs hs k (sort.Tree of) (symbol.Tree t) moves is = (moves.nodes t is.0).height
  symbol_height_later d e gs hs k sort.Int (symbol.Tree t) moves is = absurd is
  symbol_height_later d e gs hs k sort.Bool (symbol.Tree t) moves is = absurd is

  pub SymbolStands_later : (d e : D) (gs hs : List Gate) (k : ℕ) (n : Naming) (a b : ℕ → Bool) (s : Sort) (x : Symbol T)
      (v : Value) → Moves m types d gs e hs k → IsSymbol m d gs s x → AgreeUpTo (length gs) a b
      → SymbolStands m d a n x v → SymbolStands m e b n x v
  SymbolStands_later d e gs hs k n a b sort.Int (symbol.Word w) v moves is agree stands =
      stands ∙ ap value.Int (word_of_agree w32 gs a b w is.1 agree)
  SymbolStands_later d e gs hs k n a b sort.Bool (symbol.Bit l) v moves is agree stands =
      stands ∙ ap value.Bool (lit_agree (length gs) a b l is agree)
  SymbolStands_later d e gs hs k n a b (sort.Tree of) (symbol.Tree t) v moves is agree stands =
      (moves.stands n a b t v is.0 agree).0 stands
  SymbolStands_later d e gs hs k n a b sort.Int (symbol.Bit l) v moves is agree stands = absurd is
  SymbolStands_later d e gs hs k n a b sort.Int (symbol.Tree t) v moves is agree stands = absurd is
  SymbolStands_later d e gs hs k n a b sort.Bool (symbol.Word w) v moves is agree stands = absurd is
  SymbolStands_later d e gs hs k n a b sort.Bool (symbol.Tree t) v moves is agree stands = absurd is
  SymbolStands_later d e gs hs k n a b (sort.Tree of) (symbol.Word w) v moves is agree stands = absurd is
  SymbolStands_later d e gs hs k n a b (sort.Tree of) (symbol.Bit l) v moves is agree stands = absurd is

  pub SymbolsStand_later : (d e : D) (gs hs : List Gate) (k : ℕ) (n : Naming) (a b : ℕ → Bool) (ss : List Sort)
      (xs : List (Symbol T)) (vs : List Value) → Moves m types d gs e hs k → AreSymbols m d gs ss xs
      → AgreeUpTo (length gs) a b → SymbolsStand m d a n xs vs → SymbolsStand m e b n xs vs
  SymbolsStand_later d e gs hs k n a b ss [] [] moves are agree stand = tt
  SymbolsStand_later d e gs hs k n a b (s ∷ ss) (x ∷ xs) (v ∷ vs) moves are agree stand = (
    SymbolStands_later d e gs hs k n a b s x v moves are.0 agree stand.0,
    SymbolsStand_later d e gs hs k n a b ss xs vs moves are.1 agree stand.1,
  )
  SymbolsStand_later d e gs hs k n a b [] (x ∷ xs) (v ∷ vs) moves are agree stand = absurd are
  SymbolsStand_later d e gs hs k n a b ss [] (v ∷ vs) moves are agree stand = absurd stand
  SymbolsStand_later d e gs hs k n a b ss (x ∷ xs) [] moves are agree stand = absurd stand

  -- under a good assignment a symbol stands for at most one value
  pub symbol_single : Lawful m → (d : D) (gs : List Gate) (n : Naming) (a : ℕ
      → Bool) (s : Sort) (x : Symbol T) (v w : Value)
      → m.Fits types d gs → Good m types d gs n a → IsSymbol m d gs s x → SymbolStands m d a n x v
      → SymbolStands m d a n x w
      → v ≡ w
  symbol_single law d gs n a s (symbol.Word l) v w fits good is one other = one ∙ sym other
  symbol_single law d gs n a s (symbol.Bit l) v w fits good is one other = one ∙ sym other
  symbol_single law d gs n a (sort.Tree of) (symbol.Tree t) v w fits good is one other =
      law.single types d gs n a t v w fits good is.0 one other
  symbol_single law d gs n a sort.Int (symbol.Tree t) v w fits good is one other = absurd is
  symbol_single law d gs n a sort.Bool (symbol.Tree t) v w fits good is one other = absurd is
