-- Registers, and what is known by them, over calls and with one register more.
use Rattle.std.proofs.Common.{◌≡◌, ℕ, ◌<◌, Bool, List, [], ◌∷◌, ◌++◌, length, Some, slice_get, sym, ap, ◌∙◌}
use Rattle.std.proofs.Common.{subst, arith, ◌⊎◌, inl, inr}
use Rattle.pp_prog.specs.declared.sort.Sort.{Sort}
use Rattle.pp_prog.specs.declared.sort.Sort.TheVariants as sort
use Rattle.pp_prog.specs.declared.types.TypeTable.{TypeTable}
use Rattle.pp_prog.specs.declared.value.Value.{Value}
use Rattle.pp_gate.specs.declared.gate.Gate.{Gate}
use Rattle.pp_gate.proofs.Places.{at_left, at_push}
use Rattle.pp_domain.specs.declared.symbol.Symbol.{Symbol}
use Rattle.pp_domain.specs.declared.symbol.Symbol.TheVariants as symbol
use Rattle.pp_domain.specs.Moves.{Moves}
use Rattle.pp_domain.specs.Naming.{Naming}
use Rattle.pp_domain.specs.Sense.{Sense}
use Rattle.pp_domain.specs.Symbols.{IsSymbol, SymbolStands, symbol_height}
use Rattle.pp_domain.proofs.Symbols.{IsSymbol_later, SymbolStands_later, symbol_height_later}
use Rattle.pp_domain.proofs.Composition.{agree_self}
use Rattle.pp_steps.specs.Gates.{Heights}
use Rattle.pp_steps.specs.Meaning.{Values}
use Rattle.pp_steps.specs.Sorted.{Sorts}
use Rattle.pp_build.specs.Registers.{AreRegisters, IsKnown}

module _ {D T : Type 0} (m : Sense D T) (types : TypeTable) where
  -- a symbol stood before for what it stands for later
  pub SymbolStands_earlier : (d e : D) (gs hs : List Gate) (k : ℕ) (n : Naming) (a : ℕ → Bool) (s : Sort)
      (x : Symbol T) (v : Value) → Moves m types d gs e hs k → IsSymbol m d gs s x → SymbolStands m e a n x v
      → SymbolStands m d a n x v
  SymbolStands_earlier d e gs hs k n a s (symbol.Word w) v moves is stands = stands
  SymbolStands_earlier d e gs hs k n a s (symbol.Bit l) v moves is stands = stands
  SymbolStands_earlier d e gs hs k n a (sort.Tree of) (symbol.Tree t) v moves is stands =
      (moves.stands n a a t v is.0 (agree_self (length gs) a)).1 stands
  SymbolStands_earlier d e gs hs k n a sort.Int (symbol.Tree t) v moves is stands = absurd is
  SymbolStands_earlier d e gs hs k n a sort.Bool (symbol.Tree t) v moves is stands = absurd is

  pub AreRegisters_later : (d e : D) (gs hs : List Gate) (k : ℕ) (σ : Sorts) (η : Heights) (rs : List (Symbol T))
      → Moves m types d gs e hs k → AreRegisters m d gs σ η rs → AreRegisters m e hs σ η rs
  AreRegisters_later d e gs hs k σ η rs moves are = record {
    of = λ i r at. IsSymbol_later m types d e gs hs k (σ i) r moves (are.of i r at);
    high = λ i r at. symbol_height_later m types d e gs hs k (σ i) r moves (are.of i r at) ∙ are.high i r at;
  }

  pub AreRegisters_push : (e : D) (hs : List Gate) (σ : Sorts) (η : Heights) (rs : List (Symbol T)) (r : Symbol T)
      → AreRegisters m e hs σ η rs → IsSymbol m e hs (σ (length rs)) r → symbol_height m e r ≡ η (length rs)
      → AreRegisters m e hs σ η (rs ++ r ∷ [])
  AreRegisters_push e hs σ η rs r are is high = record {
    of = λ i x at. of_case i x (at_push rs r i x at);
    high = λ i x at. high_case i x (at_push rs r i x at);
  }
    where
      of_case : (i : ℕ) (x : Symbol T) → (slice_get rs i ≡ Some x) ⊎ ((i ≡ length rs) × (r ≡ x))
          → IsSymbol m e hs (σ i) x
      of_case i x (inl at) = are.of i x at
      of_case i x (inr last) =
          subst (λ y. IsSymbol m e hs (σ i) y) last.1 (subst (λ j. IsSymbol m e hs (σ j) r) (sym last.0) is)

      high_case : (i : ℕ) (x : Symbol T) → (slice_get rs i ≡ Some x) ⊎ ((i ≡ length rs) × (r ≡ x))
          → symbol_height m e x ≡ η i
      high_case i x (inl at) = are.high i x at
      high_case i x (inr last) =
          ap (symbol_height m e) (sym last.1) ∙ high ∙ ap η (sym last.0)

  -- what is known stays known, with one register more
  pub IsKnown_later : (d e : D) (gs hs : List Gate) (k : ℕ) (a : ℕ → Bool) (n : Naming) (σ : Sorts) (η : Heights)
      (ρ : Values) (rs : List (Symbol T)) (r : Symbol T) (i : ℕ) → Moves m types d gs e hs k
      → AreRegisters m d gs σ η rs → IsKnown m types d a n σ ρ rs i → IsKnown m types e a n σ ρ (rs ++ r ∷ []) i
  IsKnown_later d e gs hs k a n σ η ρ rs r i moves are known = record {
    register = known.register;
    at = at_left rs (r ∷ []) i known.register known.at;
    stands = SymbolStands_later m types d e gs hs k n a a (σ i) known.register (ρ i) moves
        (are.of i known.register known.at) (agree_self (length gs) a) known.stands;
    sorted = known.sorted;
  }

  -- and what is known of a step that had a register was known
  pub IsKnown_earlier : (d e : D) (gs hs : List Gate) (k : ℕ) (a : ℕ → Bool) (n : Naming) (σ : Sorts) (η : Heights)
      (ρ : Values) (rs : List (Symbol T)) (r : Symbol T) (i : ℕ) → Moves m types d gs e hs k
      → AreRegisters m d gs σ η rs → i < length rs → IsKnown m types e a n σ ρ (rs ++ r ∷ []) i
      → IsKnown m types d a n σ ρ rs i
  IsKnown_earlier d e gs hs k a n σ η ρ rs r i moves are lt known = by (at_push rs r i known.register known.at)
    where
      by : (slice_get rs i ≡ Some known.register) ⊎ ((i ≡ length rs) × (r ≡ known.register))
          → IsKnown m types d a n σ ρ rs i
      by (inl at) = record {
        register = known.register;
        at = at;
        stands = SymbolStands_earlier d e gs hs k n a (σ i) known.register (ρ i) moves (are.of i known.register at)
            known.stands;
        sorted = known.sorted;
      }
      by (inr last) = absurd (omega (arith, last.0))
