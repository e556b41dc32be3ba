-- Symbols of which nothing is known but their sort and their height. Source: own.
use Rattle.std.specs.Prelude.{◌≡◌, ◌≤◌, ℕ, Bool, true, false, List, map, All, IsTrue}
use Rattle.pp_prog.specs.declared.sort.Sort.{Sort}
use Rattle.pp_prog.specs.declared.types.TypeTable.{TypeTable}
use Rattle.pp_prog.specs.declared.value.Value.{Value}
use Rattle.pp_prog.specs.Sizes.{height_at}
use Rattle.pp_prog.specs.Sorts.{have_sorts}
use Rattle.pp_prog.specs.Values.{height as value_height}
use Rattle.pp_gate.specs.declared.gate.Gate.{Gate}
use Rattle.pp_domain.specs.declared.symbol.Symbol.{Symbol}
use Rattle.pp_domain.specs.Naming.{Naming, Names}
use Rattle.pp_domain.specs.Sense.{Sense, Good, Extended}
use Rattle.pp_domain.specs.Symbols.{AreSymbols, SymbolsStand, symbol_height}

-- each value has the sort at its place, and at most this height
pub record AreUpTo (types : TypeTable) (sorts : List Sort) (h : ℕ) (vs : List Value) : Type 0 where
  pub sorted : IsTrue (have_sorts types.ctors vs sorts)
  pub low : All (λ v. value_height v ≤ h) vs

module _ {D T : Type 0} (m : Sense D T) (types : TypeTable) where
  -- under the assignment the symbols stand for values of the sorts, of at most this height
  pub record StandUpTo (e : D) (a : ℕ → Bool) (n : Naming) (sorts : List Sort) (h : ℕ) (rs : List (Symbol T))
      : Type 0 where
    pub values : List Value
    pub stand : SymbolsStand m e a n rs values
    pub are : AreUpTo types sorts h values

  -- symbols that can stand together for any values of the sorts up to the height, and stand for no others
  pub record AreUnknown (d : D) (gs : List Gate) (e : D) (hs : List Gate) (sorts : List Sort) (h : ℕ)
      (rs : List (Symbol T)) : Type 0 where
    pub symbols : AreSymbols m e hs sorts rs
    pub heights : map (symbol_height m e) rs ≡ map (height_at h) sorts
    pub bounded : m.exact ≡ true → (n : Naming) (a : ℕ → Bool) → Good m types e hs n a → StandUpTo e a n sorts h rs
    pub chosen : m.exact ≡ true → (n : Naming) (a : ℕ → Bool) (vs : List Value) → Good m types d gs n a
        → AreUpTo types sorts h vs
        → (x : Extended m types gs n a e hs) × SymbolsStand m e x.next n rs vs
    pub named : m.exact ≡ false → (n : Naming) (a : ℕ → Bool) (vs : List Value) → Good m types d gs n a
        → IsTrue (have_sorts types.ctors vs sorts) → All (Names types n) vs
        → (x : Extended m types gs n a e hs) × SymbolsStand m e x.next n rs vs
