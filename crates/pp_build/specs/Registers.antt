-- Registers: the symbols of the first steps, by number, and what they tell of the steps' values. Source: own.
use Rattle.std.specs.Prelude.{◌≡◌, ℕ, ◌<◌, Bool, true, List, Some, IsTrue, length, slice_get}
use Rattle.std.specs.List.{AllZip}
use Rattle.pp_prog.specs.declared.types.TypeTable.{TypeTable}
use Rattle.pp_prog.specs.Sorts.{has_sort}
use Rattle.pp_clause.specs.Literal.{Literal}
use Rattle.pp_gate.specs.declared.gate.Gate.{Gate}
use Rattle.pp_domain.specs.declared.symbol.Symbol.{Symbol}
use Rattle.pp_domain.specs.declared.symbol.Symbol.TheVariants as symbol
use Rattle.pp_domain.specs.Naming.{Naming}
use Rattle.pp_domain.specs.Sense.{Sense}
use Rattle.pp_domain.specs.Symbols.{IsSymbol, SymbolStands, symbol_height}
use Rattle.pp_steps.specs.Gates.{Heights}
use Rattle.pp_steps.specs.Meaning.{Values}
use Rattle.pp_steps.specs.Sorted.{Sorts}
use Rattle.pp_build.specs.StepGates.{is_seen}

module _ {D T : Type 0} (m : Sense D T) where
  -- each register is a symbol of its step's sort, and has its step's height
  pub record AreRegisters (d : D) (gs : List Gate) (σ : Sorts) (η : Heights) (rs : List (Symbol T)) : Type 0 where
    pub of : (k : ℕ) (r : Symbol T) → slice_get rs k ≡ Some r → IsSymbol m d gs (σ k) r
    pub high : (k : ℕ) (r : Symbol T) → slice_get rs k ≡ Some r → symbol_height m d r ≡ η k

  -- the steps with these numbers have registers, of which the trees are expanded
  pub record AreExpanded (d : D) (rs : List (Symbol T)) (ks : List ℕ) : Type 0 where
    pub within : (k : ℕ) → is_seen ks k ≡ true → k < length rs
    pub expanded : (k : ℕ) → is_seen ks k ≡ true → (t : T) → slice_get rs k ≡ Some (symbol.Tree t) → m.Expanded d t

  -- the value of step number k is known: it has the step's sort, and under the assignment the register stands for it
  pub record IsKnown (types : TypeTable) (e : D) (a : ℕ → Bool) (n : Naming) (σ : Sorts) (ρ : Values)
      (rs : List (Symbol T)) (k : ℕ) : Type 0 where
    pub register : Symbol T
    pub at : slice_get rs k ≡ Some register
    pub stands : SymbolStands m e a n register (ρ k)
    pub sorted : IsTrue (has_sort types.ctors (ρ k) (σ k))

-- the symbols are the registers with these numbers
abbrev pub AreAt : {T : Type 0} → List (Symbol T) → List ℕ → List (Symbol T) → Type 0
AreAt rs = AllZip (λ k x. slice_get rs k ≡ Some x)

-- the literal is that of the register with this number, if that is a literal
pub record IsLiteralAt {T : Type 0} (rs : List (Symbol T)) (number : ℕ) (l : Literal) : Type 0 where
  pub is : (own : Literal) → slice_get rs number ≡ Some (symbol.Bit own) → l ≡ own
