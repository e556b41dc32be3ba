-- Which steps can be performed, and what the register of a performed step is. Source: own.
use Rattle.std.specs.Prelude.{◌≡◌, true, ℕ, ◌+◌, ◌^◌, ◌≤◌, Bool, List, [], ◌∷◌, ◌++◌, length}
use Rattle.pp_prog.specs.declared.types.TypeTable.{TypeTable}
use Rattle.pp_gate.specs.declared.gate.Gate.{Gate}
use Rattle.pp_domain.specs.declared.symbol.Symbol.{Symbol}
use Rattle.pp_domain.specs.Moves.{Moves}
use Rattle.pp_domain.specs.Naming.{Naming}
use Rattle.pp_domain.specs.Sense.{Sense, Good, Extended}
use Rattle.pp_domain.specs.Symbols.{IsSymbol, symbol_height}
use Rattle.pp_steps.specs.declared.step.Step.{Step}
use Rattle.pp_steps.specs.Gates.{Heights, height_of}
use Rattle.pp_steps.specs.Known.{Tells}
use Rattle.pp_steps.specs.Meaning.{Does, Missing, Values}
use Rattle.pp_steps.specs.Reads.{Reads}
use Rattle.pp_steps.specs.Sorted.{IsSorted, Sorts}
use Rattle.pp_build.specs.Followed.{Compares, Follows}
use Rattle.pp_build.specs.StepGates.{KeepsLooks, looked_trees, step_gates}
use Rattle.pp_build.specs.Registers.{AreExpanded, AreRegisters, IsKnown}

module _ {D T : Type 0} (m : Sense D T) (types : TypeTable) where
  -- the step looks at steps that have registers and has a sort, the trees of some steps are expanded, and there is room
  -- for the step's gates
  pub record CanPerform (d : D) (gs : List Gate) (rs : List (Symbol T)) (step : Step) : Type 0 where
    pub sorts : Sorts
    pub heights : Heights
    pub registers : AreRegisters m d gs sorts heights rs
    pub reads : Reads (length rs) step
    pub sorted : IsSorted types sorts step (sorts (length rs))
    pub seen : List ℕ
    pub expanded : AreExpanded m d rs seen
    pub room : length gs + step_gates m types sorts heights (m.looks d) (m.compares d) seen (length rs) step ≤ 2 ^ 30

  -- what performing the step leaves, also where it ends in want of memory: at most the step's gates are added
  abbrev pub Leaves : (d : D) (gs : List Gate) (rs : List (Symbol T)) (step : Step) (e : D) (hs : List Gate) → Type 0
  Leaves d gs rs step e hs =
      (can : CanPerform d gs rs step)
      → Moves m types d gs e hs
      (step_gates m types can.sorts can.heights (m.looks d) (m.compares d) can.seen (length rs) step)

  -- the step's register: a symbol of the step's sort and height; the tree that it looks at is expanded. In an exact
  -- domain each good assignment extends over it; in another one those under which all registers stand for their steps'
  -- values do, and so does this one. Where values obey the step and those of the operands on which its value depends
  -- are known, its value is.
  pub record IsPerformed (d : D) (gs : List Gate) (rs : List (Symbol T)) (step : Step) (σ : Sorts) (η : Heights)
      (seen : List ℕ) (e : D) (hs : List Gate) (r : Symbol T) : Type 0 where
    pub of : IsSymbol m e hs (σ (length rs)) r
    pub high : symbol_height m e r ≡ height_of types σ η (length rs) step
    pub extends : m.exact ≡ true → (n : Naming) (a : ℕ → Bool) → Good m types d gs n a → Extended m types gs n a e hs
    pub looks : KeepsLooks m d e σ seen (length rs) step
    pub expanded : AreExpanded m e (rs ++ r ∷ []) (looked_trees (length rs) step)
    pub follows : Follows m types d gs rs step σ e hs r
    pub known : (n : Naming) (a : ℕ → Bool) (ρ : Values) (missing : Missing) → Good m types e hs n a
        → Compares m types σ step → Does types.ctors missing ρ step (ρ (length rs))
        → Tells ρ (IsKnown m types e a n σ ρ (rs ++ r ∷ [])) step (length rs)

  -- it is, for the sorts, heights and expanded trees by which it could be performed
  abbrev pub Performs : (d : D) (gs : List Gate) (rs : List (Symbol T)) (step : Step) (e : D) (hs : List Gate)
      → Symbol T → Type 0
  Performs d gs rs step e hs r =
      (can : CanPerform d gs rs step) → IsPerformed d gs rs step can.sorts can.heights can.seen e hs r
