-- Which steps can be built on given registers, and what the registers of all steps are. Source: own.
use Rattle.std.specs.Prelude.{◌≡◌, ℕ, ◌+◌, ◌^◌, ◌≤◌, Bool, true, false, List, [], Some, drop, take, length}
use Rattle.std.specs.Prelude.{slice_get}
use Rattle.pp_prog.specs.declared.types.TypeTable.{TypeTable}
use Rattle.pp_gate.specs.declared.gate.Gate.{Gate}
use Rattle.pp_domain.specs.declared.symbol.Symbol.{Symbol}
use Rattle.pp_domain.specs.Naming.{Naming}
use Rattle.pp_domain.specs.Sense.{Sense, Good, Extended}
use Rattle.pp_steps.specs.declared.step.Step.{Step}
use Rattle.pp_steps.specs.Gates.{AllHigh, Heights}
use Rattle.pp_steps.specs.Known.{AllTell, Tells}
use Rattle.pp_steps.specs.Meaning.{Does, Missing, Obeys, Values}
use Rattle.pp_steps.specs.Reads.{AllRead}
use Rattle.pp_steps.specs.Sorted.{AllSorted, Sorts}
use Rattle.pp_build.specs.Followed.{CanFollowAll, Compares, GoesAll}
use Rattle.pp_build.specs.StepGates.{all_step_gates}
use Rattle.pp_build.specs.Registers.{AreRegisters, IsKnown}

module _ {D T : Type 0} (m : Sense D T) (types : TypeTable) where
  -- the steps look at earlier ones and have sorts, the first of them have registers already, and there is room for so
  -- many gates, as many as the others take at most
  pub record CanBuild (d : D) (gs : List Gate) (steps : List Step) (qs : List (Symbol T)) (most : ℕ) : Type 0 where
    pub sorts : Sorts
    pub heights : Heights
    pub reads : AllRead 0 steps
    pub sorted : AllSorted types sorts 0 steps
    pub registers : AreRegisters m d gs sorts heights qs
    pub fewer : length qs ≤ length steps
    pub high : AllHigh types sorts heights (length qs) (drop (length qs) steps)
    pub few : all_step_gates m types sorts heights (m.looks d) (m.compares d) [] (length qs) (drop (length qs) steps)
        ≤ most
    pub room : length gs + most ≤ 2 ^ 30

  -- each step has a register, and the old ones stand first. In an exact domain each good assignment extends; in another
  -- one those do under which the registers stand for their steps' values, and then so does each new one. Where values
  -- obey the new steps, what is known of them goes from the operands of each to its own.
  pub record IsBuilt (d : D) (gs : List Gate) (steps : List Step) (qs : List (Symbol T)) (σ : Sorts) (η : Heights)
      (e : D) (hs : List Gate) (rs : List (Symbol T)) : Type 0 where
    pub many : length rs ≡ length steps
    pub front : take (length qs) rs ≡ qs
    pub registers : AreRegisters m e hs σ η rs
    pub extends : m.exact ≡ true → (n : Naming) (a : ℕ → Bool) → Good m types d gs n a → Extended m types gs n a e hs
    pub follows : m.exact ≡ false → (n : Naming) (a : ℕ → Bool) (ρ : Values) (missing : Missing)
        → CanFollowAll m types d gs qs steps σ n a ρ missing → GoesAll m types gs n a e hs ρ rs
    pub known : (n : Naming) (a : ℕ → Bool) (ρ : Values) (missing : Missing) (k : ℕ) (s : Step)
        → Good m types e hs n a → length qs ≤ k → slice_get steps k ≡ Some s → Compares m types σ s
        → Does types.ctors missing ρ s (ρ k) → Tells ρ (IsKnown m types e a n σ ρ rs) s k
    pub all_known : m.exact ≡ true → (n : Naming) (a : ℕ → Bool) (ρ : Values) (missing : Missing)
        → Good m types e hs n a → Obeys types.ctors missing ρ (length qs) (drop (length qs) steps)
        → AllTell ρ (IsKnown m types e a n σ ρ rs) (length qs) (drop (length qs) steps)
