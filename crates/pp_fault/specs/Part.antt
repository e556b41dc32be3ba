-- What typing a part of a unit gives: its typing, or a fault. Source: own.
use Rattle.std.specs.Prelude.{◌≡◌, ℕ, List, Result, Ok, Err}
use Rattle.pp_fault.specs.declared.Fault.{Fault}
use Rattle.pp_fault.specs.declared.Halt.{Halt}
use Rattle.pp_fault.specs.declared.Halt.TheVariants.{Memory, Broken}
use Rattle.pp_fault.specs.declared.Rule.{Rule}

-- a typing, or a fault
abbrev pub Part : Type 0 → Type 0
Part A = Result A Fault

abbrev pub and_then : {A B : Type 0} → Part A → (A → Part B) → Part B
and_then (Ok a) go = go a
and_then (Err f) go = Err f

-- the fault of this rule with this name at this place
abbrev pub fault : {A : Type 0} → Rule → List ℕ → ℕ → ℕ → Part A
fault rule name source at = Err (record { rule = rule; name = name; source = source; at = at })

-- what a call that may be out of memory tells of a part
abbrev pub Tells : {A : Type 0} → Result A Halt → Part A → Type 0
Tells (Ok a) part = part ≡ Ok a
Tells (Err Memory) part = Unit {0}
Tells (Err (Broken f)) part = part ≡ Err f
