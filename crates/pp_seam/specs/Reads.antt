-- How much a reader gave. Source: own.
use Rattle.std.specs.Prelude.{◌≡◌, ℕ, ◌+◌, ◌≤◌, List, length, Option, None}
use Rattle.std.specs.Io.KnownBytes.{Consumes, IsAtEnd}
use Rattle.pp_seam.specs.declared.reads.ReadFault.{ReadFault}
use Rattle.pp_seam.specs.declared.reads.ReadFault.TheVariants as fault

-- what a path of the system holds isn't told
abbrev pub untold : List ℕ → Option (List ℕ)
untold path = None

-- known bytes lost at most n at their front
abbrev pub ConsumesAtMost : Option (List ℕ) → Option (List ℕ) → ℕ → Type 0
ConsumesAtMost old new n = (bs : List ℕ) × (length bs ≤ n) × Consumes old new bs

-- the bytes of TooLong are one more than the limit
abbrev pub IsOverlong : ℕ → ReadFault → Type 0
IsOverlong limit (fault.TooLong v) = length v.items ≡ limit + 1
IsOverlong limit _ = Unit {0}

-- the reader gave the bytes of TooLong
abbrev pub GaveOverlong : Option (List ℕ) → Option (List ℕ) → ReadFault → Type 0
GaveOverlong old new (fault.TooLong v) = Consumes old new v.items
GaveOverlong old new _ = Unit {0}

-- some reader gave these bytes
abbrev pub IsGiven : {F : Type 0} → (F → Option (List ℕ)) → List ℕ → Type 0
IsGiven {F} remaining bs = (old : F) × (new : F) × Consumes (remaining old) (remaining new) bs

-- some reader gave these bytes, and then was at its end
abbrev pub IsGivenWhole : {F : Type 0} → (F → Option (List ℕ)) → List ℕ → Type 0
IsGivenWhole {F} remaining bs = (old : F) × (new : F) × Consumes (remaining old) (remaining new) bs
    × IsAtEnd (remaining new)

-- some reader gave the bytes of TooLong
abbrev pub IsOverlongGiven : {F : Type 0} → (F → Option (List ℕ)) → ReadFault → Type 0
IsOverlongGiven remaining (fault.TooLong v) = IsGiven remaining v.items
IsOverlongGiven remaining _ = Unit {0}
