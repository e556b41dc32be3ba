-- The paths that were asked of a shelf. Source: own.
use Rattle.std.specs.Prelude.{◌≡◌, ◌⊎◌, ℕ, List, [], ◌∷◌, ◌++◌, Result, Err}
use Rattle.pp_seam.specs.declared.faults.FetchFault.{FetchFault}
use Rattle.pp_seam.specs.declared.faults.FetchFault.TheVariants as fault

-- what was asked for after a fetch of this path: one path more, whatever the answer is, but that memory may end before
-- the path is asked for
abbrev pub AsksFor : {T : Type 0} → List (List ℕ) → List ℕ → Result T FetchFault → List (List ℕ) → Type 0
AsksFor old path (Err fault.Memory) new = (new ≡ old) ⊎ (new ≡ old ++ path ∷ [])
AsksFor old path _ new = new ≡ old ++ path ∷ []
