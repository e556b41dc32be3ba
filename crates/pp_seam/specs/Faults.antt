-- Counts of faults, and the paths whose fetch failed. Source: own.
use Rattle.std.specs.Prelude.{◌≡◌, ℕ, ◌+◌, ◌-◌, ◌^◌, min, List, [], ◌∷◌, ◌++◌, Result, Err, count_by, bytes_eq}
use Rattle.pp_seam.specs.declared.faults.FetchFault.{FetchFault}
use Rattle.pp_seam.specs.declared.faults.FetchFault.TheVariants as fault

-- the next value of a count that its type ends at 2^64 - 1
abbrev pub raised : ℕ → ℕ
raised count = min (count + 1) (2 ^ 64 - 1)

-- a count has risen by one; one that stands at the end of its type counts as risen
abbrev pub Rose : ℕ → ℕ → Type 0
Rose before now = now ≡ raised before

-- how often a path stands in a list of paths
abbrev pub times : List ℕ → List (List ℕ) → ℕ
times path failed = count_by (bytes_eq path) failed

-- the failed paths after a fetch of this path: one more exactly where the answer is Failed
abbrev pub failed_after : {T : Type 0} → List (List ℕ) → List ℕ → Result T FetchFault → List (List ℕ)
failed_after failed path (Err fault.Failed) = failed ++ path ∷ []
failed_after failed path _ = failed
