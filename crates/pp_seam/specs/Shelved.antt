-- What shelves in memory are, and what a fetch from them answers. Source: own.
use Rattle.std.specs.Prelude.{ℕ, ◌==◌, Bool, List, [], Option, None, Some, Result, Ok, Err, if◌then◌else◌, option_map}
use Rattle.std.specs.Prelude.{unwrap_or, find, slice_get, length, nat_lt, bytes_eq}
use Rattle.std.specs.List.{list_any}
use Rattle.pp_seam.specs.Faults.{raised}
use Rattle.pp_seam.specs.declared.faults.FetchFault.{FetchFault}
use Rattle.pp_seam.specs.declared.faults.FetchFault.TheVariants as fault

-- paths with their bytes, the paths that were asked for, those that failed, the numbers of the fetches that were told
-- to fail, how many fetches there were, and the bytes that the last one read and found too many
pub record Shelved : Type 0 where
  pub held : List (List ℕ × List ℕ)
  pub asked : List (List ℕ)
  pub failed : List (List ℕ)
  pub told : List ℕ
  pub calls : ℕ
  pub seen : List ℕ

-- shelves that hold no path, before the first fetch
abbrev pub no_shelves : Shelved
no_shelves = record { held = []; asked = []; failed = []; told = []; calls = 0; seen = [] }

-- the bytes of a path
abbrev pub held_in : List (List ℕ × List ℕ) → List ℕ → Option (List ℕ)
held_in held path = option_map (λ e. e.1) (find (λ e. bytes_eq e.0 path) held)

-- the bytes of the path at a place; none past the end
abbrev pub bytes_at : List (List ℕ × List ℕ) → ℕ → List ℕ
bytes_at held i = unwrap_or (option_map (λ e. e.1) (slice_get held i)) []

-- this number was told
abbrev pub is_told : List ℕ → ℕ → Bool
is_told told number = list_any (λ n. n == number) told

-- the answer to a fetch with this limit, by what the path holds
abbrev pub within : Option (List ℕ) → ℕ → Result (List ℕ) FetchFault
within None limit = Err fault.Failed
within (Some bs) limit = if nat_lt limit (length bs) then Err fault.TooLong else Ok bs

-- the answer to the next fetch, want of memory aside
abbrev pub due : Shelved → List ℕ → ℕ → Result (List ℕ) FetchFault
due s path limit = if is_told s.told (raised s.calls) then Err fault.Failed else within (held_in s.held path) limit
