-- What is known of the estimates of a function's rounds. Source: own.
use Rattle.std.specs.Prelude.{◌≡◌, ℕ, List, Some, slice_get}
use Rattle.pp_prog.specs.declared.program.Program.{Program}
use Rattle.pp_estimate.specs.Estimates.{estimate}
use Rattle.pp_sound.specs.Sound.{IsCheckOf}

-- the numbers are the estimates of the rounds from 0 on, for each check of function number i
abbrev pub AreSizes : Program → ℕ → ℕ → List ℕ → Type 0
AreSizes p i depth sizes =
    (round size : ℕ) → slice_get sizes round ≡ Some size → (c : ℕ) → IsCheckOf p i c
    → size ≡ estimate p.types p.functions p.checks c round depth
