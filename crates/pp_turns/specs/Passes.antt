-- Passes over all checks, each of which names every check once. Source: own.
use Rattle.std.specs.Prelude.{◌-◌, ◌<◌, ◌≤◌, ℕ, List, length}
use Rattle.pp_prog.specs.declared.id.CheckId.{CheckId}
use Rattle.pp_prog.specs.declared.program.Program.{Program}
use Rattle.pp_turns.specs.declared.in_turns.Direction.{Direction}
use Rattle.pp_turns.specs.declared.in_turns.Direction.TheVariants.{Forward, Backward}
use Rattle.pp_turns.specs.declared.part.Turn.{Turn}
use Rattle.pp_turns.specs.Turns.{AreTurned, times}

-- the number of the check that is named in turn number n of a pass over so many
abbrev pub place_named : Direction → ℕ → ℕ → ℕ
place_named Forward count n = n
place_named Backward count n = count - 1 - n

-- the checks stand as after the turns of a list that names each at least k times
pub record AreNamed (p : Program) (k : ℕ) (turns : List Turn) : Type 0 where
  pub names : List CheckId
  pub turned : AreTurned names turns
  pub each : (c : ℕ) → c < length p.checks → k ≤ times c names
