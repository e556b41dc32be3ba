-- The walk to the implication point.
use Rattle.std.proofs.Common.{ℕ, ◌+◌, ◌≤◌, Bool, List, length}
use Rattle.pp_trail.specs.declared.step.Step.{Step}
use Rattle.pp_learn.specs.Seen.{MarkedAt, IsClear}

-- where the search for the implication point stands: the steps after the place aren't marked, and that at `other` is
pub record Seeks (steps : List Step) (seen : List Bool) (start other place : ℕ) : Type 0 where
  pub low : start ≤ other
  pub le : other ≤ place
  pub spare : MarkedAt steps seen other
  pub here : MarkedAt steps seen place
  pub rest : IsClear steps seen (place + 1) (length steps)
