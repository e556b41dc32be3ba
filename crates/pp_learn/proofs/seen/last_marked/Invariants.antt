use Rattle.std.proofs.Common.{◌-◌, ◌≤◌}
use Rattle.pp_learn.specs.Seen.{IsClear}
use Rattle.pp_learn.proofs.seen.last_marked.Given as goal

abbrev pub invariant-loop-place : goal.invariant-loop-place
invariant-loop-place l = (l.place ≤ l.end) × IsClear l.trail l.seen l.place l.end

abbrev pub decreases-loop-place : goal.decreases-loop-place
decreases-loop-place l = l.place - l.from
