use Rattle.std.proofs.Common.{◌≡◌, ◌+◌, ◌*◌, false, if◌then◌else◌, length}
use Rattle.pp_inhabited.specs.Laws.{IsSound}
use Rattle.pp_inhabited.specs.Settled.{AreClosed, rows_left}
use Rattle.pp_inhabited.proofs.visit.settle.Given as goal

abbrev pub invariant-loop-changed : goal.invariant-loop-changed
invariant-loop-changed l =
    (length l.rows ≡ 16 * length l.roots) × IsSound l.roots l.ctors l.rows
    × (l.changed ≡ false → AreClosed l.roots l.ctors (length l.ctors) l.rows)

abbrev pub decreases-loop-changed : goal.decreases-loop-changed
decreases-loop-changed l = rows_left l.rows + (if l.changed then 1 else 0)
