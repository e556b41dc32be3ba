use Rattle.std.proofs.Common.{◌≡◌, ◌≤◌, drop, length, map}
use Rattle.pp_inhabited.specs.Table.{lives, mask_of}
use Rattle.pp_inhabited.proofs.table.+lives.Given as goal

abbrev pub invariant-mask_of-loop-i : goal.invariant-mask_of-loop-i
invariant-mask_of-loop-i l = (l.i ≤ length l.parts)
    × (l.digits ≡ mask_of (map (lives l.roots l.rows l.mask) (drop l.i l.parts)))

abbrev pub decreases-mask_of-loop-i : goal.decreases-mask_of-loop-i
decreases-mask_of-loop-i l = l.i
