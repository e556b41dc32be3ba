use Rattle.std.proofs.Common.{◌≡◌, length, take}
use Rattle.pp_trail.proofs.trail.copy_of.Given as goal

abbrev pub invariant-loop-place : goal.invariant-loop-place
invariant-loop-place l = record { end : l.place-end ≡ length l.clauses; made : l.copy ≡ take l.place l.clauses }
