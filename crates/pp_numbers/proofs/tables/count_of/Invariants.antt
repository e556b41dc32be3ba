use Rattle.std.proofs.Common.{◌≡◌, take, length}
use Rattle.pp_typed.specs.Sorted.{ctors_of}
use Rattle.pp_numbers.proofs.tables.count_of.Given as goal

abbrev pub invariant-loop-c : goal.invariant-loop-c
invariant-loop-c l = l.count ≡ length (ctors_of (take l.c-index l.ctors) l.r)
