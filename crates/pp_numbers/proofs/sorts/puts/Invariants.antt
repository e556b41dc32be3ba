use Rattle.std.proofs.Common.{◌≡◌, take, map}
use Rattle.pp_typed.specs.Put.{put}
use Rattle.pp_numbers.proofs.sorts.puts.Given as goal

abbrev pub invariant-loop-sort : goal.invariant-loop-sort
invariant-loop-sort l = l.done ≡ map (put l.args) (take l.sort-index l.sorts)
