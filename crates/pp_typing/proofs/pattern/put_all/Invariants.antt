use Rattle.std.proofs.Common.{◌≡◌, map, take}
use Rattle.pp_typed.specs.Put.{put}
use Rattle.pp_typing.proofs.pattern.put_all.Given as goal

abbrev pub invariant-loop-sort : goal.invariant-loop-sort
invariant-loop-sort l = l.done ≡ map (put l.args) (take l.sort-index l.sorts)
