use Rattle.std.proofs.Common.{◌≡◌, take, map}
use Rattle.pp_typed.specs.Put.{put}
use Rattle.pp_generic.proofs.sort.+put_within.Given as goal

abbrev pub invariant-loop-part : goal.invariant-loop-part
invariant-loop-part l = l.done ≡ map (put l.args) (take l.part-index l.parts)
