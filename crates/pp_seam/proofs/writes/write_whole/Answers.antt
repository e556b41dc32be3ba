use Rattle.std.proofs.Common.{take, ◌++◌}
use Rattle.std.proofs.KnownBytes.{Appends-trans}
use Rattle.pp_seam.proofs.Fronts.{moves_front}
use Rattle.pp_seam.proofs.writes.write_whole.Goals as goal

pub rests-preserved : goal.rests-preserved
rests-preserved g c =
    let (done, split, appended) = c.rests.invariant in
    let rest = c.rests.rest.now in
    let n = c.in-Some.count in
    (done ++ take n rest, moves_front _ done rest n split, Appends-trans _ _ _ _ _ appended c.in-Some.ensures.bytes)
