use Rattle.std.proofs.Common.{subst}
use Rattle.std.specs.Io.KnownBytes.{Appends}
use Rattle.pp_seam.specs.Pieces.{AppendsFront}
use Rattle.pureproof.specs.Shown.{refusal_cut, refused}
use Rattle.pureproof.proofs.show.put_refusal.Goals as goal

pub returns-in-Ok : goal.returns-in-Ok
returns-in-Ok g c = λ out still. refused _ _ still (record
    { all = subst (Appends _ _) c.as_bytes.ensures.value c.in-Ok.ensures.whole; calm = c.in-Ok.ensures.steady })

pub returns-in-Err : goal.returns-in-Err
returns-in-Err g c = λ out still. refusal_cut _ _ still
    (record {
      front = subst (AppendsFront _ _) c.as_bytes.ensures.value c.in-Err.ensures.front;
      rose =
          c.in-Err.ensures.cause;
    })
