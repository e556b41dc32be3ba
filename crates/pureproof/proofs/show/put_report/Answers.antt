use Rattle.std.proofs.Common.{refl, rules}
use Rattle.pureproof.specs.Shown.{printed}
use Rattle.pureproof.proofs.Showing.{after_fault}
use Rattle.pureproof.proofs.show.put_report.Goals as goal

pub returns-in-Ok : goal.returns-in-Ok
returns-in-Ok g c = printed _ _ (record { all = c.in-Ok.ensures.whole; calm = c.in-Ok.ensures.steady })
    (record { same = refl; calm = refl })

pub returns-in-Err : goal.returns-in-Err
returns-in-Err g c =
    after_fault _ _ _ _ c.put.result _ (record { cut = c.in-Err.ensures.front; rose = c.in-Err.ensures.cause })
    (search rules) c.put.ensures.whole c.put.ensures.front c.put.ensures.cause c.put.ensures.steady
