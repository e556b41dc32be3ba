-- In the world of a guess run calls on the same arguments have the same answers, whatever fuel is left to them.
use Rattle.std.proofs.Common.{◌-◌}
use Rattle.std.proofs.Common.{None}
use Rattle.pp_guess_runs.specs.Guess.{called}
use Rattle.pp_guess_steps.proofs.FuelsAgree.{calls_agree}
use Rattle.pp_guess_steps.proofs.Ties.{some_value}
use Rattle.pp_demand_steps.specs.Laws.{WorldAlike}

pub world_alike : WorldAlike
world_alike functions answers field n w v g params result args x y first second =
    calls_agree functions answers (n - w) (n - v) None g None None args x y
    (some_value (called functions answers (n - w) None g None None args) x first)
    (some_value (called functions answers (n - v) None g None None args) y second)
