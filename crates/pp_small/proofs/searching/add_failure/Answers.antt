use Rattle.pp_small.proofs.Growing.{one_more}
use Rattle.pp_small.proofs.searching.add_failure.Goals as goal

pub returns-in_ok-push-in-Some : goal.returns-in_ok-push-in-Some
returns-in_ok-push-in-Some c p i n d all fails =
    one_more p i n d c.args.args.now c.args.failures.now c.push.new.self c.args.failed c.in-Some.check
    c.in_ok-args-in-Some.args all fails c.in-Some.is c.in_ok-args-in-Some.ensures c.in_ok-push-in-Some.ensures.ok
