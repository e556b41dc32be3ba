use Rattle.pp_stack.proofs.Loading.{loaded_turn}
use Rattle.pp_stack.proofs.runs.machine_on.Goals as goal

pub loop-arg-preserved : goal.loop-arg-preserved
loop-arg-preserved c =
    loaded_turn c.loop-arg.store c.load.new.self c.loop-arg.env c.push.new.self c.in_ok-load.field-0 c.args.args.now
    c.loop-arg.arg-index c.arg-item.result c.loop-arg-test.true c.arg-item.is c.loop-arg.invariant.0
    c.loop-arg.invariant.1 c.in_ok-load.ensures.extends c.in_ok-load.ensures.loaded c.in_ok-push.ensures.ok
