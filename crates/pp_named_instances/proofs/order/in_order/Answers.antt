use Rattle.pp_named_instances.proofs.OrderLoops.{ctors_read, order_is}
use Rattle.pp_named_instances.proofs.order.in_order.Goals as goal

pub all_before-requires-clause-ctors : goal.all_before-requires-clause-ctors
all_before-requires-clause-ctors c =
    ctors_read c.args.circuit.now c.place_of.new.circuit _ _ _ c.in_ok-place.ensures.adds c.as_slice.ensures
    c.requires.ctors

pub returns-clause-order : goal.returns-clause-order
returns-clause-order c =
    order_is c.place_of.new.circuit c.all_before.new.circuit _ c.args.groups.now c.args.levels.now c.args.y.now
    c.in_ok-place.place _ c.in_ok-before.before c.in_ok-place.ensures.place c.in_ok-before.ensures.adds
    c.as_slice.ensures c.in_ok-before.ensures.before
