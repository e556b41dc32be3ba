use Rattle.pp_named_instances.proofs.OrderLoops.{ctors_later}
use Rattle.pp_named_expand.proofs.Comparable.{are_looks, condition_read}
use Rattle.pp_named_expand.proofs.Comparable.{condition_third, ctors_fit}
use Rattle.pp_named_expand.proofs.entry.condition.Goals as goal

pub agreements-requires-clause-looks : goal.agreements-requires-clause-looks
agreements-requires-clause-looks c =
    are_looks c.args.table.now c.args.trees.now c.args.circuit.now c.args.y.now _ c.requires.fits c.requires.own
    c.as_slice.ensures

pub in_order-requires-clause-ctors : goal.in_order-requires-clause-ctors
in_order-requires-clause-ctors c =
    ctors_later c.args.circuit.now c.agreements.new.circuit _ c.args.y.now.alternatives c.in_ok-agree.ensures.adds
    (ctors_fit c.args.table.now c.args.circuit.now c.args.trees.now.nodes c.requires.fits.nodes c.args.y.now
    c.requires.own)

pub returns-clause-condition : goal.returns-clause-condition
returns-clause-condition c =
    condition_read c.args.table.now c.args.trees.now c.args.circuit.now c.agreements.new.circuit c.in_order.new.circuit
    c.and.new.self _ _ c.args.y.now _ _ _ _ _ _ c.requires.fits c.requires.own c.requires.levels c.as_slice.ensures
    c.as_slice-2.ensures c.as_slice-3.ensures
    (condition_third c.args.circuit.now c.agreements.new.circuit c.in_order.new.circuit c.and.new.self c.args.trees.now
    c.args.y.now _ c.as_slice.ensures c.in_ok-agree.ensures.adds c.in_ok-ordered.ensures.adds c.in_ok-both.ensures.adds)
    c.in_ok-agree.ensures.agree c.in_ok-ordered.ensures.adds c.in_ok-ordered.ensures.order c.in_ok-both.ensures.adds
    c.in_ok-both.ensures.stands

pub returns-in_err-both-clause-adds : goal.returns-in_err-both-clause-adds
returns-in_err-both-clause-adds c =
    condition_third c.args.circuit.now c.agreements.new.circuit c.in_order.new.circuit c.and.new.self c.args.trees.now
    c.args.y.now _ c.as_slice.ensures c.in_ok-agree.ensures.adds c.in_ok-ordered.ensures.adds
    c.in_err-both.ensures.adds
