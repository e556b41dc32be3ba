use Rattle.std.proofs.Common.{arith}
use Rattle.pp_gate.proofs.Growing.{AddsGates_more}
use Rattle.pp_named_instances.proofs.OrderLoops.{tree_gates, tree_test}
use Rattle.pp_named_instances.proofs.order.tree_before.Goals as goal

pub returns-in_err-holds-clause-adds : goal.returns-in_err-holds-clause-adds
returns-in_err-holds-clause-adds c =
    tree_gates c.args.circuit.now c.place_of.new.circuit c.less.new.circuit c.or.new.self c.in_ok-own.own
    c.lits.result.now 130 c.in_ok-own.ensures.adds c.in_ok-less.ensures.adds c.lits.ensures.value c.lits.ensures.len
    c.in_err-holds.ensures.adds (omega arith)

pub returns-in_err-both-clause-adds : goal.returns-in_err-both-clause-adds
returns-in_err-both-clause-adds c =
    AddsGates_more _ _ _ 129 1 130 (tree_gates c.args.circuit.now c.place_of.new.circuit c.less.new.circuit
    c.or.new.self c.in_ok-own.own c.lits.result.now 129 c.in_ok-own.ensures.adds c.in_ok-less.ensures.adds
    c.lits.ensures.value c.lits.ensures.len c.in_ok-holds.ensures.adds (omega arith)) c.in_err-both.ensures.adds
    (omega arith)

pub returns-in_ok-both-clause-adds : goal.returns-in_ok-both-clause-adds
returns-in_ok-both-clause-adds c =
    AddsGates_more _ _ _ 129 1 130 (tree_gates c.args.circuit.now c.place_of.new.circuit c.less.new.circuit
    c.or.new.self c.in_ok-own.own c.lits.result.now 129 c.in_ok-own.ensures.adds c.in_ok-less.ensures.adds
    c.lits.ensures.value c.lits.ensures.len c.in_ok-holds.ensures.adds (omega arith)) c.in_ok-both.ensures.adds
    (omega arith)

pub returns-in_ok-both-clause-before : goal.returns-in_ok-both-clause-before
returns-in_ok-both-clause-before c =
    tree_test c.place_of.new.circuit c.less.new.circuit c.or.new.self c.and.new.self _ _ _
    c.args.groups.now c.args.levels.now c.args.d c.args.place.now c.in_ok-own.own c.lits.result.now
    c.lits-then-is_one_group.result.now c.args.all c.args.lit c.negated.result c.in_ok-less.less c.in_ok-holds.holds
    c.in_ok-both.both c.args.field.now (c.is_one_group.ensures.0 c.if-is_one_group.true) c.in_ok-own.ensures.place
    c.in_ok-less.ensures.adds c.in_ok-less.ensures.stands c.lits.ensures.value c.lits-then-is_one_group.ensures.value
    c.negated.ensures c.in_ok-holds.ensures.adds c.in_ok-holds.ensures.stands c.in_ok-both.ensures.adds
    c.in_ok-both.ensures.stands
