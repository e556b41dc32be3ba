use Rattle.pp_clause.specs.Assignment.{assigned}
use Rattle.pp_gate.proofs.Places.{at_read}
use Rattle.pp_query.proofs.Stands.{stand_next}
use Rattle.pp_query.proofs.reading.read_all.Goals as goal

pub loop-symbol-preserved : goal.loop-symbol-preserved
loop-symbol-preserved c = λ n.
    stand_next c.args.domain.now n (assigned c.args.assignment.now) c.args.symbols.now c.loop-symbol.symbol-index
    c.symbol-item.result c.loop-symbol.values c.push.new.self c.in_ok-value.value
    (at_read c.args.symbols.now c.loop-symbol.symbol-index c.symbol-item.result c.loop-symbol-test.true
    c.symbol-item.is) (c.loop-symbol.invariant n) (c.in_ok-value.ensures n) c.in_ok-push.ensures.ok
