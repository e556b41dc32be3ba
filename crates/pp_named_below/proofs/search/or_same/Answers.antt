use Rattle.pp_named_below.proofs.Taking.{same_gates, same_or}
use Rattle.pp_named_below.proofs.search.or_same.Goals as goal

pub returns-in_err-more-clause-adds : goal.returns-in_err-more-clause-adds
returns-in_err-more-clause-adds c =
    same_gates c.args.circuit.now c.equal.new.circuit c.and.new.self c.or.new.self _ c.args.field.now.name
    c.lits.ensures.value c.requires.field.len c.in_ok-same.ensures.adds c.in_ok-here.ensures.adds
    c.in_err-more.ensures.adds

pub returns-clause-same : goal.returns-clause-same
returns-clause-same c =
    same_or c.equal.new.circuit c.and.new.self c.or.new.self _ _ c.args.new.now c.args.field.now c.args.path c.args.any
    c.in_ok-same.same c.in_ok-here.here c.in_ok-more.more _ _ c.if-field-new.false c.lits.ensures.value
    c.lits-2.ensures.value c.in_ok-same.ensures.stands c.in_ok-here.ensures.adds c.in_ok-here.ensures.stands
    c.in_ok-more.ensures.adds c.in_ok-more.ensures.stands
