use Rattle.pp_named_below.proofs.Taking.{taken_one}
use Rattle.pp_named_below.proofs.search.take_field.Goals as goal

pub returns-clause-taken : goal.returns-clause-taken
returns-clause-taken c =
    taken_one c.and.new.self c.or_same.new.circuit _ c.args.new.now c.args.path c.in_ok-path.path c.in_ok-any.any
    c.args.field.now c.args.search.now c.push.new.self c.if-search-eq0.false c.in_ok-path.ensures.stands
    c.in_ok-any.ensures.adds c.in_ok-any.ensures.same c.in_ok-push.ensures.ok
