use Rattle.pp_named_instances.proofs.ContentTests.{ctor_test, parts_read}
use Rattle.pp_named_instances.proofs.agreement.same_ctor.Goals as goal

pub returns-clause-same : goal.returns-clause-same
returns-clause-same c =
    ctor_test c.xor.new.self c.and.new.self c.same_fields.new.circuit _ _ c.args.both c.in_ok-differ.differ
    c.negated.result c.in_ok-lits.lits c.in_ok-all.all c.args.x.now c.args.y.now _ _ c.in_ok-differ.ensures.stands
    c.negated.ensures c.in_ok-lits.ensures.adds c.in_ok-lits.ensures.stands c.in_ok-all.ensures.adds
    c.as_slice.ensures c.as_slice-2.ensures c.in_ok-all.ensures.same

pub same_fields-requires-clause-parts : goal.same_fields-requires-clause-parts
same_fields-requires-clause-parts c =
    parts_read c.args.circuit.now c.xor.new.self c.and.new.self _ _ c.args.x.now c.args.y.now _ _
    c.in_ok-differ.ensures.adds c.in_ok-lits.ensures.adds c.as_slice.ensures c.as_slice-2.ensures c.requires.ctor
