use Rattle.pp_named_instances.proofs.ContentTests.{agreement_gates_of, agreement_is, contents_later}
use Rattle.pp_named_instances.proofs.agreement.agreement.Goals as goal

pub same_contents-requires-clause-contents : goal.same_contents-requires-clause-contents
same_contents-requires-clause-contents c =
    contents_later c.args.circuit.now c.equal.new.circuit _ c.args.y.now.alternatives c.args.z.now.alternatives
    c.as_slice.result.now c.as_slice-2.result.now c.in_ok-names.ensures.adds c.as_slice.ensures c.as_slice-2.ensures
    c.requires.contents

pub returns-in_err-differ-clause-adds : goal.returns-in_err-differ-clause-adds
returns-in_err-differ-clause-adds c =
    agreement_gates_of c.args.circuit.now c.equal.new.circuit c.same_contents.new.circuit c.xor.new.self c.args.y.now
    c.lits.result.now c.as_slice.result.now c.lits.ensures.value c.lits.ensures.len c.as_slice.ensures
    c.in_ok-names.ensures.adds c.in_ok-contents.ensures.adds c.in_err-differ.ensures.adds

pub returns-clause-adds : goal.returns-clause-adds
returns-clause-adds c =
    agreement_gates_of c.args.circuit.now c.equal.new.circuit c.same_contents.new.circuit c.xor.new.self c.args.y.now
    c.lits.result.now c.as_slice.result.now c.lits.ensures.value c.lits.ensures.len c.as_slice.ensures
    c.in_ok-names.ensures.adds c.in_ok-contents.ensures.adds c.in_ok-differ.ensures.adds

pub returns-clause-agreement : goal.returns-clause-agreement
returns-clause-agreement c =
    agreement_is c.equal.new.circuit c.same_contents.new.circuit c.xor.new.self _ _ c.in_ok-names.names
    c.in_ok-contents.contents c.in_ok-differ.differ c.negated.result c.args.y.now c.args.z.now _ _ _ _
    c.lits.ensures.value c.lits-2.ensures.value c.as_slice.ensures c.as_slice-2.ensures c.in_ok-names.ensures.stands
    c.in_ok-contents.ensures.adds c.in_ok-contents.ensures.same c.in_ok-differ.ensures.adds
    c.in_ok-differ.ensures.stands c.negated.ensures
