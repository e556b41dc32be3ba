use Rattle.pp_named_contents.proofs.Fresh.{fresh_read}
use Rattle.pp_named_contents.proofs.contents.fresh_contents.Goals as goal

pub returns-clause-fresh : goal.returns-clause-fresh
returns-clause-fresh c =
    let lits = c.in_ok-lits.ensures in
    let all = c.in_ok-all.ensures in
    fresh_read c.args.table.now c.args.circuit.now c.choices.new.circuit c.fresh_alternatives.new.circuit _ _ c.args.low
    c.args.of
    c.datatype.result.now _ _ _ _ lits.grows all.grows c.datatype.ensures lits.len lits.choices c.ctors_of-ctors.ensures
    c.as_slice.ensures all.are
