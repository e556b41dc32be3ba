use Rattle.std.proofs.Common.{◌∙◌, ap, length, subst, sym, All}
use Rattle.pp_gate.specs.Circuit.{IsOf}
use Rattle.pp_domain.proofs.Composition.{Moves_grown}
use Rattle.pp_named_trees.specs.Meaning.{named_sense}
use Rattle.pp_named_trees.proofs.Lawful.{named_lawful}
use Rattle.pp_bounded_cases.proofs.Held.{held_push, word_held}
use Rattle.pp_bounded_cases.proofs.calls.add_number.Goals as goal

pub returns : goal.returns
returns c =
    let inputs = c.in_ok-digits.ensures.inputs in
    let same = c.from_lits.ensures ∙ c.deref.ensures.value in
    held_push c.args.table.now c.args.trees.now c.args.trees.now c.args.circuit.now c.inputs.new.circuit 32
    c.args.symbols.now c.push.new.self _ c.requires.held
    (Moves_grown named_sense c.args.table.now named_lawful c.args.trees.now c.args.circuit.now c.inputs.new.circuit 32
    c.requires.held.fits c.in_ok-digits.ensures.grows c.in_ok-digits.ensures.circuit)
    (word_held c.args.trees.now c.inputs.new.circuit _ (ap length same ∙ inputs.len)
    (subst (λ w. All (IsOf c.inputs.new.circuit) w) (sym same) inputs.of)) c.in_ok-push.ensures.ok
