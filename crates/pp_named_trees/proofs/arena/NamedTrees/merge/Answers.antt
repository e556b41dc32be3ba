use Rattle.std.proofs.Common.{arith, ◌∙◌, refl}
use Rattle.pp_named_trees.proofs.Answering.{Moves_node, Moves_same, adds_by, chosen_by, merge_at}
use Rattle.pp_named_trees.proofs.arena.NamedTrees.merge.Goals as goal

pub returns-in_err-digits-clause-moves : goal.returns-in_err-digits-clause-moves
returns-in_err-digits-clause-moves c =
    let adds = adds_by c.args.circuit.now c.choose.new.circuit _ c.args.left.now.name c.lits.ensures.value
    c.lits.ensures.len c.in_err-digits.ensures.adds in
    Moves_same c.args.table.now c.args.self.now _ c.args.circuit.now c.choose.new.circuit 32 c.requires.fits adds.grows
    adds.circuit refl

pub returns-in_err-keep-clause-moves : goal.returns-in_err-keep-clause-moves
returns-in_err-keep-clause-moves c =
    let adds = adds_by c.args.circuit.now c.choose.new.circuit _ c.args.left.now.name c.lits.ensures.value
    c.lits.ensures.len c.in_ok-digits.ensures.adds in
    Moves_same c.args.table.now c.args.self.now _ c.args.circuit.now c.choose.new.circuit 32 c.requires.fits adds.grows
    adds.circuit c.in_err-keep.ensures.err

pub returns-clause-moves : goal.returns-clause-moves
returns-clause-moves c =
    let adds = adds_by c.args.circuit.now c.choose.new.circuit _ c.args.left.now.name c.lits.ensures.value
    c.lits.ensures.len c.in_ok-digits.ensures.adds in
    let stands = chosen_by c.choose.new.circuit c.args.choice _ _ c.args.left.now.name c.args.right.now.name _
    c.lits.ensures.value c.lits-2.ensures.value c.lits.ensures.len c.in_ok-digits.ensures.stands in
    Moves_node c.args.table.now c.args.self.now c.keep.new.self c.args.circuit.now c.choose.new.circuit
    c.args.left.now.of _ _ 32 c.requires.fits adds.grows adds.circuit (record { len = stands.len; of = stands.of })
    (c.from_lits-name.ensures ∙ c.deref.ensures.value) c.in_ok-keep.ensures.kept (omega arith)

pub returns-clause-answer : goal.returns-clause-answer
returns-clause-answer c =
    let adds = adds_by c.args.circuit.now c.choose.new.circuit _ c.args.left.now.name c.lits.ensures.value
    c.lits.ensures.len c.in_ok-digits.ensures.adds in
    let stands = chosen_by c.choose.new.circuit c.args.choice _ _ c.args.left.now.name c.args.right.now.name _
    c.lits.ensures.value c.lits-2.ensures.value c.lits.ensures.len c.in_ok-digits.ensures.stands in
    merge_at c.args.table.now c.args.self.now c.keep.new.self c.args.circuit.now c.choose.new.circuit c.args.choice
    c.args.left.now c.args.right.now _ _ _ c.requires.fits c.requires.trees adds stands
    (c.from_lits-name.ensures ∙ c.deref.ensures.value) c.max-height.ensures c.in_ok-keep.ensures.kept
