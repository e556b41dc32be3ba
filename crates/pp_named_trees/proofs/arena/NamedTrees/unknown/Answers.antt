use Rattle.std.proofs.Common.{arith, refl}
use Rattle.pp_named_trees.proofs.Answering.{Moves_node, Moves_same, unknown_at}
use Rattle.pp_named_trees.proofs.arena.NamedTrees.unknown.Goals as goal

pub returns-in_err-name-clause-moves : goal.returns-in_err-name-clause-moves
returns-in_err-name-clause-moves c =
    Moves_same c.args.table.now c.args.self.now _ c.args.circuit.now c.short_word.new.circuit 32 c.requires.fits
    c.in_err-name.ensures.grows c.in_err-name.ensures.circuit refl

pub returns-in_err-keep-clause-moves : goal.returns-in_err-keep-clause-moves
returns-in_err-keep-clause-moves c =
    Moves_same c.args.table.now c.args.self.now _ c.args.circuit.now c.short_word.new.circuit 32 c.requires.fits
    c.in_ok-name.ensures.grows c.in_ok-name.ensures.circuit c.in_err-keep.ensures.err

pub returns-clause-moves : goal.returns-clause-moves
returns-clause-moves c =
    let word = c.in_ok-name.ensures.short in
    Moves_node c.args.table.now c.args.self.now c.keep.new.self c.args.circuit.now c.short_word.new.circuit c.args.of _
    _
    32 c.requires.fits c.in_ok-name.ensures.grows c.in_ok-name.ensures.circuit
    (record { len = word.len; of = word.of }) refl c.in_ok-keep.ensures.kept (omega arith)

pub returns-clause-answer : goal.returns-clause-answer
returns-clause-answer c =
    unknown_at c.args.table.now c.args.self.now c.keep.new.self c.args.circuit.now c.short_word.new.circuit c.args.of
    c.args.height _ _ c.requires.fits c.in_ok-name.ensures.grows c.in_ok-name.ensures.circuit
    c.in_ok-name.ensures.short c.from.ensures c.in_ok-keep.ensures.kept
