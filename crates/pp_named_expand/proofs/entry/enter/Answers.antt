use Rattle.std.proofs.Common.{ap, arith, refl, List}
use Rattle.pp_named_trees.specs.declared.arena.Expansion.{Expansion}
use Rattle.pp_named_expand.proofs.Entries.{both_adds, entry_is, entry_moves, gates_moves}
use Rattle.pp_named_expand.proofs.entry.enter.Goals as goal

pub returns-in_err-holds-clause-moves : goal.returns-in_err-holds-clause-moves
returns-in_err-holds-clause-moves c =
    gates_moves c.args.table.now c.args.trees.now _ c.args.circuit.now c.condition.new.circuit _ _ c.requires.fits
    c.in_err-holds.ensures.adds (omega arith) refl

pub returns-in_err-ok-clause-moves : goal.returns-in_err-ok-clause-moves
returns-in_err-ok-clause-moves c =
    gates_moves c.args.table.now c.args.trees.now _ c.args.circuit.now c.and.new.self _ _ c.requires.fits
    (both_adds c.args.table.now c.args.trees.now c.args.circuit.now c.condition.new.circuit c.and.new.self c.args.y
    c.in_ok-holds.holds c.in_ok-holds.holds c.requires.fits c.in_ok-holds.ensures.adds c.in_err-ok.ensures.adds)
    (omega arith) refl

pub returns-in_err-push-clause-moves : goal.returns-in_err-push-clause-moves
returns-in_err-push-clause-moves c =
    gates_moves c.args.table.now c.args.trees.now _ c.args.circuit.now c.and.new.self _ _ c.requires.fits
    (both_adds c.args.table.now c.args.trees.now c.args.circuit.now c.condition.new.circuit c.and.new.self c.args.y
    c.in_ok-holds.holds c.in_ok-holds.holds c.requires.fits c.in_ok-holds.ensures.adds c.in_ok-ok.ensures.adds)
    (omega arith)
    (ap (λ (zs : List Expansion). record c.args.trees.now { expansions = zs }) c.in_err-push.ensures.err)

pub returns-clause-moves : goal.returns-clause-moves
returns-clause-moves c =
    entry_moves c.args.table.now c.args.trees.now c.args.circuit.now c.condition.new.circuit c.and.new.self c.args.y
    c.in_ok-holds.holds c.in_ok-ok.ok c.requires.fits c.in_ok-holds.ensures.adds c.in_ok-ok.ensures.adds
    c.requires.groups c.requires.own c.in_ok-holds.ensures.condition c.in_ok-ok.ensures.stands _
    (ap (λ (zs : List Expansion). record c.args.trees.now { expansions = zs; ok = c.in_ok-ok.ok })
    c.in_ok-push.ensures.ok)

pub returns-clause-entered : goal.returns-clause-entered
returns-clause-entered c =
    entry_is c.args.table.now c.args.trees.now c.args.circuit.now c.condition.new.circuit c.and.new.self c.args.y
    c.in_ok-holds.holds c.in_ok-ok.ok c.requires.fits c.in_ok-holds.ensures.adds c.in_ok-ok.ensures.adds
    c.requires.groups c.requires.own c.in_ok-holds.ensures.condition c.in_ok-ok.ensures.stands _
    (ap (λ (zs : List Expansion). record c.args.trees.now { expansions = zs; ok = c.in_ok-ok.ok })
    c.in_ok-push.ensures.ok)
