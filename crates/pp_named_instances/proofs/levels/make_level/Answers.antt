use Rattle.std.proofs.Common.{refl, ap, ◌∙◌, List}
use Rattle.pp_named_trees.specs.declared.arena.Level.{Level}
use Rattle.pp_named_instances.proofs.LevelLoops.{level_made, level_new, levels_inputs, levels_none, levels_one}
use Rattle.pp_named_instances.proofs.levels.make_level.Goals as goal

pub returns-then-is_first-clause-levels : goal.returns-then-is_first-clause-levels
returns-then-is_first-clause-levels c =
    levels_none c.args.table.now c.args.trees.now c.args.circuit.now 32 c.requires.fits

pub returns-then-was_made-clause-levels : goal.returns-then-was_made-clause-levels
returns-then-was_made-clause-levels c =
    levels_none c.args.table.now c.args.trees.now c.args.circuit.now 32 c.requires.fits

pub returns-then-was_made-clause-has : goal.returns-then-was_made-clause-has
returns-then-was_made-clause-has c =
    level_made c.args.trees.now.groups c.args.trees.now.levels _ c.args.d c.as_slice-2.ensures
    (c.was_made.ensures c.if-was_made.true)

pub returns-in_err-digits-clause-levels : goal.returns-in_err-digits-clause-levels
returns-in_err-digits-clause-levels c =
    levels_inputs c.args.table.now c.args.trees.now _ c.args.circuit.now c.inputs.new.circuit 32 c.requires.fits
    c.in_err-digits.ensures.grows c.in_err-digits.ensures.circuit refl

pub returns-in_err-push-clause-levels : goal.returns-in_err-push-clause-levels
returns-in_err-push-clause-levels c =
    levels_inputs c.args.table.now c.args.trees.now _ c.args.circuit.now c.inputs.new.circuit 32 c.requires.fits
    c.in_ok-digits.ensures.grows c.in_ok-digits.ensures.circuit
    (ap (λ (zs : List Level). record c.args.trees.now { levels = zs }) c.in_err-push.ensures.err)

pub returns-clause-levels : goal.returns-clause-levels
returns-clause-levels c =
    levels_one c.args.table.now c.args.trees.now _ c.args.circuit.now c.inputs.new.circuit c.args.d _ _ c.requires.fits
    c.requires.groups c.in_ok-digits.ensures.grows c.in_ok-digits.ensures.circuit c.in_ok-digits.ensures.inputs
    c.in_ok-digits.ensures.chosen (c.from_lits-word.ensures ∙ c.deref.ensures.value)
    (ap (λ (zs : List Level). record c.args.trees.now { levels = zs }) c.in_ok-push.ensures.ok)

pub returns-clause-has : goal.returns-clause-has
returns-clause-has c =
    level_new c.args.trees.now (record c.args.trees.now { levels = c.push.new.self }) c.args.d _
    (ap (λ (zs : List Level). record c.args.trees.now { levels = zs }) c.in_ok-push.ensures.ok)
