use Rattle.std.proofs.Common.{◌∙◌, ap}
use Rattle.pp_prog.specs.declared.types.TypeTable.{TypeTable}
use Rattle.pp_small.proofs.Counterexamples.{have_arguments}
use Rattle.pp_small.proofs.tested.are_arguments.Goals as goal

pub returns : goal.returns
returns c has =
    have_arguments c.args.program.now c.args.function.0 c.function.result.now c.as_slice.result.now
    c.as_slice-params.result.now c.args.values.now c.function.ensures
    (c.as_slice.ensures ∙ ap (λ (t : TypeTable). t.ctors) c.types.ensures) c.as_slice-params.ensures
    (c.have_params.ensures has)
