use Rattle.std.proofs.Common.{◌∙◌, ap}
use Rattle.std.specs.Prelude.{slice_get}
use Rattle.pp_prog.specs.declared.types.TypeTable.{TypeTable}
use Rattle.pp_eval.specs.Invocation.{calls_to}
use Rattle.pp_eval.specs.Runs.{run_with}
use Rattle.pp_stack.proofs.Outcomes.{run_answers}
use Rattle.pp_stack.proofs.runs.counted.Goals as goal

pub returns : goal.returns
returns c =
    let p = c.args.program.now in
    let cs = c.as_slice.result.now in
    let fs = c.as_slice-2.result.now in
    run_answers p.types.ctors cs p.functions fs c.function.result.now (slice_get p.functions c.args.f.0) c.args.args.now
    c.args.fuel c.ended.result (c.as_slice.ensures ∙ ap (λ (t : TypeTable). t.ctors) c.types.ensures)
    c.as_slice-2.ensures c.function.ensures
    (c.ended.ensures (run_with (calls_to cs fs c.args.fuel) c.function.result.now c.args.args.now) c.run_with.ensures)
