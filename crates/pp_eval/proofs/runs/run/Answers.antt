use Rattle.std.proofs.Common.{◌≡◌, ◌∙◌, ap, refl}
use Rattle.std.specs.Prelude.{slice_get}
use Rattle.std.proofs.lemmas.Result.{IfOk-weaker}
use Rattle.pp_prog.specs.declared.types.TypeTable.{TypeTable}
use Rattle.pp_eval.specs.Invocation.{calls_to}
use Rattle.pp_eval.specs.Runs.{outcome, run_at, run_with}
use Rattle.pp_eval.proofs.Outcomes.{run_is}
use Rattle.pp_eval.proofs.runs.run.Goals as goal

pub returns : goal.returns
returns c =
    let p = c.args.program.now in
    let o = slice_get p.functions c.args.f.0 in
    let cs = c.as_slice.result.now in
    let fs = c.as_slice-2.result.now in
    let f = c.function.result.now in
    let part = run_with (calls_to cs fs c.args.fuel) f c.args.args.now in
    let same = c.as_slice.ensures ∙ ap (λ (t : TypeTable). t.ctors) c.types.ensures in
    IfOk-weaker c.ended.result (λ r. r ≡ outcome part) (λ r. r ≡ run_at p.types.ctors p.functions o c.args.args.now
    c.args.fuel)
    (λ r is. is ∙ run_is p.types.ctors cs p.functions fs f o c.args.args.now c.args.fuel part same c.as_slice-2.ensures
    c.function.ensures refl)
    (c.ended.ensures part c.run_with.ensures)
