use Rattle.std.proofs.Common.{◌∙◌, List, subst}
use Rattle.pp_prog.specs.declared.expr.Function.{Function}
use Rattle.pp_compile.specs.Written.{IsRunOf}
use Rattle.pp_steps.specs.Frames.{run_steps}
use Rattle.pp_query.proofs.RunsRefuted.{never_fails_from, no_run_fails}
use Rattle.pp_query.proofs.refuting.no_run_fails.Goals as goal

pub returns : goal.returns
returns c =
    let p = c.args.program.now in
    let f = c.owner-f.result.now in
    let made : IsRunOf (run_steps p.functions f c.args.check c.args.round) c.in_ok-compiled.compiled =
    subst (λ (fs : List Function). IsRunOf (run_steps fs f c.args.check c.args.round) c.in_ok-compiled.compiled)
    c.as_slice.ensures c.in_ok-compiled.ensures in
    record {
      none = λ is.
          no_run_fails p c.args.plan.now c.requires.plan c.args.check c.args.round f c.owner-f.ensures
          (never_fails_from (run_steps p.functions f c.args.check c.args.round) _ _
          (c.as_slice-steps.ensures ∙ made.steps) made.fails (c.in_ok-never.ensures is));
    }
