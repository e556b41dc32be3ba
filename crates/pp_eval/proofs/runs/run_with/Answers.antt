use Rattle.std.proofs.Common.{◌≡◌, ◌∙◌, List, Ok, subst}
use Rattle.pp_prog.specs.declared.value.Value.{Value}
use Rattle.pp_eval.specs.Callees.{call_meaning}
use Rattle.pp_eval.specs.Invocation.{allowed}
use Rattle.pp_eval.specs.Runs.{run_with, started}
use Rattle.pp_eval.proofs.Outcomes.{goes_on}
use Rattle.pp_eval.proofs.Steps.{tells_along}
use Rattle.pp_eval.proofs.runs.run_with.Goals as goal

pub returns-then-branch : goal.returns-then-branch
returns-then-branch c =
    let calls = call_meaning c.args.callees in
    let f = c.args.f.now in
    let same = c.in_ok-holds.ensures.kept ∙ c.in_ok-env.ensures in
    let told = subst (λ (env : List Value). allowed calls f.pre env ≡ Ok c.in_ok-holds.field-0) c.in_ok-env.ensures
    c.in_ok-holds.ensures.told in
    tells_along c.start.result (started calls f c.holds.new.env) (run_with calls f c.args.args.now)
    (goes_on calls f c.args.args.now c.holds.new.env c.in_ok-holds.field-0 same told c.if-branch.true) c.start.ensures
