use Rattle.std.proofs.Common.{[], ap, ◌∙◌, arith}
use Rattle.pp_eval.specs.Runs.{run_at}
use Rattle.pp_modes.proofs.Asked.{has_params, if_ok, is_run, none_asked, within}
use Rattle.pp_modes.specs.Responses.{response_of}
use Rattle.pp_modes.proofs.run.answer_run.Goals as goal

pub returns-in_default : goal.returns-in_default
returns-in_default c =
    if_ok c.no_function.result c.no_function.ensures
    (λ r is. none_asked c.args.program.now c.args.name.now c.args.fuel (response_of r) c.in_default.ensures is)

pub function-requires : goal.function-requires
function-requires c = within c.args.program.now.functions c.args.name.now c.in-Some.f.0 c.in-Some.ensures

pub returns-then-len-gt0 : goal.returns-then-len-gt0
returns-then-len-gt0 c =
    let some = c.if-len-gt0.true in
    let long = c.len.ensures in
    if_ok c.no_function-then-len-gt0.result c.no_function-then-len-gt0.ensures
    (λ r is. has_params c.args.program.now c.args.name.now c.args.fuel (response_of r) c.in-Some.f.0
    c.function.result.now c.in-Some.ensures
    c.function.ensures (omega arith) is)

pub run-requires-clause-function : goal.run-requires-clause-function
run-requires-clause-function c = within c.args.program.now.functions c.args.name.now c.in-Some.f.0 c.in-Some.ensures

pub returns : goal.returns
returns c =
    let none = c.if-len-gt0.false in
    let long = c.len.ensures in
    if_ok c.ran-response.result c.ran-response.ensures
    (λ r is. is_run c.args.program.now c.args.name.now c.args.fuel (response_of r) c.in-Some.f.0 c.function.result.now
    c.in_ok-outcome.outcome
    c.in-Some.ensures c.function.ensures (omega arith)
    (c.in_ok-outcome.ensures ∙ ap (λ g. run_at c.args.program.now.types.ctors c.args.program.now.functions g []
    c.args.fuel) c.function.ensures) is)
