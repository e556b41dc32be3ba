use Rattle.std.proofs.Common.{◌≡◌, rules, sym}
use Rattle.pp_eval.specs.Runs.{run_in}
use Rattle.pp_small.proofs.Counterexamples.{own_fails}
use Rattle.pp_small.proofs.searching.failed_check.Goals as goal

pub returns-in-Some : goal.returns-in-Some
returns-in-Some c =
    let q = c.args.question in
    let ran : c.in-Some.outcome ≡ run_in c.args.program.now q.function.0 c.args.args.now q.fuel =
    rw c.in-Some.is at c.in_ok-outcome.ensures.outcome in
    own_fails c.args.program.now q.function.0 q.fuel q.depth c.args.args.now c.in-Some.outcome _
    (c.are_low.ensures (search rules)) (c.are_arguments.ensures (search rules)) (sym ran) c.own_failure.ensures.fails
    c.own_failure.ensures.own
