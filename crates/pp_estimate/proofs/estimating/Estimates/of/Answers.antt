use Rattle.std.proofs.Common.{◌≡◌, ℕ, IfOk, subst}
use Rattle.pp_estimate.proofs.Singles.{estimate_is}
use Rattle.pp_estimate.proofs.estimating.Estimates.of.Goals as goal

pub returns-in-Some-clause-estimate : goal.returns-in-Some-clause-estimate
returns-in-Some-clause-estimate c =
    subst (λ (n : ℕ). IfOk c.rounds.result (λ (e : ℕ). e ≡ n))
    (estimate_is c.args.program.now.types _ c.args.program.now.functions _ c.args.program.now.checks _
    c.in-Some.f.now c.args.check.0 c.args.round c.args.depth _ c.requires.check c.types.ensures
    c.as_slice-functions.ensures (c.checks.ensures c.args.program.now c.requires.plan) c.in-Some.ensures)
    c.rounds.ensures.rounds
