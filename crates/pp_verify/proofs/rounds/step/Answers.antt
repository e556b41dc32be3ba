use Rattle.std.proofs.Common.{ℕ, ◌<◌, ◌≤◌, subst}
use Rattle.pp_sound.proofs.Owners.{owner_within}
use Rattle.pp_verify.proofs.ProofEnds.{after_gives}
use Rattle.pp_verify.proofs.RoundEnds.{open_by_size, repeated_is_searched}
use Rattle.pp_verify.proofs.rounds.step.Goals as goal

pub returns-then-size-limits-clause-step : goal.returns-then-size-limits-clause-step
returns-then-size-limits-clause-step c =
    let progress = c.args.progress in
    rw c.open_before.ensures
    (open_by_size c.args.program.now c.args.limits progress.function.0 progress.check progress.round
    c.requires.come.before
    (record {
      round = c.requires.come.round;
      size = subst (λ (n : ℕ). c.args.limits.gates < n) c.in_ok-size.ensures.size c.if-size-limits.true;
    }))

pub returns-then-is_repeated-clause-step : goal.returns-then-is_repeated-clause-step
returns-then-is_repeated-clause-step c =
    let progress = c.args.progress in
    let within = owner_within c.args.program.now progress.function.0 progress.check.0 c.requires.come.own in
    rw c.after.ensures
    (after_gives c.args.program.now c.args.limits progress c.requires.come
    (repeated_is_searched progress.round c.requires.come.before
    (record {
      round = c.requires.come.round;
      size = subst (λ (n : ℕ). n ≤ c.args.limits.gates) c.in_ok-size.ensures.size c.if-size-limits.false;
    })
    (c.is_repeated.ensures c.args.program.now c.requires.plan within c.if-is_repeated.true)))
