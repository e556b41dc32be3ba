use Rattle.pp_verify.proofs.RoundEnds.{open_by_size}
use Rattle.pp_verify.proofs.fronts.end_by_cases.Goals as goal

pub returns-clause-end : goal.returns-clause-end
returns-clause-end c =
    let progress = c.args.progress in
    rw c.open_before.ensures
    (open_by_size c.args.program.now c.args.limits progress.function.0 progress.check progress.round
    c.requires.come.before (record { round = c.requires.fronted.round; size = c.requires.fronted.size }))
