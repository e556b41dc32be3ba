use Rattle.pp_sound.proofs.Owners.{owner_within}
use Rattle.pp_verify.proofs.RoundEnds.{exhausted_by, invalid_by, is_searched, open_by_search}
use Rattle.pp_verify.proofs.rounds.search_round.Goals as goal

pub returns-in-Args : goal.returns-in-Args
returns-in-Args c =
    let found = rw c.in-Args.is at c.in_ok-found.ensures.found in
    invalid_by c.requires.come.before c.requires.begun c.in-Args.args
    (found c.args.progress.function.0 c.requires.come.own)

pub returns-in-Spent : goal.returns-in-Spent
returns-in-Spent c =
    let found = rw c.in-Spent.is at c.in_ok-found.ensures.found in
    rw c.open_before.ensures
    (open_by_search c.requires.come.before c.requires.begun c.in-Spent.spent
    (found c.args.progress.function.0 c.requires.come.own))

pub returns-then-closed : goal.returns-then-closed
returns-then-closed c =
    let found = rw c.in-Nothing.is at c.in_ok-found.ensures.found in
    let closed = c.closed.ensures c.args.program.now c.requires.plan
    (owner_within c.args.program.now c.args.progress.function.0 c.args.progress.check.0 c.requires.come.own) in
    exhausted_by c.requires.come.before c.requires.begun (found c.args.progress.function.0 c.requires.come.own)
    (closed.0 c.if-closed.true)

pub prove_round-requires-clause-searched : goal.prove_round-requires-clause-searched
prove_round-requires-clause-searched c =
    let found = rw c.in-Nothing.is at c.in_ok-found.ensures.found in
    let closed = c.closed.ensures c.args.program.now c.requires.plan
    (owner_within c.args.program.now c.args.progress.function.0 c.args.progress.check.0 c.requires.come.own) in
    is_searched c.requires.come.before c.requires.begun (found c.args.progress.function.0 c.requires.come.own)
    (λ h. let closed_here = closed.1 h in cc)
