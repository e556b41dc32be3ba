use Rattle.std.proofs.lemmas.Option.{slice_get_within}
use Rattle.pp_sound.proofs.Owners.{owner_within}
use Rattle.pp_verify.proofs.RoundEnds.{exhausted_by_fronts, proved_by_fronts}
use Rattle.pp_verify.proofs.fronts.settle.Goals as goal

pub returns-then-closed : goal.returns-then-closed
returns-then-closed c =
    let p = c.args.program.now in
    let i = c.args.progress.function.0 in
    let own = c.requires.come.own in
    let closed = c.closed.ensures p c.requires.plan (owner_within p i c.args.progress.check.0 own) in
    exhausted_by_fronts c.requires.come.before c.requires.fronted c.args.round c.requires.from c.requires.to
    (c.in_ok-runs_refuted.ensures.none c.if-not-branch.false i own) (closed.0 c.if-closed.true)

pub guesses_refuted-requires-clause-check : goal.guesses_refuted-requires-clause-check
guesses_refuted-requires-clause-check c =
    let own = c.requires.come.own in
    slice_get_within c.args.program.now.checks c.args.progress.check.0 own.check own.listed

pub returns-then-branch : goal.returns-then-branch
returns-then-branch c =
    let p = c.args.program.now in
    let i = c.args.progress.function.0 in
    let own = c.requires.come.own in
    let closed = c.closed.ensures p c.requires.plan (owner_within p i c.args.progress.check.0 own) in
    proved_by_fronts c.requires.come.before c.requires.fronted c.args.round c.requires.from c.requires.to
    (c.in_ok-runs_refuted.ensures.none c.if-not-branch.false i own)
    (λ h. let closed_here = closed.1 h in cc)
    (c.in_ok-guesses_refuted.ensures.none c.if-branch.true i own)
