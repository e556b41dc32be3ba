use Rattle.std.proofs.Common.{arith}
use Rattle.pp_estimate_laws.proofs.Estimates.{grows_with_depth}
use Rattle.pp_verify.proofs.ProofEnds.{after_gives, one_more_searched, open_by_proof, proved_by}
use Rattle.pp_verify.proofs.rounds.prove_round.Goals as goal

pub prove-requires-clause-size : goal.prove-requires-clause-size
prove-requires-clause-size c =
    let p = c.args.program.now in
    let least = grows_with_depth p.types p.functions p.checks c.args.progress.check.0 c.args.progress.round 1
    c.args.limits.depth c.requires.limits.least_depth in
    omega (arith, least, c.requires.searched.begun.size, c.requires.limits.gates)

pub returns-in-Proved : goal.returns-in-Proved
returns-in-Proved c =
    let proof = rw c.in-Proved.is at c.in_ok-proof.ensures.proof in
    proved_by c.requires.searched (proof c.args.progress.function.0 c.requires.come.own)

pub returns-in-Spent : goal.returns-in-Spent
returns-in-Spent c =
    let proof = rw c.in-Spent.is at c.in_ok-proof.ensures.proof in
    let told = proof c.args.progress.function.0 c.requires.come.own in
    open_by_proof c.requires.searched c.in-Spent.spent c.requires.limits.least_depth told.0 told.1

pub returns-in-NotProved : goal.returns-in-NotProved
returns-in-NotProved c =
    let proof = rw c.in-NotProved.is at c.in_ok-proof.ensures.proof in
    let told = proof c.args.progress.function.0 c.requires.come.own in
    rw c.after.ensures
    (after_gives c.args.program.now c.args.limits c.args.progress c.requires.come
    (one_more_searched c.requires.searched c.requires.come.before told.0 told.1))
