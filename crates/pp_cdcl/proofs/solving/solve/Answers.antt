use Rattle.pp_cdcl.specs.Step.{IsRight}
use Rattle.pp_cdcl.proofs.Moves.{right_never}
use Rattle.pp_cdcl.proofs.solving.solve.Goals as goal

pub returns-in-Some-clause-never : goal.returns-in-Some-clause-never
returns-in-Some-clause-never c =
    let right : IsRight c.args.clauses.now c.args.assumptions.now c.args.lemmas c.in-Some.answer =
    rw c.in-Some.is at c.in_ok-answer.ensures in
    λ xs _ over le. right_never _ _ _ c.in-Some.answer right xs over le
