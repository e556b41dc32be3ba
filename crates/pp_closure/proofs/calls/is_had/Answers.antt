use Rattle.pp_closure.proofs.Answered.{has_one}
use Rattle.pp_closure.proofs.calls.is_had.Goals as goal

pub returns-then-is-clause-has : goal.returns-then-is-clause-has
returns-then-is-clause-has c missing ρ holds is told =
    has_one missing ρ c.args.number c.args.had.now c.args.call.now (c.is.ensures ρ holds c.if-is.true)
    (told (c.are_had_alike.ensures.reached ρ holds is)) (c.are_had_alike.ensures.alike missing ρ holds is)
