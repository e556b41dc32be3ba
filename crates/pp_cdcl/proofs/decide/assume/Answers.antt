use Rattle.std.proofs.Common.{◌≤◌, ◌∙◌}
use Rattle.pp_clause.proofs.Has.{has-All}
use Rattle.pp_cdcl.proofs.Moves.{goes_assumed}
use Rattle.pp_cdcl.proofs.decide.assume.Goals as goal

pub decide-requires-clause-up_to : goal.decide-requires-clause-up_to
decide-requires-clause-up_to c = has-All (λ l. l.var ≤ c.args.search.now.watch.vars) c.args.problem.assumptions.now
    c.args.lit c.requires.invariant.up_to c.requires.missing.held

pub returns-in-None : goal.returns-in-None
returns-in-None c =
    goes_assumed _ _ _ c.args.search.now.watch c.args.search.now.log c.args.search.now.base _ c.decide.new.search
    c.requires.invariant c.requires.base c.requires.closed c.requires.missing.held c.decide.ensures.room
    c.decide.ensures.watch c.decide.ensures.log c.decide.ensures.base (c.decide.ensures.analysis ∙ c.requires.sized)
