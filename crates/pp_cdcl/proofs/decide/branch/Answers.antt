use Rattle.std.proofs.Common.{sym, ◌∙◌}
use Rattle.std.proofs.lemmas.List.Elements.{All-same}
use Rattle.pp_clause.specs.Clause.{IsClause}
use Rattle.pp_cdcl.proofs.Moves.{goes_decided, satisfies}
use Rattle.pp_cdcl.proofs.decide.branch.Goals as goal

pub returns-in-Some : goal.returns-in-Some
returns-in-Some c =
    goes_decided _ _ _ c.args.search.now.watch c.args.search.now.log c.args.search.now.base _ c.decide.new.search
    c.requires.invariant c.requires.base c.requires.closed c.decide.ensures.room c.decide.ensures.watch
    c.decide.ensures.log c.decide.ensures.base (c.decide.ensures.analysis ∙ c.requires.sized)

pub returns-in_ok-found-in-None : goal.returns-in_ok-found-in-None
returns-in_ok-found-in-None c =
    satisfies _ _ _ c.args.search.now.watch c.args.search.now.log c.args.search.now.base _ c.requires.invariant
    c.requires.base c.requires.closed c.in-None.ensures.none c.in_ok-found-in-None.ensures
    (All-same IsClause _ _ (sym c.clauses.ensures.value) c.len-count.ensures.order) c.clauses.ensures.up_to
