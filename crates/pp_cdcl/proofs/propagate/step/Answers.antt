use Rattle.std.proofs.lemmas.Result.{IfOk-weaker}
use Rattle.pp_cdcl.proofs.Kept.{kept_propagated}
use Rattle.pp_cdcl.proofs.Moves.{step_later, left_grown}
use Rattle.pp_cdcl.proofs.propagate.step.Goals as goal

pub after_conflict-requires-clause-invariant : goal.after_conflict-requires-clause-invariant
after_conflict-requires-clause-invariant c =
    let g = c.in_ok-number.ensures.grows in
    kept_propagated _ _ _ c.args.search.now.watch c.propagate.new.self _ _ c.requires.invariant g.clauses g.vars g.steps

pub after_closing-requires-clause-invariant : goal.after_closing-requires-clause-invariant
after_closing-requires-clause-invariant c =
    let g = c.in_ok-number.ensures.grows in
    kept_propagated _ _ _ c.args.search.now.watch c.propagate.new.self _ _ c.requires.invariant g.clauses g.vars g.steps

pub returns-in-Some : goal.returns-in-Some
returns-in-Some c =
    IfOk-weaker c.after_conflict.result _ _
    (λ o s. step_later _ _ _ _ _ o _ (left_grown _ c.args.search.now.watch c.propagate.new.self c.args.search.now.log
    c.in_ok-number.ensures.grows) s)
    c.after_conflict.ensures

pub returns-in-None : goal.returns-in-None
returns-in-None c =
    IfOk-weaker c.after_closing.result _ _
    (λ o s. step_later _ _ _ _ _ o _ (left_grown _ c.args.search.now.watch c.propagate.new.self c.args.search.now.log
    c.in_ok-number.ensures.grows) s)
    c.after_closing.ensures
