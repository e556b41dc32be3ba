use Rattle.std.proofs.Common.{ℕ, List, ◌-◌, ap, ◌∙◌, ◌∷◌, ◌++◌, [], length}
use Rattle.pp_learn.proofs.Beginning.{conflict_fits, begins, begins_later}
use Rattle.pp_learn.proofs.resolving.begin.Goals as goal

pub mark_all-requires-clause-fits : goal.mark_all-requires-clause-fits
mark_all-requires-clause-fits c = conflict_fits c.args.clauses.now c.args.trail.now c.args.seen.now c.args.conflict
    c.lits.result.now c.get.result.now c.requires.trail c.requires.conflict c.get.ensures c.lits.ensures.value

pub returns-clause-reached : goal.returns-clause-reached
returns-clause-reached c =
    begins c.args.clauses.now (length c.args.seen.now - 1) c.args.trail.now c.args.seen.now c.mark_all.new.seen
    c.args.conflict c.lits.result.now c.get.result.now c.push.new.self.items
    c.requires.trail c.requires.conflict c.get.ensures c.lits.ensures.value c.requires.blank
    c.in_ok-mark_all.ensures.all (c.in_ok-push.ensures.items
    ∙ ap (λ (z : List ℕ). z ++ c.args.conflict ∷ []) c.clear-2.ensures.items)

pub returns-clause-later : goal.returns-clause-later
returns-clause-later c =
    begins_later c.args.clauses.now c.args.trail.now c.args.seen.now c.mark_all.new.seen c.args.conflict
    c.lits.result.now c.get.result.now
    c.requires.conflict c.get.ensures c.lits.ensures.value c.requires.blank c.in_ok-mark_all.ensures.all
