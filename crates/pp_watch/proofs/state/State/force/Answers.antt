use Rattle.std.proofs.Common.{◌≤◌, sym, refl, ◌∙◌, subst, Some, List}
use Rattle.pp_clause.specs.Literal.{Literal}
use Rattle.pp_clause.specs.New.{OthersNegated}
use Rattle.pp_clause.proofs.Has.{has-All}
use Rattle.pp_trail.specs.Trail.{lits}
use Rattle.pp_watch.proofs.States.{open_absent, false_clause, others_false}
use Rattle.pp_watch.proofs.Looked.{advances_step, looked_step}
use Rattle.pp_watch.proofs.state.State.force.Goals as goal

pub returns-then-is_false-clause-conflict : goal.returns-then-is_false-clause-conflict
returns-then-is_false-clause-conflict c = false_clause _ _ _ _
    (lits c.args.self.now.trail.steps) c.requires.clause
    (others_false (lits c.args.self.now.trail.steps) _ c.args.other
    (subst (λ (z : List Literal). OthersNegated (lits c.args.self.now.trail.steps) z c.args.other)
    c.requires.clause.at c.requires.others) (sym c.is_false.ensures ∙ c.if-is_false.true))

pub push-requires-clause-up_to : goal.push-requires-clause-up_to
push-requires-clause-up_to c = has-All (λ m. m.var ≤ c.args.self.now.trail.vars) _ c.args.other
    c.requires.clause.up_to c.requires.near.held

pub push-requires-clause-absent : goal.push-requires-clause-absent
push-requires-clause-absent c = open_absent c.args.self.now.trail.steps c.args.other c.requires.not_true
    (sym c.is_false.ensures ∙ c.if-is_false.false)

pub returns-clause-advances : goal.returns-clause-advances
returns-clause-advances c = rw c.push.ensures.value
    (advances_step c.args.self.now (record { lit = c.args.other; reason = Some c.args.number }) c.requires.sound
    refl)

pub returns-clause-looked : goal.returns-clause-looked
returns-clause-looked c = rw c.push.ensures.value
    (looked_step c.args.self.now c.args.lit c.args.place c.args.number c.args.other
    (record { lit = c.args.other; reason = Some c.args.number }) c.requires.looked
    c.requires.near refl)
