use Rattle.std.proofs.Common.{sym, refl, ◌∙◌}
use Rattle.pp_watch.proofs.States.{var_within, open_absent}
use Rattle.pp_watch.proofs.Attached.{settle_free, settle_true, settle_step}
use Rattle.pp_watch.proofs.state.State.settle.Goals as goal

pub push-requires-clause-up_to : goal.push-requires-clause-up_to
push-requires-clause-up_to c = var_within _ _ _ _ _ c.args.head.now.first c.requires.clause c.requires.next
    c.requires.choice.first_held

pub push-requires-clause-absent : goal.push-requires-clause-absent
push-requires-clause-absent c = open_absent c.args.self.now.trail.steps c.args.head.now.first
    (sym c.is_true.ensures ∙ c.if-not-is_true.true) c.requires.choice.not_false

pub returns-then-not-is_true : goal.returns-then-not-is_true
returns-then-not-is_true c = rw c.push.ensures.value
    (settle_step c.args.self.now c.args.head.now c.cut.new.levels c.in-Some.bound
    (record { lit = c.args.head.now.first; reason = Rattle.std.proofs.Common.Some c.args.number }) c.requires.sound
    c.requires.some c.requires.choice c.in-Some.ensures.some c.cut.ensures refl refl)

pub returns-else-not-is_true : goal.returns-else-not-is_true
returns-else-not-is_true c = settle_true c.args.self.now c.args.head.now c.cut.new.levels c.in-Some.bound
    c.requires.sound c.requires.some c.requires.choice c.in-Some.ensures.some c.cut.ensures
    (sym c.is_true.ensures ∙ c.if-not-is_true.false)

pub returns-in_default : goal.returns-in_default
returns-in_default c = settle_free c.args.self.now c.args.head.now c.requires.sound c.requires.some
    c.requires.choice c.in_default.ensures.none
