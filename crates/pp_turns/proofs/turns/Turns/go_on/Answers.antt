use Rattle.std.proofs.Common.{suc, refl, sym, subst}
use Rattle.pp_turns.specs.declared.part.Turn.{Turn}
use Rattle.pp_turns.specs.declared.turns.Turns.{Turns}
use Rattle.pp_turns.specs.Turns.{HasTurned, IsTurn, times}
use Rattle.pp_turns.proofs.Naming.{named_open}
use Rattle.pp_turns.proofs.OneTurn.{are_turns, is_turn_after, touches_only, turned_once}
use Rattle.pp_turns.proofs.turns.Turns.go_on.Goals as goal

pub one_turn-requires-clause-come : goal.one_turn-requires-clause-come
one_turn-requires-clause-come c = (c.requires.turns.each c.args.check.0 _ c.requires.at).come

pub returns-clause-turns : goal.returns-clause-turns
returns-clause-turns c =
    let p = c.args.program.now in
    let limits = c.args.self.limits in
    let n = c.args.check.0 in
    let after : Turns = record { checks = c.set.new.self; shared = c.one_turn.new.shared; limits = limits } in
    let is = is_turn_after p limits n c.args.progress c.in_ok-given.given
    (c.requires.turns.each n _ c.requires.at) c.in_ok-given.ensures.step in
    are_turns c.args.self after n c.turn_after.result refl c.set.ensures p c.requires.turns
    (subst (λ (t : Turn). IsTurn p limits n t) (sym c.turn_after.ensures) is) c.in_ok-given.ensures.size
    c.in_ok-given.ensures.shared

pub returns-clause-others : goal.returns-clause-others
returns-clause-others c =
    let after : Turns =
    record { checks = c.set.new.self; shared = c.one_turn.new.shared; limits = c.args.self.limits } in
    touches_only c.args.self after c.args.check.0 c.turn_after.result refl c.set.ensures

pub returns-clause-turned : goal.returns-clause-turned
returns-clause-turned c names are =
    let n = c.args.check.0 in
    let k = times n names in
    let once = turned_once c.args.program.now c.args.self.limits k c.args.progress c.in_ok-given.given
    c.in_ok-given.ensures.step (are n _ c.requires.at) in
    let turned = subst (λ (t : Turn). HasTurned (suc k) t) (sym c.turn_after.ensures) once in
    rw c.set.ensures (named_open names c.args.check c.args.self.checks c.turn_after.result turned are)
