use Rattle.std.proofs.Common.{List, ◌≡◌, ◌∙◌, ap, subst}
use Rattle.pp_prog.specs.declared.expr.Function.{Function}
use Rattle.pp_prog.specs.declared.types.TypeTable.{TypeTable}
use Rattle.pp_steps.specs.Guesses.{GuessSteps, guess_steps}
use Rattle.pp_compile.specs.Guessed.{guess_of}
use Rattle.pp_symbolic.proofs.GuessFrame.{can_guess, guess_moves, guess_size, is_guess_frame}
use Rattle.pp_symbolic.specs.Naming.{more_than_named}
use Rattle.pp_symbolic.proofs.Names.{room_for}
use Rattle.pp_symbolic.proofs.Whole.{if_ok, on_ok}
use Rattle.pp_symbolic.proofs.guess.of_guess.Goals as goal

pub evaluate_guess-requires-clause-can : goal.evaluate_guess-requires-clause-can
evaluate_guess-requires-clause-can g c =
    let p = c.args.program.now in
    let f = c.owner-f.result.now in
    let guess = guess_of c.in_ok-guess.guess in
    let is : guess ≡ guess_steps p.functions f c.args.check c.args.round =
    subst (λ (fs : List Function). guess ≡ guess_steps fs f c.args.check c.args.round) c.as_slice.ensures
    c.in_ok-guess.ensures in
    let fresh = c.limit_to.ensures.fresh p.types c.args.circuit.now c.requires.fresh.fresh in
    rw c.types-2.ensures (rw c.as_slice-3.ensures
    (can_guess g.D.Domain.sense g.met.D.Domain.lawful c.requires.inexact p c.args.plan.now c.requires.plan
    c.args.check f
    c.owner-f.ensures c.args.round c.args.depth c.requires.depth.0 c.requires.size c.limit_to.new.self
    c.args.circuit.now fresh c.requires.empty guess is))

pub returns-clause-moves : goal.returns-clause-moves
returns-clause-moves g c =
    let p = c.args.program.now in
    let f = c.owner-f.result.now in
    let guess = guess_of c.in_ok-guess.guess in
    let is : guess ≡ guess_steps p.functions f c.args.check c.args.round =
    subst (λ (fs : List Function). guess ≡ guess_steps fs f c.args.check c.args.round) c.as_slice.ensures
    c.in_ok-guess.ensures in
    let fresh = c.limit_to.ensures.fresh p.types c.args.circuit.now c.requires.fresh.fresh in
    guess_moves g.D.Domain.sense g.met.D.Domain.lawful c.requires.inexact p c.args.plan.now c.requires.plan
    c.args.check f
    c.owner-f.ensures c.args.round c.args.depth c.requires.depth.0 c.requires.size c.limit_to.new.self
    c.args.circuit.now fresh c.requires.empty guess is c.args.domain.now
    (c.limit_to.ensures.moves p.types c.args.circuit.now c.requires.fresh.fresh) c.evaluate_guess.new.domain
    c.evaluate_guess.new.circuit
    (rw (← c.types-2.ensures) (rw (← c.as_slice-3.ensures) c.evaluate_guess.ensures.moves))

pub returns-clause-size : goal.returns-clause-size
returns-clause-size g c =
    let p = c.args.program.now in
    let f = c.owner-f.result.now in
    let guess = guess_of c.in_ok-guess.guess in
    let is : guess ≡ guess_steps p.functions f c.args.check c.args.round =
    subst (λ (fs : List Function). guess ≡ guess_steps fs f c.args.check c.args.round) c.as_slice.ensures
    c.in_ok-guess.ensures in
    let fresh = c.limit_to.ensures.fresh p.types c.args.circuit.now c.requires.fresh.fresh in
    on_ok c.evaluate_guess.result
    (guess_size g.D.Domain.sense g.met.D.Domain.lawful c.requires.inexact p c.args.plan.now c.requires.plan
    c.args.check f
    c.owner-f.ensures c.args.round c.args.depth c.requires.depth.0 c.requires.size c.limit_to.new.self
    c.args.circuit.now fresh c.requires.empty guess is c.evaluate_guess.new.domain
    c.evaluate_guess.new.circuit
    (rw (← c.types-2.ensures) (rw (← c.as_slice-3.ensures) c.evaluate_guess.ensures.moves)))

pub returns-clause-guess : goal.returns-clause-guess
returns-clause-guess g c =
    let p = c.args.program.now in
    let f = c.owner-f.result.now in
    let guess = guess_of c.in_ok-guess.guess in
    let is : guess ≡ guess_steps p.functions f c.args.check c.args.round =
    subst (λ (fs : List Function). guess ≡ guess_steps fs f c.args.check c.args.round) c.as_slice.ensures
    c.in_ok-guess.ensures in
    let fresh = c.limit_to.ensures.fresh p.types c.args.circuit.now c.requires.fresh.fresh in
    let steps = (guess_steps p.functions f c.args.check c.args.round).steps in
    let needed : c.values_to_name.result ≡ more_than_named p.types steps =
    c.values_to_name.ensures ∙ ap (λ (t : TypeTable). more_than_named t c.as_slice-2.result.now) c.types.ensures
    ∙ ap (more_than_named p.types) (c.as_slice-2.ensures ∙ ap (λ (x : GuessSteps). x.steps) is) in
    if_ok c.evaluate_guess.result c.evaluate_guess.ensures.guessed
    (λ frame evaluated.
    is_guess_frame g.D.Domain.sense g.met.D.Domain.lawful c.requires.inexact p c.args.plan.now c.requires.plan
    c.args.check f
    c.owner-f.ensures c.args.round c.args.depth c.requires.depth.0 c.requires.size c.limit_to.new.self
    c.args.circuit.now fresh c.requires.empty guess is _ _ frame
    (rw (← c.types-2.ensures) (rw (← c.as_slice-3.ensures) evaluated))
    (room_for _ _ _ _ needed c.requires.fresh.limit c.limit_to.ensures.limit))
