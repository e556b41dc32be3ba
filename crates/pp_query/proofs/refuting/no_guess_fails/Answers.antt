use Rattle.std.proofs.Common.{◌≡◌, List, subst}
use Rattle.pp_prog.specs.declared.expr.Function.{Function}
use Rattle.pp_compile.specs.Guessed.{guess_of}
use Rattle.pp_steps.specs.Guesses.{guess_steps}
use Rattle.pp_query.proofs.Refuted.{never_fails, never_from}
use Rattle.pp_query.proofs.refuting.no_guess_fails.Goals as goal

pub returns : goal.returns
returns c =
    let p = c.args.program.now in
    let f = c.owner-f.result.now in
    let guess = guess_of c.in_ok-guess.guess in
    let same : guess ≡ guess_steps p.functions f c.args.check c.args.round =
    subst (λ (fs : List Function). guess ≡ guess_steps fs f c.args.check c.args.round) c.as_slice.ensures
    c.in_ok-guess.ensures in
    record {
      none = λ is.
          never_fails p c.args.plan.now c.requires.plan c.args.check c.args.round f c.owner-f.ensures guess same
          (never_from guess _ _ c.as_slice-steps.ensures c.as_slice-supposed.ensures (c.in_ok-refuted.ensures is));
    }
