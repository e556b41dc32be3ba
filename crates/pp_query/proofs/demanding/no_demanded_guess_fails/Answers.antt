use Rattle.std.proofs.Common.{◌≡◌, List, subst}
use Rattle.pp_prog.specs.declared.expr.Function.{Function}
use Rattle.pp_compile.specs.Guessed.{guess_of}
use Rattle.pp_demand_steps.specs.Moves.{started_alone}
use Rattle.pp_query.proofs.Demanded.{demanded_alone, no_demanded_fails}
use Rattle.pp_query.proofs.demanding.no_demanded_guess_fails.Goals as goal

pub returns : goal.returns
returns c =
    let p = c.args.program.now in
    let f = c.owner.result.now in
    let guess = guess_of c.in_ok-guess.guess in
    let same : guess ≡ started_alone p.functions f c.args.check =
    subst (λ (fs : List Function). guess ≡ started_alone fs f c.args.check) c.as_slice-functions.ensures
    c.in_ok-guess.ensures in
    record {
      none = λ is.
          let denied = c.in_ok-refuted.ensures is f c.args.check
          (demanded_alone p.functions f c.args.check c.args.round guess same) in
          no_demanded_fails p c.args.plan.now c.requires.plan c.args.check c.args.round f c.owner.ensures denied.steps
          denied.demanded denied.denied;
    }
