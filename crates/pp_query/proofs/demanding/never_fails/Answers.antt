use Rattle.std.proofs.Common.{List, ap, map, subst, sym, ◌∙◌}
use Rattle.pp_prog.specs.declared.expr.Function.{Function}
use Rattle.pp_closure.specs.Refuted.{IsRefutation}
use Rattle.pp_compile.specs.Guessed.{guess_of, stands}
use Rattle.pp_steps.specs.Guesses.{standing}
use Rattle.pp_query.specs.Demanded.{IsDemanded}
use Rattle.pp_query.proofs.Demanded.{all_stand}
use Rattle.pp_query.proofs.demanding.never_fails.Goals as goal

pub loop-preserved : goal.loop-preserved
loop-preserved c f check is =
    let stand = all_stand _ (guess_of c.loop.longer)
    (ap (map stands) c.as_slice-in-Unknown-2.ensures ∙ c.in_ok-calls.ensures ∙ ap (standing 0) c.as_slice.ensures) in
    c.in_ok-longer-in-Unknown.ensures f check stand (c.loop.invariant f check is)

pub returns-in-Refuted : goal.returns-in-Refuted
returns-in-Refuted c is f check demanded =
    let functions = c.args.program.now.functions in
    let steps = guess_of c.loop.longer in
    let same = c.as_slice-functions.ensures in
    let At : List Function → Type 0 = λ fs. IsDemanded fs f check c.args.round (guess_of c.args.guess) in
    let Now : List Function → Type 0 = λ fs. IsDemanded fs f check c.args.round steps in
    record {
      steps = steps;
      demanded = subst Now same (c.loop.invariant f check (subst At (sym same) demanded));
      denied = subst (IsRefutation steps.steps steps.fails steps.supposed) c.in-Refuted.is c.in_ok-refute.ensures;
    }
