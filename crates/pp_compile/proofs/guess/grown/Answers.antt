use Rattle.std.proofs.Common.{◌∙◌, List, ap, map, refl}
use Rattle.pp_steps.specs.declared.step.Step.{Step}
use Rattle.pp_steps.specs.Guesses.{calls_from, standing}
use Rattle.pp_compile.specs.Guessed.{guess_of, stands}
use Rattle.pp_compile.proofs.Guessing.{grown_made}
use Rattle.pp_compile.proofs.Joining.{ok_map}
use Rattle.pp_compile.proofs.guess.grown.Goals as goal

pub returns : goal.returns
returns c =
    ok_map c.agreed.result c.agreed.ensures
    (λ r h. grown_made c.args.functions.now c.args.round (guess_of c.args.guess) (guess_of r)
    (record { steps = c.args.guess.steps; fails = c.new.result }) c.unfold_all.new.work refl
    (ap (map stands) c.as_slice-2.ensures ∙ c.in_ok-calls.ensures.from
    ∙ ap (λ (l : List Step). calls_from 0 (standing 0 l)) c.as_slice.ensures)
    c.len-end.ensures c.in_ok-unfold_all.ensures h)
