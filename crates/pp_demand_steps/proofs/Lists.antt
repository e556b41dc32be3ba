-- Lists that grow by moves: what stays the same, and what was obeyed before.
use Rattle.std.proofs.Common.{◌≡◌, List, [], ◌∷◌, refl}
use Rattle.pp_prog.specs.declared.expr.Function.{Function}
use Rattle.pp_prog.specs.declared.types.Ctor.{Ctor}
use Rattle.pp_steps.specs.Guesses.{GuessSteps}
use Rattle.pp_steps.specs.Meaning.{Missing, Obeys, Values}
use Rattle.pp_steps_run.proofs.Pieces.{obeys_left}
use Rattle.pp_demand_steps.specs.Moves.{Move, all_moved, moved}

module _ (functions : List Function) where
  pub fails_stays : (ms : List Move) (g : GuessSteps) → (all_moved functions g ms).fails ≡ g.fails
  fails_stays [] g = refl
  fails_stays (m ∷ ms) g = fails_stays ms (moved functions g m)

  pub arguments_stay : (ms : List Move) (g : GuessSteps) → (all_moved functions g ms).arguments ≡ g.arguments
  arguments_stay [] g = refl
  arguments_stay (m ∷ ms) g = arguments_stay ms (moved functions g m)

  -- values that obey the longer list obey the first one
  pub obeyed_first : (ctors : List Ctor) (missing : Missing) (ρ : Values) (ms : List Move) (g : GuessSteps)
      → Obeys ctors missing ρ 0 (all_moved functions g ms).steps → Obeys ctors missing ρ 0 g.steps
  obeyed_first ctors missing ρ [] g h = h
  obeyed_first ctors missing ρ (m ∷ ms) g h =
      obeys_left ctors missing ρ 0 g.steps _ (obeyed_first ctors missing ρ ms (moved functions g m) h)
