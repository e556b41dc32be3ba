-- Where a guess run fails the check, there are values with their sorts that say so, whichever calls are unfolded.
use Rattle.std.proofs.Common.{◌≡◌, ◌∙◌, sym, subst}
use Rattle.std.proofs.Math.Logic.{∥∥₁_map}
use Rattle.std.proofs.lemmas.Option.{same_Some}
use Rattle.pp_sound.specs.Sound.{IsCalled}
use Rattle.pp_guess_runs.specs.Guess.{fails, guess}
use Rattle.pp_guess_values.proofs.Defaults.{default_field, default_has_sort, default_of}
use Rattle.pp_guess_values.proofs.Failing.{default_field_has_sort}
use Rattle.pp_demand_steps.proofs.Failing.{failing_moves_exist}
use Rattle.pp_demand_values.specs.DemandedGuess.{DemandedGuessHasValues}

pub demanded_guess_has_values : DemandedGuessHasValues
demanded_guess_has_values p i f here check n wrong ms moves run =
    let same : wrong.function ≡ f = same_Some wrong.function f (sym wrong.called.function ∙ here) in
    ∥∥₁_map p.types.inhabited (λ inhabited. failing_moves_exist p i f wrong.args
    (subst (λ g. IsCalled p i g wrong.args) same wrong.called) check n wrong.answers wrong.answering
    (subst (λ g. guess p.types.ctors p.functions g check wrong.args n wrong.answers ≡ fails) same wrong.failed) ms moves
    (default_field p.types inhabited) (default_field_has_sort p n inhabited) (default_of p.types inhabited)
    (default_has_sort p.types inhabited) run)
