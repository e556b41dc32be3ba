-- The estimate that the checks of a function share.
use Rattle.std.proofs.Common.{◌≡◌, ◌∙◌, ℕ, None, Some, slice_get, sym, ap}
use Rattle.std.specs.Prelude.{Option}
use Rattle.pp_estimate.specs.Cut.{cut}
use Rattle.pp_estimate.specs.Estimates.{estimate, rounds_at, rounds_of}
use Rattle.pp_modes.specs.Lists.{IsSharedEstimate}
use Rattle.pp_prog.specs.declared.check.Check.{Check}
use Rattle.pp_prog.specs.declared.program.Program.{Program}
use Rattle.pp_sound.specs.Sound.{IsCheckOf}

module _ (p : Program) (round depth f e : ℕ) where
  -- it is that of any of them
  pub shared_by : (c : ℕ) → IsCheckOf p f c → e ≡ estimate p.types p.functions p.checks c round depth
      → IsSharedEstimate p round depth f e
  shared_by c own is d check at of =
      ap (λ o. cut (rounds_of p.types p.functions o round depth)) at
      ∙ ap (λ g. cut (rounds_at p.types p.functions (slice_get p.functions g) round depth)) (of ∙ sym own.owner)
      ∙ sym (ap (λ o. cut (rounds_of p.types p.functions o round depth)) own.listed) ∙ sym is

  -- where there are none, it is any number
  pub shared_by_none : ((c : ℕ) → IsCheckOf p f c → ⊥) → IsSharedEstimate p round depth f e
  shared_by_none none c check at of = absurd (none c (record { check = check; listed = at; owner = of }))
