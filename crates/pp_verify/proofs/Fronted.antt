-- A check that is open by its size, where the round that ended it is left to the fronts: so is the last one.
use Rattle.std.proofs.Common.{◌≡◌, ◌∙◌, ℕ, ◌<◌, ◌≤◌, List, Some, inr, length, slice_get, slice_index_or, sym, subst}
use Rattle.std.proofs.Common.{arith}
use Rattle.std.proofs.lemmas.Option.{same_Some}
use Rattle.pp_estimate.specs.Estimates.{estimate}
use Rattle.pp_estimate_laws.proofs.Estimates.{grows_with_rounds}
use Rattle.pp_gate.proofs.Places.{at_read, at_some}
use Rattle.pp_prog.specs.declared.check.Check.{Check}
use Rattle.pp_prog.specs.declared.program.Program.{Program}
use Rattle.pp_induct.specs.declared.ends.CheckEnd.{CheckEnd}
use Rattle.pp_induct.specs.declared.limits.Limits.{Limits}
use Rattle.pp_induct.specs.declared.limits.TheConstants.{FRONTED_ABOVE}
use Rattle.pp_induct.specs.Reports.{AreEnds, AreLimits, IsEnd, IsTooLarge, IsTried}
use Rattle.pp_verify.specs.GivenUp.{IsLargeAt, IsLargeEnd, round_after}

module _ (p : Program) (limits : Limits) (ends : List CheckEnd) (are : AreEnds p limits ends) (n : ℕ)
    (inside : n < length p.checks) (read : CheckEnd) (lt : n < length ends) (is : read ≡ slice_index_or ends n read)
    (asked : IsLargeAt ends n) where
  at : slice_get ends n ≡ Some read
  at = at_read ends n read lt is

  large : IsLargeEnd read
  large = subst IsLargeEnd (same_Some asked.0 read (sym asked.1 ∙ at)) asked.2

  listed : (check : Check) × (slice_get p.checks n ≡ Some check)
  listed = at_some p.checks n inside

  too_large : IsTooLarge p limits listed.0.function.0 (record { 0 = n }) (round_after read)
  too_large =
      let told = subst (IsEnd p limits listed.0.function.0 (record { 0 = n })) large.1
      (are n listed.0 read listed.1 at) in
      subst (λ (e : CheckEnd). IsTooLarge p limits listed.0.function.0 (record { 0 = n }) (round_after e))
      (sym large.1) told.1

  pub round_few : AreLimits limits → round_after read ≤ 12
  round_few within = omega (arith, too_large.round, within.rounds)

  pub tried_last : (i round size : ℕ) → round ≡ round_after read
      → size ≡ estimate p.types p.functions p.checks n round limits.depth → FRONTED_ABOVE < size
      → IsTried p limits i (record { 0 = n }) limits.rounds
  tried_last i round size same estimated above =
      let first = subst (λ (r : ℕ). size ≡ estimate p.types p.functions p.checks n r limits.depth) same estimated in
      let later = grows_with_rounds p.types p.functions p.checks n (round_after read) limits.rounds limits.depth
      too_large.round in
      record { round = omega arith; size = inr (omega (arith, above, first, later)) }
