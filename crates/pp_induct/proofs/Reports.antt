-- What follows from a report: its ends support the verdicts, and some ends can't come.
use Rattle.std.proofs.Common.{◌≡◌, ℕ, List, Option, Some, slice_get, sym, ◌∙◌, subst, arith}
use Rattle.pp_prog.specs.declared.id.CheckId.{CheckId}
use Rattle.pp_prog.specs.declared.program.Program.{Program}
use Rattle.pp_prog.specs.declared.value.Value.{Value}
use Rattle.pp_eval.proofs.Lasts.{lasts}
use Rattle.pp_run_laws.proofs.Nested.{nested_never_deep}
use Rattle.pp_sound.specs.Counterexample.{IsCounterexample}
use Rattle.pp_sound.specs.Sound.{IsCheckOf}
use Rattle.pp_induct.specs.declared.ends.CheckEnd.{CheckEnd}
use Rattle.pp_induct.specs.declared.ends.CheckEnd.TheVariants.{Proved, Exhausted, Invalid, Open}
use Rattle.pp_induct.specs.declared.ends.Why.TheVariants.{Rounds}
use Rattle.pp_induct.specs.declared.limits.Limits.{Limits}
use Rattle.pp_induct.specs.Laws.{ClosedAreDecided, FailingAreFound, PlainAreDecided}
use Rattle.pp_induct.specs.Reports.{AreEnds, AreLimits, IsEnd, IsExhaustedIn, IsSearched, IsSearchedTo}
use Rattle.pp_induct.specs.Supported.{AreSupported, IsSupported}

module _ (p : Program) (limits : Limits) where
  -- ends of which all holds that they say support the verdicts
  pub ends_are_supported : (ends : List CheckEnd) → AreLimits limits → AreEnds p limits ends
      → AreSupported p 12 limits.depth ends
  ends_are_supported ends within are c check end listed at =
      by check.function.0 (record { 0 = c }) end (are c check end listed at)
    where
      by : (i : ℕ) (c : CheckId) (end : CheckEnd) → IsEnd p limits i c end → IsSupported p 12 limits.depth i c end
      by i c (Proved n) h = (omega (arith, within.rounds, h.tried.round), h.proved)
      by i c (Exhausted n) h = (omega (arith, within.rounds, h.tried.round), h.exhausted)
      by i c (Invalid args n) h = tt
      by i c (Open searched why) h = tt

  -- what is said of a check of function number i holds
  end_holds : (ends : List CheckEnd) → AreEnds p limits ends → (i : ℕ) (c : CheckId) → IsCheckOf p i c.0
      → (end : CheckEnd) → slice_get ends c.0 ≡ Some end → IsEnd p limits i c end
  end_holds ends are i c check end at =
      subst (λ j. IsEnd p limits j c end) check.owner (are c.0 check.check end check.listed at)

  -- where the check is open for want of rounds, the last round was searched
  last_is_searched : (i : ℕ) (c : CheckId) (searched : Option ℕ) → IsEnd p limits i c (Open searched Rounds)
      → IsSearchedTo p limits i c limits.rounds
  last_is_searched i c searched h = subst (IsSearched p limits i c) h.1.0 h.0

  -- an exhausted check isn't failed in a later round, for a run that isn't out of fuel lasts
  exhausted_never_fail : (i : ℕ) (c : CheckId) (n d : ℕ) (args : List Value) → IsExhaustedIn p limits i c n
      → IsCounterexample p i c limits.rounds d args → ⊥
  exhausted_never_fail i c n d args h failing =
      let never = nested_never_deep p i failing.function args failing.called n h.exhausted.closed.nested in
      h.exhausted.runs failing.function args failing.called
      (sym (lasts p.types.ctors p.functions failing.function args n limits.rounds h.tried.round never) ∙ failing.fails)

pub closed_are_decided : ClosedAreDecided
closed_are_decided p limits report is i c check closed searched at =
    let h = end_holds p limits report.checks is.ends i c check (Open searched Rounds) at in
    (last_is_searched p limits i c searched h).open_still closed

pub plain_are_decided : PlainAreDecided
plain_are_decided p limits report is i c check plain searched at =
    (end_holds p limits report.checks is.ends i c check (Open searched Rounds) at).1.1 plain

pub failing_are_found : FailingAreFound
failing_are_found p limits report is i c check args failing = (
  λ n at.
      exhausted_never_fail p limits i c n limits.depth args
      (end_holds p limits report.checks is.ends i c check (Exhausted n) at) failing,
  λ searched at.
      (last_is_searched p limits i c searched
      (end_holds p limits report.checks is.ends i c check (Open searched Rounds) at)).none failing.function args
      failing.called failing.low failing.fails,
)
