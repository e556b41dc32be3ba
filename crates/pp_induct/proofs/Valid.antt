-- A function that is valid is good.
use Rattle.std.proofs.Common.{◌≡◌, ℕ, List, Some, length, slice_get, subst, arith, inl, inr}
use Rattle.std.proofs.lemmas.Option.{slice_get_cases, slice_get_within}
use Rattle.pp_prog.specs.declared.program.Program.{Program}
use Rattle.pp_checks.specs.Plan.{IsPlanOf, Plan}
use Rattle.pp_induction.specs.Ends.{AreSettled, IsExhausted, IsSettled, NoGuessFails}
use Rattle.pp_induction.proofs.Ranks.{settled_are_good}
use Rattle.pp_induct.specs.declared.ends.CheckEnd.{CheckEnd}
use Rattle.pp_induct.specs.declared.ends.CheckEnd.TheVariants.{Proved, Exhausted}
use Rattle.pp_induct.specs.declared.verdict.Verdict.{Verdict}
use Rattle.pp_induct.specs.declared.verdict.Verdict.TheVariants as verdict
use Rattle.pp_induct.specs.Supported.{AreSupported, IsSupported}
use Rattle.pp_induct.specs.Verdicts.{AreDone, IsProvedOrExhausted, IsVerdict, ValidAreGood}

module _ (p : Program) (ends : List CheckEnd) (one_each : length ends ≡ length p.checks) (rounds depth : ℕ)
    (supported : AreSupported p rounds depth ends) where
  -- each check of the cone of a function that is valid is settled
  all_settled : (f : ℕ) → AreDone p ends f → AreSettled p f
  all_settled f done g c lt cone check = elim (slice_get_cases ends c.0).1 [
    | inl here ↦ settled here.0 (done g c.0 check.check here.0 (lt, cone) check.listed check.owner here.2)
        (supported c.0 check.check here.0 check.listed here.2)
    | inr past ↦ absurd (omega (arith, past.0, one_each, slice_get_within p.checks c.0 check.check check.listed))
  ]
    where
      Support : CheckEnd → Type 0
      Support e = IsSupported p rounds depth check.check.function.0 c e

      settled : (e : CheckEnd) → IsProvedOrExhausted e → Support e → IsSettled p g c
      settled e (inl proved) h =
          let s : Support (Proved proved.0) = subst Support proved.1 h in
          (proved.0, depth, inl (subst (λ i. NoGuessFails p i c proved.0) check.owner s.1.guesses))
      settled e (inr exhausted) h =
          let s : Support (Exhausted exhausted.0) = subst Support exhausted.1 h in
          (exhausted.0, depth, inr (subst (λ i. IsExhausted p i c exhausted.0 depth) check.owner s.1))

  pub valid_are_good : (plan : Plan) → IsPlanOf plan p → (verdicts : List Verdict)
      → ((f : ℕ) (v : Verdict) → slice_get verdicts f ≡ Some v → IsVerdict p ends f v) → ValidAreGood p verdicts
  valid_are_good plan is_plan verdicts each f is g function cone there =
      settled_are_good plan p is_plan f (all_settled f (each f verdict.Valid is)) g function cone there
