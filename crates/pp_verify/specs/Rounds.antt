-- While a check is worked on, round after round. Source: own.
use Rattle.std.specs.Prelude.{◌≡◌, ◌+◌, ◌<◌, ◌≤◌, ℕ, zero, suc, nat_eq, if◌then◌else◌, Bool, IsTrue, List}
use Rattle.std.specs.Prelude.{Option, Some, None, length}
use Rattle.pp_prog.specs.declared.expr.Function.{Function}
use Rattle.pp_prog.specs.declared.id.CheckId.{CheckId}
use Rattle.pp_prog.specs.declared.program.Program.{Program}
use Rattle.pp_prog.specs.Calls.{call_table}
use Rattle.pp_prog.specs.Cone.{IsWordFunction}
use Rattle.pp_checks.specs.Closed.{Nests}
use Rattle.pp_checks.specs.Plan.{IsPlanOf, Plan}
use Rattle.pp_induct.specs.declared.ends.CheckEnd.{CheckEnd}
use Rattle.pp_induct.specs.declared.ends.CheckEnd.TheVariants.{Open}
use Rattle.pp_induct.specs.declared.ends.Why.{Why}
use Rattle.pp_induct.specs.declared.ends.Why.TheVariants.{Rounds}
use Rattle.pp_induct.specs.declared.limits.Limits.{Limits}
use Rattle.pp_induct.specs.Reports.{IsEnd, IsNotPlain, IsSearchedTo}
use Rattle.pp_induction.specs.Ends.{GuessFails}
use Rattle.pp_sound.specs.Sound.{IsCheckOf}
use Rattle.pp_verify.specs.declared.progress.Progress.{Progress}
use Rattle.pp_verify.specs.declared.progress.Step.{Step}
use Rattle.pp_verify.specs.declared.progress.Step.TheVariants.{Ended, Next}

-- the round before this one, if there is one
abbrev pub round_before : ℕ → Option ℕ
round_before zero = None
round_before (suc n) = Some n

-- open, where this round wasn't searched and the one before it was
abbrev pub open_before : ℕ → Why → CheckEnd
open_before round why = Open (round_before round) why

-- no call of function number i was left to unfold in the round before this one
abbrev pub IsRepeated : List Function → ℕ → ℕ → Type 0
IsRepeated functions i zero = ⊥
IsRepeated functions i (suc n) = Nests (call_table functions) n i

-- the answer is true only where that is so, in each program of which it is the plan
abbrev pub TellsRepeated : Plan → ℕ → ℕ → Bool → Type 0
TellsRepeated plan i round b =
    (p : Program) → IsPlanOf plan p → i < length p.functions → IsTrue b → IsRepeated p.functions i round

-- behind a round that ended nothing: the next one; or open, where this was the last that is asked for
abbrev pub step_after : Limits → Progress → Step
step_after limits progress =
    if nat_eq progress.round limits.rounds then Ended (Open (Some progress.round) Rounds)
    else Next (record { function = progress.function; check = progress.check; round = progress.round + 1 })

module _ (p : Program) (limits : Limits) where
  -- of check c, which belongs to function number i: each round before this one was searched, without arguments that
  -- fail the check, and left its function open; after the first of them the check is no plain descent; and where the
  -- function meets no datatype, some guess run of each of them fails the check
  pub record HasSearchedBefore (i : ℕ) (c : CheckId) (round : ℕ) : Type 0 where
    pub each : (n : ℕ) → n < round → IsSearchedTo p limits i c n
    pub not_plain : 0 < round → IsNotPlain p c
    pub guessed : IsWordFunction p.types p.functions i → (n : ℕ) → n < round → GuessFails p i c n

  -- the work on a check of the function has come so far, and the round that comes next is asked for
  pub record HasCome (progress : Progress) : Type 0 where
    pub own : IsCheckOf p progress.function.0 progress.check.0
    pub round : progress.round ≤ limits.rounds
    pub before : HasSearchedBefore progress.function.0 progress.check progress.round

  -- the work on the same check has come one round further
  pub record ComesFurther (progress next : Progress) : Type 0 where
    pub function : next.function ≡ progress.function
    pub check : next.check ≡ progress.check
    pub round : next.round ≡ progress.round + 1
    pub come : HasCome next

  -- what a round gives: the end of the check, or one more round that was searched
  abbrev pub StepGives : Progress → Step → Type 0
  StepGives progress (Ended end) = IsEnd p limits progress.function.0 progress.check end
  StepGives progress (Next next) = ComesFurther progress next
