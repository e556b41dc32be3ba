-- What modes `verify` and `make` answer. Source: own.
use Rattle.std.specs.Prelude.{◌≡◌, ℕ, zero, suc, Bool, true, false, List, [], ◌∷◌, ◌++◌, Option, Some, None, count_by}
use Rattle.std.specs.Prelude.{length, slice_get}
use Rattle.pp_induct.specs.Reports.{IsReport}
use Rattle.pp_induct.specs.Verdicts.{ValidAreGood}
use Rattle.pp_induct.specs.declared.ends.CheckEnd.{CheckEnd}
use Rattle.pp_induct.specs.declared.ends.CheckEnd.TheVariants as end
use Rattle.pp_induct.specs.declared.ends.Why.{Why}
use Rattle.pp_induct.specs.declared.ends.Why.TheVariants as why
use Rattle.pp_induct.specs.declared.limits.Limits.{Limits}
use Rattle.pp_induct.specs.declared.verdict.Report.{Report}
use Rattle.pp_induct.specs.declared.verdict.Verdict.{Verdict}
use Rattle.pp_induct.specs.declared.verdict.Verdict.TheVariants.{Valid, Depends, Invalid, Open}
use Rattle.pp_modes.specs.Lists.{own_checks}
use Rattle.pp_modes.specs.Responses.{Response, report}
use Rattle.pp_modes.specs.declared.status.Status.{Status}
use Rattle.pp_modes.specs.declared.status.Status.TheVariants as status
use Rattle.pp_print.specs.Lines.{depends_text, invalid_text, open_text, summary_text, valid_text}
use Rattle.pp_print.specs.Made.{made_text}
use Rattle.pp_print.specs.declared.line.Reason.{Reason}
use Rattle.pp_print.specs.declared.line.Reason.TheVariants as reason
use Rattle.pp_prog.specs.declared.check.Check.{Check}
use Rattle.pp_prog.specs.declared.expr.Function.{Function}
use Rattle.pp_prog.specs.declared.program.Program.{Program}
use Rattle.pp_words.specs.declared.task.Numbers.{Numbers}

-- the limits that the numbers of a task name
abbrev pub limits_of : Numbers → Limits
limits_of n = record { rounds = n.rounds; depth = n.depth; lemmas = n.lemmas; gates = n.gates }

-- the reason that is printed
abbrev pub reason_of : Why → Reason
reason_of why.Rounds = reason.Rounds
reason_of (why.Lemmas s) = reason.Lemmas
reason_of why.Size = reason.Size

-- the line of a function with so many checks that depends on another; that function is there
abbrev pub depending_text : Function → ℕ → Option Function → List ℕ
depending_text f checks None = []
depending_text f checks (Some g) = depends_text f.name g.name checks

module _ (p : Program) where
  -- the line of a function on a check of it, by how that ended: arguments fail it, or it is open
  abbrev pub ended_text : Function → Check → CheckEnd → List ℕ
  ended_text f check (end.Proved n) = []
  ended_text f check (end.Exhausted n) = []
  ended_text f check (end.Invalid args n) = invalid_text p.types.ctors f.name check.kind check.place f.params args
  ended_text f check (end.Open searched w) = open_text f.name searched check.kind check.place (reason_of w)

  -- the line on a check and its end, which are there
  abbrev pub check_text : Function → Option Check → Option CheckEnd → List ℕ
  check_text f None e = []
  check_text f (Some check) None = []
  check_text f (Some check) (Some e) = ended_text f check e

  module _ (ends : List CheckEnd) where
    -- the line on the verdict of the function with this number, where the checks ended so
    abbrev pub verdict_text : ℕ → Function → Verdict → List ℕ
    verdict_text i f Valid = valid_text f.name (own_checks i p.checks)
    verdict_text i f (Depends g) = depending_text f (own_checks i p.checks) (slice_get p.functions g.0)
    verdict_text i f (Invalid c) = check_text f (slice_get p.checks c.0) (slice_get ends c.0)
    verdict_text i f (Open c) = check_text f (slice_get p.checks c.0) (slice_get ends c.0)

    -- the lines of functions, the first of which has this number
    abbrev pub verdict_lines : ℕ → List Function → List Verdict → List (List ℕ)
    verdict_lines i [] vs = []
    verdict_lines i (f ∷ fs) [] = []
    verdict_lines i (f ∷ fs) (v ∷ vs) = verdict_text i f v ∷ verdict_lines (suc i) fs vs

abbrev pub is_valid : Verdict → Bool
is_valid Valid = true
is_valid _ = false

abbrev pub is_invalid : Verdict → Bool
is_invalid (Invalid c) = true
is_invalid _ = false

abbrev pub is_open : Verdict → Bool
is_open (Open c) = true
is_open _ = false

abbrev pub is_depending : Verdict → Bool
is_depending (Depends g) = true
is_depending _ = false

-- with so many functions that are invalid, that are open, and that depend on others: 1 where one is invalid, else 2
-- where one is open or depends on another, else 0
abbrev pub status_for : ℕ → ℕ → ℕ → Status
status_for (suc i) o d = status.SomeInvalid
status_for zero (suc o) d = status.SomeOpen
status_for zero zero (suc d) = status.SomeOpen
status_for zero zero zero = status.AllValid

abbrev pub status_by : List Verdict → Status
status_by vs = status_for (count_by is_invalid vs) (count_by is_open vs) (count_by is_depending vs)

-- the line on how many functions have each verdict
abbrev pub summary_by : List Verdict → List ℕ
summary_by vs =
    summary_text (count_by is_valid vs) (count_by is_invalid vs) (count_by is_open vs) (count_by is_depending vs)

-- mode `verify`: a line for each function, and then the summary
abbrev pub verdict_report : Program → Report → Response
verdict_report p found =
    report (status_by found.verdicts)
    (verdict_lines p found.checks 0 p.functions found.verdicts ++ summary_by found.verdicts ∷ [])

-- mode `make`: a line on how many functions the program has, and then the summary
abbrev pub made_report : Program → Report → Response
made_report p found =
    report (status_by found.verdicts) (made_text (length p.functions) ∷ summary_by found.verdicts ∷ [])

-- The response is that on a report of the program: what the report says of each check holds, within these limits, and
-- functions that it calls valid are good.
pub record AnswersBy (report_of : Program → Report → Response) (p : Program) (limits : Limits) (r : Response)
    : Type 0 where
  pub found : Report
  pub holds : IsReport p limits found
  pub valid : ValidAreGood p found.verdicts
  pub says : r ≡ report_of p found

abbrev pub AnswersVerify : Program → Limits → Response → Type 0
AnswersVerify = AnswersBy verdict_report

abbrev pub AnswersMake : Program → Limits → Response → Type 0
AnswersMake = AnswersBy made_report
