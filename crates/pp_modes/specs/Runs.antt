-- What mode `run` answers. Source: own.
use Rattle.std.specs.Prelude.{◌≡◌, ℕ, List, [], ◌∷◌, Option, Some, None, slice_get}
use Rattle.pp_eval.specs.Runs.{run}
use Rattle.pp_eval.specs.declared.outcome.Outcome.{Outcome}
use Rattle.pp_eval.specs.declared.outcome.Outcome.TheVariants.{Done, Outside, Fails, Inner, Deep}
use Rattle.pp_modes.specs.Responses.{Response, refusal, report}
use Rattle.pp_modes.specs.declared.status.Status.{Status}
use Rattle.pp_modes.specs.declared.status.Status.TheVariants as status
use Rattle.pp_print.specs.Refusals.{words_text}
use Rattle.pp_print.specs.Runs.{deep_text, done_text, fails_text, inner_text, outside_text}
use Rattle.pp_prog.specs.Names.{IsFirstNamed}
use Rattle.pp_prog.specs.declared.check.Check.{Check}
use Rattle.pp_prog.specs.declared.expr.Function.{Function}
use Rattle.pp_prog.specs.declared.program.Program.{Program}

-- 0 for a value, 1 for a check that fails, 2 where the precondition is false or the fuel isn't enough
abbrev pub status_of : Outcome → Status
status_of (Done v) = status.AllValid
status_of Outside = status.SomeOpen
status_of (Fails c) = status.SomeInvalid
status_of (Inner g c) = status.SomeInvalid
status_of Deep = status.SomeOpen

-- the line on a check of the function itself; each check that fails is listed
abbrev pub fails_line : List ℕ → Option Check → List ℕ
fails_line name None = []
fails_line name (Some check) = fails_text name check.kind check.place

-- the line on a check of a called function; each function that fails one is there
abbrev pub inner_line : List ℕ → Option Function → Option Check → List ℕ
inner_line name None check = []
inner_line name (Some g) None = []
inner_line name (Some g) (Some check) = inner_text name g.name check.kind check.place

module _ (p : Program) (name : List ℕ) (fuel : ℕ) where
  -- the line on the outcome of a run
  abbrev pub outcome_text : Outcome → List ℕ
  outcome_text (Done v) = done_text p.types.ctors name v
  outcome_text Outside = outside_text name
  outcome_text (Fails c) = fails_line name (slice_get p.checks c.0)
  outcome_text (Inner g c) = inner_line name (slice_get p.functions g.0) (slice_get p.checks c.0)
  outcome_text Deep = deep_text name fuel

  abbrev pub outcome_report : Outcome → Response
  outcome_report o = report (status_of o) (outcome_text o ∷ [])

  -- the function has this printed name and no parameters
  pub record IsAsked (f : Function) : Type 0 where
    pub place : ℕ
    pub named : IsFirstNamed p.functions name place
    pub here : slice_get p.functions place ≡ Some f
    pub bare : f.params ≡ []

  -- The line on the run of the function of this name, with this fuel. Where no function without parameters has the
  -- name, the words are refused.
  pub data AnswersRun : Response → Type 0 where
    no_function : ((f : Function) → IsAsked f → ⊥) → AnswersRun (refusal status.Words words_text)
    ran : (f : Function) → IsAsked f → AnswersRun (outcome_report (run p.types.ctors p.functions f [] fuel))
