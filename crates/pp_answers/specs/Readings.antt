-- What is read back from the line of a function, and from the whole text of a report. Source: own.
use Rattle.std.specs.Prelude.{◌≡◌, ◌⊎◌, ◌<◌, ◌≤◌, ℕ, suc, Bool, true, false, ◌||◌, List, Option, Some, None, count_by}
use Rattle.std.specs.Prelude.{length, slice_get}
use Rattle.pp_eval.specs.Runs.{IsGood}
use Rattle.pp_estimate.specs.Estimates.{estimate}
use Rattle.pp_induct.specs.Reports.{IsNotPlain, next_round}
use Rattle.pp_induct.specs.declared.limits.Limits.{Limits}
use Rattle.pp_induction.specs.Ends.{NoLowRunFails}
use Rattle.pp_line_contents.specs.Contents.{Content, Prints, depending, failed, left_open, valid}
use Rattle.pp_line_contents.specs.Reports.{Counts, MadeContent, PrintEach, PrintsMade, PrintsReport, ReportContent}
use Rattle.pp_modes.specs.Lists.{own_checks}
use Rattle.pp_modes.specs.Verdicts.{status_for}
use Rattle.pp_modes.specs.declared.status.Status.{Status}
use Rattle.pp_print.specs.declared.line.Reason.{Reason}
use Rattle.pp_print.specs.declared.line.Reason.TheVariants as reason
use Rattle.pp_prog.specs.Cone.{InCone}
use Rattle.pp_prog.specs.declared.expr.Function.{Function}
use Rattle.pp_prog.specs.declared.id.CheckId.{CheckId}
use Rattle.pp_prog.specs.declared.id.FunctionId.{FunctionId}
use Rattle.pp_prog.specs.declared.program.Program.{Program}
use Rattle.pp_sound.specs.Counterexample.{IsCounterexample}

module _ (limits : Limits) (p : Program) (i : ℕ) (f : Function) where
  -- a round that is named is one of those that are asked for, and no arguments up to the asked depth fail the check
  -- with this fuel
  abbrev pub MeansSearched : Option ℕ → CheckId → Type 0
  MeansSearched None c = Unit {0}
  MeansSearched (Some n) c = (n ≤ limits.rounds) × NoLowRunFails p i c n limits.depth

  -- which query has spent its lemmas, the search of the next round, which is asked for, or the proof of the round that
  -- is named, of a check that is no plain descent: the line says that it is one of the two
  abbrev pub MeansSpent : Option ℕ → CheckId → Type 0
  MeansSpent None c = Unit {0}
  MeansSpent (Some n) c = (suc n ≤ limits.rounds) ⊎ IsNotPlain p c

  -- `rounds`: all asked rounds were searched, and the check is no plain descent. `size`: the estimate of the next
  -- round, which is asked for, is above the asked number of gates. `lemmas`: a search or a proof has spent them.
  abbrev pub MeansReason : Option ℕ → CheckId → Reason → Type 0
  MeansReason searched c reason.Rounds = (searched ≡ Some limits.rounds) × IsNotPlain p c
  MeansReason searched c reason.Size =
      (next_round searched ≤ limits.rounds)
      × (limits.gates < estimate p.types p.functions p.checks c.0 (next_round searched) limits.depth)
  MeansReason searched c reason.Lemmas = MeansSpent searched c

  -- What a content says of function number i. It has so many checks. If it is valid it is good: every call that meets
  -- the precondition evaluates, with some fuel, to a value that meets the postcondition. The function on which it
  -- depends is one that it reaches by calls. Arguments that are named are no higher than asked, and fail the named
  -- check, with some fuel that is at most the asked rounds. A check that is open was searched as is said, and is open
  -- for the reason that is said.
  abbrev pub Means : Content → Type 0
  Means (valid checks) = (checks ≡ own_checks i p.checks) × IsGood p.types.ctors p.functions f
  Means (depending g checks) = (checks ≡ own_checks i p.checks) × InCone p.functions i g.0
  Means (failed c args) = (fuel : ℕ) × (fuel ≤ limits.rounds) × IsCounterexample p i c fuel limits.depth args
  Means (left_open searched c why) = MeansSearched searched c × MeansReason searched c why

-- the line prints one content and no other, and what this says is true
pub record IsReadBack (limits : Limits) (p : Program) (i : ℕ) (f : Function) (line : List ℕ) : Type 0 where
  pub content : Content
  pub printed : Prints p i f line content
  pub only : (other : Content) → Prints p i f line other → other ≡ content
  pub true_of : Means limits p i f content

-- ---- the whole text

abbrev pub is_valid : Content → Bool
is_valid (valid checks) = true
is_valid _ = false

abbrev pub is_failed : Content → Bool
is_failed (failed c args) = true
is_failed _ = false

abbrev pub is_left_open : Content → Bool
is_left_open (left_open searched c why) = true
is_left_open _ = false

abbrev pub is_depending : Content → Bool
is_depending (depending g checks) = true
is_depending _ = false

-- how many of the contents have each verdict
abbrev pub counts_of : List Content → Counts
counts_of cs = record {
  valid = count_by is_valid cs;
  invalid = count_by is_failed cs;
  undecided = count_by is_left_open cs;
  depending = count_by is_depending cs;
}

abbrev pub is_unsettled : Content → Bool
is_unsettled c = is_failed c || is_left_open c

-- what is said of function number g is that it is invalid or open
abbrev pub IsUnsettled : List Content → ℕ → Type 0
IsUnsettled cs g = (c : Content) × (slice_get cs g ≡ Some c) × (is_unsettled c ≡ true)

-- g is the first function, in program order, in the cone of function number i of which it is said so
pub record IsFirstUnsettled (functions : List Function) (cs : List Content) (i g : ℕ) : Type 0 where
  pub reached : InCone functions i g
  pub unsettled : IsUnsettled cs g
  pub first : (h : ℕ) → h < g → InCone functions i h → IsUnsettled cs h → ⊥

-- What the contents say of each function of the program is true, and a function that depends on another one depends
-- on the first that it reaches and of which they say that it is invalid or open.
pub record AreTrue (limits : Limits) (p : Program) (cs : List Content) : Type 0 where
  pub true_of : (i : ℕ) (f : Function) (c : Content) → slice_get p.functions i ≡ Some f → slice_get cs i ≡ Some c
      → Means limits p i f c
  pub depends : (i : ℕ) (g : FunctionId) (checks : ℕ) → slice_get cs i ≡ Some (depending g checks)
      → IsFirstUnsettled p.functions cs i g.0

-- The text prints a content of each function, in order, and counts, and no others. The contents are true, and the
-- counts are those of the verdicts.
pub record IsTextReadBack (limits : Limits) (p : Program) (text : List ℕ) : Type 0 where
  pub content : ReportContent
  pub printed : PrintsReport p text content
  pub only : (other : ReportContent) → PrintsReport p text other → other ≡ content
  pub holds : AreTrue limits p content.functions
  pub counted : content.counts ≡ counts_of content.functions

-- ---- functions that were made

-- The text prints a number of functions and counts, and no others. So many functions the program has. Lines as those of
-- mode `verify` say one verdict of each function, in order, on its own checks. What they say is true, the counts are
-- those of these verdicts, and the status is by the counts.
pub record IsMadeReadBack (limits : Limits) (p : Program) (text : List ℕ) (s : Status) : Type 0 where
  pub content : MadeContent
  pub printed : PrintsMade text content
  pub only : (other : MadeContent) → PrintsMade text other → other ≡ content
  pub all : content.functions ≡ length p.functions
  pub verdicts : List Content
  pub lines : List (List ℕ)
  pub one_each : PrintEach p 0 p.functions lines verdicts
  pub holds : AreTrue limits p verdicts
  pub counted : content.counts ≡ counts_of verdicts
  pub status : s ≡ status_for content.counts.invalid content.counts.undecided content.counts.depending
