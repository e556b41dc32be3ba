-- What is printed is read back.
use Rattle.std.proofs.Common.{◌≡◌, ap, subst, arith}
use Rattle.std.specs.Prelude.{Some}
use Rattle.std.specs.List.{concat}
use Rattle.pp_answers.specs.Answers.{Answers}
use Rattle.pp_answers.specs.Claims.{Claim}
use Rattle.pp_answers.specs.Laws.{TextReadBack}
use Rattle.pp_induct.specs.Reports.{AreLimits}
use Rattle.pp_induct.specs.declared.limits.Limits.{Limits}
use Rattle.pp_modes.proofs.Ranges.{line_fits}
use Rattle.pp_modes.specs.Answers.{IsInRange}
use Rattle.pp_modes.specs.Responses.{report}
use Rattle.pp_modes.specs.declared.status.Status.{Status}
use Rattle.pureproof.specs.Ends.{EachPrinted, Run, TextIsReadBack}
use Rattle.pureproof.proofs.Held.{as_many}

-- the lines that `out` took are those of an answer to short sources, within limits in their ranges
pub reads_back : TextReadBack → (IsTrue : Limits → Claim) → (run : Run) (s : Status) → EachPrinted IsTrue run s
    → TextIsReadBack run s
reads_back law IsTrue run s each line order limits words task is =
    let r = each line order limits words task is in
    let fits = line_fits run.words line words in
    let many = as_many r.fetched.held in
    let few = fits.few in
    let range : AreLimits limits = subst IsInRange task fits.range in
    let answers = subst (λ t. Answers t r.sources (report s r.lines)) task r.answers in
    record {
      sources = r.sources;
      fetched = r.fetched;
      program = r.program;
      accepted = r.accepted;
      text = concat r.lines;
      printed = r.printed;
      says = law order limits r.sources (report s r.lines) range
          (record { few = omega (arith, many, few); short = r.fetched.short }) answers;
    }
