-- What mode `make` prints is read back, and nothing is fetched.
use Rattle.std.proofs.Common.{◌≡◌, ◌∙◌, ◌<◌, ℕ, List, [], ◌∷◌, length, sym, subst, arith}
use Rattle.std.proofs.lemmas.Option.{none-some}
use Rattle.std.specs.Prelude.{Some}
use Rattle.std.specs.List.{concat}
use Rattle.pp_answers.specs.Answers.{Answers}
use Rattle.pp_answers.specs.Laws.{IsOnVerdicts, MadeReadBack, make_within, numbers_of}
use Rattle.pp_answers.specs.Readings.{IsMadeReadBack}
use Rattle.pp_induct.specs.declared.limits.Limits.{Limits}
use Rattle.pp_modes.proofs.Ranges.{line_fits}
use Rattle.pp_modes.specs.Answers.{IsInRange}
use Rattle.pp_modes.specs.Responses.{Response, lines_in}
use Rattle.pp_modes.specs.declared.status.Status.{Status}
use Rattle.pp_modes.specs.declared.status.Status.TheVariants as status
use Rattle.pp_words.specs.Line.{Line, line_of}
use Rattle.pureproof.proofs.Ending.{IsPrinted, is_accepted, is_printed, one_line, other}
use Rattle.pureproof.specs.Dues.{AreFetched, IsDue, answered, no_line, no_memory, too_long, unread}
use Rattle.pureproof.specs.Ends.{Ends, MadeIsReadBack, ReadsMade, Run}
use Rattle.pureproof.specs.Fetched.{Asks, Text}

-- a text that isn't empty has a line
some_lines : (lines : List Text) (b : ℕ) (bs : Text) → concat lines ≡ b ∷ bs → 0 < length lines
some_lines [] b bs is = absurd (none is)
  where
    none : [] ≡ b ∷ bs → ⊥
    none h = cc
some_lines (line ∷ lines) b bs is = omega arith

module _ (law : MadeReadBack) (run : Run) (line : Line) (seed : ℕ) (limits : Limits)
    (words : line_of run.words ≡ Some line) (task : line.task ≡ make_within seed limits) where
  by_due : (q : Response) (s : Status) → IsDue run.words run.shelf q → IsPrinted run q s → IsOnVerdicts s
      → ReadsMade run s seed limits
  by_due q s (no_line none calm) shown is = absurd (none-some _ (sym none ∙ words))
  by_due q s (unread wanted told at fails) shown is = absurd (other s status.ReadFault shown.same is (omega arith))
  by_due q s (too_long wanted told at long) shown is = absurd (other s status.Refused shown.same is (omega arith))
  by_due q s no_memory shown is = absurd (other s status.Memory shown.same is (omega arith))
  by_due q s (answered wanted sources at fetched answers) shown is =
      let same = one_line run.words wanted line at words in
      let fits = line_fits run.words line words in
      let range : IsInRange (make_within seed limits) = subst IsInRange task fits.range in
      let fetch : AreFetched run.shelf line sources = subst (λ l. AreFetched run.shelf l sources) same fetched in
      let due = subst (λ (l : Line). Answers l.task sources q) same answers in
      let here : Answers (make_within seed limits) sources q = subst (λ t. Answers t sources q) task due in
      let program = is_accepted (make_within seed limits) sources q here (subst IsOnVerdicts shown.same is) in
      let read = law seed limits sources q range.1 here program.0 program.1 in
      record {
        alone = record {
          asks = subst (Asks run.shelf) (fits.none seed (numbers_of limits) task) fetch.asks;
          failed = fetch.calm;
        };
        program = program.0;
        accepted = program.1;
        text = concat (lines_in q);
        printed = shown.all (some_lines (lines_in q) _ _ read.printed.whole);
        says = λ p there.
            subst (IsMadeReadBack limits p (concat (lines_in q))) (sym shown.same)
            (law seed limits sources q range.1 here p there);
      }

pub reads_made : MadeReadBack → (run : Run) (s : Status) → Ends run s → MadeIsReadBack run s
reads_made law run s e line seed limits words task is =
    by_due law run line seed limits words task e.response s e.due (is_printed run e.response s e.shows is) is
