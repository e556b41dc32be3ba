-- What is read back from the text on functions that were made is what was printed, and it is true.
use Rattle.std.proofs.Common.{◌≡◌, ◌∙◌, ℕ, List, [], ◌∷◌, count_by, length, refl, sym, ap, subst, arith}
use Rattle.std.specs.List.{concat}
use Rattle.pp_answers.proofs.Claimed.{of_make}
use Rattle.pp_answers.proofs.Excluded.{excluded}
use Rattle.pp_answers.proofs.Lines.{as_verify}
use Rattle.pp_answers.proofs.Once.{AreAlike, one_program}
use Rattle.pp_answers.proofs.Texts.{AreTold, HaveVerdicts, each_there, same_counts, told_all, told_small, told_true}
use Rattle.pp_answers.proofs.Texts.{true_there}
use Rattle.pp_answers.specs.Answers.{accepted, refused}
use Rattle.pp_answers.specs.Laws.{MadeReadBack}
use Rattle.pp_answers.specs.Readings.{IsMadeReadBack, counts_of, is_failed, is_left_open}
use Rattle.pp_induct.specs.Reports.{AreLimits}
use Rattle.pp_induct.specs.declared.limits.Limits.{Limits}
use Rattle.pp_induct.specs.declared.verdict.Verdict.{Verdict}
use Rattle.pp_line_contents.proofs.Made.{made_texts_tell_contents}
use Rattle.pp_line_contents.specs.Contents.{Content}
use Rattle.pp_line_contents.specs.Reports.{MadeContent, PrintEach, PrintsMade}
use Rattle.pp_made.specs.Made.{made_source}
use Rattle.pp_modes.specs.Responses.{Response, lines_in, status_in}
use Rattle.pp_modes.specs.Verdicts as verdict
use Rattle.pp_modes.specs.Verdicts.{AnswersMake, AnswersVerify, status_by, status_for, verdict_report}
use Rattle.pp_modes.specs.declared.status.Status.{Status}
use Rattle.pp_print.specs.Made.{made_text}
use Rattle.pp_prog.specs.declared.expr.Function.{Function}
use Rattle.pp_prog.specs.declared.program.Program.{Program}

-- the status by the verdicts is that by the counts
same_status : (cs : List Content) (vs : List Verdict) → HaveVerdicts cs vs
    → status_by vs ≡ status_for (count_by is_failed cs) (counts_of cs).undecided (counts_of cs).depending
same_status cs vs have =
    ap (λ n. status_for n (count_by verdict.is_open vs) (count_by verdict.is_depending vs)) (sym have.invalid)
    ∙ ap (λ n. status_for (count_by is_failed cs) n (count_by verdict.is_depending vs)) (sym have.undecided)
    ∙ ap (status_for (count_by is_failed cs) (count_by is_left_open cs)) (sym have.depending)

module _ (p : Program) (limits : Limits) (r : Response) (a : AnswersMake p limits r) (range : AreLimits limits) where
  -- the lines that mode `verify` would print
  abbrev lines : AnswersVerify p limits (verdict_report p a.found)
  lines = as_verify p limits r a

  abbrev told : AreTold p limits (verdict_report p a.found) lines range 0 p.functions a.found.verdicts
  told = told_all p limits (verdict_report p a.found) lines range

  told_made : IsMadeReadBack limits p (concat (lines_in r)) (status_in r)
  told_made =
      let content : MadeContent = record { functions = length p.functions; counts = counts_of told.contents } in
      let most = p.few_functions in
      let prints : PrintsMade (concat (lines_in r)) content = record {
        few = omega (arith, most);
        small = told_small p limits (verdict_report p a.found) lines range;
        whole = ap (λ s. concat (lines_in s)) a.says
            ∙ ap (λ l. concat (made_text (length p.functions) ∷ l ∷ []))
            (same_counts told.contents a.found.verdicts told.counts);
      } in
      record {
        content = content;
        printed = prints;
        only = λ other h. made_texts_tell_contents (concat (lines_in r)) other content h prints;
        all = refl;
        verdicts = told.contents;
        lines = verdict.verdict_lines p lines.found.checks 0 p.functions a.found.verdicts;
        one_each = told.prints;
        holds = told_true p limits (verdict_report p a.found) lines range;
        counted = refl;
        status = ap status_in a.says ∙ same_status told.contents a.found.verdicts told.counts;
      }

made_there : (p q : Program) → AreAlike p q → (limits : Limits) (text : List ℕ) (s : Status)
    → IsMadeReadBack limits p text s → IsMadeReadBack limits q text s
made_there p q alike limits text s h = record {
  content = h.content;
  printed = h.printed;
  only = h.only;
  all = h.all ∙ ap (λ (fs : List Function). length fs) alike.functions;
  verdicts = h.verdicts;
  lines = h.lines;
  one_each =
      subst (λ fs. PrintEach q 0 fs h.lines h.verdicts) alike.functions (each_there p q alike h.one_each);
  holds = true_there p q alike limits h.verdicts h.holds;
  counted = h.counted;
  status = h.status;
}

pub made_read_back : MadeReadBack
made_read_back seed limits fetched r range (refused {line = text} a) p is =
    absurd (excluded (made_source seed ∷ []) text p a is)
made_read_back seed limits fetched r range (accepted q also a) p is =
    let alike = one_program (made_source seed ∷ []) q p also.program is.program in
    made_there q p alike limits (concat (lines_in r)) (status_in r)
    (told_made q limits r (of_make q seed limits a) range)
