use Rattle.std.proofs.Common.{map, string_bytes, sym, subst}
use Rattle.pp_modes.proofs.Asked.{if_ok}
use Rattle.pp_induct.specs.Reports.{AreLimits}
use Rattle.pp_modes.specs.Answers.{AnswersTask, IsInRange, listed, made, run_ends, verified}
use Rattle.pp_modes.specs.Responses.{report, response_of}
use Rattle.pp_modes.specs.Verdicts.{AnswersMake, AnswersVerify}
use Rattle.pp_modes.specs.declared.status.Status.TheVariants as status
use Rattle.pp_words.specs.Task.{list}
use Rattle.pp_words.specs.Told.{task_told}
use Rattle.pp_modes.proofs.answering.answer.Goals as goal

pub answer_verify-requires-clause-limits : goal.answer_verify-requires-clause-limits
answer_verify-requires-clause-limits c =
    subst AreLimits (sym c.limits_of.ensures) (subst (λ t. IsInRange (task_told t)) c.in-Verify.is c.requires.range)

pub answer_make-requires-clause-limits : goal.answer_make-requires-clause-limits
answer_make-requires-clause-limits c =
    subst AreLimits (sym c.limits_of-in-Make.ensures)
    (subst (λ t. IsInRange (task_told t)) c.in-Make.is c.requires.range).1

pub returns-in-Verify : goal.returns-in-Verify
returns-in-Verify c =
    if_ok c.answer_verify.result c.answer_verify.ensures
    (λ r is. subst (λ t. AnswersTask c.args.program.now (task_told t) (response_of r)) (sym c.in-Verify.is)
    (verified (subst (λ l. AnswersVerify c.args.program.now l (response_of r)) c.limits_of.ensures is)))

pub returns-in_ok-list_lines-in-List : goal.returns-in_ok-list_lines-in-List
returns-in_ok-list_lines-in-List c =
    subst (λ t. AnswersTask c.args.program.now (task_told t)
    (report status.AllValid (map string_bytes c.in_ok-list_lines-in-List.field-0.items)))
    (sym c.in-List.is)
    (subst (λ l. AnswersTask c.args.program.now (list c.in-List.rounds c.in-List.depth) (report status.AllValid l))
    (sym c.in_ok-list_lines-in-List.ensures) listed)

pub returns-in-Run : goal.returns-in-Run
returns-in-Run c =
    if_ok c.answer_run.result c.answer_run.ensures
    (λ r is. subst (λ t. AnswersTask c.args.program.now (task_told t) (response_of r)) (sym c.in-Run.is) (run_ends is))

pub returns-in-Make : goal.returns-in-Make
returns-in-Make c =
    if_ok c.answer_make.result c.answer_make.ensures
    (λ r is. subst (λ t. AnswersTask c.args.program.now (task_told t) (response_of r)) (sym c.in-Make.is)
    (made (subst (λ l. AnswersMake c.args.program.now l (response_of r)) c.limits_of-in-Make.ensures is)))
