-- The laws of mode `verify`: what its answers mean for the program of the sources.
use Rattle.std.proofs.Common.{ℕ, List, ap, sym, subst, ◌∙◌}
use Rattle.std.specs.Prelude.{slice_get}
use Rattle.pp_answers.proofs.Alike.{invalid_there, lines_there, open_there, valid_there}
use Rattle.pp_answers.proofs.Excluded.{excluded}
use Rattle.pp_answers.proofs.Heads.{heads_told}
use Rattle.pp_answers.proofs.Meaning.{EachTold, told_each, told_failed, told_good, told_searched}
use Rattle.pp_answers.proofs.Once.{AreAlike, one_program}
use Rattle.pp_answers.specs.Answers.{accepted, refused}
use Rattle.pp_answers.specs.Claims.{AreLinesOf, Claim, InvalidFails, OpenIsSearched, ValidIsGood}
use Rattle.pp_answers.specs.Laws.{InvalidMeansFailed, IsAlwaysTrue, OneLineEach, OpenMeansSearched, ValidMeansGood}
use Rattle.pp_answers.specs.Laws.{make_within, verify_within}
use Rattle.pp_induct.specs.declared.limits.Limits.{Limits}
use Rattle.pp_modes.specs.Answers.{AnswersTask, made as makes, verified as verifies}
use Rattle.pp_modes.specs.Responses.{Response, status_in}
use Rattle.pp_modes.specs.Verdicts.{AnswersMake, AnswersVerify}
use Rattle.pp_prog.specs.declared.expr.Function.{Function}
use Rattle.pp_prog.specs.declared.program.Program.{Program}
use Rattle.pp_words.specs.declared.order.Order.{Order}

pub of_verify : (p : Program) (order : Order) (limits : Limits) {r : Response}
    → AnswersTask p (verify_within order limits) r → AnswersVerify p limits r
of_verify p order limits (verifies a) = a

pub of_make : (p : Program) (seed : ℕ) (limits : Limits) {r : Response} → AnswersTask p (make_within seed limits) r
    → AnswersMake p limits r
of_make p seed limits (makes a) = a

-- a claim that is true of the heads of each answer, and of programs that are alike
always : (IsTrue : Limits → Claim)
    → ((p : Program) (limits : Limits) (r : Response) (a : AnswersVerify p limits r)
    → EachTold p limits r a (IsTrue limits))
    → ((p q : Program) → AreAlike p q → (limits : Limits) (i : ℕ) (f : Function) (line : List ℕ)
    → IsTrue limits p i f line → IsTrue limits q i f line)
    → IsAlwaysTrue IsTrue
always IsTrue told there order limits sources r (refused {line = text} a) p is i f line at here =
    absurd (excluded sources text p a is)
always IsTrue told there order limits sources r (accepted q also a) p is i f line at here =
    let alike = one_program sources q p also.program is.program in
    let verified = of_verify q order limits a in
    there q p alike limits i f line
    (told q limits r verified i f line (ap (λ fs. slice_get fs i) alike.functions ∙ at)
    (ap (λ l. slice_get l i) (sym (heads_told sources q also limits r verified)) ∙ here))

pub valid_means_good : ValidMeansGood
valid_means_good = always (λ limits. ValidIsGood) (λ p limits r a. told_good p limits r a)
    (λ p q alike limits i f line. valid_there p q alike i f line)

pub invalid_means_failed : InvalidMeansFailed
invalid_means_failed = always InvalidFails (λ p limits r a. told_failed p limits r a)
    (λ p q alike limits i f line. invalid_there p q alike limits i f line)

pub open_means_searched : OpenMeansSearched
open_means_searched = always OpenIsSearched (λ p limits r a. told_searched p limits r a)
    (λ p q alike limits i f line. open_there p q alike limits i f line)

pub one_line_each : OneLineEach
one_line_each order limits sources r (refused {line = line} a) p is = absurd (excluded sources line p a is)
one_line_each order limits sources r (accepted q also a) p is =
    let alike = one_program sources q p also.program is.program in
    let verified = of_verify q order limits a in
    lines_there q p alike _ _
    (subst (λ l. AreLinesOf q l (status_in r)) (sym (heads_told sources q also limits r verified))
    (told_each q limits r verified))
