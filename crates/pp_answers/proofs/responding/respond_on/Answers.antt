use Rattle.std.proofs.Common.{map, string_bytes, sym, subst}
use Rattle.pp_answers.specs.Answers.{IsAccepted, accepted, refused, sources_of}
use Rattle.pp_front.specs.Programs.{bytes_of}
use Rattle.pp_front.specs.Refuses.{Refuses}
use Rattle.pp_modes.proofs.Asked.{if_ok}
use Rattle.pp_source.specs.Told.{OnLine}
use Rattle.pp_words.specs.Told.{task_told}
use Rattle.pp_answers.proofs.responding.respond_on.Goals as goal

pub returns-in-Ok : goal.returns-in-Ok
returns-in-Ok c =
    if_ok c.answer.result c.answer.ensures
    (λ r is fetched same. accepted c.in-Ok.accepted.program
    (subst (λ l. IsAccepted l c.in-Ok.accepted.program) (sym same)
    (record { program = c.in-Ok.ensures.program; rules = c.in-Ok.ensures.plan.rules })) is)

pub returns-in-Err-Line : goal.returns-in-Err-Line
returns-in-Err-Line c = λ fetched same.
    let sources = map bytes_of c.args.sources.now in
    let asked = sources_of (task_told c.args.task) fetched in
    refused (subst (λ l. Refuses asked (string_bytes l)) (sym c.in-Err-Line.line-is)
    (subst (λ l. Refuses l (string_bytes c.in-Err-Line.line)) (sym same)
    (subst (λ e. OnLine e (Refuses sources)) c.in-Err-Line.field-0-is c.in-Err-Line.ensures.refused)))
