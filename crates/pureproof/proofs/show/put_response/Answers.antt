use Rattle.std.proofs.Common.{map, string_bytes, refl, sym, ap, ◌∙◌, subst}
use Rattle.pp_modes.specs.Responses.{refusal, report, response_of}
use Rattle.pureproof.specs.Shown.{Shows, took}
use Rattle.pureproof.proofs.show.put_response.Goals as goal

pub returns-in-Report : goal.returns-in-Report
returns-in-Report g c =
    subst (λ r. Shows (took g.K.Sink.taken g.K.Sink.faults c.args.out.now c.put_report.new.out)
    (took g.E.Sink.taken g.E.Sink.faults c.args.err.now c.put_report.new.err) r c.put_report.result)
    (ap (λ l. report c.in-Report.status (map string_bytes l)) c.deref.ensures.value
    ∙ ap response_of (sym c.in-Report.is)) c.put_report.ensures

pub returns-in-Refusal : goal.returns-in-Refusal
returns-in-Refusal g c =
    subst (λ r. Shows (took g.K.Sink.taken g.K.Sink.faults c.args.out.now c.args.out.now)
    (took g.E.Sink.taken g.E.Sink.faults c.args.err.now c.put_refusal.new.err) r c.put_refusal.result)
    (ap (refusal c.in-Refusal.status) c.as_str.ensures.value ∙ ap response_of (sym c.in-Refusal.is))
    (c.put_refusal.ensures (took g.K.Sink.taken g.K.Sink.faults c.args.out.now c.args.out.now)
    (record { same = refl; calm = refl }))
