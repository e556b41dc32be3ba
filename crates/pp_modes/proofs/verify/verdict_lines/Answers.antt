use Rattle.std.proofs.Common.{get_or, sym, ap, ◌∙◌}
use Rattle.std.proofs.lemmas.Option.{slice_get-get_or}
use Rattle.pp_induct.specs.declared.verdict.Verdict.TheVariants.{Valid}
use Rattle.pp_modes.proofs.Lines.{pushed}
use Rattle.pp_modes.proofs.Verdicts.{lines_more}
use Rattle.pp_modes.proofs.verify.verdict_lines.Goals as goal

pub loop-i-preserved : goal.loop-i-preserved
loop-i-preserved c =
    let fs = c.args.program.now.functions in
    let vs = c.args.verdicts.now in
    let i = c.loop-i.i in
    let verdict = get_or vs i Valid in
    lines_more c.args.program.now c.args.ends.now fs vs i c.index-functions-i.result verdict (sym c.requires)
    c.loop-i-test.true
    (c.index-functions-i.is ∙ ap (λ l. get_or l i c.index-functions-i.result) c.as_slice-functions.ensures)
    (slice_get-get_or vs i Valid c.loop-i-test.true) c.loop-i.invariant
    (pushed c.loop-i.lines.items c.push.new.self.items c.in_ok-line.line _ c.in_ok-push.ensures.items
    c.in_ok-line.ensures)
