use Rattle.std.proofs.Common.{arith}
use Rattle.pp_modes.proofs.Lines.{from_more}
use Rattle.pp_modes.proofs.list.list_lines.Goals as goal

pub loop-f-preserved : goal.loop-f-preserved
loop-f-preserved c =
    let ends = c.function_count-f-end.ensures in
    let more = c.loop-f-test.true in
    let round = c.args.round in
    let depth = c.args.depth in
    record {
      lines = from_more c.args.program.now round depth c.args.program.now.functions c.loop-f.f (omega arith)
          (λ f at. c.in_ok-add_function.ensures f at round depth c.in_ok-estimate.ensures.shared)
          c.loop-f.invariant.lines;
      estimates = c.in_ok-estimate.ensures.estimates;
    }
