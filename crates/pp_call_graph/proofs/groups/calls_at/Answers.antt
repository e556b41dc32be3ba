use Rattle.std.proofs.Common.{◌++◌, sym, ap, ◌∙◌}
use Rattle.pp_call_graph.specs.TypedCalls.{row_at}
use Rattle.pp_call_graph.proofs.Table.{calls_turn}
use Rattle.pp_call_graph.proofs.groups.calls_at.Goals as goal

pub loop-i-preserved : goal.loop-i-preserved
loop-i-preserved c =
    let typed = c.args.typed.now in
    let functions = c.args.numbers.now.functions in
    let i = c.i-item.result in
    c.in_ok-add_row.ensures ∙ ap (λ l. l ++ row_at typed functions i) c.loop-i.invariant
    ∙ sym (calls_turn typed functions c.args.functions.now c.loop-i.i-index i c.loop-i-test.true c.i-item.is)
