use Rattle.std.proofs.Common.{◌++◌, sym, ap, ◌∙◌}
use Rattle.pp_numbers.proofs.Counts.{ctors_turn}
use Rattle.pp_translation.specs.Numbers.{ctors_at}
use Rattle.pp_numbers.proofs.ctors.ctors_of.Goals as goal

pub loop-d-preserved : goal.loop-d-preserved
loop-d-preserved c =
    let typed = c.args.typed.now in
    let roots = c.args.numbers.now.roots in
    c.in_ok-add_ctors.ensures ∙ ap (λ l. l ++ ctors_at typed roots c.loop-d.d c.at.result.now) c.loop-d.invariant
    ∙ sym (ctors_turn typed roots c.loop-d.d c.at.result.now c.at.ensures)
