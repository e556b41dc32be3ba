use Rattle.std.proofs.Common.{map, string_bytes}
use Rattle.pp_modes.proofs.Lines.{with_more}
use Rattle.pp_modes.proofs.list.add_checks.Goals as goal

pub loop-i-preserved : goal.loop-i-preserved
loop-i-preserved c =
    with_more c.args.f c.args.estimate c.args.checks.now c.loop-i.i _ (map string_bytes c.args.lines.now.items)
    c.loop-i-test.true
    c.loop-i.invariant c.in_ok-add_check.ensures
