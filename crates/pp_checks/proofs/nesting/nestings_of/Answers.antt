use Rattle.std.proofs.Common.{arith, sym, subst}
use Rattle.pp_checks.specs.Tables.{AreSettled}
use Rattle.pp_checks.proofs.Settling.{settled_all, settled_none}
use Rattle.pp_checks.proofs.nesting.nestings_of.Goals as goal

pub loop-depth-init : goal.loop-depth-init
loop-depth-init c =
    subst (AreSettled c.args.calls.now 0) (sym c.in_ok-depths.ensures) (settled_none c.args.calls.now)

pub returns : goal.returns
returns c =
    settled_all c.args.calls.now c.loop-depth.depth c.loop-depth.depths (omega arith) c.loop-depth.invariant
