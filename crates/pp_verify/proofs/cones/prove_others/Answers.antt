use Rattle.std.proofs.Common.{◌∙◌, arith, sym, subst}
use Rattle.pp_verify.proofs.Ends.{check_at}
use Rattle.pp_verify.proofs.Proving.{AreProvedBy, one_more_proved}
use Rattle.pp_verify.proofs.cones.prove_others.Goals as goal
use Rattle.pp_verify.proofs.cones.prove_others.Goals.{then-is_asked, else-is_asked}

pub loop-c-preserved : goal.loop-c-preserved
loop-c-preserved c =
    let p = c.args.program.now in
    let marks = c.args.given_up.now in
    let own = check_at p c.checks-checks.result.now c.loop-c.c _ c.checks-checks.ensures.all
    (omega (arith, c.loop-c-test.true)) in
    let asks = rw c.as_slice.ensures at c.is_asked.ensures in
    elim c.if-is_asked.branch [
      | then-is_asked w ↦
          one_more_proved p c.args.limits c.args.ends marks c.requires.others c.loop-c.c _ own c.loop-c.after
          c.if-is_asked.after c.loop-c.invariant
          (asks.0 w.if-is_asked.true) (w.after-is ∙ w.set.ensures)
      | else-is_asked w ↦ subst (AreProvedBy p c.args.limits c.args.ends) (sym w.after-is) c.loop-c.invariant
    ]
