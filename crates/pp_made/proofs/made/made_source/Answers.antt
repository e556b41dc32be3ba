use Rattle.std.proofs.Common.{◌≤◌, ◌+◌, arith, length, subst, sym}
use Rattle.pp_text.specs.Limits.{most_bytes}
use Rattle.pp_made.proofs.Lengths.{source_short}
use Rattle.pp_made.proofs.Turns.{functions_turn, source_end}
use Rattle.pp_made.proofs.made.made_source.Goals as goal

pub loop-earlier-preserved : goal.loop-earlier-preserved
loop-earlier-preserved c =
    functions_turn c.loop-earlier.earlier (10 + c.from-bound.result) _ _ _ (omega (arith, c.from-bound.ensures))
    c.loop-earlier.invariant c.in_ok-push_count.ensures c.in_ok-push_step.ensures

pub returns-clause-bytes : goal.returns-clause-bytes
returns-clause-bytes c =
    source_end c.loop-earlier.earlier c.args.seed _ _
    (omega (arith, c.loop-earlier-test.false, c.loop-earlier.auto.earlier-end))
    c.loop-earlier.invariant c.in_ok-push_str.ensures.bytes

pub returns-clause-short : goal.returns-clause-short
returns-clause-short c h =
    subst (λ bytes. length bytes ≤ most_bytes) (sym (returns-clause-bytes c)) (source_short c.args.seed h)
