use Rattle.std.proofs.Common.{◌+◌, ◌≤◌, [], length, take, subst, sym, ◌∙◌, arith}
use Rattle.std.proofs.lemmas.List.{take_all}
use Rattle.pp_instances.specs.Growth.{Gains, Bursts}
use Rattle.pp_instances.specs.Uses.{start_from}
use Rattle.pp_instances.proofs.Grown.{start_gains, start_keeps, start_over, why_not}
use Rattle.pp_instances.proofs.closure.include_start.Goals as goal
use Rattle.pp_instances.proofs.closure.include_start.Goals.{then-defs-f-eq0+in-Ok, else-defs-f-eq0}

pub returns-in-Err-clause-gains : goal.returns-in-Err-clause-gains
returns-in-Err-clause-gains c =
    let defs = c.as_slice-defs.result.now in
    why_not
    (λ b. subst (λ l. Bursts 512 [] (start_from 0 l)) c.as_slice-defs.ensures
    (start_over defs c.loop-f.f c.index-defs-f.result c.loop-f.members c.without_args.result c.loop-f-test.true
    c.index-defs-f.is c.if-defs-f-eq0.true c.without_args.ensures c.loop-f.invariant.gains b))
    c.in-Err.e c.in-Err.ensures.gains

pub loop-f-preserved : goal.loop-f-preserved
loop-f-preserved c =
    let defs = c.as_slice-defs.result.now in
    let f = c.loop-f.f in
    elim c.if-defs-f-eq0.branch [
      | then-defs-f-eq0+in-Ok w ↦ record {
        gains = subst (λ l. Gains [] (start_from 0 (take (f + 1) defs)) l) (sym w.members-is)
            (start_gains defs f c.index-defs-f.result c.loop-f.members w.include.new.members w.without_args.result
            c.loop-f-test.true c.index-defs-f.is w.if-defs-f-eq0.true w.without_args.ensures
            c.loop-f.invariant.gains w.in-Ok.ensures.gains);
        few = subst (λ l. length l ≤ 512) (sym w.members-is) w.in-Ok.ensures.few;
      }
      | else-defs-f-eq0 w ↦ record {
        gains = subst (λ l. Gains [] (start_from 0 (take (f + 1) defs)) l) (sym w.members-is)
            (start_keeps defs f c.index-defs-f.result c.loop-f.members c.loop-f-test.true c.index-defs-f.is
            w.if-defs-f-eq0.false c.loop-f.invariant.gains);
        few = subst (λ l. length l ≤ 512) (sym w.members-is) c.loop-f.invariant.few;
      }
    ]

pub returns-clause-gains : goal.returns-clause-gains
returns-clause-gains c =
    let defs = c.as_slice-defs.result.now in
    subst (λ l. Gains [] (start_from 0 l) c.loop-f.members)
    (take_all c.loop-f.f defs (omega (arith, c.loop-f-test.false)) ∙ c.as_slice-defs.ensures)
    c.loop-f.invariant.gains
