use Rattle.std.proofs.Common.{◌∙◌, List, Option, length, ap, sym, subst}
use Rattle.std.specs.Prelude.{slice_get}
use Rattle.pp_induct.specs.declared.ends.CheckEnd.{CheckEnd}
use Rattle.pp_induct.specs.Reports.{AreEnds}
use Rattle.pp_induct.specs.Verdicts.{AreVerdicts}
use Rattle.pp_induct.proofs.Reports.{ends_are_supported}
use Rattle.pp_verify.specs.Cones.{IsKeptOrProved}
use Rattle.pp_turns.proofs.EndLists.{are_ends, ends_at, ends_size}
use Rattle.pp_turns.proofs.turns.Turns.finish.Goals as goal

pub prove_cones-requires-clause-size : goal.prove_cones-requires-clause-size
prove_cones-requires-clause-size c =
    ap (λ (l : List CheckEnd). length l) c.in_ok-ends.ensures
    ∙ ends_size c.args.self.checks c.requires.ended ∙ c.requires.turns.size

pub prove_cones-requires-clause-ends : goal.prove_cones-requires-clause-ends
prove_cones-requires-clause-ends c =
    subst (λ (l : List CheckEnd). AreEnds c.args.program.now c.args.self.limits l) (sym c.in_ok-ends.ensures)
    (are_ends c.args.program.now c.args.self c.requires.turns c.requires.ended)

pub conclude-requires-clause-supported : goal.conclude-requires-clause-supported
conclude-requires-clause-supported c = (
  c.args.self.limits.depth,
  c.requires.turns.limits.least_depth,
  c.requires.turns.limits.depth,
  ends_are_supported c.args.program.now c.args.self.limits c.as_slice.result.now c.requires.turns.limits
      (subst (λ (l : List CheckEnd). AreEnds c.args.program.now c.args.self.limits l) (sym c.as_slice.ensures)
      c.in_ok-checks.ensures.ends),
)

pub returns-clause-report : goal.returns-clause-report
returns-clause-report c = record {
  size = c.in_ok-checks.ensures.size;
  ends = c.in_ok-checks.ensures.ends;
  verdicts = subst (λ (l : List CheckEnd). AreVerdicts c.args.program.now l c.in_ok-verdicts.verdicts)
      c.as_slice.ensures c.in_ok-verdicts.ensures.table;
}

pub returns-clause-ends : goal.returns-clause-ends
returns-clause-ends c n =
    subst (λ (o : Option CheckEnd). IsKeptOrProved c.args.self.limits o (slice_get c.in_ok-checks.checks n))
    (ap (λ (l : List CheckEnd). slice_get l n) c.in_ok-ends.ensures ∙ ends_at c.args.self.checks c.requires.ended n)
    (c.in_ok-checks.ensures.kept n)
