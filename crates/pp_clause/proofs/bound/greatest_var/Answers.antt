use Rattle.std.proofs.Common.{arith}
use Rattle.pp_clause.specs.Bound.{IsUpTo}
use Rattle.pp_clause.proofs.Bounds.{greatest_more, all_of}
use Rattle.pp_clause.proofs.bound.greatest_var.Goals as goal

pub loop-place-preserved : goal.loop-place-preserved
loop-place-preserved c =
    let end = c.loop-place.invariant.end in
    record {
      end = end;
      greatest = greatest_more _ _ _ _ c.get.result.now c.loop-place.invariant.greatest (omega arith) c.get.ensures
          c.raised-greatest.ensures.kept
          (rw c.lits.ensures.value at c.raised-greatest.ensures.up_to)
          (rw c.lits.ensures.value at c.raised-greatest.ensures.least) c.raised-greatest.ensures.small;
    }

pub returns-clause-up_to : goal.returns-clause-up_to
returns-clause-up_to c =
    let end = c.loop-place.invariant.end in
    all_of (IsUpTo c.loop-place.greatest) c.args.clauses.now c.loop-place.place (omega arith)
    c.loop-place.invariant.greatest.up_to
