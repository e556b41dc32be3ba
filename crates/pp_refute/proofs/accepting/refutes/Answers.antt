use Rattle.std.proofs.Common.{arith, length}
use Rattle.pp_refute.proofs.Bounds.{before_fit}
use Rattle.pp_refute.proofs.Logs.{derived_more, not_derived}
use Rattle.pp_refute.proofs.accepting.refutes.Goals as goal

pub is_derived-requires-clause-fits : goal.is_derived-requires-clause-fits
is_derived-requires-clause-fits c =
    rw (c.loop-place.auto.table, c.is_negated.auto.table)
    (before_fit (length c.args.table.now) c.args.clauses.now c.args.lemmas.now c.loop-place.place
    c.requires.clauses_fit c.requires.lemmas_fit)

pub returns-then-not-is_derived-clause-no : goal.returns-then-not-is_derived-clause-no
returns-then-not-is_derived-clause-no c = λ _.
    not_derived c.args.clauses.now c.args.assumptions.now c.args.lemmas.now c.loop-place.place
    c.index-lemmas-place.result (omega arith) c.index-lemmas-place.is
    (c.is_derived.ensures.no c.if-not-is_derived.true)

pub loop-place-preserved : goal.loop-place-preserved
loop-place-preserved c = (
  derived_more c.args.clauses.now c.args.lemmas.now c.loop-place.place c.index-lemmas-place.result (omega arith)
      c.index-lemmas-place.is c.loop-place.invariant.0 (c.is_derived.ensures.yes c.if-not-is_derived.false),
  c.is_derived.ensures.empty c.if-not-is_derived.false,
)
