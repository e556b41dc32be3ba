use Rattle.std.proofs.Common.{◌∙◌, sym, ap, arith}
use Rattle.pp_clause.specs.Literal.{opposite}
use Rattle.pp_refute.specs.Table.{marked}
use Rattle.pp_refute.proofs.Clashes.{found_second}
use Rattle.pp_refute.proofs.table.only_clash.Goals as goal

pub returns-then-is_some-clause-value : goal.returns-then-is_some-clause-value
returns-then-is_some-clause-value c =
    sym (found_second (λ l. marked c.args.table.now (opposite l)) c.args.clause.now c.loop-lit.lit-index
    c.lit-item.result c.loop-lit.found (omega arith) c.lit-item.is
    (sym (ap (marked c.args.table.now) c.negated.ensures) ∙ sym c.is_marked.ensures ∙ c.if-is_marked.true)
    (sym c.is_some.ensures ∙ c.if-is_some.true) c.loop-lit.invariant.0)
