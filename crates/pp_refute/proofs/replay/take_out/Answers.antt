use Rattle.std.proofs.Common.{sym, ◌∙◌, arith}
use Rattle.pp_refute.proofs.Clearing.{lacks_one}
use Rattle.pp_refute.proofs.replay.take_out.Goals as goal

pub returns-then-not-is_marked-clause-no : goal.returns-then-not-is_marked-clause-no
returns-then-not-is_marked-clause-no c = λ _.
    lacks_one _ _ c.args.clause.now c.loop-lit.lit-index c.lit-item.result c.requires.order (omega arith) c.lit-item.is
    c.loop-lit.invariant (sym c.is_marked.ensures ∙ c.if-not-is_marked.true)
