use Rattle.std.proofs.Common.{◌-◌, length, refl}
use Rattle.std.proofs.lemmas.Result.{IfOk-weaker}
use Rattle.pp_learn.proofs.Points.{refuted}
use Rattle.pp_learn.proofs.Reasons.{apart_from, chain_some, chain_numbers}
use Rattle.pp_learn.proofs.work.Work.refute.Goals as goal

pub lemma_of-requires-clause-apart : goal.lemma_of-requires-clause-apart
lemma_of-requires-clause-apart c = apart_from c.args.clauses.now (length c.args.self.now.seen.items - 1)
    c.args.trail.now c.args.trail.now c.requires.trail refl

pub lemma_of-requires-clause-some : goal.lemma_of-requires-clause-some
lemma_of-requires-clause-some c = chain_some _ _ _ _ c.deref-2.result.now c.in_ok-to_decisions.ensures.reached
    c.deref-2.ensures.value

pub lemma_of-requires-clause-numbers : goal.lemma_of-requires-clause-numbers
lemma_of-requires-clause-numbers c = chain_numbers _ _ _ _ c.deref-2.result.now c.in_ok-to_decisions.ensures.reached
    c.deref-2.ensures.value

pub returns-clause-decided : goal.returns-clause-decided
returns-clause-decided c =
    IfOk-weaker c.lemma_of.result _ _ (λ m k.
    refuted c.args.trail.now c.args.trail.now c.to_decisions.new.seen m.clause refl k
    c.in_ok-to_decisions.ensures.decided) c.lemma_of.ensures.shown
