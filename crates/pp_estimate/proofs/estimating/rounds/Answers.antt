use Rattle.std.proofs.Common.{◌≡◌, ◌∙◌, ℕ, suc, ap, arith}
use Rattle.pp_estimate.specs.Cut.{cut}
use Rattle.pp_estimate.specs.Estimates.{single, sum_below}
use Rattle.pp_estimate.proofs.Totals.{sum_more}
use Rattle.pp_estimate.proofs.estimating.rounds.Goals as goal

pub loop-round-preserved : goal.loop-round-preserved
loop-round-preserved c = record {
  total = sum_more (λ (r : ℕ). single c.args.types.now c.args.functions.now c.args.f.now r c.args.depth)
      c.loop-round.round c.loop-round.total _ c.saturating_add-total.result c.loop-round.invariant.total
      c.in_ok-single.ensures.single c.saturating_add-total.ensures;
  sound = c.in_ok-single.ensures.sound;
}

pub returns-clause-rounds : goal.returns-clause-rounds
returns-clause-rounds c =
    let all : c.loop-round.round ≡ suc c.args.last = omega arith in
    c.loop-round.invariant.total ∙ ap (λ (n : ℕ). cut
    (sum_below n (λ (r : ℕ). single c.args.types.now c.args.functions.now c.args.f.now r c.args.depth))) all
