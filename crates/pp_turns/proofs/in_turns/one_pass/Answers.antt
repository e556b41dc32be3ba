use Rattle.std.proofs.Common.{ℕ, List, ◌<◌, ◌≤◌, ◌≡◌, ◌∙◌, length, ap, refl, subst, arith}
use Rattle.pp_prog.specs.declared.check.Check.{Check}
use Rattle.pp_turns.specs.Passes.{place_named}
use Rattle.pp_turns.proofs.Passing.{pass_begins, pass_ends, pass_goes_on, place_within}
use Rattle.pp_turns.proofs.in_turns.one_pass.Goals as goal

pub loop-n-init : goal.loop-n-init
loop-n-init c = record {
  turns = c.requires.turns;
  limits = refl;
  named = λ k h. pass_begins c.args.program.now k c.args.order c.args.turns.checks h;
}

pub turn-requires-clause-check : goal.turn-requires-clause-check
turn-requires-clause-check c =
    let count : length c.checks-count.result.now ≡ length c.args.program.now.checks =
    ap (λ (l : List Check). length l) c.checks-count.ensures.all in
    let within = place_within c.args.order (length c.checks-count.result.now) c.loop-n.n c.loop-n-test.true in
    omega (arith, count, within, c.named-check.ensures)

pub loop-n-preserved : goal.loop-n-preserved
loop-n-preserved c =
    let p = c.args.program.now in
    let count : length c.checks-count.result.now ≡ length p.checks =
    ap (λ (l : List Check). length l) c.checks-count.ensures.all in
    record {
      turns = c.in_ok-after.ensures.turns;
      limits = c.in_ok-after.ensures.others.limits ∙ c.loop-n.invariant.limits;
      named = λ k h.
          pass_goes_on p k c.args.order c.loop-n.n c.loop-n.after.checks _
          c.named-check.result (subst (λ (m : ℕ). c.loop-n.n < m) count c.loop-n-test.true)
          (c.named-check.ensures ∙ ap (λ (m : ℕ). place_named c.args.order m c.loop-n.n) count)
          c.in_ok-after.ensures.turned (c.loop-n.invariant.named k h);
    }

pub returns-clause-named : goal.returns-clause-named
returns-clause-named c k h =
    let p = c.args.program.now in
    let count : length c.checks-count.result.now ≡ length p.checks =
    ap (λ (l : List Check). length l) c.checks-count.ensures.all in
    pass_ends p k c.args.order c.loop-n.n c.loop-n.after.checks
    (subst (λ (m : ℕ). m ≤ c.loop-n.n) count c.loop-n-test.false) (c.loop-n.invariant.named k h)
