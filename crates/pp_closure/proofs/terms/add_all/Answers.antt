use Rattle.std.proofs.Common.{None, get_or, refl, arith}
use Rattle.std.proofs.lemmas.Int.{ints}
use Rattle.pp_closure.proofs.Totals.{total_take, total_taken}
use Rattle.pp_closure.proofs.terms.add_all.Goals as goal
use Rattle.pp_closure.specs.declared.terms.Term.{Term}
use lib.IntN.{pos, ◌+ℤ◌}

abbrev none : Term
none = record {
  coefficient = pos 0;
  product = record { first = None; second = None; third = None; fourth = None };
}

pub loop-term-init : goal.loop-term-init
loop-term-init c ρ = (pos 0, omega (arith, ints))

pub loop-term-preserved : goal.loop-term-preserved
loop-term-preserved c ρ =
    let a = c.in_ok-add.ensures ρ in
    let b = c.loop-term.invariant ρ in
    let next = get_or c.args.more.now c.loop-term.term-index none in
    let t = total_take ρ c.args.more.now c.loop-term.term-index next none c.loop-term-test.true refl in
    (a.0 +ℤ b.0, omega (arith, ints, a.1, b.1, t))

pub returns : goal.returns
returns c ρ =
    let b = c.loop-term.invariant ρ in
    let t = total_taken ρ c.args.more.now c.loop-term.term-index c.loop-term-test.false in
    (b.0, omega (arith, ints, b.1, t))
