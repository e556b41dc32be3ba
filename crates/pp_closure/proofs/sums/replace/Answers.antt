use Rattle.std.proofs.Common.{ap, arith}
use Rattle.std.proofs.lemmas.Int.{ints}
use Rattle.pp_closure.specs.Sums.{amount}
use Rattle.pp_closure.proofs.Said.{on_ok}
use Rattle.pp_closure.proofs.sums.replace.Goals as goal
use lib.IntN.{◌+ℤ◌}

pub returns-in_ok-add-in-Some : goal.returns-in_ok-add-in-Some
returns-in_ok-add-in-Some c =
    on_ok c.add-in-Some.result _ _
    (λ go v holds.
    let p = c.in-Some.ensures v holds in
    let a = c.in_ok-add-in-Some.ensures v.values in
    let b = go v.values in
    let one = ap (amount v.values) c.in-Some.one-is in
    let other = ap (amount v.values) c.in-Some.other-is in
    ((a.0 +ℤ b.0) +ℤ p.0, omega (arith, ints, a.1, b.1, p.1, one, other)))
    c.add-in-Some.ensures

pub returns-in-None : goal.returns-in-None
returns-in-None c =
    on_ok c.add-in-None.result _ _
    (λ go v holds. let a = go v.values in (a.0, omega (arith, ints, a.1)))
    c.add-in-None.ensures
