use Rattle.std.proofs.Common.{ap, arith}
use Rattle.std.proofs.lemmas.Int.{ints}
use Rattle.pp_closure.specs.Sums.{total}
use Rattle.pp_closure.proofs.sums.difference.Goals as goal
use lib.IntN.{◌+ℤ◌}

pub returns : goal.returns
returns c v holds =
    let x = c.in_ok-all_terms.ensures v holds in
    let one = c.once.ensures v.values holds in
    let other = c.once-2.ensures v.values holds in
    let a = c.in_ok-add.ensures v.values in
    let b = c.in_ok-add-2.ensures v.values in
    let none = ap (total v.values) c.new-terms.ensures in
    ((a.0 +ℤ b.0) +ℤ x.0, omega (arith, ints, a.1, b.1, x.1, one, other, none))
