use Rattle.std.proofs.Common.{◌<◌, Some, ap, arith, length, sym, ◌∙◌}
use Rattle.std.proofs.lemmas.Int.{ints}
use Rattle.pp_closure.specs.Sums.{whole}
use Rattle.pp_closure.proofs.GoingDown.{descends}
use Rattle.pp_closure.proofs.Totals.{sorted_word}
use Rattle.pp_closure.proofs.descents.descent_at.Goals as goal
use lib.IntN.{pos}
use lib.Signed.{◌≤ℤ◌}

pub returns-then-is_int : goal.returns-then-is_int
returns-then-is_int c v holds =
    let new = c.in-Some-GoesDown.new in
    let natural : new < length c.args.all.now → pos 0 ≤ℤ whole (v.values new) =
    λ within.
    let word = sorted_word v.types.ctors (v.values new) (v.sorts new) (v.sorted new within) in
    let low = c.low.ensures v.values holds word in omega (arith, ints, low) in
    descends _ v c.args.number new c.in-Some-GoesDown.old
    (sym c.in-Some-GoesDown.ensures ∙ ap Some c.in-Some-GoesDown.field-0-is) (c.is_int.ensures v c.if-is_int.true)
    natural
