use Rattle.std.proofs.Common.{sym, ap, ◌∙◌}
use Rattle.pp_closure.specs.Sums.{amount, total}
use Rattle.pp_closure.proofs.Totals.{total_remove}
use Rattle.pp_closure.proofs.terms.take_last.Goals as goal
use lib.IntN.{◌+ℤ◌}

pub returns-then-place-len : goal.returns-then-place-len
returns-then-place-len c ρ =
    total_remove ρ c.args.terms.now c.place_of_last-place.result c.remove.result c.remove.ensures.item
    ∙ ap (λ l. amount ρ c.remove.result +ℤ total ρ l) (sym c.remove.ensures.rest)
