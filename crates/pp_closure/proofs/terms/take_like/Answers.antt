use Rattle.std.proofs.Common.{sym, ap, subst, ◌∙◌, rules}
use Rattle.std.specs.Prelude.{slice_get}
use Rattle.std.specs.Int.{w32}
use Rattle.std.specs.Int.RustNames.{FitsSigned}
use Rattle.std.proofs.lemmas.Int.{to_z-of_z}
use Rattle.pp_closure.specs.Sums.{HasProduct, product, total}
use Rattle.pp_closure.proofs.Totals.{total_like}
use Rattle.pp_closure.proofs.terms.take_like.Goals as goal
use lib.IntN.{◌+ℤ◌, ◌*ℤ◌}

pub returns-in-Some : goal.returns-in-Some
returns-in-Some c ρ =
    let fits : FitsSigned w32 c.remove.result.coefficient = search rules in
    total_like ρ c.args.terms.now c.in-Some.place c.remove.result c.args.like.now
    (subst (λ l. HasProduct (slice_get l c.in-Some.place) c.args.like.now) c.as_slice.ensures c.in-Some.ensures)
    c.remove.ensures.item
    ∙ ap (λ l. (c.remove.result.coefficient *ℤ product ρ c.args.like.now) +ℤ total ρ l) (sym c.remove.ensures.rest)
    ∙ ap (λ z. (z *ℤ product ρ c.args.like.now) +ℤ total ρ c.remove.new.self)
    (sym (to_z-of_z w32 c.remove.result.coefficient fits))
