use Rattle.std.proofs.Common.{sym, ap, ◌∙◌}
use Rattle.pp_closure.specs.Steps.{made_of_two}
use Rattle.pp_closure.proofs.Commuting.{commuting}
use Rattle.pp_closure.proofs.alike.are_taken_alike.Goals as goal

pub returns-then-are_crossed : goal.returns-then-are_crossed
returns-then-are_crossed c ρ holds is =
    let op = c.args.op in
    let one = c.args.one in
    let other = c.args.other in
    let h = c.are_crossed.ensures ρ holds c.if-are_crossed.true in
    ap (λ x. made_of_two op x (ρ one.1)) h.0 ∙ ap (λ y. made_of_two op (ρ other.1) y) h.1
    ∙ commuting op (sym c.commutes.ensures ∙ c.if-commutes.true) (ρ other.1) (ρ other.0)
