use Rattle.std.proofs.Common.{◌≡◌, sym, ap, ◌∙◌, arith, rules}
use Rattle.std.specs.Int.{w32, cast_signed}
use Rattle.std.specs.Int.RustNames.{FitsSigned}
use Rattle.std.proofs.Math.IntN.{zero-*ℤ}
use Rattle.std.proofs.lemmas.Int.{ints, to_z-of_z}
use Rattle.pp_closure.specs.Sums.{product, total}
use Rattle.pp_closure.proofs.Totals.{added, total_push, word_sum}
use Rattle.pp_closure.proofs.terms.add.Goals as goal
use lib.IntN.{◌+ℤ◌, ◌*ℤ◌}

pub returns-in_ok-push : goal.returns-in_ok-push
returns-in_ok-push c ρ =
    let before = c.take_like-before.result in
    let more = c.args.more.coefficient in
    let sum = c.add-coefficient.result in
    let rest = c.take_like-before.new.terms in
    let f : FitsSigned w32 before = search rules in
    let g : FitsSigned w32 more = search rules in
    let h : FitsSigned w32 sum = search rules in
    let p = product ρ c.args.more.product in
    let a = ap (total ρ) c.in_ok-push.ensures.ok ∙ total_push ρ rest _ in
    let b = ap (λ z. z *ℤ p) (to_z-of_z w32 sum h) in
    let e : total ρ c.push.new.self ≡ (sum *ℤ p) +ℤ total ρ rest = omega (arith, ints, a, b) in
    added before more sum p (total ρ c.args.terms.now) (total ρ rest) (total ρ c.push.new.self)
    (c.take_like-before.ensures ρ) (word_sum sum before more f g c.add-coefficient.ensures) e

pub returns-else-coefficient-ne0 : goal.returns-else-coefficient-ne0
returns-else-coefficient-ne0 c ρ =
    let before = c.take_like-before.result in
    let more = c.args.more.coefficient in
    let sum = c.add-coefficient.result in
    let rest = c.take_like-before.new.terms in
    let f : FitsSigned w32 before = search rules in
    let g : FitsSigned w32 more = search rules in
    let h : FitsSigned w32 sum = search rules in
    let p = product ρ c.args.more.product in
    let none = sym (to_z-of_z w32 sum h) ∙ ap (cast_signed w32) c.if-coefficient-ne0.false in
    let b = ap (λ z. z *ℤ p) none ∙ zero-*ℤ p in
    let e : total ρ rest ≡ (sum *ℤ p) +ℤ total ρ rest = omega (arith, ints, b) in
    added before more sum p (total ρ c.args.terms.now) (total ρ rest) (total ρ rest)
    (c.take_like-before.ensures ρ) (word_sum sum before more f g c.add-coefficient.ensures) e
