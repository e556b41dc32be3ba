use Rattle.std.proofs.Common.{◌≡◌, subst, rules}
use Rattle.std.specs.Int.{w32}
use Rattle.std.specs.Int.RustNames.{FitsSigned}
use Rattle.std.proofs.lemmas.Int.{to_z-of_z}
use Rattle.pp_closure.specs.Sums.{IsPart, amount, product, whole}
use Rattle.pp_closure.proofs.Totals.{linear_multiplied, number_multiplied, product_multiplied, word_product}
use Rattle.pp_closure.proofs.parts.multiplied.Goals as goal
use lib.IntN.{◌*ℤ◌}

pub returns-in-Number : goal.returns-in-Number
returns-in-Number c ρ w h =
    let is = subst (λ q. IsPart ρ q w) c.in-Number.is h in
    let f : FitsSigned w32 c.args.coefficient = search rules in
    let g : FitsSigned w32 c.in-Number.n = search rules in
    let k : FitsSigned w32 c.mul.result = search rules in
    let same = to_z-of_z w32 c.mul.result k in
    let p = product ρ c.args.rest.now in
    number_multiplied _ (amount ρ c.nothing.result) c.mul.result c.args.coefficient c.in-Number.n w p (cc)
    (c.nothing.ensures ρ) (word_product c.mul.result c.args.coefficient c.in-Number.n f g c.mul.ensures) is

pub returns-in_ok-other-in-Linear : goal.returns-in_ok-other-in-Linear
returns-in_ok-other-in-Linear c ρ w h =
    let is = subst (λ q. IsPart ρ q w) c.in-Linear.is h in
    let q = c.mul-in-Linear.result in
    let r = c.mul-in-Linear-2.result in
    let x = whole (ρ c.in-Linear.x) in
    let y = whole (ρ c.in-Linear.y) in
    let p = product ρ c.args.rest.now in
    let one = amount ρ c.in_ok-one-in-Linear.one in
    let other = amount ρ c.in_ok-other-in-Linear.other in
    let f : FitsSigned w32 c.args.coefficient = search rules in
    let f1 : FitsSigned w32 c.in-Linear.a = search rules in
    let f2 : FitsSigned w32 c.in-Linear.b = search rules in
    let f3 : FitsSigned w32 q = search rules in
    let f4 : FitsSigned w32 r = search rules in
    let same_q = to_z-of_z w32 q f3 in
    let same_r = to_z-of_z w32 r f4 in
    let e1 = c.in_ok-one-in-Linear.ensures ρ in
    let e2 = c.in_ok-other-in-Linear.ensures ρ in
    let e : one ≡ q *ℤ (x *ℤ p) = cc in
    let g : other ≡ r *ℤ (y *ℤ p) = cc in
    linear_multiplied one other q r c.args.coefficient c.in-Linear.a c.in-Linear.b x y w p e g
    (word_product q c.args.coefficient c.in-Linear.a f f1 c.mul-in-Linear.ensures)
    (word_product r c.args.coefficient c.in-Linear.b f f2 c.mul-in-Linear-2.ensures) is

pub returns-in_ok-term-in-Product : goal.returns-in_ok-term-in-Product
returns-in_ok-term-in-Product c ρ w h =
    let is = subst (λ q. IsPart ρ q w) c.in-Product.is h in
    let x = whole (ρ c.in-Product.x) in
    let y = whole (ρ c.in-Product.y) in
    let p = product ρ c.args.rest.now in
    let term = amount ρ c.in_ok-term-in-Product.term in
    let f : FitsSigned w32 c.args.coefficient = search rules in
    let same = to_z-of_z w32 c.args.coefficient f in
    let e1 = c.in_ok-term-in-Product.ensures ρ in
    let o = product ρ c.in_ok-one-in-Product.one in
    let e : term ≡ c.args.coefficient *ℤ (y *ℤ o) = cc in
    product_multiplied term (amount ρ c.nothing-in-Product.result) c.args.coefficient x y w p o e
    (c.in_ok-one-in-Product.ensures ρ) (c.nothing-in-Product.ensures ρ) is
