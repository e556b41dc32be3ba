-- Products of the values of a few steps: how a factor is put in, and taken out.
use Rattle.std.proofs.Common.{◌≡◌, ℕ, Some, None, refl, sym, ap, ◌∙◌}
use Rattle.std.proofs.Math.IntN.{*ℤ_comm, *ℤ-one}
use Rattle.pp_steps.specs.Meaning.{Values}
use Rattle.pp_closure.specs.Sums.{factor, product, whole}
use Rattle.pp_closure.specs.declared.product.Product.{Product}
use Rattle.pp_closure.proofs.Ring.{times_first}
use lib.IntN.{ℤ, pos, ◌*ℤ◌}

-- the factor d is 1
module _ (s a b c d : ℤ) (one : d ≡ pos 1) where
  three : a *ℤ (b *ℤ c) ≡ a *ℤ (b *ℤ (c *ℤ d))
  unfolding lib.IntN.one
  three = ap (λ z. a *ℤ (b *ℤ z)) (sym (*ℤ-one c) ∙ ap (λ z. c *ℤ z) (sym one))

  in_first : s *ℤ (a *ℤ (b *ℤ c)) ≡ s *ℤ (a *ℤ (b *ℤ (c *ℤ d)))
  in_first = ap (λ z. s *ℤ z) three

  in_second : a *ℤ (s *ℤ (b *ℤ c)) ≡ s *ℤ (a *ℤ (b *ℤ (c *ℤ d)))
  in_second = times_first a s (b *ℤ c) ∙ in_first

  in_third : a *ℤ (b *ℤ (s *ℤ c)) ≡ s *ℤ (a *ℤ (b *ℤ (c *ℤ d)))
  in_third = ap (λ z. a *ℤ z) (times_first b s c) ∙ in_second

  in_fourth : a *ℤ (b *ℤ (c *ℤ s)) ≡ s *ℤ (a *ℤ (b *ℤ (c *ℤ d)))
  in_fourth = ap (λ z. a *ℤ (b *ℤ z)) (*ℤ_comm c s) ∙ in_third

module _ (ρ : Values) (p : Product) (k : ℕ) (e : p.fourth ≡ None) where
  one : factor ρ p.fourth ≡ pos 1
  one = ap (factor ρ) e

  -- the product with the step at each place
  pub with_first : product ρ (record { first = Some k; second = p.first; third = p.second; fourth = p.third })
      ≡ whole (ρ k) *ℤ product ρ p
  with_first = in_first (whole (ρ k)) (factor ρ p.first) (factor ρ p.second) (factor ρ p.third) (factor ρ p.fourth) one

  pub with_second : product ρ (record { first = p.first; second = Some k; third = p.second; fourth = p.third })
      ≡ whole (ρ k) *ℤ product ρ p
  with_second =
      in_second (whole (ρ k)) (factor ρ p.first) (factor ρ p.second) (factor ρ p.third) (factor ρ p.fourth) one

  pub with_third : product ρ (record { first = p.first; second = p.second; third = Some k; fourth = p.third })
      ≡ whole (ρ k) *ℤ product ρ p
  with_third = in_third (whole (ρ k)) (factor ρ p.first) (factor ρ p.second) (factor ρ p.third) (factor ρ p.fourth) one

  pub with_fourth : product ρ (record { first = p.first; second = p.second; third = p.third; fourth = Some k })
      ≡ whole (ρ k) *ℤ product ρ p
  with_fourth =
      in_fourth (whole (ρ k)) (factor ρ p.first) (factor ρ p.second) (factor ρ p.third) (factor ρ p.fourth) one

module _ (ρ : Values) (p : Product) where
  -- the product without what stands at each place
  pub without_first : product ρ p
      ≡ factor ρ p.first *ℤ product ρ (record { first = p.second; second = p.third; third = p.fourth; fourth = None })
  without_first =
      in_first (factor ρ p.first) (factor ρ p.second) (factor ρ p.third) (factor ρ p.fourth) (pos 1) refl

  pub without_second : product ρ p
      ≡ factor ρ p.second *ℤ product ρ (record { first = p.first; second = p.third; third = p.fourth; fourth = None })
  without_second =
      in_second (factor ρ p.second) (factor ρ p.first) (factor ρ p.third) (factor ρ p.fourth) (pos 1) refl

  pub without_third : product ρ p
      ≡ factor ρ p.third *ℤ product ρ (record { first = p.first; second = p.second; third = p.fourth; fourth = None })
  without_third =
      in_third (factor ρ p.third) (factor ρ p.first) (factor ρ p.second) (factor ρ p.fourth) (pos 1) refl

  pub without_fourth : product ρ p
      ≡ factor ρ p.fourth *ℤ product ρ (record { first = p.first; second = p.second; third = p.third; fourth = None })
  without_fourth =
      in_fourth (factor ρ p.fourth) (factor ρ p.first) (factor ρ p.second) (factor ρ p.third) (pos 1) refl
