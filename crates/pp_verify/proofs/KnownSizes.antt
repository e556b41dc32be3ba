-- Checks of one function have one estimate, so what is known of a function's rounds grows by the estimate of any check.
use Rattle.std.proofs.Common.{◌≡◌, ◌∙◌, ℕ, List, [], ◌∷◌, ◌++◌, Some, None, inl, inr, length, slice_get, sym, ap}
use Rattle.std.proofs.Common.{subst}
use Rattle.pp_gate.proofs.Places.{at_push}
use Rattle.pp_prog.specs.declared.program.Program.{Program}
use Rattle.pp_estimate.specs.Cut.{cut}
use Rattle.pp_estimate.specs.Estimates.{estimate, rounds_at, rounds_of}
use Rattle.pp_sound.specs.Sound.{IsCheckOf}
use Rattle.pp_verify.specs.Sizes.{AreSizes}

module _ (p : Program) (i depth : ℕ) where
  -- the estimate is that of the check's function
  of_function : (c round : ℕ) → IsCheckOf p i c
      → estimate p.types p.functions p.checks c round depth
      ≡ cut (rounds_at p.types p.functions (slice_get p.functions i) round depth)
  of_function c round is =
      ap (λ o. cut (rounds_of p.types p.functions o round depth)) is.listed
      ∙ ap (λ g. cut (rounds_at p.types p.functions (slice_get p.functions g) round depth)) is.owner

  pub same_estimate : (c d round : ℕ) → IsCheckOf p i c → IsCheckOf p i d
      → estimate p.types p.functions p.checks c round depth ≡ estimate p.types p.functions p.checks d round depth
  same_estimate c d round is other = of_function c round is ∙ sym (of_function d round other)

  pub no_sizes : AreSizes p i depth []
  no_sizes round size at = let none : None ≡ Some size = at in cc

  pub sizes_grow : (sizes more : List ℕ) (size c : ℕ) → AreSizes p i depth sizes → IsCheckOf p i c
      → size ≡ estimate p.types p.functions p.checks c (length sizes) depth → more ≡ sizes ++ size ∷ []
      → AreSizes p i depth more
  sizes_grow sizes more size c known is here grown round n at d other =
      elim (at_push sizes size round n (subst (λ l. slice_get l round ≡ Some n) grown at)) [
        | inl old ↦ known round n old d other
        | inr new ↦ sym new.1 ∙ here
            ∙ ap (λ k. estimate p.types p.functions p.checks c k depth) (sym new.0) ∙ same_estimate c d round is other
      ]
