-- What is refuted. Source: own.
use Rattle.std.specs.Prelude.{ℕ, All, List}
use Rattle.pp_steps.specs.declared.step.Step.{Step}
use Rattle.pp_closure.specs.declared.refuting.Refutation.{Refutation}
use Rattle.pp_closure.specs.declared.refuting.Refutation.TheVariants.{Refuted, Unknown}
use Rattle.pp_closure.specs.Valuation.{IsTrueIn, Valuation}

-- no values of the steps make the step and all of the others true
abbrev pub Denies : List Step → ℕ → List ℕ → Type 0
Denies ss fails supposed = (v : Valuation ss) → IsTrueIn v fails → All (IsTrueIn v) supposed → ⊥

-- it is so where it is said to be refuted; else nothing is known
abbrev pub IsRefutation : List Step → ℕ → List ℕ → Refutation → Type 0
IsRefutation ss fails supposed Refuted = Denies ss fails supposed
IsRefutation ss fails supposed (Unknown wanted left) = Unit {0}
