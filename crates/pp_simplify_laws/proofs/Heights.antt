-- Heights and gates of steps whose operands have the same sorts and heights.
use Rattle.std.proofs.Common.{◌≡◌, ℕ, ◌+◌, ◌-◌, List, [], ◌∷◌, map, max, min, refl, ap, ◌∙◌}
use Rattle.pp_prog.specs.declared.types.TypeTable.{TypeTable}
use Rattle.pp_prog.specs.Sizes.{height_at}
use Rattle.pp_prog.specs.Values.{greatest}
use Rattle.pp_steps.specs.declared.step.Step.{Step}
use Rattle.pp_steps.specs.declared.step.Step.TheVariants as steps
use Rattle.pp_steps.specs.Gates.{Heights, binary_gates, choice_gates, descent_gates, gates_of, height_of}
use Rattle.pp_steps.specs.Sorted.{Sorts}
use Rattle.pp_simplify.specs.Operands.{Each, operands}

-- the functions agree at the numbers
abbrev pub SameAt : {X : Type 0} → (ℕ → X) → (ℕ → X) → List ℕ → Type 0
SameAt f g = Each (λ a. g a ≡ f a)

greatest_same : (f g : ℕ → ℕ) (ns : List ℕ) → SameAt f g ns → greatest (map g ns) ≡ greatest (map f ns)
greatest_same f g [] h = refl
greatest_same f g (n ∷ ns) h =
    ap (λ x. max x (greatest (map g ns))) h.0 ∙ ap (max (f n)) (greatest_same f g ns h.1)

module _ (types : TypeTable) (σ τ : Sorts) (η θ : Heights) (k : ℕ) (own : τ k ≡ σ k) where
  pub height_same : (s : Step) → SameAt η θ (operands s) → height_of types τ θ k s ≡ height_of types σ η k s
  height_same (steps.Choose c a b) h = ap (λ x. max x (θ b)) h.1.0 ∙ ap (max (η a)) h.1.1.0
  height_same (steps.Construct c fields) h = ap (λ x. 1 + x) (greatest_same η θ fields h)
  height_same (steps.CtorField c i a) h =
      ap (λ x. height_at (x - 1) (τ k)) h.0 ∙ ap (height_at (η a - 1)) own
  height_same (steps.Field a i) h =
      ap (λ x. height_at (x - 1) (τ k)) h.0 ∙ ap (height_at (η a - 1)) own
  height_same s h = refl

  pub gates_same : (s : Step) → SameAt σ τ (operands s) → SameAt η θ (operands s)
      → gates_of types τ θ k s ≡ gates_of types σ η k s
  gates_same (steps.Choose c a b) e h =
      ap (λ x. choice_gates types (max x (θ b)) (τ k)) h.1.0 ∙ ap (λ x. choice_gates types (max (η a) x) (τ k)) h.1.1.0
      ∙ ap (choice_gates types (max (η a) (η b))) own
  gates_same (steps.Binary op a b) e h =
      ap (λ x. binary_gates types op (min x (θ b)) (τ a)) h.0
      ∙ ap (λ x. binary_gates types op (min (η a) x) (τ a)) h.1.0 ∙ ap (binary_gates types op (min (η a) (η b))) e.0
  gates_same (steps.GoesDown a b) e h =
      ap (λ x. descent_gates types x (θ b) (τ a)) h.0 ∙ ap (λ x. descent_gates types (η a) x (τ a)) h.1.0
      ∙ ap (descent_gates types (η a) (η b)) e.0
  gates_same s e h = refl
