-- Who reads a field of a constructor asked the same tree for a constructor before. Source: own.
use Rattle.std.specs.Prelude.{◌≡◌, ℕ, true, List, [], ◌∷◌}
use Rattle.pp_steps.specs.declared.step.Step.{Step}
use Rattle.pp_steps.specs.declared.step.Step.TheVariants as steps
use Rattle.pp_build.specs.StepGates.{is_seen}

-- each step that reads a field of a constructor is behind one that asks for the constructor of the same tree, where so
-- it was asked of the trees of these steps
abbrev pub LooksBefore : List ℕ → List Step → Type 0
LooksBefore asked [] = Unit {0}
LooksBefore asked (steps.IsCtor c n a ∷ ss) = LooksBefore (a ∷ asked) ss
LooksBefore asked (steps.CtorField c i a ∷ ss) = (is_seen asked a ≡ true) × LooksBefore asked ss
LooksBefore asked (s ∷ ss) = LooksBefore asked ss
