-- What is known of the values of steps where the operands may stand for nothing, as they do in branches that aren't
-- reached: a step is known where those operands are that its value depends on. Source: own.
use Rattle.std.specs.Prelude.{◌≡◌, ℕ, suc, true, false, List, [], ◌∷◌, All}
use Rattle.pp_prog.specs.declared.value.Value.{Value}
use Rattle.pp_prog.specs.declared.value.Value.TheVariants.{Tree}
use Rattle.pp_steps.specs.declared.step.Step.{Step}
use Rattle.pp_steps.specs.declared.step.Step.TheVariants as steps
use Rattle.pp_steps.specs.Meaning.{Values, bit}

module _ (ρ : Values) (K : ℕ → Type 0) where
  -- where K says of a number that it is known, this makes step number i known
  abbrev pub Tells : Step → ℕ → Type 0
  Tells (steps.Open s) i = Unit {0}
  Tells (steps.Int n) i = K i
  Tells (steps.Bool b) i = K i
  Tells (steps.Not a) i = K a → K i
  Tells (steps.Both a b) i = K a → (bit (ρ a) ≡ true → K b) → K i
  Tells (steps.Choose c a b) i = K c → (bit (ρ c) ≡ true → K a) → (bit (ρ c) ≡ false → K b) → K i
  Tells (steps.Unary op a) i = K a → K i
  Tells (steps.Binary op a b) i = K a → K b → K i
  Tells (steps.Construct c fields) i = All K fields → K i
  Tells (steps.IsCtor c n a) i = K a → K i
  Tells (steps.CtorField c k a) i = K a → (fields : List Value) → ρ a ≡ Tree c fields → K i
  Tells (steps.Field a k) i = K a → K i
  Tells (steps.IsAlike a b) i = K a → K b → K i
  Tells (steps.GoesDown a b) i = K a → K b → K i
  Tells (steps.HasAnswer c) i = Unit {0}
  Tells (steps.Answer c) i = Unit {0}

  -- so does each step, where the first has the number k
  abbrev pub AllTell : ℕ → List Step → Type 0
  AllTell k [] = Unit {0}
  AllTell k (s ∷ ss) = Tells s k × AllTell (suc k) ss
