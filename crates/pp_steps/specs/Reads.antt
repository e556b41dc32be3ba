-- Steps look at earlier steps alone. Source: own.
use Rattle.std.specs.Prelude.{ℕ, suc, ◌<◌, List, [], ◌∷◌}
use Rattle.pp_steps.specs.declared.step.Step.{Step}
use Rattle.pp_steps.specs.declared.step.Step.TheVariants as steps

-- each number is below k
abbrev pub Below : ℕ → List ℕ → Type 0
Below k [] = Unit {0}
Below k (n ∷ ns) = (n < k) × Below k ns

-- the operands of the step are below k
abbrev pub Reads : ℕ → Step → Type 0
Reads k (steps.Open s) = Unit {0}
Reads k (steps.Int n) = Unit {0}
Reads k (steps.Bool b) = Unit {0}
Reads k (steps.Not a) = a < k
Reads k (steps.Both a b) = (a < k) × (b < k)
Reads k (steps.Choose c a b) = (c < k) × (a < k) × (b < k)
Reads k (steps.Unary op a) = a < k
Reads k (steps.Binary op a b) = (a < k) × (b < k)
Reads k (steps.Construct c fields) = Below k fields
Reads k (steps.IsCtor c n a) = a < k
Reads k (steps.CtorField c i a) = a < k
Reads k (steps.Field a i) = a < k
Reads k (steps.IsAlike a b) = (a < k) × (b < k)
Reads k (steps.GoesDown a b) = (a < k) × (b < k)
Reads k (steps.HasAnswer c) = (c.reach < k) × Below k c.args
Reads k (steps.Answer c) = (c.reach < k) × Below k c.args

-- each step looks at earlier ones, where the first has the number k
abbrev pub AllRead : ℕ → List Step → Type 0
AllRead k [] = Unit {0}
AllRead k (s ∷ ss) = Reads k s × AllRead (suc k) ss
