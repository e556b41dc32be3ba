-- When a check is settled, why that makes functions good, and why no run fails a check of them then. Source: own; the
-- idea of measure induction is that of System FR (Hamza, Voirol, Kuncak, OOPSLA 2019).
use Rattle.std.specs.Prelude.{◌≡◌, ◌≢◌, ◌⊎◌, ◌<◌, ℕ, List, Some, length, slice_get}
use Rattle.pp_prog.specs.declared.expr.Function.{Function}
use Rattle.pp_prog.specs.declared.id.CheckId.{CheckId}
use Rattle.pp_prog.specs.declared.program.Program.{Program}
use Rattle.pp_prog.specs.declared.value.Value.{Value}
use Rattle.pp_prog.specs.Cone.{InCone}
use Rattle.pp_eval.specs.declared.outcome.Outcome.TheVariants.{Fails}
use Rattle.pp_eval.specs.Runs.{IsGood, run}
use Rattle.pp_sound.specs.Counterexample.{AreLow}
use Rattle.pp_sound.specs.Sound.{IsCalled, IsCheckOf}
use Rattle.pp_checks.specs.Closed.{Closed}
use Rattle.pp_checks.specs.Plan.{IsPlanOf, Plan}
use Rattle.pp_guess_runs.specs.Answers.{Answering, IsAnswering}
use Rattle.pp_guess_runs.specs.Guess.{fails, guess}

module _ (p : Program) (i : ℕ) (c : CheckId) where
  -- no guess run of round n of function number i fails the check, whatever answers its calls
  abbrev pub NoGuessFails : ℕ → Type 0
  NoGuessFails n =
      (f : Function) (args : List Value) → IsCalled p i f args → (W : Answering) → IsAnswering p W
      → guess p.types.ctors p.functions f c args n W ≢ fails

  -- what that denies: some guess run of round n fails it
  pub record GuessFails (n : ℕ) : Type 0 where
    pub function : Function
    pub args : List Value
    pub called : IsCalled p i function args
    pub answers : Answering
    pub answering : IsAnswering p answers
    pub failed : guess p.types.ctors p.functions function c args n answers ≡ fails

  -- no run with fuel n fails it
  abbrev pub NoRunFails : ℕ → Type 0
  NoRunFails n =
      (f : Function) (args : List Value) → IsCalled p i f args → run p.types.ctors p.functions f args n ≢ Fails c

  -- none on arguments of height at most d
  abbrev pub NoLowRunFails : ℕ → ℕ → Type 0
  NoLowRunFails n d =
      (f : Function) (args : List Value) → IsCalled p i f args → AreLow d args
      → run p.types.ctors p.functions f args n ≢ Fails c

  -- the check is proved in round n: no guess run fails it. Nor was it failed by arguments up to the height d.
  pub record IsProved (n d : ℕ) : Type 0 where
    pub guesses : NoGuessFails n
    pub runs : NoLowRunFails n d

  -- the check is exhausted in round n: the function is closed there, and no run fails the check
  pub record IsExhausted (n d : ℕ) : Type 0 where
    pub closed : Closed p.types p.functions i n d
    pub runs : NoRunFails n

  -- in some round no guess run fails the check, or it is exhausted
  abbrev pub IsSettled : Type 0
  IsSettled = (n : ℕ) × (d : ℕ) × (NoGuessFails n ⊎ IsExhausted n d)

-- each check of the functions of the cone of f is settled
abbrev pub AreSettled : Program → ℕ → Type 0
AreSettled p f =
    (g : ℕ) (c : CheckId) → g < length p.functions → InCone p.functions f g → IsCheckOf p g c.0 → IsSettled p g c

-- in a program that has a plan, where each check of the cone of a function is settled, each function of it is good
abbrev pub SettledAreGood : Type 0
SettledAreGood =
    (plan : Plan) (p : Program) → IsPlanOf plan p → (f : ℕ) → AreSettled p f → (g : ℕ) (function : Function)
    → InCone p.functions f g → slice_get p.functions g ≡ Some function → IsGood p.types.ctors p.functions function

-- and no run fails a check of such a function, with any fuel
abbrev pub GoodNeverFail : Type 0
GoodNeverFail =
    (plan : Plan) (p : Program) → IsPlanOf plan p → (f : ℕ) → AreSettled p f → (g : ℕ) (c : CheckId)
    → InCone p.functions f g → (n : ℕ) → NoRunFails p g c n
