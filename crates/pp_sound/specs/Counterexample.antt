-- Arguments that fail a check. Source: own.
use Rattle.std.specs.Prelude.{◌≡◌, ◌≤◌, ℕ, List}
use Rattle.std.specs.List.{All}
use Rattle.pp_prog.specs.declared.expr.Function.{Function}
use Rattle.pp_prog.specs.declared.id.CheckId.{CheckId}
use Rattle.pp_prog.specs.declared.program.Program.{Program}
use Rattle.pp_prog.specs.declared.value.Value.{Value}
use Rattle.pp_prog.specs.Values.{height}
use Rattle.pp_eval.specs.declared.outcome.Outcome.TheVariants.{Fails}
use Rattle.pp_eval.specs.Runs.{run}
use Rattle.pp_sound.specs.Sound.{IsCalled}

-- each of the values has at most the height d
abbrev pub AreLow : ℕ → List Value → Type 0
AreLow d args = All (λ v. height v ≤ d) args

-- the arguments have the sorts of the parameters of function number i and at most the height d, and its run on them
-- with fuel n fails the check
pub record IsCounterexample (p : Program) (i : ℕ) (c : CheckId) (n d : ℕ) (args : List Value) : Type 0 where
  pub function : Function
  pub called : IsCalled p i function args
  pub low : AreLow d args
  pub fails : run p.types.ctors p.functions function args n ≡ Fails c
