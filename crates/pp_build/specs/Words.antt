-- Steps that meet no datatype leave the domain as it was. Source: own.
use Rattle.std.specs.Prelude.{◌≡◌, ℕ, suc, ◌<◌, List, IsTrue, length}
use Rattle.pp_prog.specs.declared.types.TypeTable.{TypeTable}
use Rattle.pp_prog.specs.Cone.{is_word}
use Rattle.pp_gate.specs.declared.gate.Gate.{Gate}
use Rattle.pp_domain.specs.declared.symbol.Symbol.{Symbol}
use Rattle.pp_domain.specs.Sense.{Sense}
use Rattle.pp_steps.specs.declared.step.Step.{Step}
use Rattle.pp_steps.specs.Sorted.{Sorts}
use Rattle.pp_build.specs.Performed.{CanPerform}

-- the first so many steps are numbers and truth values: none is of a datatype
abbrev pub AreWords : Sorts → ℕ → Type 0
AreWords σ many = (k : ℕ) → k < many → IsTrue (is_word (σ k))

-- where the step and those before it are numbers and truth values, performing it leaves the domain as it was
abbrev pub KeepsDomain : {D T : Type 0} (m : Sense D T) (types : TypeTable) (d : D) (gs : List Gate)
    (rs : List (Symbol T)) (step : Step) (e : D) → Type 0
KeepsDomain m types d gs rs step e =
    (can : CanPerform m types d gs rs step) → AreWords can.sorts (suc (length rs)) → e ≡ d
