-- Calls that are left open: when two have one answer. Source: own.
use Rattle.std.specs.Prelude.{◌≡◌, ℕ, Some, map}
use Rattle.pp_prog.specs.declared.value.Value.{Value}
use Rattle.pp_steps.specs.declared.step.OpenCall.{OpenCall}
use Rattle.pp_steps.specs.Meaning.{Missing, Values, answer_of}

-- the two calls are of one function, with the same sorts, on arguments that have the same values
pub record AskAlike (ρ : Values) (c d : OpenCall) : Type 0 where
  pub callee : c.callee ≡ d.callee
  pub params : c.params ≡ d.params
  pub result : c.result ≡ d.result
  pub args : map ρ c.args ≡ map ρ d.args

-- the call has an answer
abbrev pub HasOne : Missing → Values → OpenCall → Type 0
HasOne missing ρ c = (u : Value) × (answer_of missing ρ c ≡ Some u)

-- the call has an answer, and step number k is that
abbrev pub IsAnswerAt : Missing → Values → ℕ → OpenCall → Type 0
IsAnswerAt missing ρ k c = answer_of missing ρ c ≡ Some (ρ k)
