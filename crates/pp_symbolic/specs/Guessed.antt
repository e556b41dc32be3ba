-- When the steps of a guess run can be performed over a domain that isn't exact, and what is left of them: the literal
-- that the check fails, and the one that all that was supposed holds. Source: own.
use Rattle.std.specs.Prelude.{◌≡◌, ◌≤◌, ◌^◌, ℕ, ◌+◌, Bool, true, ◌&&◌, List, [], ◌∷◌, Option, Some, None, length}
use Rattle.std.specs.Prelude.{slice_get}
use Rattle.pp_prog.specs.declared.sort.Sort.{Sort}
use Rattle.pp_prog.specs.declared.types.TypeTable.{TypeTable}
use Rattle.pp_clause.specs.Literal.{Literal, lit_value}
use Rattle.pp_gate.specs.declared.gate.Gate.{Gate}
use Rattle.pp_gate.specs.Circuit.{IsOf, StandsFor}
use Rattle.pp_gate.specs.Growth.{AddsGates}
use Rattle.pp_domain.specs.declared.symbol.Symbol.{Symbol}
use Rattle.pp_domain.specs.declared.symbol.Symbol.TheVariants as symbol
use Rattle.pp_domain.specs.Sense.{Sense}
use Rattle.pp_steps.specs.Gates.{Heights}
use Rattle.pp_steps.specs.Guesses.{GuessSteps}
use Rattle.pp_steps.specs.Sorted.{Sorts}
use Rattle.pp_guess_steps.specs.Laws.{HaveGuessSorts, IsReading}
use Rattle.pp_build.specs.Built.{IsBuilt}
use Rattle.pp_build.specs.Words.{AreWords}
use Rattle.pp_symbolic.specs.declared.frame.Frame.{Frame}
use Rattle.pp_guess_gates.specs.Measure.{round_gates}
use Rattle.pp_guess_values.specs.LooksBefore.{LooksBefore}

-- ---- registers that are truth values

-- the value of a register, if it is a literal; any other counts as true
abbrev pub register_bit : {T : Type 0} → (ℕ → Bool) → Option (Symbol T) → Bool
register_bit a None = true
register_bit a (Some (symbol.Word w)) = true
register_bit a (Some (symbol.Bit l)) = lit_value a l
register_bit a (Some (symbol.Tree t)) = true

-- whether the registers with these numbers are all true
abbrev pub all_bits : {T : Type 0} → (ℕ → Bool) → List (Symbol T) → List ℕ → Bool
all_bits a rs [] = true
all_bits a rs (k ∷ ks) = register_bit a (slice_get rs k) && all_bits a rs ks

-- each register that is a literal is one of the circuit
pub record HaveLiterals {T : Type 0} (gs : List Gate) (rs : List (Symbol T)) : Type 0 where
  pub of : (k : ℕ) (l : Literal) → slice_get rs k ≡ Some (symbol.Bit l) → IsOf gs l

-- ---- the steps

-- what the steps, of these sorts, take, and a gate for each number that is supposed
abbrev pub guess_gates : TypeTable → Sorts → GuessSteps → ℕ
guess_gates types σ g = round_gates types σ [] 0 0 g.steps + length g.supposed

-- the steps look at earlier ones and have sorts, as many of them as there are parameters and more; who reads a field
-- asked for its constructor; and there is room for all of them
pub record CanGuess (types : TypeTable) (gs : List Gate) (params : List Sort) (g : GuessSteps) : Type 0 where
  pub have : HaveGuessSorts types g params
  pub reads : IsReading g
  pub enough : length params ≤ length g.steps
  pub looks : LooksBefore [] g.steps
  pub room : length gs + guess_gates types have.sorts g ≤ 2 ^ 30

-- The steps are built, with registers for all of them, and behind them what is supposed is joined: `fails` is the
-- register that tells whether the check fails, and `circuit_ok` is true where the condition of the domain holds and all
-- that is supposed is true. Where all steps are words the domain is as it was.
pub record IsGuessed {D T : Type 0} (m : Sense D T) (types : TypeTable) (d : D) (gs : List Gate) (g : GuessSteps)
    (σ : Sorts) (e : D) (hs : List Gate) (frame : Frame T)
    : Type 0 where
  pub heights : Heights
  pub before : List Gate
  pub registers : List (Symbol T)
  pub built : IsBuilt m types d gs g.steps [] σ heights e before registers
  pub fits : m.Fits types e before
  pub longer : length gs ≤ length before
  pub joined : AddsGates before hs (length g.supposed)
  pub words : AreWords σ (length g.steps) → e ≡ d
  pub fails : StandsFor before frame.fails (λ s. register_bit s (slice_get registers g.fails))
  pub ok : StandsFor hs frame.circuit_ok (λ s. lit_value s (m.ok e) && all_bits s registers g.supposed)
