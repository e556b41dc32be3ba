-- What the answer of a symbolic evaluation means. Source: own.
use Rattle.std.specs.Prelude.{◌≡◌, ◌↔◌, ℕ, Bool, true, false, List, Some, slice_get}
use Rattle.pp_prog.specs.declared.expr.Function.{Function}
use Rattle.pp_prog.specs.declared.id.CheckId.{CheckId}
use Rattle.pp_prog.specs.declared.program.Program.{Program}
use Rattle.pp_prog.specs.declared.value.Value.{Value}
use Rattle.pp_prog.specs.Cone.{IsWordFunction}
use Rattle.pp_prog.specs.Sorts.{param_sorts}
use Rattle.pp_clause.specs.Literal.{lit_value}
use Rattle.pp_gate.specs.declared.gate.Gate.{Gate}
use Rattle.pp_gate.specs.Circuit.{Gives, IsOf}
use Rattle.pp_eval.specs.declared.outcome.Outcome.TheVariants.{Fails}
use Rattle.pp_eval.specs.Runs.{run}
use Rattle.pp_sound.specs.Counterexample.{AreLow}
use Rattle.pp_sound.specs.Sound.{IsCalled, IsCheckOf}
use Rattle.pp_induction.specs.Ends.{GuessFails}
use Rattle.pp_domain.specs.Naming.{Naming}
use Rattle.pp_domain.specs.Sense.{Sense, Good}
use Rattle.pp_domain.specs.Symbols.{AreSymbols, SymbolsStand}
use Rattle.pp_symbolic.specs.declared.frame.Frame.{Frame}
use Rattle.pp_symbolic.specs.declared.frame.Mode.{Mode}
use Rattle.pp_symbolic.specs.declared.frame.Mode.TheVariants.{Guess, Real}

-- runs are followed over an exact domain, guess runs over one that isn't
abbrev pub Suits : {D T : Type 0} → Sense D T → Mode → Type 0
Suits m Real = m.exact ≡ true
Suits m Guess = m.exact ≡ false

module _ {D T : Type 0} (m : Sense D T) (p : Program) (c : CheckId) (round depth : ℕ) (e : D) (gs : List Gate)
    (frame : Frame T)
  where
    -- an assignment that is good for the domain, and under which all that was supposed of the inputs holds
    pub record IsSupposed (n : Naming) (a : ℕ → Bool) : Type 0 where
      pub good : Good m p.types e gs n a
      pub ok : lit_value a frame.circuit_ok ≡ true

    -- the symbols of the arguments stand for values of the sorts of f's parameters, up to the depth
    pub record StandFor (i : ℕ) (f : Function) (n : Naming) (a : ℕ → Bool) (args : List Value) : Type 0 where
      pub stand : SymbolsStand m e a n frame.arguments args
      pub called : IsCalled p i f args
      pub low : AreLow depth args

    -- They do so under each such assignment, and `fails` is true exactly where the run on these values fails the check.
    pub record TellsRun (i : ℕ) (f : Function) (n : Naming) (a : ℕ → Bool) : Type 0 where
      pub args : List Value
      pub arguments : StandFor i f n a args
      pub tells : (lit_value a frame.fails ≡ true) ↔ (run p.types.ctors p.functions f args round ≡ Fails c)

    -- under some such assignment they stand for these values
    pub record AreStoodFor (i : ℕ) (f : Function) (n : Naming) (args : List Value) : Type 0 where
      pub assignment : ℕ → Bool
      pub supposed : IsSupposed n assignment
      pub arguments : StandFor i f n assignment args

    -- the frame of the run of function number i
    pub record IsFrameOf (i : ℕ) (f : Function) : Type 0 where
      pub symbols : AreSymbols m e gs (param_sorts f.params) frame.arguments
      pub tells : (n : Naming) (a : ℕ → Bool) → IsSupposed n a → TellsRun i f n a
      pub stood_for : (n : Naming) → m.Admits p.types n → (args : List Value) → IsCalled p i f args → AreLow depth args
          → AreStoodFor i f n args

    -- the frame is that of the run of the check's function, over literals of the circuit
    pub record IsFrame : Type 0 where
      pub fails : IsOf gs frame.fails
      pub circuit_ok : IsOf gs frame.circuit_ok
      -- what is supposed holds only where the domain's condition does
      pub ok : (a : ℕ → Bool) → lit_value a frame.circuit_ok ≡ true → lit_value a (m.ok e) ≡ true
      pub of_function : (i : ℕ) (f : Function) → IsCheckOf p i c.0 → slice_get p.functions i ≡ Some f → IsFrameOf i f

module _ {D T : Type 0} (m : Sense D T) (p : Program) (c : CheckId) (round : ℕ) (e : D) (gs : List Gate)
    (frame : Frame T)
  where
    -- an assignment that gives each gate its value, and under which the check fails and all that was supposed holds
    pub record IsModel (a : ℕ → Bool) : Type 0 where
      pub gates : Gives a gs
      pub ok : lit_value a frame.circuit_ok ≡ true
      pub fails : lit_value a frame.fails ≡ true

    -- the frame is that of the guess runs of the check's function, over literals of the circuit
    pub record IsGuessFrame : Type 0 where
      pub fails : IsOf gs frame.fails
      pub circuit_ok : IsOf gs frame.circuit_ok
      -- what is supposed holds only where the domain's condition does
      pub ok : (a : ℕ → Bool) → Gives a gs → lit_value a frame.circuit_ok ≡ true → lit_value a (m.ok e) ≡ true
      -- where some guess run of the round fails the check, some assignment says so
      pub found : (i : ℕ) → IsCheckOf p i c.0 → GuessFails p i c round → ∥ ((a : ℕ → Bool) × IsModel a) ∥₁
      -- and of a function that meets no datatype each such assignment is that of a guess run that fails the check
      pub words : (i : ℕ) → IsCheckOf p i c.0 → IsWordFunction p.types p.functions i → (a : ℕ → Bool) → IsModel a
          → GuessFails p i c round

-- f is the function that check c belongs to
pub record IsOwner (p : Program) (c : CheckId) (f : Function) : Type 0 where
  pub number : ℕ
  pub owner : IsCheckOf p number c.0
  pub here : slice_get p.functions number ≡ Some f
