-- The steps of a word function's guess runs make no tree, open words, and call functions of the cone.
use Rattle.std.proofs.Common.{◌≡◌, ℕ, suc, true, List, [], ◌∷◌, Option, Some, inl, refl}
use Rattle.std.specs.Prelude.{slice_get}
use Rattle.pp_prog.specs.declared.expr.Function.{Function}
use Rattle.pp_prog.specs.declared.id.CheckId.{CheckId}
use Rattle.pp_prog.specs.declared.id.FunctionId.{FunctionId}
use Rattle.pp_prog.specs.declared.program.Program.{Program}
use Rattle.pp_prog.specs.Cone.{InCone, IsWordFunction, is_word}
use Rattle.pp_steps.specs.declared.step.Step.{Step}
use Rattle.pp_steps.specs.declared.step.Step.TheVariants as steps
use Rattle.pp_steps.specs.Guesses.{Standing, asking, guess_steps, standing}
use Rattle.pp_steps_run.specs.Told.{AllOf}
use Rattle.pp_steps_run.proofs.Pieces.{all_join}
use Rattle.pp_guess_steps.proofs.ClosedExprs.{IsSimpleOf}
use Rattle.pp_guess_steps.proofs.ClosedPatterns.{IsPatternStep, pattern_closed}
use Rattle.pp_guess_steps.proofs.ClosedRounds.{guess_closed}
use Rattle.pp_guess_words.proofs.WordFunctions.{Words, called_hold, function_words}

module _ (p : Program) (start : ℕ) where
  -- no tree is made, what is left open is a word, and a call is of a function of the cone
  abbrev pub IsWordStep : Step → Type 0
  IsWordStep (steps.Open s) = is_word s ≡ true
  IsWordStep (steps.Int n) = Unit {0}
  IsWordStep (steps.Bool b) = Unit {0}
  IsWordStep (steps.Not a) = Unit {0}
  IsWordStep (steps.Both a b) = Unit {0}
  IsWordStep (steps.Choose c a b) = Unit {0}
  IsWordStep (steps.Unary op a) = Unit {0}
  IsWordStep (steps.Binary op a b) = Unit {0}
  IsWordStep (steps.Construct c fields) = ⊥
  IsWordStep (steps.IsCtor c n a) = Unit {0}
  IsWordStep (steps.CtorField c i a) = Unit {0}
  IsWordStep (steps.Field a i) = Unit {0}
  IsWordStep (steps.IsAlike a b) = Unit {0}
  IsWordStep (steps.GoesDown a b) = Unit {0}
  IsWordStep (steps.HasAnswer c) = InCone p.functions start c.callee.0
  IsWordStep (steps.Answer c) = InCone p.functions start c.callee.0

  abbrev pub AreWordSteps : List Step → Type 0
  AreWordSteps = AllOf IsWordStep

  simple_word : (s : Step) → IsSimpleOf (Words p start) s → AreWordSteps (s ∷ [])
  simple_word (steps.Open s) h = (h, tt)
  simple_word (steps.Int n) h = (tt, tt)
  simple_word (steps.Bool b) h = (tt, tt)
  simple_word (steps.Not a) h = (tt, tt)
  simple_word (steps.Both a b) h = (tt, tt)
  simple_word (steps.Choose c a b) h = (tt, tt)
  simple_word (steps.Unary op a) h = (tt, tt)
  simple_word (steps.Binary op a b) h = (tt, tt)
  simple_word (steps.Construct c fields) h = absurd h
  simple_word (steps.IsCtor c n a) h = (tt, tt)
  simple_word (steps.CtorField c i a) h = absurd h
  simple_word (steps.Field a i) h = (tt, tt)
  simple_word (steps.IsAlike a b) h = (tt, tt)
  simple_word (steps.GoesDown a b) h = (tt, tt)
  simple_word (steps.HasAnswer c) h = absurd h
  simple_word (steps.Answer c) h = absurd h

  pattern_word : (s : Step) → IsPatternStep s → AreWordSteps (s ∷ [])
  pattern_word (steps.Open s) h = absurd h
  pattern_word (steps.Int n) h = (tt, tt)
  pattern_word (steps.Bool b) h = (tt, tt)
  pattern_word (steps.Not a) h = absurd h
  pattern_word (steps.Both a b) h = absurd h
  pattern_word (steps.Choose c a b) h = absurd h
  pattern_word (steps.Unary op a) h = absurd h
  pattern_word (steps.Binary op a b) h = (tt, tt)
  pattern_word (steps.Construct c fields) h = absurd h
  pattern_word (steps.IsCtor c n a) h = (tt, tt)
  pattern_word (steps.CtorField c i a) h = (tt, tt)
  pattern_word (steps.Field a i) h = absurd h
  pattern_word (steps.IsAlike a b) h = absurd h
  pattern_word (steps.GoesDown a b) h = absurd h
  pattern_word (steps.HasAnswer c) h = absurd h
  pattern_word (steps.Answer c) h = absurd h

  abbrev InTheCone : Standing → Type 0
  InTheCone c = InCone p.functions start c.call.callee.0

  -- so are the calls that stand
  calls_stand : (k : ℕ) (ss : List Step) → AreWordSteps ss → AllOf InTheCone (standing k ss)
  calls_stand k [] h = tt
  calls_stand k (steps.Open s ∷ ss) h = calls_stand (suc k) ss h.1
  calls_stand k (steps.Int n ∷ ss) h = calls_stand (suc k) ss h.1
  calls_stand k (steps.Bool b ∷ ss) h = calls_stand (suc k) ss h.1
  calls_stand k (steps.Not a ∷ ss) h = calls_stand (suc k) ss h.1
  calls_stand k (steps.Both a b ∷ ss) h = calls_stand (suc k) ss h.1
  calls_stand k (steps.Choose c a b ∷ ss) h = calls_stand (suc k) ss h.1
  calls_stand k (steps.Unary op a ∷ ss) h = calls_stand (suc k) ss h.1
  calls_stand k (steps.Binary op a b ∷ ss) h = calls_stand (suc k) ss h.1
  calls_stand k (steps.Construct c fields ∷ ss) h = calls_stand (suc k) ss h.1
  calls_stand k (steps.IsCtor c n a ∷ ss) h = calls_stand (suc k) ss h.1
  calls_stand k (steps.CtorField c i a ∷ ss) h = calls_stand (suc k) ss h.1
  calls_stand k (steps.Field a i ∷ ss) h = calls_stand (suc k) ss h.1
  calls_stand k (steps.IsAlike a b ∷ ss) h = calls_stand (suc k) ss h.1
  calls_stand k (steps.GoesDown a b ∷ ss) h = calls_stand (suc k) ss h.1
  calls_stand k (steps.HasAnswer c ∷ ss) h = (h.0, calls_stand (suc k) ss h.1)
  calls_stand k (steps.Answer c ∷ ss) h = calls_stand (suc k) ss h.1

  abbrev Any : ℕ → Type 0
  Any wait = Unit {0}

  asking_word : (wait : ℕ) → Any wait → (k reach : ℕ) (g : FunctionId) (pre down : Option CheckId) (args : List ℕ)
      → InCone p.functions start g.0 → AreWordSteps (asking p.functions wait k reach g pre down args).steps
  asking_word wait any k reach g pre down args met = (met, (met, (tt, tt)))

  module _ (words : IsWordFunction p.types p.functions start) where
    -- the steps of each round
    pub guess_words : (f : Function) → slice_get p.functions start ≡ Some f → (check : CheckId) (n : ℕ)
        → AreWordSteps (guess_steps p.functions f check n).steps
    guess_words f is check n =
        let own = function_words p start words start f (inl refl) is in
        guess_closed (Words p start) AreWordSteps (all_join IsWordStep) tt simple_word
        (pattern_closed AreWordSteps (all_join IsWordStep) tt pattern_word) p.functions (called_hold p start words)
        Any asking_word tt tt refl f own.holds own.params (λ wait. tt) calls_stand check n
