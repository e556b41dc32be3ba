-- In a word function words that are read, one for each step, tell a guess run that fails the check.
use Rattle.std.proofs.Common.{◌≡◌, ◌<◌, ℕ, length, Some}
use Rattle.std.specs.Prelude.{slice_get, IsTrue}
use Rattle.pp_prog.specs.declared.expr.Function.{Function}
use Rattle.pp_prog.specs.declared.id.CheckId.{CheckId}
use Rattle.pp_prog.specs.declared.program.Program.{Program}
use Rattle.pp_prog.specs.Cone.{IsWordFunction}
use Rattle.pp_prog.specs.Sorts.{has_sort, param_sorts}
use Rattle.pp_induction.specs.Ends.{GuessFails}
use Rattle.pp_steps.specs.declared.step.Step.{Step}
use Rattle.pp_steps.specs.Guesses.{GuessSteps, guess_steps}
use Rattle.pp_steps.specs.Known.{Tells}
use Rattle.pp_steps.specs.Meaning.{Does, Missing, Values}
use Rattle.pp_guess_steps.specs.Laws.{HaveGuessSorts, IsSupposed, ObeysRest}
use Rattle.pp_guess_steps.proofs.RoundsRead.{guess_read}
use Rattle.pp_guess_words.proofs.Failing.{values_fail}
use Rattle.pp_guess_words.proofs.ReadValues.{IsRead, read_values}
use Rattle.pp_guess_words.proofs.WordSorts.{no_trees}

module _ (p : Program) (i : ℕ) (words : IsWordFunction p.types p.functions i) (f : Function)
    (is : slice_get p.functions i ≡ Some f) (check : CheckId) (n : ℕ)
    (run : HaveGuessSorts p.types (guess_steps p.functions f check n) (param_sorts f.params)) (missing : Missing)
    (own : Values) (K : Values → ℕ → Type 0) where
  abbrev pub G : GuessSteps
  G = guess_steps p.functions f check n

  module _ (stand : IsRead own K (length G.steps))
      (knows : (ρ : Values) (k : ℕ) (s : Step) → slice_get G.steps k ≡ Some s
      → Does p.types.ctors missing ρ s (ρ k) → Tells ρ (K ρ) s k) where
    -- they obey all steps but the open calls
    pub own_obeys : ObeysRest p.types.ctors missing own 0 G.steps
    own_obeys =
        read_values p.types missing run.sorts own K G.steps (guess_read p.functions f check n).reads run.sorted
        (no_trees p i words f is check n run) stand knows

    pub own_fails : ((k : ℕ) → k < length G.steps → IsTrue (has_sort p.types.ctors (own k) (run.sorts k)))
        → IsSupposed own G → GuessFails p i check n
    own_fails sorted supposed = values_fail p i f is check n run missing own sorted own_obeys supposed
