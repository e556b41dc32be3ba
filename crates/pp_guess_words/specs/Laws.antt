-- What the steps of a guess run are in a word function, and of which guess runs values tell. Source: own.
use Rattle.std.specs.Prelude.{◌≡◌, ◌<◌, ℕ, length, Some, slice_get, IsTrue}
use Rattle.pp_prog.specs.declared.expr.Function.{Function}
use Rattle.pp_prog.specs.declared.id.CheckId.{CheckId}
use Rattle.pp_prog.specs.declared.program.Program.{Program}
use Rattle.pp_prog.specs.Cone.{IsWordFunction, is_word}
use Rattle.pp_prog.specs.Sorts.{has_sort, param_sorts}
use Rattle.pp_steps.specs.Guesses.{guess_steps}
use Rattle.pp_steps.specs.Meaning.{Missing, Values}
use Rattle.pp_guess_steps.specs.Laws.{HaveGuessSorts, IsSupposed, ObeysRest}
use Rattle.pp_induction.specs.Ends.{GuessFails}

-- in a word function no step of a guess run has the sort of a datatype
abbrev pub NoTrees : Type 0
NoTrees =
    (p : Program) (i : ℕ) → IsWordFunction p.types p.functions i → (f : Function) → slice_get p.functions i ≡ Some f
    → (check : CheckId) (n : ℕ)
    → (run : HaveGuessSorts p.types (guess_steps p.functions f check n) (param_sorts f.params))
    → (k : ℕ) → k < length (guess_steps p.functions f check n).steps → IsTrue (is_word (run.sorts k))

-- Where values obey all steps but the open calls, have the sorts of their steps, and the check fails and all that is
-- supposed is true for them, some guess run of the round fails the check: whatever stands for a missing field.
abbrev pub ValuesFail : Type 0
ValuesFail =
    (p : Program) (i : ℕ) (f : Function) → slice_get p.functions i ≡ Some f → (check : CheckId) (n : ℕ)
    → (run : HaveGuessSorts p.types (guess_steps p.functions f check n) (param_sorts f.params))
    → (missing : Missing) (ρ : Values)
    → ((k : ℕ) → k < length (guess_steps p.functions f check n).steps
    → IsTrue (has_sort p.types.ctors (ρ k) (run.sorts k)))
    → ObeysRest p.types.ctors missing ρ 0 (guess_steps p.functions f check n).steps
    → IsSupposed ρ (guess_steps p.functions f check n) → GuessFails p i check n
