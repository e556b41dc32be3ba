-- Each guess run has values that obey its steps.
use Rattle.std.proofs.Common.{◌∙◌, ◌<◌, length, refl, true, false, ◌≡◌, ℕ, zero, suc, ◌+◌, List, [], ◌∷◌, ◌++◌, map}
use Rattle.std.proofs.Common.{sym, ap}
use Rattle.std.proofs.Common.{subst}
use Rattle.std.specs.Prelude.{slice_index_or}
use Rattle.pp_prog.specs.declared.expr.Function.{Function}
use Rattle.pp_prog.specs.declared.id.CheckId.{CheckId}
use Rattle.pp_prog.specs.declared.types.Ctor.{Ctor}
use Rattle.pp_prog.specs.declared.program.Program.{Program}
use Rattle.pp_prog.specs.declared.value.Value.{Value}
use Rattle.pp_prog.specs.declared.value.Value.TheVariants.{Bool as Truth}
use Rattle.pp_prog.specs.Sorts.{param_sorts}
use Rattle.pp_steps.proofs.Counting.{zero_plus}
use Rattle.pp_steps.specs.declared.step.Step.TheVariants as steps
use Rattle.pp_steps.specs.Frames.{open_step}
use Rattle.pp_steps.specs.Guesses.{guess_steps}
use Rattle.pp_steps.specs.Meaning.{Missing, Values}
use Rattle.pp_steps_run.specs.Told.{AreValues}
use Rattle.pp_steps_exist.proofs.Laws.{open_left, opened_are}
use Rattle.pp_steps_exist.proofs.Solve.{AllOpen, solved, solved_obeys}
use Rattle.pp_sound.specs.Sound.{IsCalled}
use Rattle.pp_guess_steps.specs.Laws.{GuessesExist, GuessesRead, IsGuess}
use Rattle.pp_guess_steps.proofs.OwnFrame.{F, R, arguments_are, base}
use Rattle.pp_guess_steps.proofs.RoundsRead.{guess_read}

pub guesses_read : GuessesRead
guesses_read functions f check n = guess_read functions f check n

-- the open values of the own frame
open_base : (ctors : List Ctor) (missing : Missing) (chosen ρ : Values) (functions : List Function) (f : Function)
    (check : CheckId) (r : ℕ) → AllOpen ctors missing chosen ρ 0 (guess_steps functions f check r).steps
    → AllOpen ctors missing chosen ρ 0 (base functions f check).steps
open_base ctors missing chosen ρ functions f check zero h =
    open_left ctors missing chosen ρ 0 (base functions f check).steps _ h
open_base ctors missing chosen ρ functions f check (suc r) h =
    let g = guess_steps functions f check r in
    open_base ctors missing chosen ρ functions f check r
    (open_left ctors missing chosen ρ 0 g.steps _ (open_left ctors missing chosen ρ 0 (g.steps ++ _) _ h))

-- the values that follow from such open ones obey the steps
pub solved_guess : (p : Program) (i : ℕ) (f : Function) (args : List Value) → IsCalled p i f args → (check : CheckId)
    (n : ℕ) (missing : Missing) (chosen : Values)
    → ((j : ℕ) → j < length args → chosen j ≡ slice_index_or args j (Truth false))
    → IsGuess p.types.ctors p.functions f check n missing
    (solved p.types.ctors missing chosen 0 (guess_steps p.functions f check n).steps (λ k. Truth false)) args
solved_guess p i f args called check n missing chosen at =
    let ctors = p.types.ctors in
    let g = guess_steps p.functions f check n in
    let ρ = solved ctors missing chosen 0 g.steps (λ k. Truth false) in
    let both = solved_obeys ctors missing chosen 0 g.steps (λ k. Truth false) (guess_read p.functions f check n).reads
    in
    let ss = param_sorts f.params in
    let opens = map open_step ss in
    let tail = steps.Bool true ∷ [] in
    let rest = (R p.functions f check).steps ++ (F p.functions f check).steps in
    let o = open_left ctors missing chosen ρ 0 opens tail
    (open_left ctors missing chosen ρ 0 (opens ++ tail) rest
    (open_base ctors missing chosen ρ p.functions f check n both.1)) in
    record {
      steps = both.0;
      arguments = subst (λ ks. AreValues ρ ks args) (sym (arguments_are p.functions f check n))
          (opened_are ctors missing chosen ρ ss args 0 called.arguments (λ j lt. ap chosen (zero_plus j) ∙ at j lt) o);
    }

pub guesses_exist : GuessesExist
guesses_exist p i f args called check n missing =
    let chosen : Values = λ k. slice_index_or args k (Truth false) in (
      solved p.types.ctors missing chosen 0 (guess_steps p.functions f check n).steps (λ k. Truth false),
      solved_guess p i f args called check n missing chosen (λ j lt. refl),
    )
