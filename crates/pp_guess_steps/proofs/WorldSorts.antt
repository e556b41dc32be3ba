-- In the world of a guess run answers have their sorts.
use Rattle.std.proofs.Common.{◌≡◌, ◌-◌, ℕ, zero, suc, List, Option, Some, None, Ok, Err, slice_get, refl, sym, ap, ◌∙◌}
use Rattle.pp_prog.specs.declared.expr.Function.{Function}
use Rattle.pp_prog.specs.declared.id.FunctionId.{FunctionId}
use Rattle.pp_prog.specs.declared.program.Program.{Program}
use Rattle.pp_prog.specs.declared.value.Value.{Value}
use Rattle.pp_prog.proofs.ValueSorts.{Has, Have}
use Rattle.pp_eval.specs.declared.outcome.Stop.TheVariants as stop
use Rattle.pp_eval.specs.Part.{Part}
use Rattle.pp_eval.specs.Runs.{run_at}
use Rattle.pp_guess_runs.specs.Answers.{Answering, IsAnswering, answers_of, table, truth, value_done}
use Rattle.pp_guess_runs.specs.Guess.{called, or_deep, unfolded}
use Rattle.pp_guess_runs.proofs.Sorted.{guesses_keep_sorts}
use Rattle.pp_guess_runs.proofs.Tables.{tables_answer_once}
use Rattle.pp_steps.specs.Frames.{result_of}
use Rattle.pp_steps.specs.Guesses.{params_of}
use Rattle.pp_guess_steps.specs.Laws.{GuessesAnswerSorted}
use Rattle.pp_guess_steps.specs.OpenCalls.{value_of}

value_is : (q : Part Value) (v : Value) → value_of q ≡ Some v → q ≡ Ok v
value_is (Ok w) v e = let same : w ≡ v = cc in ap Ok same
value_is (Err s) v e = cc

answer_is : (o : Option Value) (v : Value) → or_deep o ≡ Ok v → o ≡ Some v
answer_is None v e = cc
answer_is (Some w) v e = let same : w ≡ v = cc in ap Some same

module _ (p : Program) (g : FunctionId) (args : List Value) (v : Value) (none : slice_get p.functions g.0 ≡ None) where
  -- nothing is answered to calls of no function
  no_answer : (W : Answering) → IsAnswering p W → answers_of p.types.ctors p.functions W g args ≡ Some v → ⊥
  no_answer (table entries) is e =
      let d = tables_answer_once.only entries g args v e in
      let f = is.sorted d.0 d.1 in
      let there : slice_get p.functions g.0 ≡ Some f.0 =
      ap (λ (h : FunctionId). slice_get p.functions h.0) (sym d.2) ∙ f.1 in
      let no : None ≡ Some f.0 = sym none ∙ there in cc
  no_answer (truth n) is e =
      let no : None ≡ Some v =
      sym (ap (λ o. value_done (run_at p.types.ctors p.functions o args n)) none) ∙ e in cc

  no_call : (W : Answering) → IsAnswering p W → (m : ℕ)
      → called p.functions (answers_of p.types.ctors p.functions W) m None g None None args ≡ Ok v → ⊥
  no_call W is zero e = no_answer W is (answer_is (answers_of p.types.ctors p.functions W g args) v e)
  no_call W is (suc m) e =
      let A = answers_of p.types.ctors p.functions W in
      let no : Err stop.Deep ≡ Ok v = sym (ap (λ o. unfolded (called p.functions A m) (A g args) o g args) none)
      ∙ e in cc

pub guesses_answer_sorted : GuessesAnswerSorted
guesses_answer_sorted p W answering field n wait g args v e have =
    by (slice_get p.functions g.0) refl have
  where
    is : called p.functions (answers_of p.types.ctors p.functions W) (n - wait) None g None None args ≡ Ok v
    is = value_is (called p.functions (answers_of p.types.ctors p.functions W) (n - wait) None g None None args) v e

    by : (o : Option Function) → slice_get p.functions g.0 ≡ o → Have p.types.ctors (params_of o) args
        → Has p.types.ctors (result_of o) v
    by None none have = absurd (no_call p g args v none W answering (n - wait) is)
    by (Some f) there have =
        guesses_keep_sorts.calls p W answering (n - wait) None g None None args f there have v is
