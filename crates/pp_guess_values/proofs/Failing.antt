-- Where a guess run fails the check, there are values with their sorts that say so.
use Rattle.std.proofs.Common.{◌≡◌, ◌+◌, ℕ, zero, suc, true, List, [], ◌∷◌, Some, slice_get, sym}
use Rattle.std.proofs.Common.{◌∙◌, subst, arith}
use Rattle.std.proofs.Math.Logic.{∥∥₁_map}
use Rattle.std.proofs.lemmas.Option.{same_Some}
use Rattle.pp_prog.specs.declared.expr.Function.{Function}
use Rattle.pp_prog.specs.declared.id.CheckId.{CheckId}
use Rattle.pp_prog.specs.declared.id.CtorId.{CtorId}
use Rattle.pp_prog.specs.declared.program.Program.{Program}
use Rattle.pp_prog.specs.declared.sort.Sort.{Sort}
use Rattle.pp_prog.specs.declared.types.Ctor.{Ctor}
use Rattle.pp_prog.specs.declared.value.Value.{Value}
use Rattle.pp_prog.specs.Sorts.{param_sorts}
use Rattle.pp_prog.specs.Table.{HaveValues, is_sort}
use Rattle.pp_prog.proofs.ValueSorts.{Has}
use Rattle.pp_sound.specs.Sound.{IsCalled}
use Rattle.pp_sound.proofs.Listed.{all_at}
use Rattle.pp_guess_runs.specs.Answers.{Answering, IsAnswering, answers_of}
use Rattle.pp_guess_runs.specs.Guess.{fails, guess}
use Rattle.pp_induction.specs.Ends.{GuessFails}
use Rattle.pp_steps.specs.declared.step.Step.{Step}
use Rattle.pp_steps.specs.Guesses.{guess_steps}
use Rattle.pp_steps.specs.Meaning.{Does, Missing, Obeys, Values}
use Rattle.pp_guess_steps.specs.Laws.{HaveGuessSorts, IsSortedGuess}
use Rattle.pp_guess_steps.specs.OpenCalls.{world}
use Rattle.pp_guess_steps.proofs.Laws.{guesses_suppose}
use Rattle.pp_guess_steps.proofs.SortedValues.{sorted_guesses_exist}
use Rattle.pp_guess_steps.proofs.WorldSorts.{guesses_answer_sorted}
use Rattle.pp_demand_steps.proofs.Alike.{world_alike}
use Rattle.pp_guess_values.specs.FailingGuess.{IsFailingGuess}
use Rattle.pp_guess_values.proofs.Defaults.{default_field, default_field_is, default_has_sort, default_of}

-- a step of those that values obey
pub does_at : (ctors : List Ctor) (missing : Missing) (ρ : Values) (j : ℕ) (ss : List Step) (i k : ℕ) (s : Step)
    → Obeys ctors missing ρ j ss → slice_get ss i ≡ Some s → k ≡ j + i → Does ctors missing ρ s (ρ k)
does_at ctors missing ρ j [] i k s all at is = absurd (cc)
does_at ctors missing ρ j (x ∷ ss) zero k s all at is =
    let e : j ≡ k = omega arith in
    subst (λ n. Does ctors missing ρ s (ρ n)) e (subst (λ y. Does ctors missing ρ y (ρ j)) (same_Some x s at) all.0)
does_at ctors missing ρ j (x ∷ ss) (suc i) k s all at is =
    does_at ctors missing ρ (suc j) ss i k s all.1 at (omega arith)

-- the sort of a field stands in the table
pub field_sort_stands : (p : Program) (c : CtorId) (k : Ctor) (place : ℕ) (s : Sort)
    → slice_get p.types.ctors c.0 ≡ Some k → slice_get k.fields place ≡ Some s → is_sort p.types.datatypes s ≡ true
field_sort_stands p c k place s there at =
    all_at (is_sort p.types.datatypes) k.fields place s (p.types.agree.fields c.0 k there) at

module _ (p : Program) (n : ℕ) (inhabited : HaveValues p.types.datatypes p.types.ctors) where
  pub default_field_has_sort : (c : CtorId) (k : Ctor) (place : ℕ) (s : Sort) → slice_get p.types.ctors c.0 ≡ Some k
      → slice_get k.fields place ≡ Some s → Has p.types.ctors s (default_field p.types inhabited c place)
  default_field_has_sort c k place s there at =
      subst (Has p.types.ctors s) (sym (default_field_is p.types inhabited c k place s there at))
      (default_has_sort p.types inhabited s (field_sort_stands p c k place s there at))

  -- what stands for missing fields is their default, and open calls have the answers of the guess run
  abbrev pub own_missing : Answering → Missing
  own_missing W = world p.functions (answers_of p.types.ctors p.functions W) (default_field p.types inhabited) n

module _ (p : Program) (f : Function) (check : CheckId) (n : ℕ)
    (run : HaveGuessSorts p.types (guess_steps p.functions f check n) (param_sorts f.params))
    (inhabited : HaveValues p.types.datatypes p.types.ctors) (args : List Value) (i : ℕ) (called : IsCalled p i f args)
    (W : Answering) (answering : IsAnswering p W) where
  -- values with their sorts that obey the steps
  pub sorted_values : IsSortedGuess p f check n (own_missing p n inhabited W) args run.sorts
  sorted_values =
      sorted_guesses_exist p i f args called check n (own_missing p n inhabited W)
      (default_field_has_sort p n inhabited) (guesses_answer_sorted p W answering (default_field p.types inhabited) n)
      (default_of p.types inhabited) (default_has_sort p.types inhabited) run

  failing_values : guess p.types.ctors p.functions f check args n W ≡ fails → IsFailingGuess p f check n run.sorts
  failing_values failed =
      let x = sorted_values in
      record {
        args = args;
        missing = own_missing p n inhabited W;
        alike = world_alike p.functions (answers_of p.types.ctors p.functions W) (default_field p.types inhabited) n;
        values = x.values;
        guess = x.guess;
        sorted = x.sorted;
        supposed = guesses_suppose p.types.ctors p.functions f check args n W (default_field p.types inhabited)
            x.values failed x.guess;
      }

-- where some guess run of round n fails the check there are such values
pub failing_guess_has_values : (p : Program) (i : ℕ) (f : Function) → slice_get p.functions i ≡ Some f
    → (check : CheckId) (n : ℕ) → GuessFails p i check n
    → (run : HaveGuessSorts p.types (guess_steps p.functions f check n) (param_sorts f.params))
    → ∥ IsFailingGuess p f check n run.sorts ∥₁
failing_guess_has_values p i f here check n wrong run =
    let same : wrong.function ≡ f = same_Some wrong.function f (sym wrong.called.function ∙ here) in
    ∥∥₁_map p.types.inhabited (λ inhabited. failing_values p f check n run inhabited wrong.args i
    (subst (λ g. IsCalled p i g wrong.args) same wrong.called) wrong.answers wrong.answering
    (subst (λ g. guess p.types.ctors p.functions g check wrong.args n wrong.answers ≡ fails) same wrong.failed))
