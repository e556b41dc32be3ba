-- Each run has values that obey its steps and have their sorts.
use Rattle.std.proofs.Common.{◌≡◌, ◌<◌, ◌++◌, ℕ, Bool, true, false, List, [], ◌∷◌, Some, length, map, refl, sym, ap}
use Rattle.std.proofs.Common.{◌∙◌, subst, arith}
use Rattle.std.specs.Prelude.{nat_lt, if◌then◌else◌, slice_index_or}
use Rattle.std.proofs.lemmas.Bool.{ltb-true}
use Rattle.pp_prog.specs.declared.expr.Function.{Function}
use Rattle.pp_prog.specs.declared.id.CheckId.{CheckId}
use Rattle.pp_prog.specs.declared.program.Program.{Program}
use Rattle.pp_prog.specs.declared.sort.Sort.{Sort}
use Rattle.pp_prog.specs.declared.value.Value.{Value}
use Rattle.pp_prog.specs.declared.value.Value.TheVariants.{Bool as Truth}
use Rattle.pp_prog.specs.Sorts.{param_sorts}
use Rattle.pp_prog.specs.Table.{HaveValues, is_sort}
use Rattle.pp_prog.proofs.ValueSorts.{Has}
use Rattle.pp_sound.specs.Sound.{IsCalled}
use Rattle.pp_steps.proofs.Counting.{zero_plus}
use Rattle.pp_steps.specs.declared.step.Step.{Step}
use Rattle.pp_steps.specs.declared.step.Step.TheVariants as steps
use Rattle.pp_steps.specs.Frames.{any_of, arguments, inlined, open_step, run_steps, running}
use Rattle.pp_steps.specs.Meaning.{Missing, Values}
use Rattle.pp_steps.specs.Piece.{after}
use Rattle.pp_steps_run.specs.Laws.{IsRun}
use Rattle.pp_steps_exist.proofs.Laws.{open_left, opened_are, runs_read}
use Rattle.pp_steps_exist.proofs.Solve.{solved, solved_obeys}
use Rattle.pp_steps_sorted.specs.Laws.{HaveSorts}
use Rattle.pp_demand_steps.specs.Laws.{AnswersAlike}
use Rattle.pp_guess_steps.proofs.SolvedSorted.{value_at_has}
use Rattle.pp_query.proofs.SomeValues.{some_field, some_field_has_sort, some_value, some_value_has_sort}
use Rattle.pp_query.proofs.Unanswered.{never_answered, solved_sorted, unanswered}

module _ (p : Program) (f : Function) (check : CheckId) (fuel : ℕ)
    (run : HaveSorts p.types (run_steps p.functions f check fuel) (param_sorts f.params)) where
  abbrev ss : List Sort
  ss = param_sorts f.params

  abbrev all_steps : List Step
  all_steps = (run_steps p.functions f check fuel).steps

  -- values that obey the steps of the run on the arguments, and have their sorts
  pub record IsSortedRun (args : List Value) : Type 0 where
    pub missing : Missing
    pub alike : AnswersAlike missing
    pub values : Values
    pub made : IsRun p f check fuel missing values args
    pub sorted : (k : ℕ) → k < length all_steps → Has p.types.ctors (run.sorts k) (values k)

  module _ (inhabited : HaveValues p.types.datatypes p.types.ctors) (i : ℕ) (args : List Value)
      (called : IsCalled p i f args) where
    -- the arguments, and some value of its sort for each other step
    abbrev chosen : Values
    chosen k = if nat_lt k (length args) then slice_index_or args k (Truth false)
        else some_value p inhabited (run.sorts k)

    chosen_argument : (j : ℕ) → j < length args → chosen j ≡ slice_index_or args j (Truth false)
    chosen_argument j lt =
        let test : nat_lt j (length args) ≡ true = grind (arith, ltb-true) in
        ap (λ (b : Bool). if b then slice_index_or args j (Truth false) else some_value p inhabited (run.sorts j)) test

    argument_has : (k : ℕ) → nat_lt k (length args) ≡ true
        → Has p.types.ctors (run.sorts k) (slice_index_or args k (Truth false))
    argument_has k test =
        subst (λ j. Has p.types.ctors (run.sorts j) (slice_index_or args k (Truth false))) (zero_plus k)
        (value_at_has p.types run.sorts ss args 0 k run.arguments called.arguments (ltb-true k (length args) test))

    chosen_has : (k : ℕ) → is_sort p.types.datatypes (run.sorts k) ≡ true → Has p.types.ctors (run.sorts k) (chosen k)
    chosen_has k is = by (nat_lt k (length args)) refl
      where
        by : (b : Bool) → nat_lt k (length args) ≡ b → Has p.types.ctors (run.sorts k)
            (if b then slice_index_or args k (Truth false) else some_value p inhabited (run.sorts k))
        by true test = argument_has k test
        by false test = some_value_has_sort p inhabited (run.sorts k) is

    abbrev missing : Missing
    missing = unanswered (some_field p inhabited)

    abbrev ρ : Values
    ρ = solved p.types.ctors missing chosen 0 all_steps (λ k. Truth false)

    is_run : IsRun p f check fuel missing ρ args
    is_run =
        let ctors = p.types.ctors in
        let both = solved_obeys ctors missing chosen 0 all_steps (λ k. Truth false) (runs_read p.functions f check fuel)
        in
        let a = arguments ss in
        let n = after 0 a in
        let r = running (inlined p.functions fuel (Some check)) (Some check) f n a.out a.alive in
        let opens = map open_step ss in
        let tail = steps.Bool true ∷ [] in
        let rest = r.steps ++ (any_of r.fails (after n r) a.alive).steps in
        let o = open_left ctors missing chosen ρ 0 opens tail
        (open_left ctors missing chosen ρ 0 (opens ++ tail) rest both.1) in
        record {
          steps = both.0;
          arguments = opened_are ctors missing chosen ρ ss args 0 called.arguments
              (λ j lt. ap chosen (zero_plus j) ∙ chosen_argument j lt) o;
        }

    pub sorted_run : IsSortedRun args
    sorted_run = record {
      missing = missing;
      alike = never_answered (some_field p inhabited);
      values = ρ;
      made = is_run;
      sorted = λ k lt. solved_sorted p.types (some_field p inhabited) chosen run.sorts
          (some_field_has_sort p inhabited) chosen_has 0 all_steps (λ k. Truth false)
          (runs_read p.functions f check fuel) run.sorted (λ j less. absurd (none_before j less)) k
          (subst (λ m. k < m) (sym (zero_plus (length all_steps))) lt);
    }
      where
        none_before : (j : ℕ) → j < 0 → ⊥
        none_before j lt = omega (arith, lt)
