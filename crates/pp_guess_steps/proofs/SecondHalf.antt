-- Values with sorts, for which a check fails and all that is supposed is true, are those of a run that fails the check:
-- over completed answers nothing is too deep or stuck, and that they can be completed is known.
use Rattle.std.proofs.Common.{◌≡◌, ◌≤◌, ◌<◌, ℕ, suc, ◌+◌, Bool, List, [], ◌∷◌, map, length, Option, Err}
use Rattle.std.proofs.Common.{sym, ap, ◌∙◌, subst, Contains, inl, inr, slice_get, arith}
use Rattle.std.specs.Prelude.{nat_eq, IsTrue, is_some, None, Some, true, refl, if◌then◌else◌}
use Rattle.std.proofs.lemmas.Bool.{eq-eqb}
use Rattle.std.proofs.Math.Logic.{∥∥₁_elim}
use Rattle.pp_prog.specs.declared.expr.Function.{Function}
use Rattle.pp_prog.specs.declared.id.CheckId.{CheckId}
use Rattle.pp_prog.specs.declared.id.CtorId.{CtorId}
use Rattle.pp_prog.specs.declared.id.FunctionId.{FunctionId}
use Rattle.pp_prog.specs.declared.program.Program.{Program}
use Rattle.pp_prog.specs.declared.value.Value.{Value}
use Rattle.pp_prog.specs.declared.value.Value.TheVariants.{Bool as Truth}
use Rattle.pp_prog.specs.Sorts.{has_sort, param_sorts}
use Rattle.pp_prog.proofs.ValueSorts.{Has, Have, bool_value}
use Rattle.pp_prog.proofs.Sure.{bool_prop}
use Rattle.pp_checks.proofs.Tallest.{head_or}
use Rattle.pp_eval.specs.declared.outcome.Stop.TheVariants as stop
use Rattle.pp_eval.specs.Meaning.{CallMeaning}
use Rattle.pp_eval.specs.Runs.{run_with}
use Rattle.pp_sound.specs.Sound.{AnswersSorted, IsCalled}
use Rattle.pp_sound.proofs.Answered.{can_answer_sorted}
use Rattle.pp_guess_runs.specs.Answers.{Entry, IsTable, answers_of, table}
use Rattle.pp_guess_runs.specs.Guess.{fails, guessed, own, skip}
use Rattle.pp_steps.specs.Frames.{result_of}
use Rattle.pp_steps.specs.Guesses.{GuessSteps, Standing, guess_steps, params_of, standing}
use Rattle.pp_steps.specs.Meaning.{Missing, Values, bit}
use Rattle.pp_steps_run.specs.Told.{AllOf, AreValues}
use Rattle.pp_steps_run.proofs.Pieces.{bit_truth}
use Rattle.pp_guess_steps.specs.Laws.{AnswersHaveSorts, AreTruths, AreWhole, GuessesAnswer, HaveGuessSorts, IsSupposed}
use Rattle.pp_guess_steps.specs.Laws.{FailsOver, ObeysRest}
use Rattle.pp_guess_steps.specs.OwnWorld.{answers_left, own_world, table_of}
use Rattle.pp_guess_steps.proofs.OwnTable.{call_of, table_answers}
use Rattle.pp_guess_steps.proofs.SortedCalls.{is_known, run_same}
use Rattle.pp_guess_steps.proofs.CallsPaired.{guess_paired}
use Rattle.pp_guess_steps.proofs.Labels.{guess_labelled}
use Rattle.pp_guess_steps.proofs.Laws.{supposed_agree, whole_guesses_answer}
use Rattle.pp_guess_steps.proofs.Members.{nothing_in}
use Rattle.pp_guess_steps.proofs.NeverStuck.{body_whole, full, full_completes, post_whole, run_whole}
use Rattle.pp_guess_steps.proofs.OwnFrame.{failed_is, looked_is}
use Rattle.pp_guess_steps.proofs.OwnWorld.{hit_of}
use Rattle.pp_guess_steps.proofs.Reading.{IsBefore}
use Rattle.pp_guess_steps.proofs.RoundsRead.{guess_read, standing_before}
use Rattle.pp_guess_steps.proofs.SolvedSorted.{all_have}
use Rattle.pp_guess_steps.proofs.Sorting.{IsCallSorted, standing_sorted}

at_end : (n : ℕ) → 0 + n ≤ n
at_end n = omega arith

-- what all have, each has
pub each_of : {A : Type 0} (P : A → Type 0) (xs : List A) (x : A) → AllOf P xs → Contains xs x → P x
each_of P [] x h there = absurd (nothing_in x there)
each_of P (y ∷ xs) x h there = elim (head_or y x xs there) [
  | inl e ↦ subst P e h.0
  | inr d ↦ each_of P xs x h.1 d
]

module _ (p : Program) (f : Function) (check : CheckId) (n : ℕ) (field : CtorId → ℕ → Value) (ρ : Values)
    (σ : HaveGuessSorts p.types (guess_steps p.functions f check n) (param_sorts f.params))
    (sorted : (k : ℕ) → k < length (guess_steps p.functions f check n).steps
    → IsTrue (has_sort p.types.ctors (ρ k) (σ.sorts k))) where
  abbrev G : GuessSteps
  G = guess_steps p.functions f check n

  abbrev Calls : List Standing
  Calls = standing 0 G.steps

  abbrev Of : Standing → Option Function
  Of c = slice_get p.functions c.call.callee.0

  before : (c : Standing) → Contains Calls c → IsBefore (length G.steps) c
  before c there =
      each_of (IsBefore (length G.steps)) Calls c
      (standing_before 0 (length G.steps) G.steps (at_end (length G.steps)) (guess_read p.functions f check n).reads
      (guess_paired p.functions f check n)) there

  its : (c : Standing) → Contains Calls c → IsCallSorted p σ.sorts c
  its c there =
      each_of (IsCallSorted p σ.sorts) Calls c
      (standing_sorted p σ.sorts 0 G.steps σ.sorted (guess_paired p.functions f check n)
      (guess_labelled p.functions f check n)) there

  args_have : (c : Standing) → Contains Calls c → Have p.types.ctors (params_of (Of c)) (map ρ c.call.args)
  args_have c there =
      subst (λ ss. Have p.types.ctors ss (map ρ c.call.args)) ((its c there).args ∙ (its c there).labels.params)
      (all_have p.types σ.sorts (length G.steps) c.call.args ρ (before c there).args sorted)

  result_has : (c : Standing) → Contains Calls c → Has p.types.ctors (result_of (Of c)) (ρ c.result)
  result_has c there =
      subst (λ s. Has p.types.ctors s (ρ c.result)) ((its c there).result ∙ (its c there).labels.result)
      (sorted c.result (before c there).result)

  truths : AreTruths ρ Calls
  truths c there =
      let t = bool_value p.types.ctors (ρ c.has) (subst (λ s. Has p.types.ctors s (ρ c.has)) (its c there).has
      (sorted c.has (before c there).has)) in
      t.is ∙ ap Truth (sym (bit_truth t.truth) ∙ ap bit (sym t.is))

  abbrev Mine : Missing
  Mine = own_world field ρ Calls

  answers : AnswersHaveSorts p.types p.functions Mine
  answers wait g args v e have =
      let d = hit_of ρ Calls (λ k. nat_eq k wait) g args v e in
      subst (λ u. Has p.types.ctors (result_of (slice_get p.functions g.0)) u) d.1.value
      (subst (λ (h : FunctionId). Has p.types.ctors (result_of (slice_get p.functions h.0)) (ρ d.0.result)) d.1.callee
      (result_has d.0 d.1.there))

  module _ (i : ℕ) (args : List Value) (called : IsCalled p i f args) (deeper : CallMeaning)
      (fill : AnswersSorted p deeper) where
    are_whole : AreWhole p.types.ctors p.functions f check ρ args Calls (full p deeper fill Mine answers)
    are_whole = record {
      body = λ c g there here. body_whole p deeper fill Mine answers c.call.callee g here (suc c.call.wait)
          (map ρ c.call.args)
          (subst (λ o. Have p.types.ctors (params_of o) (map ρ c.call.args)) here (args_have c there));
      post = λ c g post there here e. post_whole p deeper fill Mine answers c.call.callee g here (suc c.call.wait)
          (map ρ c.call.args)
          (subst (λ o. Have p.types.ctors (params_of o) (map ρ c.call.args)) here (args_have c there)) post e
          (ρ c.result) (subst (λ o. Has p.types.ctors (result_of o) (ρ c.result)) here (result_has c there));
      run = run_whole p deeper fill Mine answers i f called.function check args called.arguments;
    }

    fails_over : ObeysRest p.types.ctors Mine ρ 0 G.steps → AreValues ρ G.arguments args → IsSupposed ρ G
        → run_with (own p.types.ctors p.functions (answers_left ρ Calls n) check n) f args ≡ Err (stop.Fails check)
    fails_over rest are is =
        whole_guesses_answer p.types.ctors p.functions f check n field ρ args rest are is truths
        (full p deeper fill Mine answers) (full_completes p deeper fill Mine answers) are_whole

some_there : (o : Option Function) → is_some o ≡ true → (f : Function) × (o ≡ Some f)
some_there None e = cc
some_there (Some f) e = (f, refl)

module _ (p : Program) (i : ℕ) (f : Function) (args : List Value) (called : IsCalled p i f args) (check : CheckId)
    (n : ℕ) (field : CtorId → ℕ → Value) (ρ : Values)
    (run : HaveGuessSorts p.types (guess_steps p.functions f check n) (param_sorts f.params))
    (sorted : (k : ℕ) → k < length (guess_steps p.functions f check n).steps
    → IsTrue (has_sort p.types.ctors (ρ k) (run.sorts k)))
    (rest : ObeysRest p.types.ctors
    (own_world field ρ (standing 0 (guess_steps p.functions f check n).steps)) ρ 0
    (guess_steps p.functions f check n).steps)
    (are : AreValues ρ (guess_steps p.functions f check n).arguments args)
    (supposed : IsSupposed ρ (guess_steps p.functions f check n)) where
  abbrev All : List Standing
  All = standing 0 (guess_steps p.functions f check n).steps

  abbrev Table : List Entry
  Table = table_of p.functions ρ n All

  left_fails : run_with (own p.types.ctors p.functions (answers_left ρ All n) check n) f args
      ≡ Err (stop.Fails check)
  left_fails =
      failed_is check _ (∥∥₁_elim (can_answer_sorted p) bool_prop
      (λ d. looked_is check _ (fails_over p f check n field ρ run sorted i args called d.0 d.1 rest are supposed)))

  once : (d e : Entry) → Contains Table d → Contains Table e → d.function ≡ e.function → d.args ≡ e.args
      → d.answer ≡ e.answer
  once d e first second same equal =
      let a = call_of p.functions ρ n All d first in
      let b = call_of p.functions ρ n All e second in
      let callee = ap (λ x. x.function) a.1.is ∙ same ∙ sym (ap (λ x. x.function) b.1.is) in
      let values = ap (λ x. x.args) a.1.is ∙ equal ∙ sym (ap (λ x. x.args) b.1.is) in
      let agreed = supposed_agree p.types.ctors p.functions f check n (own_world field ρ All) ρ rest supposed.supposed
      a.0 b.0 a.1.there b.1.there callee in
      sym (ap (λ x. x.answer) a.1.is)
      ∙ agreed.result (record { first = a.1.reach; second = b.1.reach; args = values }) a.1.has b.1.has
      ∙ ap (λ x. x.answer) b.1.is

  entry_sorted : (e : Entry) → Contains Table e → (g : Function) × (slice_get p.functions e.function.0 ≡ Some g)
      × IsTrue (has_sort p.types.ctors e.answer g.result)
  entry_sorted e there =
      let a = call_of p.functions ρ n All e there in
      let g = some_there (slice_get p.functions a.0.call.callee.0) a.1.function in
      let has = subst (λ o. Has p.types.ctors (result_of o) (ρ a.0.result)) g.1
      (result_has p f check n field ρ run sorted a.0 a.1.there) in (
        g.0,
        ap (λ (x : Entry). slice_get p.functions x.function.0) (sym a.1.is) ∙ g.1,
        subst (λ (x : Entry). Has p.types.ctors g.0.result x.answer) a.1.is has,
      )

  is_program_table : IsTable p Table
  is_program_table = record { sorted = entry_sorted; once = once }

  some_known : (o : Option Function) (vs : List Value) → is_known p o vs ≡ true → is_some o ≡ true
  some_known None vs e = cc
  some_known (Some g) vs e = refl

  table_fails : run_with (own p.types.ctors p.functions
      (answers_of p.types.ctors p.functions (table Table)) check n) f args ≡ Err (stop.Fails check)
  table_fails =
      sym (run_same p (answers_left ρ All n) (table Table) is_program_table
      (λ g vs known. table_answers p.functions ρ n All g vs (some_known (slice_get p.functions g.0) vs known)) i f args
      called check n) ∙ left_fails

  pub over_table : FailsOver p f check args n Table
  over_table = record {
    is_table = is_program_table;
    fails = ap (guessed check) table_fails
        ∙ ap (λ (b : Bool). if b then fails else skip) (eq-eqb check.0 check.0 refl);
  }

pub guesses_answer : GuessesAnswer
guesses_answer p i f args called check n field ρ run sorted rest are is =
    over_table p i f args called check n field ρ run sorted rest are is
