-- A task and sources have one status, as far as functions that are verified don't stay open.
use Rattle.std.proofs.Common.{◌≡◌, ◌⊎◌, ℕ, List, [], ◌∷◌, refl, sym, ap, ◌∙◌, ⊎_elim, inl, inr, subst, arith}
use Rattle.std.specs.Prelude.{Some, slice_get}
use Rattle.std.proofs.lemmas.Bool.{cases_lt}
use Rattle.std.proofs.lemmas.Option.{same_Some, slice_get_within}
use Rattle.pp_answers.proofs.Alike.{counterexample_there, same_run}
use Rattle.pp_answers.proofs.Excluded.{excluded}
use Rattle.pp_answers.proofs.Lines.{as_verify, own_lines}
use Rattle.pp_answers.proofs.Meaning.{told_each, told_failed, told_good}
use Rattle.pp_answers.proofs.Once.{AreAlike, one_program, swapped}
use Rattle.pp_answers.specs.Answers.{accepted, refused, sources_of}
use Rattle.pp_answers.specs.Claims.{IsStatusOf, all_valid, some_invalid, some_open}
use Rattle.pp_answers.specs.Laws as laws
use Rattle.pp_answers.specs.Laws.{Agree, FailsListed, IsOnVerdicts, IsVerify, OneStatus, RunsAreRuns, StaysOpen}
use Rattle.pp_answers.specs.Laws.{is_make, is_verify}
use Rattle.pp_eval.proofs.Lasts.{lasts}
use Rattle.pp_eval.specs.Runs.{IsGood, run as run_of}
use Rattle.pp_eval.specs.declared.outcome.Outcome.{Outcome}
use Rattle.pp_eval.specs.declared.outcome.Outcome.TheVariants.{Deep, Done, Fails, Inner, Outside}
use Rattle.pp_induct.specs.declared.limits.Limits.{Limits}
use Rattle.pp_modes.specs.Answers.{AnswersTask, listed, made as makes, run_ends, verified as verifies}
use Rattle.pp_modes.proofs.Asked.{same_function}
use Rattle.pp_modes.specs.Responses.{Response, report, status_in}
use Rattle.pp_modes.specs.Runs.{AnswersRun, IsAsked, fails_line, inner_line, no_function, outcome_report}
use Rattle.pp_modes.specs.Runs.{outcome_text, ran, status_of}
use Rattle.pp_modes.specs.Verdicts.{AnswersMake, AnswersVerify, limits_of, verdict_report}
use Rattle.pp_modes.specs.declared.status.Status.{Status}
use Rattle.pp_modes.specs.declared.status.Status.TheVariants as status
use Rattle.pp_print.specs.Runs.{done_text}
use Rattle.pp_prog.specs.Names.{IsFirstNamed}
use Rattle.pp_prog.specs.declared.expr.Function.{Function}
use Rattle.pp_prog.specs.declared.id.CheckId.{CheckId}
use Rattle.pp_prog.specs.declared.program.Program.{Program}
use Rattle.pp_prog.specs.declared.types.TypeTable.{TypeTable}
use Rattle.pp_prog.specs.declared.value.Value.{Value}
use Rattle.pp_prog.specs.Sorts.{have_sorts, param_sorts}
use Rattle.pp_sound.proofs.Laws.{fail_listed_checks}
use Rattle.pp_sound.specs.Counterexample.{IsCounterexample}
use Rattle.pp_sound.specs.Sound.{IsCalled}
use Rattle.pp_words.specs.Task.{Task, run}

-- ---- runs

module _ (p q : Program) (alike : AreAlike p q) (name : List ℕ) (fuel : ℕ) where
  asked_there : (f : Function) → IsAsked p name fuel f → IsAsked q name fuel f
  asked_there f is = record {
    place = is.place;
    named = subst (λ fs. IsFirstNamed fs name is.place) alike.functions is.named;
    here = ap (λ fs. slice_get fs is.place) (sym alike.functions) ∙ is.here;
    bare = is.bare;
  }

  same_text : (o : Outcome) → outcome_text p name fuel o ≡ outcome_text q name fuel o
  same_text (Done v) = ap (λ (t : TypeTable). done_text t.ctors name v) alike.types
  same_text Outside = refl
  same_text (Fails c) = ap (λ cs. fails_line name (slice_get cs c.0)) alike.checks
  same_text (Inner g c) =
      ap (λ fs. inner_line name (slice_get fs g.0) (slice_get p.checks c.0)) alike.functions
      ∙ ap (λ cs. inner_line name (slice_get q.functions g.0) (slice_get cs c.0)) alike.checks
  same_text Deep = refl

  -- the same run in both, and the same line
  same_report : (f : Function) → outcome_report p name fuel (run_of p.types.ctors p.functions f [] fuel)
      ≡ outcome_report q name fuel (run_of q.types.ctors q.functions f [] fuel)
  same_report f =
      let o = run_of p.types.ctors p.functions f [] fuel in
      ap (λ t. report (status_of o) (t ∷ [])) (same_text o)
      ∙ ap (outcome_report q name fuel) (same_run p q alike f [] fuel)

  -- what is answered to the run in one is the report on the function that is asked for in the other
  run_is : {r : Response} → AnswersRun p name fuel r → (g : Function) → IsAsked q name fuel g
      → r ≡ outcome_report q name fuel (run_of q.types.ctors q.functions g [] fuel)
  run_is (no_function none) g is =
      absurd (none g (record {
        place = is.place;
        named = subst (λ fs. IsFirstNamed fs name is.place) (sym alike.functions) is.named;
        here = ap (λ fs. slice_get fs is.place) alike.functions ∙ is.here;
        bare = is.bare;
      }))
  run_is (ran f asked) g is =
      let one = same_function q name fuel is.place g is.named is.here f (asked_there f asked) in
      same_report f ∙ ap (λ z. outcome_report q name fuel (run_of q.types.ctors q.functions z [] fuel)) one

run_status : (p q : Program) → AreAlike p q → (name : List ℕ) (fuel : ℕ) {r s : Response} → AnswersRun p name fuel r
    → AnswersRun q name fuel s → status_in r ≡ status_in s
run_status p q alike name fuel (no_function none) (no_function no_more) = refl
run_status p q alike name fuel (no_function none) (ran g is) =
    ap status_in (run_is p q alike name fuel (no_function none) g is)
run_status p q alike name fuel (ran f is) (no_function none) = absurd (none f (asked_there p q alike name fuel f is))
run_status p q alike name fuel (ran f asked) (ran g is) = ap status_in (run_is p q alike name fuel (ran f asked) g is)

-- ---- verdicts

fails_deep : {c : CheckId} → Fails c ≡ Deep → ⊥
fails_deep h = cc

done_fails : {v : Value} {c : CheckId} → Done v ≡ Fails c → ⊥
done_fails h = cc

outside_fails : {c : CheckId} → Outside ≡ Fails c → ⊥
outside_fails h = cc

outside_deep : Outside ≡ Deep → ⊥
outside_deep h = cc

done_deep : {v : Value} → Done v ≡ Deep → ⊥
done_deep h = cc

-- a good function has no run that fails a check
module _ (p : Program) (f : Function) (args : List Value) where
  abbrev ends : ℕ → Outcome
  ends n = run_of p.types.ctors p.functions f args n

  -- the outcomes of two runs that aren't Deep are one
  same_end : (m n : ℕ) → (ends m ≡ Deep → ⊥) → (ends n ≡ Deep → ⊥) → ends m ≡ ends n
  same_end m n a b = elim (cases_lt m n) [
    | inl less ↦ sym (lasts p.types.ctors p.functions f args m n (omega (arith, less)) a)
    | inr more ↦ lasts p.types.ctors p.functions f args n m more b
  ]

good_never_fails : (p : Program) (i : ℕ) (c : CheckId) (n d : ℕ) (args : List Value) → IsCounterexample p i c n d args
    → (f : Function) → slice_get p.functions i ≡ Some f → IsGood p.types.ctors p.functions f → ⊥
good_never_fails p i c n d args h f at good =
    let same : f ≡ h.function = same_Some _ _ (sym at ∙ h.called.function) in
    let end = subst (IsGood p.types.ctors p.functions) same good args h.called.arguments in
    elim end.1 [
      | inl out ↦ outside_fails (sym out
          ∙ same_end p h.function args end.0 n (λ e. outside_deep (sym out ∙ e)) (λ e. fails_deep (sym h.fails ∙ e))
          ∙ h.fails)
      | inr done ↦ done_fails (sym done.1
          ∙ same_end p h.function args end.0 n (λ e. done_deep (sym done.1 ∙ e)) (λ e. fails_deep (sym h.fails ∙ e))
          ∙ h.fails)
    ]

-- of one program no report has all functions valid, and another one of them invalid
never_both : (p q : Program) → AreAlike p q → (l m : Limits) (r s : Response) → (a : AnswersVerify p l r)
    → (b : AnswersVerify q m s) → IsStatusOf p.functions (own_lines p l r a) status.AllValid
    → IsStatusOf q.functions (own_lines q m s b) status.SomeInvalid → ⊥
never_both p q alike l m r s a b (all_valid all) (some_invalid i one) =
    let failure = told_failed q m s b i one.function one.line one.here one.there one.says in
    let fails =
    counterexample_there q p (swapped alike) i failure.number failure.fuel m.depth failure.args failure.fails in
    let valid = all i (slice_get_within p.functions i fails.function fails.called.function) in
    good_never_fails p i failure.number failure.fuel m.depth failure.args fails valid.function valid.here
    (told_good p l r a i valid.function valid.line valid.here valid.there valid.says)

pub is_verdict : (fs : List Function) (lines : List (List ℕ)) (s : Status) → IsStatusOf fs lines s → IsOnVerdicts s
is_verdict fs lines s (all_valid all) = laws.all_valid
is_verdict fs lines s (some_invalid i one) = laws.some_invalid
is_verdict fs lines s (some_open none i one) = laws.some_open

module _ (p q : Program) (alike : AreAlike p q) (l m : Limits) (r s : Response) (a : AnswersVerify p l r)
    (b : AnswersVerify q m s) where
  agree : (t u : Status) → IsStatusOf p.functions (own_lines p l r a) t
      → IsStatusOf q.functions (own_lines q m s b) u → (t ≡ u) ⊎ StaysOpen t u
  agree t u (all_valid x) (all_valid y) = inl refl
  agree t u (some_invalid i x) (some_invalid j y) = inl refl
  agree t u (some_open n i x) (some_open k j y) = inl refl
  agree t u (all_valid x) (some_invalid j y) =
      absurd (never_both p q alike l m r s a b (all_valid x) (some_invalid j y))
  agree t u (some_invalid i x) (all_valid y) =
      absurd (never_both q p (swapped alike) m l s r b a (all_valid y) (some_invalid i x))
  agree t u (some_open n i x) (all_valid y) =
      inr (record { one = laws.some_open; other = laws.all_valid; either = inl refl })
  agree t u (some_open n i x) (some_invalid j y) =
      inr (record { one = laws.some_open; other = laws.some_invalid; either = inl refl })
  agree t u (all_valid x) (some_open n j y) =
      inr (record { one = laws.all_valid; other = laws.some_open; either = inr refl })
  agree t u (some_invalid i x) (some_open n j y) =
      inr (record { one = laws.some_invalid; other = laws.some_open; either = inr refl })

  verify_status : (task : Task) → IsVerify task → Agree task (status_in r) (status_in s)
  verify_status task is =
      ⊎_elim (λ same. inl same) (λ open_in. inr (is, open_in))
      (agree (status_in r) (status_in s) (told_each p l r a).status (told_each q m s b).status)

-- so it is with functions that were made
made_status : (p q : Program) → AreAlike p q → (l m : Limits) (r s : Response) → AnswersMake p l r → AnswersMake q m s
    → (task : Task) → IsVerify task → Agree task (status_in r) (status_in s)
made_status p q alike l m r s a b task is =
    let one = verdict_report p a.found in
    let other = verdict_report q b.found in
    subst (λ t. Agree task t (status_in s)) (sym (ap status_in a.says))
    (subst (Agree task (status_in one)) (sym (ap status_in b.says))
    (verify_status p q alike l m one other (as_verify p l r a) (as_verify q m s b) task is))

-- ---- all tasks

task_status : (p q : Program) → AreAlike p q → {task : Task} {r s : Response} → AnswersTask p task r
    → AnswersTask q task s → Agree task (status_in r) (status_in s)
task_status p q alike {task} {r} {s} (verifies {order = o} {numbers = n} a) (verifies b) =
    verify_status p q alike (limits_of n) (limits_of n) r s a b task (is_verify o (limits_of n))
task_status p q alike {task} {r} {s} (makes {seed = k} {numbers = n} a) (makes b) =
    made_status p q alike (limits_of n) (limits_of n) r s a b task (is_make k (limits_of n))
task_status p q alike listed listed = inl refl
task_status p q alike (run_ends {name = name} {fuel = fuel} a) (run_ends b) = inl (run_status p q alike name fuel a b)

pub one_status : OneStatus
one_status task sources r s (refused a) (refused b) = inl refl
one_status task sources r s (refused {line = line} a) (accepted p is b) =
    absurd (excluded (sources_of task sources) line p a is)
one_status task sources r s (accepted p is a) (refused {line = line} b) =
    absurd (excluded (sources_of task sources) line p b is)
one_status task sources r s (accepted p is a) (accepted q also b) =
    task_status p q (one_program (sources_of task sources) p q is.program also.program) a b

of_run : (p : Program) (name : List ℕ) (fuel : ℕ) {r : Response} → AnswersTask p (run name fuel) r
    → AnswersRun p name fuel r
of_run p name fuel (run_ends a) = a

-- a function without parameters is called with no arguments
bare_called : (p : Program) (i : ℕ) (f : Function) → slice_get p.functions i ≡ Some f → f.params ≡ []
    → IsCalled p i f []
bare_called p i f at bare =
    record { function = at; arguments = ap (λ ps. have_sorts p.types.ctors [] (param_sorts ps)) bare }

-- a check that its run fails is listed
run_listed : (p : Program) (name : List ℕ) (fuel : ℕ) (f : Function) (asked : IsAsked p name fuel f)
    → FailsListed p asked.place (run_of p.types.ctors p.functions f [] fuel)
run_listed p name fuel f asked = by (run_of p.types.ctors p.functions f [] fuel) refl
  where
    called : IsCalled p asked.place f []
    called = bare_called p asked.place f asked.here asked.bare

    by : (o : Outcome) → run_of p.types.ctors p.functions f [] fuel ≡ o → FailsListed p asked.place o
    by (Done v) is = tt
    by Outside is = tt
    by (Fails c) is = fail_listed_checks.own p asked.place f [] called fuel c is
    by (Inner g c) is = fail_listed_checks.inner p asked.place f [] called fuel g c is
    by Deep is = tt

pub runs_are_runs : RunsAreRuns
runs_are_runs name fuel sources r (refused {line = line} a) p is f asked = absurd (excluded sources line p a is)
runs_are_runs name fuel sources r (accepted q also a) p is f asked =
    record {
      line = run_is q p (one_program sources q p also.program is.program) name fuel (of_run q name fuel a) f asked;
      listed = run_listed p name fuel f asked;
    }
