-- Where no values of the steps of a run say that it fails the check, no run fails it.
use Rattle.std.proofs.Common.{◌≡◌, ◌∙◌, ℕ, All, List, [], arith, subst, sym}
use Rattle.std.proofs.Math.Logic.{∥∥₁_elim}
use Rattle.std.proofs.lemmas.List.Elements.{All-nil}
use Rattle.std.proofs.lemmas.Option.{same_Some}
use Rattle.pp_prog.specs.declared.expr.Function.{Function}
use Rattle.pp_prog.specs.declared.id.CheckId.{CheckId}
use Rattle.pp_prog.specs.declared.program.Program.{Program}
use Rattle.pp_prog.specs.declared.value.Value.{Value}
use Rattle.pp_prog.specs.Sorts.{param_sorts}
use Rattle.pp_prog.specs.Table.{HaveValues}
use Rattle.pp_checks.specs.Plan.{IsPlanOf, Plan}
use Rattle.pp_eval.specs.declared.outcome.Outcome.TheVariants.{Fails}
use Rattle.pp_eval.specs.Runs.{run}
use Rattle.pp_induction.specs.Ends.{NoRunFails}
use Rattle.pp_sound.specs.Sound.{IsCalled, IsCheckOf}
use Rattle.pp_steps.specs.declared.step.Step.{Step}
use Rattle.pp_steps.specs.Frames.{RunSteps, run_steps}
use Rattle.pp_steps_exist.proofs.Laws.{runs_read}
use Rattle.pp_steps_run.proofs.Laws.{tell_runs}
use Rattle.pp_steps_sorted.specs.Laws.{HaveSorts}
use Rattle.pp_steps_sorted.proofs.Laws.{runs_are_sorted}
use Rattle.pp_build.proofs.StepLists.{reads_at, sorted_at}
use Rattle.pp_closure.specs.Valuation.{IsTrueIn, Valuation}
use Rattle.pp_guess_values.proofs.Failing.{does_at}
use Rattle.pp_symbolic.specs.Frame.{IsOwner}
use Rattle.pp_symbolic.proofs.GuessFrame.{same_owner}
use Rattle.pp_query.specs.declared.found.Found.TheVariants.{Nothing}
use Rattle.pp_query.specs.Found.{IsFound}
use Rattle.pp_query.proofs.RunValues.{IsSortedRun, sorted_run}

-- no values of the steps say that the run fails the check
abbrev pub NeverFails : RunSteps → Type 0
NeverFails r = (v : Valuation r.steps) → IsTrueIn v r.fails → ⊥

pub never_fails_from : (r : RunSteps) (ss : List Step) (fails : ℕ) → ss ≡ r.steps → fails ≡ r.fails
    → ((v : Valuation ss) → IsTrueIn v fails → All (IsTrueIn v) [] → ⊥) → NeverFails r
never_fails_from r ss fails e same never =
    let Says : List Step → Type 0 = λ l. (v : Valuation l) → IsTrueIn v r.fails → All (IsTrueIn v) [] → ⊥ in
    let Tells : ℕ → Type 0 = λ k. (v : Valuation ss) → IsTrueIn v k → All (IsTrueIn v) [] → ⊥ in
    λ v fails. subst Says e (subst Tells same never) v fails (All-nil (IsTrueIn v))

module _ (p : Program) (plan : Plan) (is_plan : IsPlanOf plan p) (c : CheckId) (round : ℕ) (f : Function)
    (own : IsOwner p c f)
  where
    abbrev R : RunSteps
    R = run_steps p.functions f c round

    have : HaveSorts p.types R (param_sorts f.params)
    have = runs_are_sorted plan p is_plan own.number f own.here c round

    -- the values of a run
    values_of : (args : List Value) → IsSortedRun p f c round have args → Valuation R.steps
    values_of args x = record {
      types = p.types;
      sorts = have.sorts;
      missing = x.missing;
      alike = x.alike;
      values = x.values;
      does = λ k s at. does_at p.types.ctors x.missing x.values 0 R.steps k k s x.made.steps at (omega arith);
      reads = λ k s at. reads_at 0 R.steps k k s (runs_read p.functions f c round) at (omega arith);
      typed = λ k s at. sorted_at p.types have.sorts 0 R.steps k k s have.sorted at (omega arith);
      sorted = x.sorted;
    }

    never_run : NeverFails R → (args : List Value) → IsCalled p own.number f args
        → run p.types.ctors p.functions f args round ≡ Fails c → HaveValues p.types.datatypes p.types.ctors → ⊥
    unfolding values_of
    never_run never args called failed inhabited =
        let x = sorted_run p f c round have inhabited own.number args called in
        never (values_of args x)
        ((tell_runs p own.number f args called c round x.missing x.values x.made).1 failed)

    pub no_run_fails : NeverFails R → (i : ℕ) → IsCheckOf p i c.0 → NoRunFails p i c round
    no_run_fails never i check g args called failed =
        let number : i ≡ own.number = same_owner p i own.number c.0 check own.owner in
        let called_here : IsCalled p own.number g args = subst (λ j. IsCalled p j g args) number called in
        let same : g ≡ f = same_Some g f (sym called_here.function ∙ own.here) in
        ∥∥₁_elim p.types.inhabited ⊥_prop
        (never_run never args (subst (λ h. IsCalled p own.number h args) same called_here)
        (subst (λ h. run p.types.ctors p.functions h args round ≡ Fails c) same failed))
      where
        ⊥_prop : IsProp ⊥
        ⊥_prop = hlevel

-- where no run fails the check no arguments do, of whatever height
pub none_found : (p : Program) (c : CheckId) (round depth lemmas : ℕ)
    → ((i : ℕ) → IsCheckOf p i c.0 → NoRunFails p i c round) → IsFound p c round depth lemmas Nothing
none_found p c round depth lemmas none i check args ce = none i check ce.function args ce.called ce.fails
