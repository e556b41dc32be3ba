-- A check that is settled isn't failed by a run that fails it from some fuel on, as its guess runs do.
use Rattle.std.proofs.Common.{◌≡◌, ◌⊎◌, ℕ, ◌+◌, List, Ok, Err, refl, sym, ap, ◌∙◌, subst, arith, inl, inr, eq-eqb}
use Rattle.std.specs.Prelude.{if◌then◌else◌}
use Rattle.std.proofs.Math.Logic.{∥∥₁_elim}
use Rattle.pp_prog.specs.declared.expr.Function.{Function}
use Rattle.pp_prog.specs.declared.id.CheckId.{CheckId}
use Rattle.pp_prog.specs.declared.program.Program.{Program}
use Rattle.pp_prog.specs.declared.value.Value.{Value}
use Rattle.pp_prog.proofs.Sure.{⊥_prop}
use Rattle.pp_eval.specs.declared.outcome.Outcome.{Outcome}
use Rattle.pp_eval.specs.declared.outcome.Outcome.TheVariants as outcome
use Rattle.pp_eval.specs.declared.outcome.Stop.TheVariants.{Deep, Fails, Inner, Stuck}
use Rattle.pp_eval.specs.Meaning.{CallMeaning, Frame}
use Rattle.pp_eval.specs.Part.{Part}
use Rattle.pp_eval.specs.Runs as runs
use Rattle.pp_eval.specs.Runs.{run, run_with}
use Rattle.pp_eval.proofs.Lasts.{lasts}
use Rattle.pp_sound.specs.Sound.{AnswersSorted, IsCalled, IsCheckOf}
use Rattle.pp_sound.proofs.Answered.{can_answer_sorted}
use Rattle.pp_sound.proofs.Exprs.{AreGood}
use Rattle.pp_sound.proofs.Parts.{IsFine, MayStop}
use Rattle.pp_run_laws.specs.Laws.{SameAt}
use Rattle.pp_run_laws.proofs.Eventually.{Eventually}
use Rattle.pp_run_laws.proofs.Follows.{Comes, Follows, stop_comes, value_comes}
use Rattle.pp_run_laws.proofs.Nested.{nested_never_deep}
use Rattle.pp_guess_runs.specs.Answers.{truth}
use Rattle.pp_guess_runs.specs.Guess.{fails, guessed, skip}
use Rattle.pp_induction.specs.Ends.{IsExhausted, IsSettled, NoGuessFails}
use Rattle.pp_induction.proofs.Callees.{AreKnown, complete, known_calls, known_good}
use Rattle.pp_induction.proofs.Views.{IsKept, NotInner, View, calls_in, in_own, in_run}

-- from some number on the parts fail the check, in each view where that is kept
abbrev pub FailIn : {A : Type 0} → CheckId → (View → ℕ → Part A) → Type 0
FailIn c parts = (v : View) → IsKept v (Fails c) → Eventually (λ m. parts v m ≡ Err (Fails c))

module _ (p : Program) (i : ℕ) (f : Function) (args : List Value) (called : IsCalled p i f args) where
  -- the run in each view
  abbrev pub runs_in : View → ℕ → Part Outcome
  runs_in v m = run_with (calls_in p.types.ctors p.functions v m) f args

  -- a check that is settled isn't failed
  pub refuted : (c : CheckId) → IsSettled p i c → FailIn c runs_in → ⊥
  refuted c settled stops = by settled.0 settled.1 settled.2
    where
      itself : guessed c (Err (Fails c)) ≡ fails
      itself = ap (λ t. if t then fails else skip) (eq-eqb c.0 c.0 refl)

      by : (n d : ℕ) → NoGuessFails p i c n ⊎ IsExhausted p i c n d → ⊥
      by n d (inl guesses) =
          let e = stops (in_own c n) refl in
          guesses f args called (truth e.from) tt (ap (guessed c) (e.holds e.from (omega arith)) ∙ itself)
      by n d (inr exhausted) =
          let e = stops in_run tt in
          let run_fails : run p.types.ctors p.functions f args (e.from + n) ≡ outcome.Fails c =
          ap runs.outcome (e.holds (e.from + n) (omega arith)) in
          let never = nested_never_deep p i f args called n exhausted.closed.nested in
          exhausted.runs f args called
          (sym (lasts p.types.ctors p.functions f args n (e.from + n) (omega arith) never) ∙ run_fails)

-- the parts come to one value in each view, of which V holds
pub record Settled {A : Type 0} (V : A → Type 0) (parts : View → ℕ → Part A) : Type 0 where
  pub value : A
  pub holds : V value
  pub comes : (v : View) → Comes (parts v) value

module _ (p : Program) (i : ℕ) (old : Frame) (gs : List ℕ) (known : AreKnown p i old gs) where
  abbrev ideal : CallMeaning
  ideal = known_calls p i old gs known

  -- a part over calls that are known settles, where the checks that it can fail aren't failed
  pub part_settles : {A : Type 0} (V : A → Type 0) (part : CallMeaning → Part A) (parts : View → ℕ → Part A)
      → ((D : Type 0) (calls : CallMeaning) → AreGood p D i calls → IsFine (MayStop p D i) V (part calls))
      → ((calls : CallMeaning) → SameAt gs ideal calls → part ideal ≡ part calls)
      → ((v : View) → Follows NotInner (IsKept v) (part ideal) (parts v))
      → ((c : CheckId) → IsCheckOf p i c.0 → FailIn c parts → ⊥)
      → Settled V parts
  part_settles V part parts fine same follows refute =
      by (part ideal) (fine (Unit {0}) ideal (known_good p i old gs known)) follows
      (λ deeper answers.
      let k = complete p i old gs known deeper answers in
      subst (IsFine (MayStop p ⊥ i) V) (sym (same k.0 k.1.same)) (fine ⊥ k.0 k.1.good))
    where
      by : (r : Part _) → IsFine (MayStop p (Unit {0}) i) V r → ((v : View) → Follows NotInner (IsKept v) r (parts v))
          → ((deeper : CallMeaning) → AnswersSorted p deeper → IsFine (MayStop p ⊥ i) V r) → Settled V parts
      by (Ok a) h follows never = record { value = a; holds = h.told; comes = λ v. value_comes (follows v) }
      by (Err (Fails c)) h follows never = absurd (refute c h.told (λ v kept. stop_comes kept (follows v)))
      by (Err (Inner g c)) h follows never =
          let e = follows in_run in absurd (e.kept e.from (omega arith)).0
      by (Err Stuck) h follows never = absurd h.told
      by (Err Deep) h follows never =
          absurd (∥∥₁_elim (can_answer_sorted p) ⊥_prop (λ k. (never k.0 k.1).told))
