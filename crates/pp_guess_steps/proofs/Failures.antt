-- Where a guess run fails the check, values that obey the steps in the world of its answers say so.
use Rattle.std.proofs.Common.{◌≡◌, ◌≤◌, ℕ, zero, suc, ◌-◌, List, ◌++◌}
use Rattle.std.proofs.Common.{Ok, Err, refl, sym, ◌∙◌, subst, arith}
use Rattle.pp_prog.specs.declared.expr.Function.{Function}
use Rattle.pp_prog.specs.declared.id.CheckId.{CheckId}
use Rattle.pp_prog.specs.declared.id.CtorId.{CtorId}
use Rattle.pp_prog.specs.declared.types.Ctor.{Ctor}
use Rattle.pp_prog.specs.declared.value.Value.{Value}
use Rattle.pp_eval.specs.declared.outcome.Outcome.{Outcome}
use Rattle.pp_eval.specs.declared.outcome.Stop.TheVariants as stop
use Rattle.pp_eval.specs.Meaning.{CallMeaning}
use Rattle.pp_eval.specs.Part.{Part}
use Rattle.pp_eval.specs.Runs.{run_with}
use Rattle.pp_eval.proofs.Extends.{same_extends}
use Rattle.pp_guess_runs.specs.Answers.{Answers}
use Rattle.pp_guess_runs.specs.Guess.{called, one_less, own}
use Rattle.pp_steps.specs.declared.step.Step.{Step}
use Rattle.pp_steps.specs.Guesses.{guess_steps}
use Rattle.pp_steps.specs.Meaning.{Obeys, Values}
use Rattle.pp_steps.proofs.Counting.{minus_one, minus_zero}
use Rattle.pp_steps_run.specs.Told.{AllOf, AreValues, On}
use Rattle.pp_steps_run.proofs.Lasting.{Lasts}
use Rattle.pp_steps_run.proofs.Pieces.{obeys_left}
use Rattle.pp_guess_steps.proofs.Ties.{ans_keeps}
use Rattle.pp_guess_steps.specs.OpenCalls.{answered, own_answered, world}
use Rattle.pp_guess_steps.proofs.OwnFrame.{A, F, base, base_of, fails_is, fails_told, looked_is}
use Rattle.pp_guess_steps.proofs.Rounds.{Paired, agreement_on, grown_on, less_before, less_than, unfolded_steps}
use Rattle.pp_guess_steps.proofs.ByValues.{OwnStop, own_inner}
use Rattle.pp_guess_steps.proofs.RunsKeep.{CallsKeep, Keeps, own_keep, run_keeps}

-- one less, by subtraction
pub pred_is : (n : ℕ) → n - 1 ≡ one_less n
pred_is zero = refl
pred_is (suc n) = minus_one n

abbrev pub failing : CheckId → Part Outcome
failing c = Err (stop.Fails c)

fails_lasts : (p : Part Outcome) (c : CheckId) → p ≡ failing c → Lasts p
fails_lasts p c e = subst Lasts (sym e) (record { lasts = λ d. absurd (cc); meant = λ d. absurd (cc) })

kept_fails : (p q : Part Outcome) (c : CheckId) → Keeps OwnStop own_inner p q → p ≡ failing c → q ≡ failing c
kept_fails (Ok o) q c h e = cc
kept_fails (Err (stop.Fails d)) q c h e = h.1 tt ∙ e
kept_fails (Err (stop.Inner g d)) q c h e = cc
kept_fails (Err stop.Deep) q c h e = cc
kept_fails (Err stop.Stuck) q c h e = cc

module _ (ctors : List Ctor) (functions : List Function) (W : Answers) (field : CtorId → ℕ → Value) (N : ℕ)
    (ρ : Values) (c : CheckId) where
  abbrev Own : CallMeaning
  Own = own_answered ctors functions (world functions W field N) c

  own_keeps : CallsKeep OwnStop own_inner (own ctors functions W c N) Own
  own_keeps frame g pre down args = own_keep OwnStop own_inner ctors functions c
      (called functions W (one_less N)) (called functions W N)
      (answered functions (world functions W field N) 1)
      (answered functions (world functions W field N) 0)
      (ans_keeps ctors functions W field N ρ 1 (one_less N) (pred_is N))
      (ans_keeps ctors functions W field N ρ 0 N (minus_zero N)) frame g pre down args

  module _ (f : Function) (args : List Value) (wrong : run_with (own ctors functions W c N) f args ≡ failing c) where
    fails_too : run_with Own f args ≡ failing c
    fails_too = kept_fails _ _ c (run_keeps OwnStop own_inner (own ctors functions W c N) Own own_keeps f args) wrong

    abbrev pub Obeyed : List Step → Type 0
    Obeyed ss = Obeys ctors (world functions W field N) ρ 0 ss

    pub fails_on : Obeyed (base functions f c).steps → AreValues ρ (A functions f c).out args
        → On ρ (F functions f c).out
    fails_on h are =
        fails_told ctors functions (world functions W field N) ρ c _ _
        (λ frame g pre down vs. same_extends _) (λ frame g pre down vs. same_extends _) f args h are
        (fails_lasts (run_with Own f args) c fails_too) ∙ looked_is c (run_with Own f args) fails_too

    -- ---- all rounds

    -- what is left to show of the lists: that calls are paired
    pub record ArePaired : Type 0 where
      pub first : Paired (base functions f c).steps
      pub rounds : (r : ℕ) → Paired (guess_steps functions f c r).steps
      pub unfolded : (r : ℕ) → Paired (unfolded_steps ctors functions W field N ρ r (guess_steps functions f c r))

    supposed_on : ArePaired → (r : ℕ) → r ≤ N → Obeyed (guess_steps functions f c r).steps
        → AllOf (On ρ) (guess_steps functions f c r).supposed
    supposed_on paired zero le h = agreement_on ctors functions W field N ρ 0 (base functions f c) h paired.first tt
    supposed_on paired (suc r) le h =
        let w = world functions W field N in
        let g = guess_steps functions f c r in
        let old = obeys_left ctors w ρ 0 g.steps _ (obeys_left ctors w ρ 0 (g.steps ++ _) _ h) in
        grown_on ctors functions W field N ρ r (less_than r N le) g h (paired.rounds r) (paired.unfolded r)
        (supposed_on paired r (less_before r N le) old)

    self : (m : ℕ) → m ≤ m
    self m = omega arith

    -- the first half
    pub first_half : ArePaired → Obeyed (guess_steps functions f c N).steps → AreValues ρ (A functions f c).out args
        → On ρ (guess_steps functions f c N).fails × AllOf (On ρ) (guess_steps functions f c N).supposed
    first_half paired h are = (
      subst (λ k. On ρ k) (sym (fails_is functions f c N))
          (fails_on (base_of functions f c ctors (world functions W field N) ρ N h) are),
      supposed_on paired N (self N) h,
    )
