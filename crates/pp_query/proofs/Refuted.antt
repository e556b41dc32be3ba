-- Where no values of the steps of a guess run say that it fails the check, no guess run fails it.
use Rattle.std.proofs.Common.{◌≡◌, ℕ, All, List, [], ◌∷◌, arith, subst}
use Rattle.std.proofs.Math.Logic.{∥∥₁_elim}
use Rattle.std.proofs.lemmas.List.Elements.{All-cons, All-nil}
use Rattle.pp_prog.specs.declared.expr.Function.{Function}
use Rattle.pp_prog.specs.declared.id.CheckId.{CheckId}
use Rattle.pp_prog.specs.declared.program.Program.{Program}
use Rattle.pp_prog.specs.Sorts.{param_sorts}
use Rattle.pp_checks.specs.Plan.{IsPlanOf, Plan}
use Rattle.pp_induction.specs.Ends.{GuessFails, NoGuessFails}
use Rattle.pp_sound.specs.Sound.{IsCheckOf}
use Rattle.pp_steps.specs.declared.step.Step.{Step}
use Rattle.pp_steps.specs.Guesses.{GuessSteps, guess_steps}
use Rattle.pp_steps_run.specs.Told.{AllOf}
use Rattle.pp_build.proofs.StepLists.{reads_at, sorted_at}
use Rattle.pp_closure.specs.Valuation.{IsTrueIn, Valuation}
use Rattle.pp_guess_steps.specs.Laws.{HaveGuessSorts}
use Rattle.pp_guess_steps.proofs.Existing.{guesses_read}
use Rattle.pp_guess_steps.proofs.RoundsSorted.{guesses_are_sorted}
use Rattle.pp_guess_values.specs.FailingGuess.{IsFailingGuess}
use Rattle.pp_guess_values.proofs.Failing.{does_at, failing_guess_has_values}
use Rattle.pp_symbolic.specs.Frame.{IsOwner}
use Rattle.pp_symbolic.proofs.GuessFrame.{same_owner}
use Rattle.pp_query.proofs.Proved.{no_guess_fails}

pub all_of : (P : ℕ → Type 0) (ks : List ℕ) → AllOf P ks → All P ks
all_of P [] h = All-nil P
all_of P (k ∷ ks) h = All-cons P k ks h.0 (all_of P ks h.1)

-- no values of the steps say that the check fails, and all that is supposed
abbrev pub Never : GuessSteps → Type 0
Never g = (v : Valuation g.steps) → IsTrueIn v g.fails → All (IsTrueIn v) g.supposed → ⊥

pub never_from : (g : GuessSteps) (ss : List Step) (supposed : List ℕ) → ss ≡ g.steps → supposed ≡ g.supposed
    → ((v : Valuation ss) → IsTrueIn v g.fails → All (IsTrueIn v) supposed → ⊥) → Never g
never_from g ss supposed e f never =
    let Says : List Step → Type 0 =
    λ l. (v : Valuation l) → IsTrueIn v g.fails → All (IsTrueIn v) g.supposed → ⊥ in
    let Tells : List ℕ → Type 0 =
    λ l. (v : Valuation ss) → IsTrueIn v g.fails → All (IsTrueIn v) l → ⊥ in
    subst Says e (subst Tells f never)

module _ (p : Program) (plan : Plan) (is_plan : IsPlanOf plan p) (c : CheckId) (round : ℕ) (f : Function)
    (own : IsOwner p c f)
  where
    abbrev G : GuessSteps
    G = guess_steps p.functions f c round

    have : HaveGuessSorts p.types G (param_sorts f.params)
    have = guesses_are_sorted plan p is_plan own.number f own.here c round

    -- the values of a guess run that fails
    values_of : IsFailingGuess p f c round have.sorts → Valuation G.steps
    values_of x = record {
      types = p.types;
      sorts = have.sorts;
      missing = x.missing;
      alike = x.alike;
      values = x.values;
      does = λ k s at. does_at p.types.ctors x.missing x.values 0 G.steps k k s x.guess.steps at (omega arith);
      reads = λ k s at. reads_at 0 G.steps k k s (guesses_read p.functions f c round).reads at (omega arith);
      typed = λ k s at. sorted_at p.types have.sorts 0 G.steps k k s have.sorted at (omega arith);
      sorted = x.sorted;
    }

    pub never_fails : (g : GuessSteps) → g ≡ G → Never g → (i : ℕ) → IsCheckOf p i c.0 → NoGuessFails p i c round
    unfolding values_of have
    never_fails g is never i check = no_guess_fails p i c round (λ failed. ∥∥₁_elim
        (failing_guess_has_values p own.number f own.here c round (at_owner failed) have) ⊥_prop one)
      where
        at_owner : GuessFails p i c round → GuessFails p own.number c round
        at_owner failed = subst (λ j. GuessFails p j c round) (same_owner p i own.number c.0 check own.owner) failed

        one : IsFailingGuess p f c round have.sorts → ⊥
        one x = subst Never is never (values_of x) x.supposed.fails
            (all_of (IsTrueIn (values_of x)) G.supposed x.supposed.supposed)

        ⊥_prop : IsProp ⊥
        ⊥_prop = hlevel
