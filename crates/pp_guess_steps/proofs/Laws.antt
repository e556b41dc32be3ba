-- The laws of the steps of a guess run.
use Rattle.std.proofs.Common.{◌≡◌, ◌≢◌, ℕ, [], Ok, Err, Bool, true, false, refl, sym, ap, ◌∙◌, subst}
use Rattle.std.specs.Prelude.{nat_eq, if◌then◌else◌}
use Rattle.std.proofs.lemmas.Bool.{eq-eqb, eqb-true}
use Rattle.pp_prog.specs.declared.id.CheckId.{CheckId}
use Rattle.pp_eval.specs.declared.outcome.Outcome.{Outcome}
use Rattle.pp_eval.specs.declared.outcome.Outcome.TheVariants as outcome
use Rattle.pp_eval.specs.declared.outcome.Stop.TheVariants as stop
use Rattle.pp_eval.specs.Meaning.{CallMeaning}
use Rattle.pp_eval.specs.Part.{Part}
use Rattle.pp_eval.specs.Runs.{run_with}
use Rattle.pp_eval.proofs.Extends.{CallsCover, Extends}
use Rattle.pp_guess_runs.specs.Answers.{answers_of}
use Rattle.pp_guess_runs.specs.Guess.{fails, guessed, own, skip}
use Rattle.pp_steps.specs.Guesses.{guess_steps, standing}
use Rattle.pp_steps.specs.Meaning.{bit}
use Rattle.pp_steps_run.specs.Told.{AreValues}
use Rattle.pp_guess_steps.specs.Laws.{Completes, GuessesSuppose, GuessesTell, IsWhole, SupposedAgree}
use Rattle.pp_guess_steps.specs.Laws.{WholeGuessesAnswer}
use Rattle.pp_steps_run.proofs.Lasting.{Lasts}
use Rattle.pp_guess_steps.proofs.Answered.{guess_answers}
use Rattle.pp_guess_steps.specs.OpenCalls.{own_answered}
use Rattle.pp_guess_steps.proofs.OwnFrame.{arguments_are, base_of, failed_is, fails_is, fails_told, looked_is}
use Rattle.pp_guess_steps.proofs.OwnWorld.{two_agree}
use Rattle.pp_guess_steps.proofs.StandingAgree.{all_agree, true_on}
use Rattle.pp_guess_steps.proofs.Supposed.{guess_supposes}

extends_by : {A : Type 0} (p q : Part A) → (p ≢ Err stop.Deep → q ≡ p) → Extends p q
extends_by (Ok a) q h = h (λ e. absurd (cc))
extends_by (Err (stop.Fails c)) q h = h (λ e. absurd (cc))
extends_by (Err (stop.Inner g c)) q h = h (λ e. absurd (cc))
extends_by (Err stop.Deep) q h = tt
extends_by (Err stop.Stuck) q h = h (λ e. absurd (cc))

cover_by : (c d : CallMeaning) → Completes c d → CallsCover c d
cover_by c d h frame g pre measure args = extends_by _ _ (h frame g pre measure args)

pub guesses_tell : GuessesTell
guesses_tell ctors functions f check n missing ρ args made contracts outer con out whole =
    let told = fails_told ctors functions missing ρ check contracts outer (cover_by _ _ con) (cover_by _ _ out) f args
    (base_of functions f check ctors missing ρ n made.steps)
    (subst (λ ks. AreValues ρ ks args) (arguments_are functions f check n) made.arguments)
    (record { lasts = whole.deep; meant = whole.stuck }) in
    let own = ap (λ k. bit (ρ k)) (fails_is functions f check n) in (
      λ on. failed_is check (run_with (own_answered ctors functions missing check) f args) (sym told ∙ sym own ∙ on),
      λ e. own ∙ told ∙ looked_is check (run_with (own_answered ctors functions missing check) f args) e,
    )

-- a guess run that fails is a run that fails the check
pub guessed_fails : (c : CheckId) (p : Part Outcome) → guessed c p ≡ fails → p ≡ Err (stop.Fails c)
guessed_fails c (Ok (outcome.Done v)) e = cc
guessed_fails c (Ok outcome.Outside) e = cc
guessed_fails c (Ok (outcome.Fails d)) e = cc
guessed_fails c (Ok (outcome.Inner g d)) e = cc
guessed_fails c (Ok outcome.Deep) e = cc
guessed_fails c (Err (stop.Fails d)) e =
    let mk : ℕ → CheckId = λ n. record { 0 = n } in
    ap (λ z. Err (stop.Fails z)) (ap mk (eqb-true d.0 c.0 (by (nat_eq d.0 c.0) e)))
  where
    by : (b : Bool) → (if b then fails else skip) ≡ fails → b ≡ true
    by true e = refl
    by false e = cc
guessed_fails c (Err (stop.Inner g d)) e = cc
guessed_fails c (Err stop.Deep) e = cc
guessed_fails c (Err stop.Stuck) e = cc

pub guesses_suppose : GuessesSuppose
guesses_suppose ctors functions f check args n answers field ρ wrong made =
    let W = answers_of ctors functions answers in
    let both = guess_supposes ctors functions W field n ρ check f args
    (guessed_fails check (run_with (own ctors functions W check n) f args) wrong) made.steps
    (subst (λ ks. AreValues ρ ks args) (arguments_are functions f check n) made.arguments) in
    record { fails = both.0; supposed = both.1 }

pub supposed_agree : SupposedAgree
supposed_agree ctors functions f check n missing ρ rest on c d first second same =
    two_agree ctors missing ρ (standing 0 (guess_steps functions f check n).steps) []
    (all_agree ctors missing ρ functions f check n rest on (true_on ctors missing ρ functions f check n rest))
    c d first second (eq-eqb c.call.callee.0 d.call.callee.0 (ap (λ g. g.0) same))

lasting : {A : Type 0} (part : Part A) → IsWhole part → Lasts part
lasting part h = record { lasts = h.deep; meant = h.stuck }

pub whole_guesses_answer : WholeGuessesAnswer
whole_guesses_answer ctors functions f check n field ρ args rest are is truths full more whole =
    guess_answers ctors functions field ρ f check n rest is.supposed truths full (λ w. cover_by _ _ (more w))
    (λ c g there here. lasting _ (whole.body c g there here))
    (λ c g post there here e. lasting _ (whole.post c g post there here e)) args
    (subst (λ ks. AreValues ρ ks args) (arguments_are functions f check n) are) (lasting _ whole.run) is.fails
