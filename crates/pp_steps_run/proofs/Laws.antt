-- Values that obey the steps of a run tell the run.
use Rattle.std.proofs.Common.{◌≡◌, ℕ, Bool, true, false, List, [], ◌∷◌, ◌++◌, map, Option, Some, None, Ok, Err, sym, ap}
use Rattle.std.proofs.Common.{◌∙◌}
use Rattle.std.specs.Prelude.{◌↔◌, nat_eq}
use Rattle.std.proofs.Math.Logic.{∥∥₁_elim}
use Rattle.std.proofs.lemmas.Bool.{eq-eqb, eqb-true}
use Rattle.pp_prog.specs.declared.expr.Expr.{Expr}
use Rattle.pp_prog.specs.declared.expr.Function.{Function}
use Rattle.pp_prog.specs.declared.id.CheckId.{CheckId}
use Rattle.pp_prog.specs.declared.program.Program.{Program}
use Rattle.pp_prog.specs.declared.types.Ctor.{Ctor}
use Rattle.pp_prog.specs.declared.value.Value.{Value}
use Rattle.pp_prog.specs.Sorts.{param_sorts}
use Rattle.pp_prog.proofs.Sure.{bool_prop}
use Rattle.pp_eval.specs.declared.outcome.Outcome.{Outcome}
use Rattle.pp_eval.specs.declared.outcome.Outcome.TheVariants.{Done, Outside}
use Rattle.pp_eval.specs.declared.outcome.Outcome.TheVariants as end
use Rattle.pp_eval.specs.declared.outcome.Stop.TheVariants.{Fails, Inner, Deep, Stuck}
use Rattle.pp_eval.specs.Invocation.{allowed, calls_over, calls_to, frame_of}
use Rattle.pp_eval.specs.Meaning.{CallMeaning, Frame, meaning}
use Rattle.pp_eval.specs.Operators.{truth}
use Rattle.pp_eval.specs.Part.{Part, and_then, either}
use Rattle.pp_eval.specs.Runs.{finished, outcome, run, run_with, started}
use Rattle.pp_sound.specs.Sound.{AnswersSorted, IsCalled}
use Rattle.pp_sound.proofs.Answered.{can_answer_sorted}
use Rattle.pp_sound.proofs.Laws.{deep_by_fuel_alone}
use Rattle.pp_steps.specs.declared.step.Step.TheVariants as steps
use Rattle.pp_steps.specs.Frames.{any_of, arguments, inlined, open_step, run_steps, running}
use Rattle.pp_steps.specs.Meaning.{Missing, Obeys, Values, bit}
use Rattle.pp_steps.specs.Piece.{Piece, after, plain}
use Rattle.pp_steps_run.specs.Laws.{IsRun, TellRuns}
use Rattle.pp_steps_run.specs.Told.{IsMade, On}
use Rattle.pp_steps_run.proofs.Calls.{inlined_right}
use Rattle.pp_steps_run.proofs.Lasting.{Lasts}
use Rattle.pp_steps_run.proofs.Pieces.{bit_truth, obeys_left, obeys_right}
use Rattle.pp_steps_run.proofs.Runs.{any_is, fails_in, running_fails}

-- ---- a run that has an outcome fails no check

abbrev IsEnd : Part Outcome → Type 0
IsEnd (Ok (Done v)) = Unit {0}
IsEnd (Ok Outside) = Unit {0}
IsEnd (Ok (end.Fails c)) = ⊥
IsEnd (Ok (end.Inner g c)) = ⊥
IsEnd (Ok end.Deep) = ⊥
IsEnd (Err s) = Unit {0}

record Ending (part : Part Outcome) : Type 0 where
  pub ends : IsEnd part

end_then : {A : Type 0} (part : Part A) (go : A → Part Outcome) → ((a : A) → Ending (go a)) → Ending (and_then part go)
end_then (Ok a) go h = h a
end_then (Err s) go h = record { ends = tt }

end_either : (b : Bool) (p q : Part Outcome) → Ending p → Ending q → Ending (either b p q)
end_either true p q h k = h
end_either false p q h k = k

finished_ends : (c : CallMeaning) (post : Option (CheckId × Expr)) (frame : Frame) (args : List Value) (v : Value)
    → Ending (finished c post frame args v)
finished_ends c None frame args v = record { ends = tt }
finished_ends c (Some post) frame args v =
    end_then (meaning c post.1 frame (args ++ v ∷ [])) _
    (λ p. end_then (truth p) _ (λ t. end_either t _ _ (record { ends = tt }) (record { ends = tt })))

started_ends : (c : CallMeaning) (f : Function) (args : List Value) → Ending (started c f args)
started_ends c f args = end_then (frame_of c f.measure args) _
    (λ frame. end_then (meaning c f.body frame args) _ (λ v. finished_ends c f.post frame args v))

run_ends : (c : CallMeaning) (f : Function) (args : List Value) → Ending (run_with c f args)
run_ends c f args = end_then (allowed c f.pre args) _
    (λ allows. end_either allows _ _ (started_ends c f args) (record { ends = tt }))

same_check : (c d : CheckId) → nat_eq c.0 d.0 ≡ true → c ≡ d
same_check c d h = let mk : ℕ → CheckId = λ n. record { 0 = n } in ap mk (eqb-true c.0 d.0 h)

fails_is : (check : CheckId) (part : Part Outcome) → Ending part
    → (fails_in (Some check) part ≡ true) ↔ (outcome part ≡ end.Fails check)
fails_is check (Ok (Done v)) h = (λ e. absurd (cc), λ e. absurd (cc))
fails_is check (Ok Outside) h = (λ e. absurd (cc), λ e. absurd (cc))
fails_is check (Ok (end.Fails c)) h = absurd h.ends
fails_is check (Ok (end.Inner g c)) h = absurd h.ends
fails_is check (Ok end.Deep) h = absurd h.ends
fails_is check (Err (Fails c)) h = (
  λ e. ap (λ (d : CheckId). end.Fails d) (sym (same_check check c e)),
  λ e. let same : c ≡ check = cc in eq-eqb check.0 c.0 (ap (λ (d : CheckId). d.0) (sym same)),
)
fails_is check (Err (Inner g c)) h = (λ e. absurd (cc), λ e. absurd (cc))
fails_is check (Err Deep) h = (λ e. absurd (cc), λ e. absurd (cc))
fails_is check (Err Stuck) h = (λ e. absurd (cc), λ e. absurd (cc))

lasts_from : (part : Part Outcome) → (outcome part ≡ end.Deep → ⊥) → Lasts part
lasts_from part h = record { lasts = λ e. h (ap outcome e); meant = λ e. h (ap outcome e) }

-- ---- the run

module _ (p : Program) (i : ℕ) (f : Function) (args : List Value) (called : IsCalled p i f args) (check : CheckId)
    (fuel : ℕ)
    (missing : Missing) (ρ : Values) (made : IsRun p f check fuel missing ρ args) where
  abbrev ctors : List Ctor
  ctors = p.types.ctors

  abbrev A : Piece (List ℕ)
  A = arguments (param_sorts f.params)

  abbrev n : ℕ
  n = after 0 A

  abbrev R : Piece ℕ
  R = running (inlined p.functions fuel (Some check)) (Some check) f n A.out A.alive

  abbrev F : Piece ℕ
  F = any_of R.fails (after n R) A.alive

  made_args : Obeys ctors missing ρ 0 A.steps
  made_args = obeys_left ctors missing ρ 0 A.steps (R.steps ++ F.steps) made.steps

  made_rest : Obeys ctors missing ρ n (R.steps ++ F.steps)
  made_rest = obeys_right ctors missing ρ 0 A.steps (R.steps ++ F.steps) made.steps

  made_run : IsMade ctors missing ρ n R
  made_run = record { steps = obeys_left ctors missing ρ n R.steps F.steps made_rest }

  made_fails : IsMade ctors missing ρ (after n R) F
  made_fails = record { steps = obeys_right ctors missing ρ n R.steps F.steps made_rest }

  reached : On ρ A.alive
  reached =
      let o : Piece ℕ = plain (map open_step (param_sorts f.params)) 0 0 in
      ap bit (obeys_right ctors missing ρ 0 o.steps (steps.Bool true ∷ []) made_args).0 ∙ bit_truth true

  told_from : (deeper : CallMeaning) × AnswersSorted p deeper
      → bit (ρ F.out) ≡ fails_in (Some check) (run_with (calls_to ctors p.functions fuel) f args)
  told_from answers =
      let lasts = lasts_from (run_with (calls_over answers.0 ctors p.functions fuel) f args)
      (deep_by_fuel_alone p answers.0 answers.1 i f args called fuel) in
      any_is ctors missing ρ R.fails (after n R) A.alive made_fails _
      (running_fails ctors missing ρ (Some check) (inlined p.functions fuel (Some check))
      (calls_to ctors p.functions fuel) (calls_over answers.0 ctors p.functions fuel)
      (inlined_right ctors p.functions answers.0 missing ρ fuel (Some check)) f n A.out A.alive
      made_run reached args made.arguments lasts)

  told : bit (ρ F.out) ≡ fails_in (Some check) (run_with (calls_to ctors p.functions fuel) f args)
  told = ∥∥₁_elim (can_answer_sorted p) bool_prop told_from

  pub run_told : (bit (ρ (run_steps p.functions f check fuel).fails) ≡ true) ↔
      (run ctors p.functions f args fuel ≡ end.Fails check)
  run_told =
      let part = run_with (calls_to ctors p.functions fuel) f args in
      let is = fails_is check part (run_ends (calls_to ctors p.functions fuel) f args) in
      (λ e. is.0 (sym told ∙ e), λ e. told ∙ is.1 e)

pub tell_runs : TellRuns
tell_runs p i f args called check fuel missing ρ made = run_told p i f args called check fuel missing ρ made
