-- Where a guess run fails the check, values that obey the steps of moves in its world say so.
use Rattle.std.proofs.Common.{ℕ, List, [], ◌∷◌, length, sym, subst}
use Rattle.pp_prog.specs.declared.expr.Function.{Function}
use Rattle.pp_prog.specs.declared.id.CtorId.{CtorId}
use Rattle.pp_prog.specs.declared.types.Ctor.{Ctor}
use Rattle.pp_prog.specs.declared.value.Value.{Value}
use Rattle.pp_eval.specs.Runs.{run_with}
use Rattle.pp_guess_runs.specs.Answers.{Answers, answers_of}
use Rattle.pp_guess_runs.specs.Guess.{own}
use Rattle.pp_steps.proofs.Counting.{zero_plus}
use Rattle.pp_steps.specs.Guesses.{GuessSteps, standing}
use Rattle.pp_steps.specs.Meaning.{Missing, Obeys, Values}
use Rattle.pp_steps_run.specs.Told.{AllOf, AreValues, On}
use Rattle.pp_steps_run.proofs.Pieces.{all_join, obeys_left, obeys_right}
use Rattle.pp_guess_steps.specs.OpenCalls as specs
use Rattle.pp_guess_steps.proofs.CallsPaired.{base_paired, paired_join}
use Rattle.pp_guess_steps.proofs.Failures.{fails_on}
use Rattle.pp_guess_steps.proofs.Laws.{guessed_fails}
use Rattle.pp_guess_steps.proofs.Rounds.{Paired, honest_from}
use Rattle.pp_guess_steps.proofs.SecondHalf.{each_of}
use Rattle.pp_guess_steps.proofs.Ties.{IsHonest}
use Rattle.pp_demand_steps.specs.Laws.{MovesSuppose}
use Rattle.pp_demand_steps.specs.Moves.{AreAllowed, Move, all_moved, call_of, move_steps, moved, started_alone}
use Rattle.pp_demand_steps.proofs.Lists.{arguments_stay, fails_stays, obeyed_first}
use Rattle.pp_demand_steps.proofs.MovesPaired.{move_paired}
use Rattle.pp_demand_steps.proofs.Supposed.{move_on}

module _ (ctors : List Ctor) (functions : List Function) (W : Answers) (field : CtorId → ℕ → Value) (N : ℕ)
    (ρ : Values) where
  abbrev world : Missing
  world = specs.world functions W field N

  moved_on : (g : GuessSteps) (m : Move) (ms : List Move) → Obeys ctors world ρ 0 (moved functions g m).steps
      → Paired g.steps → AreAllowed functions N g (m ∷ ms) → On ρ (move_steps functions (length g.steps) m).out
  moved_on g m ms h q allowed =
      let k = length g.steps in
      let x = move_steps functions k m in
      let honest = each_of (IsHonest ctors functions W field N ρ) (standing 0 g.steps) (call_of m)
      (honest_from ctors functions W field N ρ 0 g.steps (obeys_left ctors world ρ 0 g.steps x.steps h) q)
      allowed.0.stands in
      move_on ctors functions W field N ρ m honest allowed.0.early k
      (record {
        steps =
            subst (λ i. Obeys ctors world ρ i x.steps) (zero_plus k) (obeys_right ctors world ρ 0 g.steps x.steps h);
      })

  all_on : (ms : List Move) (g : GuessSteps) → Obeys ctors world ρ 0 (all_moved functions g ms).steps
      → Paired g.steps → AreAllowed functions N g ms → AllOf (On ρ) g.supposed
      → AllOf (On ρ) (all_moved functions g ms).supposed
  all_on [] g h q allowed on = on
  all_on (m ∷ ms) g h q allowed on =
      let k = length g.steps in
      let first = obeyed_first functions ctors world ρ ms (moved functions g m) h in
      all_on ms (moved functions g m) h (paired_join g.steps _ q (move_paired functions k m)) allowed.1
      (all_join (On ρ) g.supposed _ on (moved_on g m ms first q allowed, tt))

pub moves_suppose : MovesSuppose
moves_suppose ctors functions f check args n answers field ρ ms wrong moves obeyed =
    let W = answers_of ctors functions answers in
    let w = specs.world functions W field n in
    let g = started_alone functions f check in
    let base = obeyed_first functions ctors w ρ ms g obeyed.steps in
    let are = subst (λ ks. AreValues ρ ks args) (arguments_stay functions ms g) obeyed.arguments in
    record {
      fails = subst (λ k. On ρ k) (sym (fails_stays functions ms g))
          (fails_on ctors functions W field n ρ check f args
          (guessed_fails check (run_with (own ctors functions W check n) f args) wrong) base are);
      supposed = all_on ctors functions W field n ρ ms g obeyed.steps (base_paired functions f check) moves.allowed tt;
    }
