-- The evaluation as a whole: from the steps that were written to the frame's meaning.
use Rattle.std.proofs.Common.{◌≡◌, ℕ, ◌+◌, ◌-◌, ◌≤◌, ◌<◌, ◌^◌, true, List, length, Result, Ok, Err, IfOk, OnOk}
use Rattle.std.proofs.Common.{sym, subst, arith}
use Rattle.pp_prog.specs.declared.expr.Function.{Function}
use Rattle.pp_prog.specs.declared.id.CheckId.{CheckId}
use Rattle.pp_prog.specs.declared.program.Program.{Program}
use Rattle.pp_prog.specs.Sorts.{param_sorts}
use Rattle.pp_gate.specs.declared.gate.Gate.{Gate}
use Rattle.pp_gate.proofs.Growing.{length-Grows}
use Rattle.pp_checks.specs.Plan.{IsPlanOf, Plan}
use Rattle.pp_compile.specs.declared.work.Run.{Run}
use Rattle.pp_compile.specs.Written.{IsRunOf}
use Rattle.pp_domain.specs.Answers.{Fresh}
use Rattle.pp_domain.specs.Laws.{Lawful}
use Rattle.pp_domain.specs.Moves.{Moves}
use Rattle.pp_domain.specs.Sense.{Sense}
use Rattle.pp_domain.proofs.Composition.{Moves_weaker}
use Rattle.pp_estimate.specs.Estimates.{estimate}
use Rattle.pp_steps.specs.declared.step.Step.{Step}
use Rattle.pp_steps.specs.Frames.{run_steps}
use Rattle.pp_steps_exist.proofs.Laws.{runs_ask, runs_exist, runs_read}
use Rattle.pp_steps_gates.proofs.Laws.{runs_fit_estimates}
use Rattle.pp_steps_run.proofs.Laws.{tell_runs}
use Rattle.pp_steps_sorted.proofs.Laws.{runs_are_sorted}
use Rattle.pp_symbolic.specs.declared.frame.Frame.{Frame}
use Rattle.pp_symbolic.specs.Evaluated.{CanEvaluate, IsEvaluated}
use Rattle.pp_symbolic.specs.Frame.{IsFrame, IsOwner}
use Rattle.pp_symbolic.proofs.Ready.{behind, can_evaluate, some_gates, steps_split}
use Rattle.pp_simplify.specs.Folded.{all_folded}
use Rattle.pp_simplify.specs.Names.{named}
use Rattle.pp_simplify.specs.Pruned.{IsPruned}
use Rattle.pp_simplify_laws.proofs.Following.{follows_folded, follows_more, follows_pruned}
use Rattle.pp_symbolic.proofs.Simplified.{arguments_stand, can_folded, can_pruned}
use Rattle.pp_symbolic.proofs.RunFrame.{FollowRun, is_frame, nothing_open}

-- the number that stands for the step with this one, once the steps are folded
abbrev pub name_in : List Step → ℕ → ℕ
name_in ss k = named (all_folded ss).names k

less_all : (e : ℕ) → e - 1 ≤ e
less_all e = omega arith

size_after : (g h e : ℕ) → g ≡ 1 → 1 ≤ e → h ≤ g + (e - 1) → h ≤ e
size_after g h e one some grown = omega arith

module _ {D T : Type 0} (m : Sense D T) (law : Lawful m) (exact : m.exact ≡ true) (p : Program) (plan : Plan)
    (is_plan : IsPlanOf plan p) (c : CheckId) (f : Function) (own : IsOwner p c f) (round depth : ℕ)
    (some : 1 ≤ depth) (small : estimate p.types p.functions p.checks c.0 round depth ≤ 4000000)
    (r : Run) (is : IsRunOf (run_steps p.functions f c round) r) (few : length r.steps < 2 ^ 32)
    (d : D) (gs : List Gate) (fresh : Fresh m p.types d gs) (one : length gs ≡ 1)
  where
    abbrev most : ℕ
    most = estimate p.types p.functions p.checks c.0 round depth

    abbrev Can : List Step → ℕ → ℕ → Type 0
    Can steps asked k = CanEvaluate p.types gs (param_sorts f.params) depth steps asked k

    can_steps : Can (run_steps p.functions f c round).steps (run_steps p.functions f c round).fails (most - 1)
    can_steps = can_evaluate p f c round plan is_plan own.number own.here own.owner depth some small
        (subst (λ (ss : List Step). length ss < 2 ^ 32) is.steps few) runs_are_sorted runs_fit_estimates runs_read
        runs_ask gs one

    pub can_run : Can r.steps r.fails (most - 1)
    can_run = subst (λ k. Can r.steps k (most - 1)) (sym is.fails)
        (subst (λ ss. Can ss (run_steps p.functions f c round).fails (most - 1)) (sym is.steps) can_steps)

    pub few_arguments : length (param_sorts f.params) ≤ length r.steps
    few_arguments = arguments_stand p.types gs (param_sorts f.params) depth r.steps r.fails (most - 1) can_run

    some_most : 1 ≤ most
    some_most = some_gates p f c round plan is_plan own.number own.here own.owner depth some small
        (subst (λ (ss : List Step). length ss < 2 ^ 32) is.steps few) runs_are_sorted runs_fit_estimates runs_read
        runs_ask

    -- where the steps were folded and pruned
    module _ (new : List Step) (next : ℕ) (is_next : next ≡ name_in r.steps r.fails)
        (pruned : IsPruned (length (param_sorts f.params)) next (all_folded r.steps).steps new)
      where
        pruned_named : IsPruned (length (param_sorts f.params)) (name_in r.steps r.fails) (all_folded r.steps).steps new
        pruned_named =
            subst (λ j. IsPruned (length (param_sorts f.params)) j (all_folded r.steps).steps new) is_next pruned

        pub can_new : Can new next (most - 1)
        can_new = subst (λ j. Can new j (most - 1)) (sym is_next)
            (can_pruned p.types gs (param_sorts f.params) depth (all_folded r.steps).steps (name_in r.steps r.fails)
            (most - 1) (can_folded p.types gs (param_sorts f.params) depth r.steps r.fails (most - 1) can_run) new
            pruned_named)

        abbrev steps_of_run : List Step
        steps_of_run = (run_steps p.functions f c round).steps

        abbrev asked : ℕ
        asked = (run_steps p.functions f c round).fails

        abbrev name : ℕ
        name = name_in steps_of_run asked

        pruned_run : IsPruned (length (param_sorts f.params)) name (all_folded steps_of_run).steps new
        pruned_run =
            subst (λ ss. IsPruned (length (param_sorts f.params)) (name_in ss asked) (all_folded ss).steps new) is.steps
            (subst (λ j. IsPruned (length (param_sorts f.params)) (name_in r.steps j) (all_folded r.steps).steps new)
            is.fails pruned_named)

        follow : FollowRun p c round f new name
        follow ρ obeys =
            let many = length (param_sorts f.params) in
            let folds = follows_folded p.types.ctors nothing_open (param_sorts f.params) (behind p f c round) asked
            steps_of_run ρ (steps_split p f c round) (runs_read p.functions f c round) obeys in
            follows_more p.types.ctors nothing_open many asked name name steps_of_run
            (all_folded steps_of_run).steps new
            ρ folds
            (follows_pruned p.types.ctors nothing_open many name (all_folded steps_of_run).steps new folds.values
            pruned_run folds.obeys)

        module _ (e : D) (hs : List Gate) where
          pub moves_run : ((k : ℕ) → Can new next k → Moves m p.types d gs e hs k)
              → Moves m p.types d gs e hs most
          moves_run moves = Moves_weaker m p.types d e gs hs (most - 1) most (moves (most - 1) can_new) (less_all most)

          pub size_run : ((k : ℕ) → Can new next k → Moves m p.types d gs e hs k)
              → length hs ≤ most
          size_run moves =
              let grown = (length-Grows gs hs (most - 1) (moves (most - 1) can_new).grows).1 in
              size_after (length gs) (length hs) most one some_most grown

          abbrev Evaluates : Frame T → ℕ → Type 0
          Evaluates frame j = IsEvaluated m p.types d gs (param_sorts f.params) depth new j can_new.sorts e hs frame

          pub frame_run : (frame : Frame T)
              → ((k : ℕ) → (can : Can new next k)
              → IsEvaluated m p.types d gs (param_sorts f.params) depth new next can.sorts e hs frame)
              → IsFrame m p c round depth e hs frame
          frame_run frame evaluates =
              let at_name = subst (λ ss. Evaluates frame (name_in ss asked)) is.steps
              (subst (λ j. Evaluates frame (name_in r.steps j)) is.fails
              (subst (λ j. Evaluates frame j) is_next (evaluates (most - 1) can_new))) in
              is_frame m p c round depth d gs e hs frame law exact fresh one tell_runs runs_exist own.number f own.here
              new name follow can_new.sorts at_name own.owner

-- ---- facts of results

pub if_ok : {X E : Type 0} {P Q : X → Type 0} (r : Result X E) → IfOk r P → ((x : X) → P x → Q x) → IfOk r Q
if_ok (Ok x) h go = go x h
if_ok (Err e) h go = tt

pub on_ok : {X E : Type 0} {P : Type 0} (r : Result X E) → P → OnOk r P
on_ok (Ok x) h = h
on_ok (Err e) h = tt
