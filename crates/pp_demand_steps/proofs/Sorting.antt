-- The steps of moves are well sorted in a program that has a plan.
use Rattle.std.proofs.Common.{◌≡◌, ◌∙◌, ℕ, suc, false, List, [], ◌∷◌, ◌++◌, length, Option, Some, None, refl, sym, ap}
use Rattle.std.proofs.Common.{slice_get}
use Rattle.pp_tree.specs.declared.operator.BinaryOp.TheVariants.{Equal}
use Rattle.pp_prog.specs.declared.expr.Function.{Function}
use Rattle.pp_prog.specs.declared.program.Program.{Program}
use Rattle.pp_prog.specs.declared.sort.Sort.{Sort}
use Rattle.pp_prog.specs.declared.sort.Sort.TheVariants as sort
use Rattle.pp_prog.specs.Sorts.{param_sorts}
use Rattle.pp_sound.proofs.Calls.{whole}
use Rattle.pp_steps.specs.declared.step.Step.TheVariants as steps
use Rattle.pp_steps.specs.Compile.{compile}
use Rattle.pp_steps.specs.Frames.{result_of}
use Rattle.pp_steps.specs.Guesses.{GuessSteps, Standing, asking, holding, params_of, standing}
use Rattle.pp_steps.specs.Piece.{demand, plain}
use Rattle.pp_steps.specs.Sorted.{Sorts}
use Rattle.pp_steps_run.specs.Told.{AllOf}
use Rattle.pp_steps_run.proofs.Pieces.{all_join}
use Rattle.pp_steps_sorted.proofs.Assigned.{AllAssigned, assign, assign_assigned, assigned_parts}
use Rattle.pp_steps_sorted.proofs.Exprs.{expr_compiles}
use Rattle.pp_steps_sorted.proofs.Pieces.{AreBool, IsOf, WellSorted, demand_sorted, joined_sorted, of_more, one_sorted}
use Rattle.pp_steps_sorted.proofs.Pieces.{plain_sorted}
use Rattle.pp_steps_sorted.proofs.Steps.{equal_makes}
use Rattle.pp_guess_steps.proofs.CallsPaired.{base_paired, paired_join}
use Rattle.pp_guess_steps.proofs.Labels.{IsLabelled, Labelled, base_labelled}
use Rattle.pp_guess_steps.proofs.Rounds.{Paired}
use Rattle.pp_guess_steps.proofs.RoundsSorted.{IsRoundSorted, base_sorted, more_sorted}
use Rattle.pp_guess_steps.proofs.SecondHalf.{each_of}
use Rattle.pp_guess_steps.proofs.Sorting.{IsCallSorted, asking_sorted, holding_sorted, implying_sorted}
use Rattle.pp_guess_steps.proofs.Sorting.{standing_sorted}
use Rattle.pp_demand_steps.specs.Laws.{MovesAreSorted}
use Rattle.pp_demand_steps.specs.Moves.{AreAllowed, Body, Move, Post, all_moved, bodied_of, call_of, demanded}
use Rattle.pp_demand_steps.specs.Moves.{move_steps, moved, posted_of, started_alone}
use Rattle.pp_demand_steps.proofs.MovesPaired.{move_labelled, move_paired}
use Rattle.pp_demand_steps.proofs.Reading.{moves_read}

module _ (p : Program) (σ : Sorts) where
  abbrev Bools : ℕ → Type 0
  Bools = IsOf p.types σ sort.Bool

  -- ---- one move

  module _ (c : Standing) (s : IsCallSorted p σ c) (k : ℕ) where
    nowhere_sorted : WellSorted p.types σ Bools k (plain (steps.Both c.call.reach c.has ∷ steps.Not k ∷ []) (suc k) k)
    nowhere_sorted =
        plain_sorted p.types σ {R = Bools} k (steps.Both c.call.reach c.has ∷ steps.Not k ∷ []) (suc k) k
        (λ all. (((s.reach, s.has, all.0), ((all.0, all.1.0), tt)), all.1.0, all.0))

    done_sorted : WellSorted p.types σ Bools k (plain (steps.Both c.call.reach c.has ∷ []) k k)
    done_sorted =
        plain_sorted p.types σ {R = Bools} k (steps.Both c.call.reach c.has ∷ []) k k
        (λ all. (((s.reach, s.has, all.0), tt), all.0, all.0))

    bodied_sorted : (o : Option Function) → slice_get p.functions c.call.callee.0 ≡ o
        → WellSorted p.types σ Bools k (bodied_of p.functions o k c)
    bodied_sorted None here = nowhere_sorted
    bodied_sorted (Some f) here =
        let g = c.call.callee.0 in
        let w = whole p g f here in
        let scope = param_sorts f.params in
        let site = asking p.functions (suc c.call.wait) in
        let args = s.args ∙ s.labels.params ∙ ap params_of here in
        let result = s.result ∙ s.labels.result ∙ ap result_of here in
        joined_sorted p.types σ k (plain (steps.Both c.call.reach c.has ∷ []) k k) _ done_sorted
        (λ done. joined_sorted p.types σ _ (compile None site f.body _ c.call.args k) _
        (expr_compiles p σ g None site (asking_sorted p σ (suc c.call.wait) g) f.body scope f.result w.body_sorted
        w.body_met _ c.call.args k args done.out)
        (λ v. joined_sorted p.types σ _ (plain (steps.Binary Equal _ c.result ∷ []) _ _) _
        (one_sorted p.types σ (steps.Binary Equal _ c.result) sort.Bool _ _
        (equal_makes p.types σ _ c.result _ (v.out ∙ sym result)) v.alive)
        (λ same. joined_sorted p.types σ _ (demand false _ _ _) _
        (demand_sorted p.types σ false _ _ _ v.alive same.out)
        (λ agreed. implying_sorted p σ _ k _ done.out agreed.alive))))

    posted_sorted : (o : Option Function) → slice_get p.functions c.call.callee.0 ≡ o
        → WellSorted p.types σ Bools k (posted_of p.functions o k c)
    posted_sorted None here = nowhere_sorted
    posted_sorted (Some f) here =
        let g = c.call.callee.0 in
        let w = whole p g f here in
        let args = s.args ∙ s.labels.params ∙ ap params_of here in
        let result = s.result ∙ s.labels.result ∙ ap result_of here in
        let site = asking p.functions (suc c.call.wait) in
        joined_sorted p.types σ k (plain (steps.Both c.call.reach c.has ∷ []) k k) _ done_sorted
        (λ done. joined_sorted p.types σ _ (holding site f.post _ (c.call.args ++ c.result ∷ []) k) _
        (holding_sorted p σ (suc c.call.wait) g f here f.post w.post_sorted w.post_met _ (c.call.args ++ c.result ∷ [])
        k (of_more p.types σ (param_sorts f.params) f.result c.call.args c.result args result) done.out)
        (λ ends. implying_sorted p σ _ k _ done.out ends.alive))

  move_sorted : (m : Move) → IsCallSorted p σ (call_of m) → (k : ℕ)
      → WellSorted p.types σ Bools k (move_steps p.functions k m)
  move_sorted (Body c) s k = bodied_sorted c s k (slice_get p.functions c.call.callee.0) refl
  move_sorted (Post c) s k = posted_sorted c s k (slice_get p.functions c.call.callee.0) refl

  -- ---- all moves

  moved_sorted : (params : List Sort) (g : GuessSteps) (m : Move) → IsCallSorted p σ (call_of m)
      → AllAssigned p.types σ 0 (moved p.functions g m).steps → IsRoundSorted p σ params g
      → IsRoundSorted p σ params (moved p.functions g m)
  moved_sorted params g m s all h =
      let x = move_steps p.functions (length g.steps) m in
      more_sorted p σ params g (record { steps = x.steps; out = x.out ∷ []; alive = x.alive; fails = x.fails }) all h
      (λ own. let it = (move_sorted m s (length g.steps)).given own in (it.sorted, (it.leaves.out, tt)))

  first_assigned : (ms : List Move) (g : GuessSteps) → AllAssigned p.types σ 0 (all_moved p.functions g ms).steps
      → AllAssigned p.types σ 0 g.steps
  first_assigned [] g all = all
  first_assigned (m ∷ ms) g all =
      (assigned_parts p.types σ 0 g.steps _ (first_assigned ms (moved p.functions g m) all)).0

  all_moved_sorted : (params : List Sort) (n : ℕ) (ms : List Move) (g : GuessSteps)
      → AllAssigned p.types σ 0 (all_moved p.functions g ms).steps → AreAllowed p.functions n g ms → Paired g.steps
      → Labelled p.functions g.steps → IsRoundSorted p σ params g
      → IsRoundSorted p σ params (all_moved p.functions g ms)
  all_moved_sorted params n [] g all allowed q l h = h
  all_moved_sorted params n (m ∷ ms) g all allowed q l h =
      let k = length g.steps in
      let s = each_of (IsCallSorted p σ) (standing 0 g.steps) (call_of m)
      (standing_sorted p σ 0 g.steps h.sorted q l) allowed.0.stands in
      all_moved_sorted params n ms (moved p.functions g m) all allowed.1
      (paired_join g.steps _ q (move_paired p.functions k m))
      (all_join (IsLabelled p.functions) g.steps _ l (move_labelled p.functions k m))
      (moved_sorted params g m s (first_assigned ms (moved p.functions g m) all) h)

  all_bool : (ks : List ℕ) → AreBool p.types σ ks → AllOf (λ k. σ k ≡ sort.Bool) ks
  all_bool [] h = tt
  all_bool (k ∷ ks) h = (h.0, all_bool ks h.1)

pub moves_are_sorted : MovesAreSorted
moves_are_sorted plan p plans i f is check n ms moves =
    let g = demanded p.functions f check ms in
    let σ = assign p.types 0 g.steps (λ k. sort.Bool) in
    let all = assign_assigned p.types 0 g.steps (λ k. sort.Bool) (moves_read p.functions f check n ms moves).reads in
    let b = started_alone p.functions f check in
    let h = all_moved_sorted p σ (param_sorts f.params) n ms b all moves.allowed (base_paired p.functions f check)
    (base_labelled p.functions f check)
    (base_sorted p σ plan plans i f is check (first_assigned p σ ms b all)) in
    record {
      sorts = σ;
      sorted = h.sorted;
      arguments = h.arguments;
      fails = h.fails;
      supposed = all_bool p σ g.supposed h.supposed;
    }
