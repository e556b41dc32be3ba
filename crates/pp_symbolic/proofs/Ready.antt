-- The steps of a run can be performed in a circuit that has nothing yet.
use Rattle.std.proofs.Common.{◌≡◌, ℕ, zero, suc, ◌+◌, ◌-◌, ◌≤◌, ◌<◌, ◌^◌, List, [], ◌∷◌, ◌++◌, length, map, Bool, true}
use Rattle.std.proofs.Common.{Some, subst, arith}
use Rattle.std.specs.Prelude.{slice_get}
use Rattle.std.specs.List.{list_all}
use Rattle.std.proofs.lemmas.Bool.{and_parts}
use Rattle.std.proofs.lemmas.List.{append_assoc}
use Rattle.pp_prog.specs.declared.expr.Function.{Function}
use Rattle.pp_prog.specs.declared.id.CheckId.{CheckId}
use Rattle.pp_prog.specs.declared.program.Program.{Program}
use Rattle.pp_prog.specs.declared.sort.Sort.{Sort}
use Rattle.pp_prog.specs.Sorts.{param_sorts}
use Rattle.pp_prog.specs.Table.{is_sort}
use Rattle.pp_prog.specs.Valid.{is_in_range}
use Rattle.pp_prog.proofs.Sure.{is_valid}
use Rattle.pp_gate.specs.declared.gate.Gate.{Gate}
use Rattle.pp_sound.specs.Sound.{IsCheckOf}
use Rattle.pp_checks.specs.Plan.{IsPlanOf, Plan}
use Rattle.pp_estimate.specs.Estimates.{estimate}
use Rattle.pp_steps.specs.declared.step.Step.{Step}
use Rattle.pp_steps.specs.declared.step.Step.TheVariants as steps
use Rattle.pp_steps.specs.Frames.{any_of, arguments, inlined, open_step, run_steps, running}
use Rattle.pp_steps.specs.Piece.{Piece, after}
use Rattle.pp_steps_exist.specs.Laws.{RunsAsk, RunsRead}
use Rattle.pp_steps_gates.specs.Laws.{FitsIn, RunsFitEstimates}
use Rattle.pp_steps_sorted.specs.Laws.{HaveSorts, RunsAreSorted}
use Rattle.pp_symbolic.specs.Evaluated.{CanEvaluate}

-- the test holds of each element
holds_at : {X : Type 0} (test : X → Bool) (xs : List X) (k : ℕ) (x : X) → list_all test xs ≡ true
    → slice_get xs k ≡ Some x → test x ≡ true
holds_at test [] k x h at = absurd (cc)
holds_at test (y ∷ ys) zero x h at = subst (λ z. test z ≡ true) (same y x at)
    (and_parts (test y) (list_all test ys) h).0
  where
    same : {X : Type 0} (y x : X) → Some y ≡ Some x → y ≡ x
    same y x e = cc
holds_at test (y ∷ ys) (suc k) x h at = holds_at test ys k x (and_parts (test y) (list_all test ys) h).1 at

less_one : (a e : ℕ) → 1 + a ≤ e → a ≤ e - 1
less_one a e h = omega arith

at_least : (a e : ℕ) → 1 + a ≤ e → 1 ≤ e
at_least a e h = omega arith

room_for : (g e : ℕ) → g ≡ 1 → e ≤ 4000000 → g + (e - 1) ≤ 2 ^ 30
room_for g e one small = omega arith

module _ (p : Program) (f : Function) (c : CheckId) (round : ℕ) where
  abbrev params : List Sort
  params = param_sorts f.params

  abbrev A : Piece (List ℕ)
  A = arguments params

  abbrev R : Piece ℕ
  R = running (inlined p.functions round (Some c)) (Some c) f (after 0 A) A.out A.alive

  abbrev F : Piece ℕ
  F = any_of R.fails (after (after 0 A) R) A.alive

  -- the steps behind the arguments
  abbrev pub behind : List Step
  behind = steps.Bool true ∷ (R.steps ++ F.steps)

  pub steps_split : (run_steps p.functions f c round).steps ≡ map open_step params ++ behind
  steps_split = append_assoc (map open_step params) (steps.Bool true ∷ []) (R.steps ++ F.steps)

  module _ (plan : Plan) (is_plan : IsPlanOf plan p) (i : ℕ) (here : slice_get p.functions i ≡ Some f)
      (owner : IsCheckOf p i c.0) (depth : ℕ) (some : 1 ≤ depth)
      (small : estimate p.types p.functions p.checks c.0 round depth ≤ 4000000)
      (few : length (run_steps p.functions f c round).steps < 2 ^ 32)
      (sorted : RunsAreSorted) (fit : RunsFitEstimates) (read : RunsRead) (ask : RunsAsk)
    where
      abbrev most : ℕ
      most = estimate p.types p.functions p.checks c.0 round depth

      have : HaveSorts p.types (run_steps p.functions f c round) params
      have = sorted plan p is_plan i f here c round

      fits : FitsIn p.types have.sorts depth params behind most
      fits = fit plan p is_plan i f here c owner round depth some small have.sorts have.sorted have.arguments few behind
          steps_split

      pub some_gates : 1 ≤ most
      some_gates = at_least _ most fits.few

      pub can_evaluate : (gs : List Gate) → length gs ≡ 1
          → CanEvaluate p.types gs params depth (run_steps p.functions f c round).steps
          (run_steps p.functions f c round).fails (most - 1)
      can_evaluate gs one = record {
        sorts = have.sorts;
        heights = fits.heights;
        rest = behind;
        split = steps_split;
        reads = read p.functions f c round;
        sorted = have.sorted;
        arguments = have.arguments;
        truth = have.fails;
        stands = ask p.functions f c round;
        in_range = (and_parts (list_all (is_sort p.types.datatypes) params) _
            (holds_at (is_in_range p.types.datatypes) p.functions i f (is_valid p).in_range here)).0;
        some_depth = some;
        tall = fits.arguments;
        high = fits.high;
        few = less_one _ most fits.few;
        room = room_for (length gs) most one small;
      }
