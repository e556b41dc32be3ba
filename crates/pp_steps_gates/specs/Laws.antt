-- The steps of a round fit its estimate. Source: own.
use Rattle.std.specs.Prelude.{◌≡◌, ◌<◌, ◌≤◌, ℕ, ◌+◌, ◌^◌, List, ◌++◌, Some, length, map, slice_get, sum}
use Rattle.pp_limits.specs.declared.TheConstants.{GATES}
use Rattle.pp_prog.specs.declared.expr.Function.{Function}
use Rattle.pp_prog.specs.declared.id.CheckId.{CheckId}
use Rattle.pp_prog.specs.declared.program.Program.{Program}
use Rattle.pp_prog.specs.declared.sort.Sort.{Sort}
use Rattle.pp_prog.specs.declared.types.TypeTable.{TypeTable}
use Rattle.pp_prog.specs.Sizes.{height_at}
use Rattle.pp_prog.specs.Sorts.{param_sorts}
use Rattle.pp_checks.specs.Plan.{IsPlanOf, Plan}
use Rattle.pp_estimate.specs.Estimates.{estimate}
use Rattle.pp_sound.specs.Sound.{IsCheckOf}
use Rattle.pp_steps.specs.declared.step.Step.{Step}
use Rattle.pp_steps.specs.Frames.{open_step, run_steps}
use Rattle.pp_steps.specs.Gates.{AllHigh, Heights, all_gates, open_gates}
use Rattle.pp_steps.specs.Sorted.{AllSorted, Sorts}

-- The arguments of these sorts, up to this depth, and the steps after them take at most so many gates and inputs.
pub record FitsIn (types : TypeTable) (σ : Sorts) (depth : ℕ) (params : List Sort) (rest : List Step)
    (most : ℕ) : Type 0 where
  pub heights : Heights
  -- each argument has the asked height
  pub arguments : (k : ℕ) (s : Sort) → slice_get params k ≡ Some s → heights k ≡ height_at depth s
  pub high : AllHigh types σ heights (length params) rest
  -- the constant, the arguments and the steps
  pub few : 1 + (sum (map (open_gates types depth) params) + all_gates types σ heights (length params) rest) ≤ most

-- where the estimate of a round is small, the steps of the round's run take at most the estimate
abbrev pub RunsFitEstimates : Type 0
RunsFitEstimates =
    (plan : Plan) (p : Program) → IsPlanOf plan p → (i : ℕ) (f : Function) → slice_get p.functions i ≡ Some f
    → (c : CheckId) → IsCheckOf p i c.0 → (round depth : ℕ) → 1 ≤ depth
    → estimate p.types p.functions p.checks c.0 round depth ≤ GATES.most
    → (σ : Sorts) → AllSorted p.types σ 0 (run_steps p.functions f c round).steps
    → map σ (run_steps p.functions f c round).arguments ≡ param_sorts f.params
    → length (run_steps p.functions f c round).steps < 2 ^ 32
    → (rest : List Step) → (run_steps p.functions f c round).steps ≡ map open_step (param_sorts f.params) ++ rest
    → FitsIn p.types σ depth (param_sorts f.params) rest (estimate p.types p.functions p.checks c.0 round depth)
