-- The steps of a run are well sorted. Source: own.
use Rattle.std.specs.Prelude.{◌≡◌, ℕ, List, Some, map, slice_get}
use Rattle.pp_prog.specs.declared.expr.Function.{Function}
use Rattle.pp_prog.specs.declared.id.CheckId.{CheckId}
use Rattle.pp_prog.specs.declared.program.Program.{Program}
use Rattle.pp_prog.specs.declared.sort.Sort.{Sort}
use Rattle.pp_prog.specs.declared.sort.Sort.TheVariants as sort
use Rattle.pp_prog.specs.declared.types.TypeTable.{TypeTable}
use Rattle.pp_prog.specs.Sorts.{param_sorts}
use Rattle.pp_checks.specs.Plan.{IsPlanOf, Plan}
use Rattle.pp_steps.specs.Frames.{RunSteps, run_steps}
use Rattle.pp_steps.specs.Sorted.{AllSorted, Sorts}

-- the steps have sorts, those of the arguments are those of the parameters, and `fails` is a truth value
pub record HaveSorts (types : TypeTable) (run : RunSteps) (params : List Sort) : Type 0 where
  pub sorts : Sorts
  pub sorted : AllSorted types sorts 0 run.steps
  pub arguments : map sorts run.arguments ≡ params
  pub fails : sorts run.fails ≡ sort.Bool

-- In a program that has a plan, the steps of each run have sorts. The plan is needed for the measures: it says that
-- those of one group are of one list of sorts, so that they can be compared.
abbrev pub RunsAreSorted : Type 0
RunsAreSorted =
    (plan : Plan) (p : Program) → IsPlanOf plan p → (i : ℕ) (f : Function) → slice_get p.functions i ≡ Some f
    → (check : CheckId) (fuel : ℕ) → HaveSorts p.types (run_steps p.functions f check fuel) (param_sorts f.params)
