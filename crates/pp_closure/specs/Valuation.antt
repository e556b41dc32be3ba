-- Values of steps, with their sorts. Source: own.
use Rattle.std.specs.Prelude.{◌≡◌, ◌<◌, ℕ, true, List, IsTrue, Some, length, slice_get}
use Rattle.pp_prog.specs.declared.types.TypeTable.{TypeTable}
use Rattle.pp_prog.specs.Sorts.{has_sort}
use Rattle.pp_steps.specs.declared.step.Step.{Step}
use Rattle.pp_steps.specs.Meaning.{Does, Missing, Values, bit}
use Rattle.pp_steps.specs.Reads.{Reads}
use Rattle.pp_steps.specs.Sorted.{IsSorted, Sorts}
use Rattle.pp_demand_steps.specs.Laws.{AnswersAlike}

-- values that do what the steps say, and have the sorts of the steps; calls on the same arguments are answered alike
pub record Valuation (ss : List Step) : Type 0 where
  pub types : TypeTable
  pub sorts : Sorts
  pub missing : Missing
  pub alike : AnswersAlike missing
  pub values : Values
  pub does : (k : ℕ) (s : Step) → slice_get ss k ≡ Some s → Does types.ctors missing values s (values k)
  pub reads : (k : ℕ) (s : Step) → slice_get ss k ≡ Some s → Reads k s
  pub typed : (k : ℕ) (s : Step) → slice_get ss k ≡ Some s → IsSorted types sorts s (sorts k)
  pub sorted : (k : ℕ) → k < length ss → IsTrue (has_sort types.ctors (values k) (sorts k))

-- the step with the number is true
abbrev pub IsTrueIn : {ss : List Step} → Valuation ss → ℕ → Type 0
IsTrueIn v k = bit (v.values k) ≡ true
