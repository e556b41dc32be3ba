-- Folded and pruned steps do what the old ones do as far as these are needed, and take no more. Source: own.
use Rattle.std.specs.Prelude.{◌≡◌, ◌≤◌, ◌<◌, ℕ, Bool, true, List, ◌++◌, length, map}
use Rattle.pp_prog.specs.declared.sort.Sort.{Sort}
use Rattle.pp_prog.specs.declared.types.Ctor.{Ctor}
use Rattle.pp_prog.specs.declared.types.TypeTable.{TypeTable}
use Rattle.pp_prog.specs.Sizes.{height_at}
use Rattle.pp_steps.specs.declared.step.Step.{Step}
use Rattle.pp_steps.specs.Frames.{open_step}
use Rattle.pp_steps.specs.Gates.{AllHigh, Heights, all_gates}
use Rattle.pp_steps.specs.Known.{AllTell}
use Rattle.pp_steps.specs.Meaning.{Missing, Obeys, Values}
use Rattle.pp_steps.specs.Reads.{AllRead}
use Rattle.pp_steps.specs.Sorted.{AllSorted, Sorts}
use Rattle.pp_simplify.specs.Folded.{Folding, all_folded}
use Rattle.pp_simplify.specs.Marks.{is_marked}
use Rattle.pp_simplify.specs.Names.{named}
use Rattle.pp_simplify.specs.Pruned.{IsPruned}
use Rattle.pp_simplify_laws.specs.Fully.{folded_known}
use Rattle.pp_simplify_laws.specs.Kept.{kept_heights, kept_known, kept_sorts, kept_values}

-- the first ones and the asked one are kept
pub record AreKept (first asked : ℕ) (marks : List Bool) : Type 0 where
  pub front : (k : ℕ) → k < first → is_marked marks k ≡ true
  pub target : is_marked marks asked ≡ true

abbrev pub PrunedKeep : Type 0
PrunedKeep = (first asked : ℕ) (old new : List Step) → (is : IsPruned first asked old new)
    → AreKept first asked is.marks

-- values that obey the old steps obey the new ones, where those that aren't kept are constants
abbrev pub PrunedObey : Type 0
PrunedObey =
    (first asked : ℕ) (old new : List Step) → (is : IsPruned first asked old new)
    → (ctors : List Ctor) (missing : Missing) (ρ : Values) → Obeys ctors missing ρ 0 old
    → Obeys ctors missing (kept_values (is_marked is.marks) ρ) 0 new

-- What the new steps tell the old ones tell: nothing has to be known of those that aren't kept.
abbrev pub PrunedTell : (ℕ → Type 0) → Type 0
PrunedTell K =
    (first asked : ℕ) (old new : List Step) → (is : IsPruned first asked old new) → (ρ : Values)
    → AllTell (kept_values (is_marked is.marks) ρ) K 0 new → AllTell ρ (kept_known (is_marked is.marks) K) 0 old

-- new steps look at earlier ones
abbrev pub PrunedRead : Type 0
PrunedRead = (first asked : ℕ) (old new : List Step) → IsPruned first asked old new → AllRead 0 old → AllRead 0 new

-- they are as many
abbrev pub PrunedLast : Type 0
PrunedLast = (first asked : ℕ) (old new : List Step) → IsPruned first asked old new → length new ≡ length old

-- they have sorts
abbrev pub PrunedSorted : Type 0
PrunedSorted =
    (first asked : ℕ) (old new : List Step) → (is : IsPruned first asked old new) → (types : TypeTable) (σ : Sorts)
    → AllSorted types σ 0 old → AllSorted types (kept_sorts (is_marked is.marks) σ) 0 new

-- behind the arguments they have heights, and take at most as many gates and inputs
pub record IsPrunedRest (types : TypeTable) (σ τ : Sorts) (η θ : Heights) (params : List Sort) (rest new : List Step)
    : Type 0 where
  pub steps : List Step
  pub split : new ≡ map open_step params ++ steps
  pub high : AllHigh types τ θ (length params) steps
  pub few : all_gates types τ θ (length params) steps ≤ all_gates types σ η (length params) rest

abbrev pub PrunedFit : Type 0
PrunedFit =
    (first asked : ℕ) (old new : List Step) → (is : IsPruned first asked old new)
    → (params : List Sort) (rest : List Step) → first ≡ length params → old ≡ map open_step params ++ rest
    → (types : TypeTable) (σ : Sorts) (η : Heights) → AllHigh types σ η (length params) rest
    → IsPrunedRest types σ (kept_sorts (is_marked is.marks) σ) η (kept_heights (is_marked is.marks) η) params rest new

-- ---- folded steps

-- the values obey the folded steps, and each step has the value of the one that stands for it
pub record AgreeFolded (ctors : List Ctor) (missing : Missing) (ρ : Values) (f : Folding) : Type 0 where
  pub obeys : Obeys ctors missing ρ 0 f.steps
  pub same : (k : ℕ) → ρ (named f.names k) ≡ ρ k

-- values that obey the old steps obey the folded ones
abbrev pub FoldedObey : Type 0
FoldedObey =
    (old : List Step) → AllRead 0 old → (ctors : List Ctor) (missing : Missing) (ρ : Values)
    → Obeys ctors missing ρ 0 old → AgreeFolded ctors missing ρ (all_folded old)

-- What the folded steps tell the old ones tell. A step is known where the one that stands for it is, with the fields of
-- what it makes.
abbrev pub FoldedTell : (ℕ → Type 0) → Type 0
FoldedTell K =
    (old : List Step) → AllRead 0 old → (ctors : List Ctor) (missing : Missing) (ρ : Values)
    → Obeys ctors missing ρ 0 old → AllTell ρ K 0 (all_folded old).steps
    → AllTell ρ (folded_known (all_folded old) K) 0 old

-- folded steps look at earlier ones
abbrev pub FoldedRead : Type 0
FoldedRead = (old : List Step) → AllRead 0 old → AllRead 0 (all_folded old).steps

-- they are as many, and the step that stands for one of them is no later one
pub record AreAsMany (old : List Step) (f : Folding) : Type 0 where
  pub many : length f.steps ≡ length old
  pub low : (k : ℕ) → named f.names k ≤ k

abbrev pub FoldedLast : Type 0
FoldedLast = (old : List Step) → AllRead 0 old → AreAsMany old (all_folded old)

-- they have the old sorts, and each step has the sort of the one that stands for it
pub record SortedFolded (types : TypeTable) (σ : Sorts) (f : Folding) : Type 0 where
  pub sorted : AllSorted types σ 0 f.steps
  pub same : (k : ℕ) → σ (named f.names k) ≡ σ k

abbrev pub FoldedSorted : Type 0
FoldedSorted =
    (old : List Step) → AllRead 0 old → (types : TypeTable) (σ : Sorts) → AllSorted types σ 0 old
    → SortedFolded types σ (all_folded old)

-- behind the arguments they have heights, and take at most as many gates and inputs
pub record IsFoldedRest (types : TypeTable) (σ : Sorts) (η : Heights) (params : List Sort) (rest new : List Step)
    : Type 0 where
  pub steps : List Step
  pub heights : Heights
  pub split : new ≡ map open_step params ++ steps
  pub front : (k : ℕ) → k < length params → heights k ≡ η k
  pub high : AllHigh types σ heights (length params) steps
  pub few : all_gates types σ heights (length params) steps ≤ all_gates types σ η (length params) rest

-- the heights of the first n steps are those of values of their sorts: 0 where these are no trees
abbrev pub AreLevel : Sorts → Heights → ℕ → Type 0
AreLevel σ η n = (k : ℕ) → k < n → η k ≡ height_at (η k) (σ k)

abbrev pub FoldedFit : Type 0
FoldedFit =
    (old : List Step) (params : List Sort) (rest : List Step) → old ≡ map open_step params ++ rest → AllRead 0 old
    → (types : TypeTable) (σ : Sorts) (η : Heights) → AllSorted types σ 0 old → AreLevel σ η (length params)
    → AllHigh types σ η (length params) rest
    → IsFoldedRest types σ η params rest (all_folded old).steps
