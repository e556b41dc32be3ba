-- How many gates and inputs a step may take: of an exact domain by the heights of its operands, of another one by the
-- datatypes of the trees that were looked at so far, and by how many comparisons are counted. Source: own.
use Rattle.std.specs.Prelude.{◌≡◌, false, ℕ, suc, ◌+◌, ◌*◌, ◌≤◌, max, min, if◌then◌else◌, List, [], ◌∷◌, ◌++◌, Bool}
use Rattle.std.specs.Prelude.{length, nat_eq}
use Rattle.std.specs.List.{list_any}
use Rattle.pp_prog.specs.declared.id.DataId.{DataId}
use Rattle.pp_prog.specs.declared.sort.Sort.{Sort}
use Rattle.pp_prog.specs.declared.sort.Sort.TheVariants as sort
use Rattle.pp_prog.specs.declared.types.TypeTable.{TypeTable}
use Rattle.pp_prog.specs.Sizes.{by_sort}
use Rattle.pp_domain.specs.Allowance.{bits_at, equality_gates, look_gates, nodes_at, times}
use Rattle.pp_domain.specs.AnySort.{fresh_gates}
use Rattle.pp_domain.specs.Sense.{Sense}
use Rattle.pp_steps.specs.declared.step.Step.{Step}
use Rattle.pp_steps.specs.declared.step.Step.TheVariants as steps
use Rattle.pp_operators.specs.Gates.{unary_gates}
use Rattle.pp_steps.specs.Gates.{Heights, binary_gates}
use Rattle.pp_steps.specs.Sorted.{Sorts}
use Rattle.pp_operators.specs.Classes.{is_equality}

-- the datatype, if it is one
abbrev pub tree_of : Sort → List DataId
tree_of sort.Int = []
tree_of sort.Bool = []
tree_of (sort.Tree of) = of ∷ []

-- whether the tree of the step with this number was looked at, by the numbers of those that were
abbrev pub is_seen : List ℕ → ℕ → Bool
is_seen seen a = list_any (nat_eq a) seen

-- the number of the step whose tree step number k looks at
abbrev pub looked_trees : ℕ → Step → List ℕ
looked_trees k (steps.Construct c fields) = k ∷ []
looked_trees k (steps.IsCtor c n a) = a ∷ []
looked_trees k (steps.CtorField c i a) = a ∷ []
looked_trees k (steps.Field a i) = a ∷ []
looked_trees k s = []

-- the datatype of the tree that step number k is the first to look at
abbrev pub looked : Sorts → List ℕ → ℕ → Step → List DataId
looked σ seen k (steps.Construct c fields) = tree_of (σ k)
looked σ seen k (steps.IsCtor c n a) = if is_seen seen a then [] else tree_of (σ a)
looked σ seen k (steps.CtorField c i a) = if is_seen seen a then [] else tree_of (σ a)
looked σ seen k (steps.Field a i) = if is_seen seen a then [] else tree_of (σ a)
looked σ seen k s = []

-- how often the step compares two trees
abbrev pub compared : Sorts → Step → ℕ
compared σ (steps.GoesDown a b) = by_sort 0 0 (λ of. 1) (σ a)
compared σ s = 0

-- no datatype stands in the first list more often than in the second
abbrev pub AtMostIn : List DataId → List DataId → Type 0
AtMostIn xs ys = (d : DataId) → times d xs ≤ times d ys

-- the step looks at the tree that it names and at no other, and no more is counted than the comparison that it makes;
-- in an exact domain nothing is asked
pub record KeepsLooks {D T : Type 0} (m : Sense D T) (d e : D) (σ : Sorts) (seen : List ℕ) (k : ℕ) (s : Step) : Type 0
  where
    pub looks : m.exact ≡ false → AtMostIn (m.looks e) (looked σ seen k s ++ m.looks d)
    pub compares : m.exact ≡ false → m.compares e ≤ compared σ s + m.compares d

module _ {D T : Type 0} (m : Sense D T) (types : TypeTable) where
  -- a symbol of which nothing is known
  abbrev pub opened_gates : ℕ → Sort → ℕ
  opened_gates h s = fresh_gates m types s h

  -- one more look, at a tree of this datatype
  abbrev pub one_look : List DataId → ℕ → DataId → ℕ
  one_look looks compares of = if m.exact then 0 else look_gates types looks compares of

  module _ (σ : Sorts) (η : Heights) where
    -- step number k, after these looks and so many counted comparisons, where the trees of these steps are expanded
    abbrev pub step_gates : List DataId → ℕ → List ℕ → ℕ → Step → ℕ
    step_gates looks compares seen k (steps.Open s) = opened_gates 0 s
    step_gates looks compares seen k (steps.HasAnswer c) = 1
    step_gates looks compares seen k (steps.Answer c) = opened_gates 0 c.result
    step_gates looks compares seen k (steps.Both a b) = 1
    step_gates looks compares seen k (steps.Choose c a b) =
        by_sort 32 1 (λ of. 32 + bits_at m types of (max (η a) (η b))) (σ k)
    step_gates looks compares seen k (steps.Unary op a) = unary_gates op
    step_gates looks compares seen k (steps.Binary op a b) =
        if is_equality op then by_sort 64 1 (λ of. equality_gates m types of (min (η a) (η b))) (σ a)
        else binary_gates types op 0 (σ a)
    step_gates looks compares seen k (steps.Construct c fields) = by_sort 0 0 (one_look looks compares) (σ k)
    step_gates looks compares seen k (steps.IsCtor c n a) =
        if is_seen seen a then 0 else by_sort 0 0 (one_look looks compares) (σ a)
    step_gates looks compares seen k (steps.CtorField c i a) =
        if is_seen seen a then 0 else by_sort 0 0 (one_look looks compares) (σ a)
    step_gates looks compares seen k (steps.Field a i) =
        if is_seen seen a then 0 else by_sort 0 0 (one_look looks compares) (σ a)
    step_gates looks compares seen k (steps.GoesDown a b) =
        by_sort 1024 0 (λ of.
        if m.exact then 64 + 4 * (32 + bits_at m types of (η a)) * (1 + nodes_at m types of (η b))
        else 194 + 128 * length looks) (σ a)
    step_gates looks compares seen k s = 0

    -- all steps, the first of which has the number k
    abbrev pub all_step_gates : List DataId → ℕ → List ℕ → ℕ → List Step → ℕ
    all_step_gates looks compares seen k [] = 0
    all_step_gates looks compares seen k (s ∷ ss) =
        step_gates looks compares seen k s
        + all_step_gates (looked σ seen k s ++ looks) (compared σ s + compares) (looked_trees k s ++ seen) (suc k) ss
