-- The sorts that steps have by themselves: the sort of each follows from those of its operands. Steps that look at
-- earlier ones alone have such sorts.
use Rattle.std.proofs.Common.{◌≡◌, ℕ, suc, ◌+◌, ◌<◌, List, [], ◌∷◌, ◌++◌, length, Option, Some, None, slice_get}
use Rattle.std.proofs.Common.{refl, sym, ap, ◌∙◌, subst, arith}
use Rattle.std.specs.Prelude.{nat_eq, if◌then◌else◌}
use Rattle.std.proofs.lemmas.Bool.{eq-eqb}
use Rattle.pp_prog.specs.declared.sort.Sort.{Sort}
use Rattle.pp_prog.specs.declared.sort.Sort.TheVariants as sort
use Rattle.pp_prog.specs.declared.types.Ctor.{Ctor}
use Rattle.pp_prog.specs.declared.types.TypeTable.{TypeTable}
use Rattle.pp_prog.specs.ExprSorts.{a_tree, field_of_ctor, field_sort, unary_sort}
use Rattle.pp_steps.proofs.Counting.{less_suc, nat_eq_less, self_less}
use Rattle.pp_steps.specs.declared.step.Step.{Step}
use Rattle.pp_steps.specs.declared.step.Step.TheVariants as steps
use Rattle.pp_steps.specs.Reads.{AllRead, Reads}
use Rattle.pp_steps.specs.Sorted.{Sorts, operated_sort}

-- where a step has no sort, Bool stands in its place
abbrev pub or_bool : Option Sort → Sort
or_bool None = sort.Bool
or_bool (Some s) = s

abbrev pub tree_of : Option Ctor → Option Sort
tree_of None = None
tree_of (Some c) = Some (sort.Tree c.of)

module _ (types : TypeTable) where
  -- the sort of a step, by those of its operands
  abbrev pub step_sort : Sorts → Step → Option Sort
  step_sort σ (steps.Open s) = Some s
  step_sort σ (steps.Int n) = Some sort.Int
  step_sort σ (steps.Choose c a b) = Some (σ a)
  step_sort σ (steps.Unary op a) = unary_sort op (Some (σ a))
  step_sort σ (steps.Binary op a b) = operated_sort op (Some (σ a)) (Some (σ b))
  step_sort σ (steps.Construct c fields) = tree_of (slice_get types.ctors c.0)
  step_sort σ (steps.CtorField c i a) = field_of_ctor (slice_get types.ctors c.0) i
  step_sort σ (steps.Field a i) = a_tree (Some (σ a)) (λ d. field_sort types [] d i)
  step_sort σ (steps.Answer c) = Some c.result
  step_sort σ s = Some sort.Bool

  -- step number k has the sort that follows from its operands
  abbrev pub IsAssigned : Sorts → ℕ → Step → Type 0
  IsAssigned σ k s = σ k ≡ or_bool (step_sort σ s)

  -- so has each step, where the first has the number k
  abbrev pub AllAssigned : Sorts → ℕ → List Step → Type 0
  AllAssigned σ k [] = Unit {0}
  AllAssigned σ k (s ∷ ss) = IsAssigned σ k s × AllAssigned σ (suc k) ss

  assigned_here : (σ : Sorts) (k : ℕ) (ys : List Step) → AllAssigned σ k ys → AllAssigned σ (k + 0) ys
  assigned_here σ k ys h = let e : k ≡ k + 0 = omega arith in subst (λ n. AllAssigned σ n ys) e h

  assigned_next : (σ : Sorts) (k m : ℕ) (ys : List Step) → AllAssigned σ (suc k + m) ys → AllAssigned σ (k + suc m) ys
  assigned_next σ k m ys h = let e : suc k + m ≡ k + suc m = omega arith in subst (λ n. AllAssigned σ n ys) e h

  pub assigned_parts : (σ : Sorts) (k : ℕ) (xs ys : List Step) → AllAssigned σ k (xs ++ ys)
      → AllAssigned σ k xs × AllAssigned σ (k + length xs) ys
  assigned_parts σ k [] ys h = (tt, assigned_here σ k ys h)
  assigned_parts σ k (x ∷ xs) ys h =
      let both = assigned_parts σ (suc k) xs ys h.1 in ((h.0, both.0), assigned_next σ k (length xs) ys both.1)

-- ---- steps have such sorts

abbrev updated : Sorts → ℕ → Sort → Sorts
updated σ k s i = if nat_eq i k then s else σ i

updated_here : (σ : Sorts) (k : ℕ) (s : Sort) → updated σ k s k ≡ s
updated_here σ k s = rw (eq-eqb k k refl) refl

updated_before : (σ : Sorts) (k : ℕ) (s : Sort) (i : ℕ) → i < k → updated σ k s i ≡ σ i
updated_before σ k s i h = rw (nat_eq_less i k h) refl

module _ (types : TypeTable) where
  -- the sorts of steps, the first of which has the number k, after those of the earlier ones
  abbrev pub assign : ℕ → List Step → Sorts → Sorts
  assign k [] σ = σ
  assign k (s ∷ ss) σ = assign (suc k) ss (updated σ k (or_bool (step_sort types σ s)))

  assign_keeps : (k : ℕ) (ss : List Step) (σ : Sorts) (i : ℕ) → i < k → assign k ss σ i ≡ σ i
  assign_keeps k [] σ i h = refl
  assign_keeps k (s ∷ ss) σ i h =
      let t = or_bool (step_sort types σ s) in
      assign_keeps (suc k) ss (updated σ k t) i (less_suc i k h) ∙ updated_before σ k t i h

  -- a step's sort hangs on earlier numbers alone
  step_sort_same : (k : ℕ) (s : Step) (σ τ : Sorts) → Reads k s → ((i : ℕ) → i < k → τ i ≡ σ i)
      → step_sort types τ s ≡ step_sort types σ s
  step_sort_same k (steps.Open s) σ τ r h = refl
  step_sort_same k (steps.Int n) σ τ r h = refl
  step_sort_same k (steps.Bool b) σ τ r h = refl
  step_sort_same k (steps.Not a) σ τ r h = refl
  step_sort_same k (steps.Both a b) σ τ r h = refl
  step_sort_same k (steps.Choose c a b) σ τ r h = ap Some (h a r.1)
  step_sort_same k (steps.Unary op a) σ τ r h = ap (λ s. unary_sort op (Some s)) (h a r)
  step_sort_same k (steps.Binary op a b) σ τ r h =
      ap (λ s. operated_sort op (Some s) (Some (τ b))) (h a r.0)
      ∙ ap (λ s. operated_sort op (Some (σ a)) (Some s)) (h b r.1)
  step_sort_same k (steps.Construct c fields) σ τ r h = refl
  step_sort_same k (steps.IsCtor c n a) σ τ r h = refl
  step_sort_same k (steps.CtorField c i a) σ τ r h = refl
  step_sort_same k (steps.Field a i) σ τ r h = ap (λ s. a_tree (Some s) (λ d. field_sort types [] d i)) (h a r)
  step_sort_same k (steps.IsAlike a b) σ τ r h = refl
  step_sort_same k (steps.GoesDown a b) σ τ r h = refl
  step_sort_same k (steps.HasAnswer c) σ τ r h = refl
  step_sort_same k (steps.Answer c) σ τ r h = refl

  pub assign_assigned : (k : ℕ) (ss : List Step) (σ : Sorts) → AllRead k ss → AllAssigned types (assign k ss σ) k ss
  assign_assigned k [] σ r = tt
  assign_assigned k (s ∷ ss) σ r =
      let t = or_bool (step_sort types σ s) in
      let τ = updated σ k t in
      let all = assign (suc k) ss τ in
      let same = λ (i : ℕ) (h : i < k). assign_keeps (suc k) ss τ i (less_suc i k h) ∙ updated_before σ k t i h in
      let here = assign_keeps (suc k) ss τ k (self_less k) ∙ updated_here σ k t in
      (here ∙ sym (ap or_bool (step_sort_same k s σ all r.0 same)), assign_assigned (suc k) ss τ r.1)
