-- Pruned steps, one after another.
use Rattle.std.proofs.Common.{◌≡◌, ℕ, suc, ◌+◌, ◌<◌, ◌≤◌, Bool, true, false, List, [], ◌∷◌, ◌++◌, length, map}
use Rattle.std.proofs.Common.{refl, sym, ap, ◌∙◌, subst, arith}
use Rattle.std.specs.Prelude.{if◌then◌else◌}
use Rattle.std.proofs.lemmas.Bool.{false≢true}
use Rattle.pp_prog.specs.declared.sort.Sort.{Sort}
use Rattle.pp_prog.specs.declared.sort.Sort.TheVariants as sort
use Rattle.pp_prog.specs.declared.types.Ctor.{Ctor}
use Rattle.pp_prog.specs.declared.types.TypeTable.{TypeTable}
use Rattle.pp_prog.specs.declared.value.Value.TheVariants.{Bool as Truth}
use Rattle.pp_steps.specs.declared.step.Step.{Step}
use Rattle.pp_steps.specs.declared.step.Step.TheVariants as steps
use Rattle.pp_steps.specs.Frames.{open_step}
use Rattle.pp_steps.specs.Gates.{AllHigh, Heights, all_gates, gates_of, height_of}
use Rattle.pp_steps.specs.Known.{AllTell, Tells}
use Rattle.pp_steps.specs.Meaning.{Does, Missing, Obeys, Values}
use Rattle.pp_steps.specs.Reads.{AllRead, Reads}
use Rattle.pp_steps.specs.Sorted.{AllSorted, IsSorted, Sorts}
use Rattle.pp_steps.proofs.Counting.{plus_suc, plus_zero}
use Rattle.pp_simplify.specs.Operands.{Each, operands}
use Rattle.pp_simplify.specs.Pruned.{pruned}
use Rattle.pp_simplify_laws.specs.Kept.{kept_heights, kept_known, kept_sorts, kept_values}
use Rattle.pp_simplify_laws.proofs.Forms.{IsGiven, does_renamed, renamed_same, sorted_renamed, tells_anyway}
use Rattle.pp_simplify_laws.proofs.Forms.{tells_renamed}
use Rattle.pp_simplify_laws.proofs.Heights.{gates_same, height_same}

each_map : (P Q : ℕ → Type 0) (ns : List ℕ) → ((a : ℕ) → P a → Q a) → Each P ns → Each Q ns
each_map P Q [] go e = tt
each_map P Q (n ∷ ns) go e = (go n e.0, each_map P Q ns go e.1)

module _ (kept : ℕ → Bool) where
  abbrev pub IsOn : ℕ → Type 0
  IsOn k = kept k ≡ true

  -- the operands of each step that is kept are
  abbrev pub AllClosed : ℕ → List Step → Type 0
  AllClosed k [] = Unit {0}
  AllClosed k (s ∷ ss) = (IsOn k → Each IsOn (operands s)) × AllClosed (suc k) ss

  value_on : (ρ : Values) (k : ℕ) → IsOn k → kept_values kept ρ k ≡ ρ k
  value_on ρ k on = ap (λ b. if b then ρ k else Truth false) on

  sort_on : (σ : Sorts) (k : ℕ) → IsOn k → kept_sorts kept σ k ≡ σ k
  sort_on σ k on = ap (λ b. if b then σ k else sort.Bool) on

  height_on : (η : Heights) (k : ℕ) → IsOn k → kept_heights kept η k ≡ η k
  height_on η k on = ap (λ b. if b then η k else 0) on

  pub obeys_pruned : (ctors : List Ctor) (missing : Missing) (ρ : Values) (k : ℕ) (ss : List Step) → AllClosed k ss
      → Obeys ctors missing ρ k ss → Obeys ctors missing (kept_values kept ρ) k (pruned kept k ss)
  obeys_pruned ctors missing ρ k [] closed obeys = tt
  obeys_pruned ctors missing ρ k (s ∷ ss) closed obeys =
      (by (kept k) refl, obeys_pruned ctors missing ρ (suc k) ss closed.1 obeys.1)
    where
      by : (b : Bool) → kept k ≡ b
          → Does ctors missing (kept_values kept ρ) (if b then s else steps.Bool false) (if b then ρ k else Truth false)
      by true e = subst (λ x. Does ctors missing (kept_values kept ρ) x (ρ k)) (renamed_same s)
          (does_renamed (λ a. a) ctors missing ρ (kept_values kept ρ) s (ρ k)
          (each_map IsOn (λ a. kept_values kept ρ a ≡ ρ a) (operands s) (value_on ρ) (closed.0 e)) obeys.0)
      by false e = refl

  pub tells_pruned : (ρ : Values) (K : ℕ → Type 0) (k : ℕ) (ss : List Step) → AllClosed k ss
      → AllTell (kept_values kept ρ) K k (pruned kept k ss) → AllTell ρ (kept_known kept K) k ss
  tells_pruned ρ K k [] closed tells = tt
  tells_pruned ρ K k (s ∷ ss) closed tells = (by (kept k) refl tells.0, tells_pruned ρ K (suc k) ss closed.1 tells.1)
    where
      given : (a : ℕ) → IsOn a → IsGiven (λ i. i) ρ (kept_values kept ρ) (kept_known kept K) K a
      given a on = record { value = value_on ρ a on; known = λ known. known on }

      by : (b : Bool) → kept k ≡ b → Tells (kept_values kept ρ) K (if b then s else steps.Bool false) k
          → Tells ρ (kept_known kept K) s k
      by true e t = tells_renamed (λ a. a) ρ (kept_values kept ρ) (kept_known kept K) K k s
          (each_map IsOn (IsGiven (λ i. i) ρ (kept_values kept ρ) (kept_known kept K) K) (operands s) given
          (closed.0 e))
          (λ x on. x) (subst (λ x. Tells (kept_values kept ρ) K x k) (sym (renamed_same s)) t)
      by false e t = tells_anyway ρ (kept_known kept K) k s (λ on. absurd (false≢true (sym e ∙ on)))

  pub sorted_pruned : (types : TypeTable) (σ : Sorts) (k : ℕ) (ss : List Step) → AllClosed k ss
      → AllSorted types σ k ss → AllSorted types (kept_sorts kept σ) k (pruned kept k ss)
  sorted_pruned types σ k [] closed sorted = tt
  sorted_pruned types σ k (s ∷ ss) closed sorted =
      (by (kept k) refl, sorted_pruned types σ (suc k) ss closed.1 sorted.1)
    where
      by : (b : Bool) → kept k ≡ b
          → IsSorted types (kept_sorts kept σ) (if b then s else steps.Bool false) (if b then σ k else sort.Bool)
      by true e = subst (λ x. IsSorted types (kept_sorts kept σ) x (σ k)) (renamed_same s)
          (sorted_renamed (λ a. a) types σ (kept_sorts kept σ) s (σ k)
          (each_map IsOn (λ a. kept_sorts kept σ a ≡ σ a) (operands s) (sort_on σ) (closed.0 e)) sorted.0)
      by false e = refl

  pub high_pruned : (types : TypeTable) (σ : Sorts) (η : Heights) (k : ℕ) (ss : List Step) → AllClosed k ss
      → AllHigh types σ η k ss → AllHigh types (kept_sorts kept σ) (kept_heights kept η) k (pruned kept k ss)
  high_pruned types σ η k [] closed high = tt
  high_pruned types σ η k (s ∷ ss) closed high =
      (by (kept k) refl, high_pruned types σ η (suc k) ss closed.1 high.1)
    where
      by : (b : Bool) → kept k ≡ b → (if b then η k else 0)
          ≡ height_of types (kept_sorts kept σ) (kept_heights kept η) k (if b then s else steps.Bool false)
      by true e = high.0 ∙ sym (height_same types σ (kept_sorts kept σ) η (kept_heights kept η) k (sort_on σ k e) s
          (each_map IsOn (λ a. kept_heights kept η a ≡ η a) (operands s) (height_on η) (closed.0 e)))
      by false e = refl

  pub gates_pruned : (types : TypeTable) (σ : Sorts) (η : Heights) (k : ℕ) (ss : List Step) → AllClosed k ss
      → all_gates types (kept_sorts kept σ) (kept_heights kept η) k (pruned kept k ss) ≤ all_gates types σ η k ss
  gates_pruned types σ η k [] closed = omega arith
  gates_pruned types σ η k (s ∷ ss) closed =
      let first = by (kept k) refl in let rest = gates_pruned types σ η (suc k) ss closed.1 in both first rest
    where
      both : {a b c d : ℕ} → a ≤ b → c ≤ d → a + c ≤ b + d
      both f g = omega arith

      less_same : (a b : ℕ) → a ≡ b → a ≤ b
      less_same a b e = omega arith

      none : (a : ℕ) → 0 ≤ a
      none a = omega arith

      by : (b : Bool) → kept k ≡ b
          → gates_of types (kept_sorts kept σ) (kept_heights kept η) k (if b then s else steps.Bool false)
          ≤ gates_of types σ η k s
      by true e = less_same _ _ (gates_same types σ (kept_sorts kept σ) η (kept_heights kept η) k (sort_on σ k e) s
          (each_map IsOn (λ a. kept_sorts kept σ a ≡ σ a) (operands s) (sort_on σ) (closed.0 e))
          (each_map IsOn (λ a. kept_heights kept η a ≡ η a) (operands s) (height_on η) (closed.0 e)))
      by false e = none _

  pub reads_pruned : (k : ℕ) (ss : List Step) → AllRead k ss → AllRead k (pruned kept k ss)
  reads_pruned k [] reads = tt
  reads_pruned k (s ∷ ss) reads = (by (kept k), reads_pruned (suc k) ss reads.1)
    where
      by : (b : Bool) → Reads k (if b then s else steps.Bool false)
      by true = reads.0
      by false = tt

  pub length_pruned : (k : ℕ) (ss : List Step) → length (pruned kept k ss) ≡ length ss
  length_pruned k [] = refl
  length_pruned k (s ∷ ss) = ap suc (length_pruned (suc k) ss)

  pub opens_pruned : (k : ℕ) (params : List Sort) (rest : List Step)
      → ((i : ℕ) → i < k + length params → IsOn i)
      → pruned kept k (map open_step params ++ rest) ≡ map open_step params ++ pruned kept (k + length params) rest
  opens_pruned k [] rest on = ap (λ n. pruned kept n rest) (sym (plus_zero k))
  opens_pruned k (p ∷ ps) rest on =
      ap (λ b. (if b then open_step p else steps.Bool false) ∷ pruned kept (suc k) (map open_step ps ++ rest))
      (on k (omega arith))
      ∙ ap (λ l. open_step p ∷ l) (opens_pruned (suc k) ps rest (λ i lt. on i (omega arith))
      ∙ ap (λ n. map open_step ps ++ pruned kept n rest) (plus_suc k (length ps)))
