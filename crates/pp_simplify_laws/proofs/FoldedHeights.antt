-- Folded steps are at most as high as the old ones, and take at most as many gates.
use Rattle.std.proofs.Common.{◌≡◌, ◌⊎◌, ℕ, zero, suc, ◌+◌, ◌-◌, ◌<◌, ◌≤◌, max, List, [], ◌∷◌, ◌++◌}
use Rattle.std.proofs.Common.{length, map, slice_get, Some, inl, inr, refl, sym, ap, ◌∙◌, subst, arith}
use Rattle.std.proofs.lemmas.Bool.{cases_lt}
use Rattle.std.proofs.lemmas.List.{append_assoc}
use Rattle.std.proofs.lemmas.Option.{same_Some, slice_get_past}
use Rattle.std.proofs.Math.Nat.{le-max_left, le-max_right}
use Rattle.pp_prog.specs.declared.id.CtorId.{CtorId}
use Rattle.pp_prog.specs.declared.sort.Sort.{Sort}
use Rattle.pp_prog.specs.declared.sort.Sort.TheVariants as sort
use Rattle.pp_prog.specs.declared.types.TypeTable.{TypeTable}
use Rattle.pp_prog.specs.Sizes.{height_at}
use Rattle.pp_prog.specs.Values.{greatest}
use Rattle.pp_estimate_laws.proofs.Numbers.{le_same, plus_grows}
use Rattle.pp_estimate_laws.proofs.Sizes.{height_grows}
use Rattle.pp_steps.specs.declared.step.Step.{Step}
use Rattle.pp_steps.specs.declared.step.Step.TheVariants as steps
use Rattle.pp_steps.specs.Compile.{number_or}
use Rattle.pp_steps.specs.Gates.{AllHigh, Heights, all_gates, height_of}
use Rattle.pp_steps.specs.Reads.{AllRead, Reads}
use Rattle.pp_steps.specs.Sorted.{AllSorted, Constructs, IsSorted, Sorts}
use Rattle.pp_simplify.specs.Folded.{Folding, folded, folded_from, next, source}
use Rattle.pp_simplify.specs.Names.{Names, name_or, named}
use Rattle.pp_simplify.specs.Operands.{renamed}
use Rattle.pp_simplify.proofs.Naming.{IsSource, get_push, named_push, source_or}
use Rattle.pp_simplify.proofs.Turns.{Reading, next_reads, push_length, reading_next, source_below}
use Rattle.pp_simplify_laws.specs.Laws.{AreLevel, SortedFolded}
use Rattle.pp_simplify_laws.proofs.FoldedSorts.{next_sorted, sorted_next, source_sorted}
use Rattle.pp_simplify_laws.proofs.Lower.{IsLower, next_lower}

-- the steps that are appended
abbrev pub appended : Folding → List Step → List Step
appended f [] = []
appended f (s ∷ ss) = folded f.steps (renamed (named f.names) s) ∷ appended (next f s) ss

pub appended_all : (f : Folding) (ss : List Step) → (folded_from f ss).steps ≡ f.steps ++ appended f ss
appended_all f [] = none_behind f.steps
  where
    none_behind : (xs : List Step) → xs ≡ xs ++ []
    none_behind [] = refl
    none_behind (x ∷ xs) = ap (λ l. x ∷ l) (none_behind xs)
appended_all f (s ∷ ss) =
    let t = folded f.steps (renamed (named f.names) s) in
    appended_all (next f s) ss ∙ append_assoc f.steps (t ∷ []) (appended (next f s) ss)

-- ---- numbers

trans : (a b c : ℕ) → a ≤ b → b ≤ c → a ≤ c
trans a b c h g = omega arith

same_le : (a b c d : ℕ) → a ≡ b → b ≤ c → d ≡ c → a ≤ d
same_le a b c d e h f = omega arith

one_less : (a b c : ℕ) → a ≤ b → c ≡ 1 + b → a ≤ c - 1
one_less a b c h e = omega arith

zero_least : (a b : ℕ) → a ≡ 0 → a ≤ b
zero_least a b e = omega arith

flat_max : (a b : ℕ) → a ≡ 0 → b ≡ 0 → max a b ≡ 0
flat_max a b e f = rw (e, f) refl

among : (θ : Heights) (fields : List ℕ) (i m : ℕ) → slice_get fields i ≡ Some m → θ m ≤ greatest (map θ fields)
among θ [] i m at = absurd (cc)
among θ (x ∷ fields) zero m at =
    let e : x ≡ m = same x m at in
    subst (λ y. θ y ≤ max (θ x) (greatest (map θ fields))) e (le-max_left (θ x) (greatest (map θ fields)))
  where
    same : (x y : ℕ) → Some x ≡ Some y → x ≡ y
    same x y e = cc
among θ (x ∷ fields) (suc i) m at =
    trans (θ m) (greatest (map θ fields)) _ (among θ fields i m at) (le-max_right (θ x) (greatest (map θ fields)))

below_or_here : (i k : ℕ) → i < suc k → (i < k) ⊎ (i ≡ k)
below_or_here i k lt = elim (cases_lt i k) [ inl h ↦ inl h | inr h ↦ inr (omega arith) ]

-- ---- heights of values of their sorts

module _ (types : TypeTable) (σ : Sorts) (θ : Heights) where
  level_choice : (a b : ℕ) (s : Sort) → σ a ≡ s → σ b ≡ s → θ a ≡ height_at (θ a) (σ a) → θ b ≡ height_at (θ b) (σ b)
      → max (θ a) (θ b) ≡ height_at (max (θ a) (θ b)) s
  level_choice a b sort.Int e f g h =
      flat_max (θ a) (θ b) (g ∙ ap (height_at (θ a)) e) (h ∙ ap (height_at (θ b)) f)
  level_choice a b sort.Bool e f g h =
      flat_max (θ a) (θ b) (g ∙ ap (height_at (θ a)) e) (h ∙ ap (height_at (θ b)) f)
  level_choice a b (sort.Tree d) e f g h = refl

  level_part : (n : ℕ) (s : Sort) → height_at n s ≡ height_at (height_at n s) s
  level_part n sort.Int = refl
  level_part n sort.Bool = refl
  level_part n (sort.Tree d) = refl

  level_none : (s : Sort) → 0 ≡ height_at 0 s
  level_none sort.Int = refl
  level_none sort.Bool = refl
  level_none (sort.Tree d) = refl

  level_made : (n : ℕ) (s : Sort) (d : _) → s ≡ sort.Tree d → n ≡ height_at n s
  level_made n s d e = sym (ap (height_at n) e)

  level_step : (k : ℕ) (t : Step) → AreLevel σ θ k → Reads k t → IsSorted types σ t (σ k)
      → height_of types σ θ k t ≡ height_at (height_of types σ θ k t) (σ k)
  level_step k (steps.Choose c a b) level reads sorted =
      level_choice a b (σ k) sorted.1 sorted.2 (level a reads.1) (level b reads.2)
  level_step k (steps.Construct c fields) level reads sorted =
      let made : Constructs types σ c fields (σ k) = sorted in level_made _ (σ k) made.ctor.of made.result
  level_step k (steps.CtorField c i a) level reads sorted = level_part (θ a - 1) (σ k)
  level_step k (steps.Field a i) level reads sorted = level_part (θ a - 1) (σ k)
  level_step k t level reads sorted = level_none (σ k)

-- ---- one step

named_past : (names : Names) (k : ℕ) → length names ≤ k → named names k ≡ k
named_past names k le = ap (name_or k) (slice_get_past names k le)

-- The steps are at most as high as the old ones that they stand for, as high as values of their sorts, and what they
-- make is as high as its fields say.
pub record Lowered (σ : Sorts) (η θ : Heights) (f : Folding) : Type 0 where
  pub low : (i : ℕ) → i < length f.steps → θ (named f.names i) ≤ η i
  pub level : AreLevel σ θ (length f.steps)
  pub built : (i : ℕ) (d : CtorId) (fields : List ℕ) → slice_get f.steps i ≡ Some (steps.Construct d fields)
      → θ i ≡ 1 + greatest (map θ fields)

module _ (types : TypeTable) (σ : Sorts) (η θ : Heights) (f : Folding) (s : Step) (reading : Reading f)
    (sorted : SortedFolded types σ f) (reads : Reads (length f.steps) s)
    (is_sorted : IsSorted types σ s (σ (length f.steps))) (lowered : Lowered σ η θ f)
  where
    abbrev k : ℕ
    k = length f.steps

    abbrev t : Step
    t = folded f.steps (renamed (named f.names) s)

    t_reads : Reads k t
    t_reads = next_reads f s reading reads

    t_sorted : IsSorted types σ t (σ k)
    t_sorted = next_sorted types σ f s (σ k) sorted is_sorted

    pub step_lower : IsLower types σ θ η k t s
    step_lower = next_lower types σ η θ (named f.names) k lowered.low sorted.same f.steps s reads

    -- the source of a step is no higher
    source_lower : (m : ℕ) → IsSource f.steps t m → θ m ≤ height_of types σ θ k t
    source_lower m (inl h) =
        subst (λ x. θ m ≤ height_of types σ θ k x) (sym h.is) (le-max_left (θ m) (θ m))
    source_lower m (inr h) =
        let is = lowered.level m (source_below k f.steps t m reading.reads t_reads (inr h)) in
        let there = source_sorted types σ f.steps sorted.sorted t m (σ k) t_sorted (inr h) in
        let part = one_less (θ m) (greatest (map θ h.fields)) (θ h.operand) (among θ h.fields h.place m h.there)
        (lowered.built h.operand h.made h.fields h.at) in
        subst (λ x. θ m ≤ height_of types σ θ k x) (sym h.is)
        (start (is ∙ ap (height_at (θ m)) there) (height_grows (θ m) (θ h.operand - 1) (σ k) part))
      where
        start : {a b c : ℕ} → a ≡ b → b ≤ c → a ≤ c
        start e le = omega arith

    module _ (new_height : θ k ≡ height_of types σ θ k t) (old_height : η k ≡ height_of types σ η k s) where
      here_low : θ k ≤ η k
      here_low = same_le (θ k) _ _ (η k) new_height step_lower.0 old_height

      named_low : θ (number_or k (source f.steps t)) ≤ η k
      named_low = source_or f.steps (λ n. θ n ≤ η k) k t here_low
          (λ m o. trans (θ m) (height_of types σ θ k t) (η k) (source_lower m o)
          (subst (λ h. h ≤ η k) new_height here_low))

      old_low : (i : ℕ) → i < suc k → θ (named f.names i) ≤ η i
      old_low i lt = elim (below_or_here i k lt) [
        | inl less ↦ lowered.low i less
        | inr e ↦
            subst (λ j. θ (named f.names j) ≤ η j) (sym e)
            (subst (λ j. θ j ≤ η k) (sym (named_past f.names k (as_long (length f.names) k reading.many))) here_low)
      ]
        where
          as_long : (a b : ℕ) → a ≡ b → a ≤ b
          as_long a b e = omega arith

      new_level : (i : ℕ) → i < suc k → θ i ≡ height_at (θ i) (σ i)
      new_level i lt = elim (below_or_here i k lt) [
        | inl less ↦ lowered.level i less
        | inr e ↦
            subst (λ j. θ j ≡ height_at (θ j) (σ j)) (sym e)
            (subst (λ h. h ≡ height_at h (σ k)) (sym new_height)
            (level_step types σ θ k t lowered.level t_reads t_sorted))
      ]

      new_built : (i : ℕ) (d : CtorId) (fields : List ℕ)
          → slice_get (f.steps ++ t ∷ []) i ≡ Some (steps.Construct d fields) → θ i ≡ 1 + greatest (map θ fields)
      new_built i d fields at = elim (get_push f.steps t i) [
        | inl e ↦ lowered.built i d fields (sym e ∙ at)
        | inr p ↦
            (let is : t ≡ steps.Construct d fields = same_Some t (steps.Construct d fields) (sym p.1 ∙ at) in
            ap θ p.0 ∙ new_height ∙ ap (height_of types σ θ k) is)
      ]

      pub lowered_next : Lowered σ η θ (next f s)
      lowered_next =
          let many = push_length f.steps t in
          record {
            low = λ i lt. named_push (λ j n. j < suc k → θ n ≤ η j) f.names (source f.steps t) old_low
                (subst (λ n. n < suc k → θ (number_or n (source f.steps t)) ≤ η n) (sym reading.many)
                (λ l. named_low)) i (subst (λ n. i < n) many lt);
            level = λ i lt. new_level i (subst (λ n. i < n) many lt);
            built = new_built;
          }

-- ---- all steps

pub rest_lower : (types : TypeTable) (σ : Sorts) (η θ : Heights) (f : Folding) (ss : List Step) → Reading f
    → SortedFolded types σ f → AllRead (length f.steps) ss → AllSorted types σ (length f.steps) ss → Lowered σ η θ f
    → AllHigh types σ η (length f.steps) ss → AllHigh types σ θ (length f.steps) (appended f ss)
    → all_gates types σ θ (length f.steps) (appended f ss) ≤ all_gates types σ η (length f.steps) ss
rest_lower types σ η θ f [] reading sorted reads are lowered high new_high = le_same 0
rest_lower types σ η θ f (s ∷ ss) reading sorted reads are lowered high new_high =
    let many = sym (push_length f.steps (folded f.steps (renamed (named f.names) s))) in
    plus_grows _ _ _ _ (step_lower types σ η θ f s reading sorted reads.0 are.0 lowered).1
    (subst (λ n. all_gates types σ θ n (appended (next f s) ss) ≤ all_gates types σ η n ss) (sym many)
    (rest_lower types σ η θ (next f s) ss (reading_next f s reading reads.0)
    (sorted_next types σ f s reading sorted are.0) (subst (λ n. AllRead n ss) many reads.1)
    (subst (λ n. AllSorted types σ n ss) many are.1)
    (lowered_next types σ η θ f s reading sorted reads.0 are.0 lowered new_high.0 high.0)
    (subst (λ n. AllHigh types σ η n ss) many high.1)
    (subst (λ n. AllHigh types σ θ n (appended (next f s) ss)) many new_high.1)))
