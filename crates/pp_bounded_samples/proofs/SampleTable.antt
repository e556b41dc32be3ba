-- The table of the samples is one.
use Rattle.std.proofs.Common.{◌≡◌, ℕ, zero, suc, ◌+◌, ◌-◌, ◌<◌, ◌≤◌, Bool, true, ◌&&◌, List, [], ◌∷◌, Some, slice_get}
use Rattle.std.proofs.Common.{◌++◌, append_assoc, nat_le, nat_lt, refl, sym, ap, ◌∙◌, subst, arith, inl, inr}
use Rattle.std.proofs.lemmas.Bool.{and_parts, ltb-true}
use Rattle.std.proofs.lemmas.Bool.Decides.{leb_tells}
use Rattle.std.specs.List.{list_all}
use Rattle.pp_prog.specs.declared.sort.Sort.{Sort}
use Rattle.pp_prog.specs.declared.types.Ctor.{Ctor}
use Rattle.pp_prog.specs.declared.types.Datatype.{Datatype}
use Rattle.pp_prog.specs.declared.value.Value.TheFolds.{fold-roll-Value}
use Rattle.pp_prog.specs.declared.value.Value.TheOpen as value
use Rattle.pp_prog.specs.declared.value.Value.TheVariants.{Tree, rolls-Tree}
use Rattle.pp_prog.specs.Sorts.{has_sort, has_step, tree_has}
use Rattle.pp_prog.specs.Table.{HasValue, IsTable, in_block, in_block_of, is_of, is_sort}
use Rattle.pp_bounded_samples.specs.Sample.{bare_ctors, ctor_of, sample_ctors, sample_datatypes, tree_of}

-- each item passes the test at its place, counted from n
abbrev all_at : {A : Type 0} → (ℕ → A → Bool) → ℕ → List A → Bool
all_at p n [] = true
all_at p n (x ∷ xs) = p n x && all_at p (suc n) xs

at_passes : {A : Type 0} (p : ℕ → A → Bool) (n : ℕ) (xs : List A) (i : ℕ) (x : A) → all_at p n xs ≡ true
    → slice_get xs i ≡ Some x → p (n + i) x ≡ true
at_passes p n [] i x h at = cc
at_passes p n (y ∷ xs) zero x h at =
    let same : y ≡ x = cc in
    let here : n ≡ n + 0 = omega arith in
    subst (λ z. p (n + 0) z ≡ true) same (subst (λ k. p k y ≡ true) here (and_parts _ _ h).0)
at_passes p n (y ∷ xs) (suc i) x h at =
    let there : suc n + i ≡ n + suc i = omega arith in
    subst (λ k. p k x ≡ true) there (at_passes p (suc n) xs i x (and_parts _ _ h).1 at)

passes : {A : Type 0} (p : ℕ → A → Bool) (xs : List A) (i : ℕ) (x : A) → all_at p 0 xs ≡ true → slice_get xs i ≡ Some x
    → p i x ≡ true
passes p xs i x h at = let e : 0 + i ≡ i = omega arith in subst (λ k. p k x ≡ true) e (at_passes p 0 xs i x h at)

-- each number below n passes the test
abbrev all_below : (ℕ → Bool) → ℕ → Bool
all_below q zero = true
all_below q (suc n) = q n && all_below q n

below_passes : (q : ℕ → Bool) (n i : ℕ) → all_below q n ≡ true → i < n → q i ≡ true
below_passes q zero i h lt = absurd (omega (arith, lt))
below_passes q (suc n) i h lt = elim (leb_tells n i) [
  | inl le ↦ let e : n ≡ i = omega (arith, le.1, lt) in subst (λ k. q k ≡ true) e (and_parts _ _ h).0
  | inr gt ↦ below_passes q n i (and_parts _ _ h).1 (omega (arith, gt.1))
]

le_true : (a b : ℕ) → nat_le a b ≡ true → a ≤ b
le_true a b h = elim (leb_tells a b) [
  | inl le ↦ le.1
  | inr gt ↦ cc
]

module _ (ds : List Datatype) (cs : List Ctor) where
  abbrev stands_at : ℕ → Ctor → Bool
  stands_at c k = in_block_of (slice_get ds k.of.0) c

  abbrev ranges_at : ℕ → Ctor → Bool
  ranges_at c k = list_all (is_sort ds) k.fields

  abbrev blocks_at : ℕ → Datatype → Bool
  blocks_at d t = all_below (λ i. is_of d (slice_get cs (t.first.0 + i))) t.count

  block : all_at blocks_at 0 ds ≡ true → (d : ℕ) (t : Datatype) → slice_get ds d ≡ Some t → (c : ℕ)
      → in_block t c ≡ true → is_of d (slice_get cs c) ≡ true
  block h d t at c inside =
      let ends = and_parts (nat_le t.first.0 c) (nat_lt c (t.first.0 + t.count)) inside in
      let from : t.first.0 ≤ c = le_true _ _ ends.0 in
      let to : c < t.first.0 + t.count = ltb-true _ _ ends.1 in
      let e : t.first.0 + (c - t.first.0) ≡ c = omega (arith, from) in
      subst (λ k. is_of d (slice_get cs k) ≡ true) e
      (below_passes (λ i. is_of d (slice_get cs (t.first.0 + i))) t.count (c - t.first.0) (passes blocks_at ds d t h at)
      (omega (arith, from, to)))

-- one more of the constructors without fields
bare_end : (n : List ℕ) (k : ℕ) → bare_ctors n k ++ ctor_of n 7 [] ∷ [] ≡ bare_ctors n (suc k)
bare_end n zero = refl
bare_end n (suc k) = ap (λ cs. ctor_of n 7 [] ∷ cs) (bare_end n k)

pub bare_turn : (n : List ℕ) (i : ℕ) (old xs ys : List Ctor) → xs ≡ old ++ bare_ctors n i
    → ys ≡ xs ++ ctor_of n 7 [] ∷ [] → ys ≡ old ++ bare_ctors n (i + 1)
bare_turn n i old xs ys so push =
    let next : suc i ≡ i + 1 = omega arith in
    push ∙ ap (λ cs. cs ++ ctor_of n 7 [] ∷ []) so ∙ append_assoc old (bare_ctors n i) (ctor_of n 7 [] ∷ [])
    ∙ ap (λ cs. old ++ cs) (bare_end n i ∙ ap (bare_ctors n) next)

-- a constructor without fields
bare : (cs : List Ctor) (c d : ℕ) → tree_has (slice_get cs c) [] (tree_of d) ≡ true → HasValue cs (tree_of d)
bare cs c d h = (
  Tree (record { 0 = c }) [],
  ap (λ (f : Sort → Bool). f (tree_of d))
      (ap (has_sort cs) (sym (rolls-Tree (record { 0 = c }) []))
      ∙ fold-roll-Value (Sort → Bool) (has_step cs) (value.Tree (record { 0 = c }) []))
      ∙ h,
)

pub sample_is_table : (n : List ℕ) → IsTable (sample_datatypes n) (sample_ctors n)
sample_is_table n =
    let ds = sample_datatypes n in
    let cs = sample_ctors n in
    record {
      few_datatypes = omega arith;
      few_ctors = omega arith;
      agree = record {
        stands = λ c k at. passes (stands_at ds cs) cs c k refl at;
        block = block ds cs refl;
        fields = λ c k at. passes (ranges_at ds cs) cs c k refl at;
      };
      inhabited = value_of;
    }
  where
    value_of : (d : ℕ) → d < 8 → HasValue (sample_ctors n) (tree_of d)
    value_of zero lt = bare (sample_ctors n) 0 0 refl
    value_of (suc zero) lt = bare (sample_ctors n) 2 1 refl
    value_of (suc (suc zero)) lt = bare (sample_ctors n) 4 2 refl
    value_of (suc (suc (suc zero))) lt = bare (sample_ctors n) 7 3 refl
    value_of (suc (suc (suc (suc zero)))) lt = bare (sample_ctors n) 11 4 refl
    value_of (suc (suc (suc (suc (suc zero))))) lt = bare (sample_ctors n) 13 5 refl
    value_of (suc (suc (suc (suc (suc (suc zero)))))) lt = bare (sample_ctors n) 15 6 refl
    value_of (suc (suc (suc (suc (suc (suc (suc zero))))))) lt = bare (sample_ctors n) 17 7 refl
    value_of (suc (suc (suc (suc (suc (suc (suc (suc d)))))))) lt = absurd (omega (arith, lt))
