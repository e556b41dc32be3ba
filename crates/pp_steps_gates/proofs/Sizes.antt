-- The sizes of values up to a height either are at least the height, or stay from this height on.
use Rattle.std.proofs.Common.{◌≡◌, ℕ, zero, suc, ◌+◌, ◌≤◌, ◌⊎◌, inl, inr, List, [], ◌∷◌, map, sum, length, refl, ap}
use Rattle.std.proofs.Common.{arith}
use Rattle.std.proofs.lemmas.List.Sums.{sum-map, sum_by-cons}
use Rattle.pp_list.specs.Joined.{joined}
use Rattle.pp_prog.specs.declared.sort.Sort.{Sort}
use Rattle.pp_prog.specs.declared.sort.Sort.TheVariants as sort
use Rattle.pp_prog.specs.declared.types.Ctor.{Ctor}
use Rattle.pp_prog.specs.declared.types.TypeTable.{TypeTable}
use Rattle.pp_prog.specs.Sizes.{bits, ctors_of, fields_of, nodes, sorts_in_ctor}

abbrev pub Grows : (ℕ → ℕ) → ℕ → Type 0
Grows size h = (h ≤ size h) ⊎ ((k : ℕ) → h ≤ k → size k ≡ size h)

le_zero : (n : ℕ) → 0 ≤ n
le_zero n = omega arith

-- the sizes of sorts together
abbrev total : (ℕ → Sort → ℕ) → List Sort → ℕ → ℕ
total size ss h = sum (map (size h) ss)

total_first : (size : ℕ → Sort → ℕ) (s : Sort) (ss : List Sort) (h : ℕ)
    → total size (s ∷ ss) h ≡ size h s + total size ss h
total_first size s ss h = rw (sum-map (size h) (s ∷ ss), sum_by-cons (size h) s ss, ← sum-map (size h) ss) refl

total_grows : (size : ℕ → Sort → ℕ) (h : ℕ) → ((s : Sort) → Grows (λ k. size k s) h) → (ss : List Sort)
    → Grows (total size ss) h
total_grows size h g [] = inr (λ k le. refl)
total_grows size h g (s ∷ ss) = by (g s) (total_grows size h g ss)
  where
    by : Grows (λ k. size k s) h → Grows (total size ss) h → Grows (total size (s ∷ ss)) h
    by (inl more) rest = inl (let e = total_first size s ss h in omega arith)
    by (inr same) (inl more) = inl (let e = total_first size s ss h in omega arith)
    by (inr same) (inr rest) = inr (λ k le. let a = same k le in
        let b = rest k le in
        let e = total_first size s ss h in
        let f = total_first size s ss k in omega arith)

size_of_int : (types : TypeTable) (k : ℕ) → bits types k sort.Int ≡ 32
size_of_int types zero = refl
size_of_int types (suc k) = refl

size_of_bit : (types : TypeTable) (k : ℕ) → bits types k sort.Bool ≡ 1
size_of_bit types zero = refl
size_of_bit types (suc k) = refl

int_has_no_nodes : (types : TypeTable) (k : ℕ) → nodes types k sort.Int ≡ 0
int_has_no_nodes types zero = refl
int_has_no_nodes types (suc k) = refl

bit_has_no_nodes : (types : TypeTable) (k : ℕ) → nodes types k sort.Bool ≡ 0
bit_has_no_nodes types zero = refl
bit_has_no_nodes types (suc k) = refl

module _ (types : TypeTable) where
  -- the bits of a block of these constructors
  abbrev block : List Ctor → ℕ → ℕ
  block cs h = length cs + total (bits types) (joined (map sorts_in_ctor cs)) h

  block_grows : (h : ℕ) → ((s : Sort) → Grows (λ k. bits types k s) h) → (cs : List Ctor)
      → (suc h ≤ block cs h) ⊎ ((k : ℕ) → h ≤ k → block cs k ≡ block cs h)
  block_grows h g [] = inr (λ k le. refl)
  block_grows h g (c ∷ cs) = by (total_grows (bits types) h g (joined (map sorts_in_ctor (c ∷ cs))))
    where
      by : Grows (total (bits types) (joined (map sorts_in_ctor (c ∷ cs)))) h
          → (suc h ≤ block (c ∷ cs) h) ⊎ ((k : ℕ) → h ≤ k → block (c ∷ cs) k ≡ block (c ∷ cs) h)
      by (inl more) = inl (omega arith)
      by (inr same) = inr (λ k le. ap (λ n. length (c ∷ cs) + n) (same k le))

  pub bits_either : (h : ℕ) (s : Sort) → Grows (λ k. bits types k s) h
  bits_either zero s = inl (le_zero (bits types 0 s))
  bits_either (suc h) sort.Int = inr (λ k le. size_of_int types k)
  bits_either (suc h) sort.Bool = inr (λ k le. size_of_bit types k)
  bits_either (suc h) (sort.Tree d) = by (block_grows h (bits_either h) (ctors_of types d))
    where
      later : ((k : ℕ) → h ≤ k → block (ctors_of types d) k ≡ block (ctors_of types d) h) → (k : ℕ) → suc h ≤ k
          → bits types k (sort.Tree d) ≡ bits types (suc h) (sort.Tree d)
      later same zero le = absurd (omega arith)
      later same (suc k) le = same k (omega arith)

      by : (suc h ≤ block (ctors_of types d) h) ⊎ ((k : ℕ) → h ≤ k
          → block (ctors_of types d) k ≡ block (ctors_of types d) h)
          → Grows (λ k. bits types k (sort.Tree d)) (suc h)
      by (inl more) = inl more
      by (inr same) = inr (later same)

  pub nodes_either : (h : ℕ) (s : Sort) → Grows (λ k. nodes types k s) h
  nodes_either zero s = inl (le_zero (nodes types 0 s))
  nodes_either (suc h) sort.Int = inr (λ k le. int_has_no_nodes types k)
  nodes_either (suc h) sort.Bool = inr (λ k le. bit_has_no_nodes types k)
  nodes_either (suc h) (sort.Tree d) = by (total_grows (nodes types) h (nodes_either h) (fields_of types d))
    where
      later : ((k : ℕ) → h ≤ k → total (nodes types) (fields_of types d) k ≡ total (nodes types) (fields_of types d) h)
          → (k : ℕ) → suc h ≤ k → nodes types k (sort.Tree d) ≡ nodes types (suc h) (sort.Tree d)
      later same zero le = absurd (omega arith)
      later same (suc k) le = ap (λ n. 1 + n) (same k (omega arith))

      by : Grows (total (nodes types) (fields_of types d)) h → Grows (λ k. nodes types k (sort.Tree d)) (suc h)
      by (inl more) = inl (omega arith)
      by (inr same) = inr (later same)
