-- How large full trees of the samples are.
use Rattle.std.proofs.Common.{◌≡◌, ℕ, zero, suc, ◌+◌, ◌*◌, ◌≤◌, List, map, sum, length, slice_get, refl, arith, ap, sym}
use Rattle.std.proofs.Common.{◌∙◌, subst, inl, inr}
use Rattle.pp_list.specs.Joined.{joined}
use Rattle.pp_prog.specs.declared.id.DataId.{DataId}
use Rattle.pp_prog.specs.declared.sort.Sort.TheVariants as sort
use Rattle.pp_prog.specs.declared.types.Ctor.{Ctor}
use Rattle.pp_prog.specs.declared.types.Datatype.{Datatype}
use Rattle.pp_prog.specs.declared.types.TypeTable.{TypeTable}
use Rattle.pp_prog.specs.Sizes.{bits, ctors_in, ctors_of, nodes, sorts_in_ctor}
use Rattle.pp_bounded_trees.proofs.Candidates.{bits_of_bool, bits_of_int}
use Rattle.pp_bounded_samples.specs.Sample.{IsLow, IsSample, IsSmall, sample_ctors, sample_datatypes, tree_of}

nodes_of_int : (types : TypeTable) (h : ℕ) → nodes types h sort.Int ≡ 0
nodes_of_int types zero = refl
nodes_of_int types (suc h) = refl

nodes_of_bool : (types : TypeTable) (h : ℕ) → nodes types h sort.Bool ≡ 0
nodes_of_bool types zero = refl
nodes_of_bool types (suc h) = refl

-- what grows by at most k and to three times its size is at most 40 k after four steps
four_steps : (b : ℕ → ℕ) (k : ℕ) → b 0 ≡ 0 → ((h : ℕ) → h ≤ 3 → b (suc h) ≤ k + 3 * b h) → (h : ℕ) → h ≤ 4
    → b h ≤ 40 * k
four_steps b k none step zero le = omega (arith, none)
four_steps b k none step (suc zero) le = omega (arith, none, step 0 (omega arith))
four_steps b k none step (suc (suc zero)) le = omega (arith, none, step 0 (omega arith), step 1 (omega arith))
four_steps b k none step (suc (suc (suc zero))) le =
    omega (arith, none, step 0 (omega arith), step 1 (omega arith), step 2 (omega arith))
four_steps b k none step (suc (suc (suc (suc zero)))) le =
    omega (arith, none, step 0 (omega arith), step 1 (omega arith), step 2 (omega arith), step 3 (omega arith))
four_steps b k none step (suc (suc (suc (suc (suc h))))) le = absurd (omega (arith, le))

module _ (types : TypeTable) (s : IsSample types) where
  own : (d : ℕ)
      → ctors_of types (record { 0 = d }) ≡ ctors_in (sample_ctors s.name) (slice_get (sample_datatypes s.name) d)
  own d =
      ap (λ (l : List Ctor). ctors_in l (slice_get types.datatypes d)) s.ctors
      ∙ ap (λ (l : List Datatype). ctors_in (sample_ctors s.name) (slice_get l d)) s.datatypes

  abbrev bits_among : (h : ℕ) → List Ctor → ℕ
  bits_among h l = length l + sum (map (bits types h) (joined (map sorts_in_ctor l)))

  abbrev nodes_among : (h : ℕ) → List Ctor → ℕ
  nodes_among h l = 1 + sum (map (nodes types h) (joined (map sorts_in_ctor l)))

  list_bits : (h : ℕ) → bits types (suc h) (tree_of 0)
      ≡ 2 + (0 + bits types h sort.Int + bits types h (tree_of 0))
  list_bits h = ap (bits_among h) (own 0)

  list_nodes : (h : ℕ) → nodes types (suc h) (tree_of 0)
      ≡ 1 + (0 + nodes types h sort.Int + nodes types h (tree_of 0))
  list_nodes h = ap (nodes_among h) (own 0)

  tree_bits : (h : ℕ) → bits types (suc h) (tree_of 1)
      ≡ 2 + (0 + bits types h (tree_of 1) + bits types h sort.Bool + bits types h (tree_of 1))
  tree_bits h = ap (bits_among h) (own 1)

  tree_nodes : (h : ℕ) → nodes types (suc h) (tree_of 1)
      ≡ 1 + (0 + nodes types h (tree_of 1) + nodes types h sort.Bool + nodes types h (tree_of 1))
  tree_nodes h = ap (nodes_among h) (own 1)

  mixed_bits : (h : ℕ) → bits types (suc h) (tree_of 2)
      ≡ 3 + (0 + bits types h sort.Bool + bits types h (tree_of 2) + bits types h (tree_of 0)
      + bits types h (tree_of 2))
  mixed_bits h = ap (bits_among h) (own 2)

  mixed_nodes : (h : ℕ) → nodes types (suc h) (tree_of 2)
      ≡ 1 + (0 + nodes types h sort.Bool + nodes types h (tree_of 2) + nodes types h (tree_of 0)
      + nodes types h (tree_of 2))
  mixed_nodes h = ap (nodes_among h) (own 2)

  wide_bits : (h : ℕ) → bits types (suc h) (tree_of 3)
      ≡ 4 + (0 + bits types h sort.Bool + bits types h sort.Int + bits types h (tree_of 3) + bits types h (tree_of 3)
      + bits types h (tree_of 3))
  wide_bits h = ap (bits_among h) (own 3)

  wide_nodes : (h : ℕ) → nodes types (suc h) (tree_of 3)
      ≡ 1 + (0 + nodes types h sort.Bool + nodes types h sort.Int + nodes types h (tree_of 3)
      + nodes types h (tree_of 3) + nodes types h (tree_of 3))
  wide_nodes h = ap (nodes_among h) (own 3)

  list_bits_are : (h : ℕ) → bits types h (tree_of 0) ≡ 34 * h
  list_bits_are zero = refl
  list_bits_are (suc h) = omega (arith, list_bits h, bits_of_int types h, list_bits_are h)

  list_nodes_are : (h : ℕ) → nodes types h (tree_of 0) ≡ h
  list_nodes_are zero = refl
  list_nodes_are (suc h) = omega (arith, list_nodes h, nodes_of_int types h, list_nodes_are h)

  small_list : (h : ℕ) → h ≤ 6 → IsSmall types (record { 0 = 0 }) h
  small_list h le = record {
    bits = omega (arith, list_bits_are h, le);
    nodes = omega (arith, list_nodes_are h, le);
  }

  small_tree : (h : ℕ) → h ≤ 4 → IsSmall types (record { 0 = 1 }) h
  small_tree h le = record {
    bits = four_steps (λ k. bits types k (tree_of 1)) 140 refl
        (λ k few. omega (arith, tree_bits k, bits_of_bool types k)) h le;
    nodes = four_steps (λ k. nodes types k (tree_of 1)) 5 refl
        (λ k few. omega (arith, tree_nodes k, nodes_of_bool types k)) h le;
  }

  small_mixed : (h : ℕ) → h ≤ 4 → IsSmall types (record { 0 = 2 }) h
  small_mixed h le = record {
    bits = four_steps (λ k. bits types k (tree_of 2)) 140 refl
        (λ k few. omega (arith, mixed_bits k, bits_of_bool types k, list_bits_are k, few)) h le;
    nodes = four_steps (λ k. nodes types k (tree_of 2)) 5 refl
        (λ k few. omega (arith, mixed_nodes k, nodes_of_bool types k, list_nodes_are k, few)) h le;
  }

  small_wide : (h : ℕ) → h ≤ 4 → IsSmall types (record { 0 = 3 }) h
  small_wide h le = record {
    bits = four_steps (λ k. bits types k (tree_of 3)) 140 refl
        (λ k few. omega (arith, wide_bits k, bits_of_bool types k, bits_of_int types k)) h le;
    nodes = four_steps (λ k. nodes types k (tree_of 3)) 5 refl
        (λ k few. omega (arith, wide_nodes k, nodes_of_bool types k, nodes_of_int types k)) h le;
  }

  small_at : (d h : ℕ) → d ≤ 3 → h ≤ 4 → IsSmall types (record { 0 = d }) h
  small_at zero h lt le = small_list h (omega (arith, le))
  small_at (suc zero) h lt le = small_tree h le
  small_at (suc (suc zero)) h lt le = small_mixed h le
  small_at (suc (suc (suc zero))) h lt le = small_wide h le
  small_at (suc (suc (suc (suc d)))) h lt le = absurd (omega (arith, lt))

  -- low trees are small
  pub low_small : (of : DataId) (h : ℕ) → IsLow of h → IsSmall types of h
  low_small of h low = elim low.low [
    | inl four ↦ small_at of.0 h four.0 four.1
    | inr six ↦ subst (λ (d : DataId). IsSmall types d h) (zeroth of six.0) (small_list h six.1)
  ]
    where
      zeroth : (d : DataId) → d.0 ≡ 0 → record { 0 = 0 } ≡ d
      zeroth d e = ap (λ (k : ℕ). record { 0 = k }) (sym e)
