-- Heights that are the same or both great: where the steps take few gates at the one, they take as many at the other.
use Rattle.std.proofs.Common.{◌≡◌, ℕ, suc, ◌+◌, ◌*◌, ◌-◌, ◌<◌, ◌≤◌, ◌⊎◌, inl, inr, max, min, List, [], ◌∷◌, map, length}
use Rattle.std.proofs.Common.{refl, sym, ap, ◌∙◌, subst, arith}
use Rattle.std.proofs.lemmas.Bool.Decides.{leb_tells}
use Rattle.std.proofs.Math.Nat.{eq-or-lt_of_le, le-max_left, le-max_right, le-min, min_comm}
use Rattle.pp_tree.specs.declared.operator.BinaryOp.{BinaryOp}
use Rattle.pp_tree.specs.declared.operator.BinaryOp.TheVariants.{Equal, Differ}
use Rattle.pp_prog.specs.declared.sort.Sort.{Sort}
use Rattle.pp_prog.specs.declared.sort.Sort.TheVariants as sort
use Rattle.pp_prog.specs.declared.types.TypeTable.{TypeTable}
use Rattle.pp_prog.specs.Sizes.{bits, height_at, nodes}
use Rattle.pp_prog.specs.Values.{greatest}
use Rattle.pp_estimate_laws.proofs.Numbers.{le_then, times_grow}
use Rattle.pp_estimate_laws.proofs.Sizes.{bits_grow, nodes_grow}
use Rattle.pp_steps.specs.declared.step.Step.{Step}
use Rattle.pp_steps.specs.declared.step.Step.TheVariants as steps
use Rattle.pp_steps.specs.Gates.{AllHigh, Heights, all_gates, binary_gates, choice_gates, descent_gates, equality_gates}
use Rattle.pp_steps.specs.Gates.{gates_of, height_of}
use Rattle.pp_steps.specs.Reads.{AllRead, Below, Reads}
use Rattle.pp_steps.specs.Sorted.{Sorts}
use Rattle.pp_steps_gates.proofs.Measures.{product_more}
use Rattle.pp_steps_gates.proofs.Sizes.{Grows, bits_either, nodes_either}

-- the two are the same, or both are at least d
abbrev pub Near : ℕ → ℕ → ℕ → Type 0
Near d h g = (h ≡ g) ⊎ ((d ≤ h) × (d ≤ g))

-- the two are the same, or both are at least b, less the number of steps until then
abbrev pub Apart : ℕ → ℕ → ℕ → ℕ → Type 0
Apart b i h g = (h ≡ g) ⊎ ((b ≤ h + i) × (b ≤ g + i))

module _ (types : TypeTable) where
  -- ---- gates

  module _ (d : ℕ) where
    -- the two are the same, or the second is at least d
    abbrev Same : ℕ → ℕ → Type 0
    Same h g = (h ≡ g) ⊎ (d ≤ g)

    near_max : (a b e f : ℕ) → Near d a b → Near d e f → Near d (max a e) (max b f)
    near_max a b e f (inl h) (inl g) = inl (ap (λ n. max n e) h ∙ ap (max b) g)
    near_max a b e f (inl h) (inr g) =
        inr (le_then d e (max a e) g.0 (le-max_right a e), le_then d f (max b f) g.1 (le-max_right b f))
    near_max a b e f (inr h) g =
        inr (le_then d a (max a e) h.0 (le-max_left a e), le_then d b (max b f) h.1 (le-max_left b f))

    low_min : (a b e f : ℕ) → a ≡ b → d ≤ e → d ≤ f → Near d (min a e) (min b f)
    low_min a b e f h g i = elim (leb_tells a d) [
      | inl low ↦ inl (let l = low.1 in omega arith)
      | inr high ↦ inr (let l = high.1 in omega arith, let l = high.1 in omega arith)
    ]

    near_min : (a b e f : ℕ) → Near d a b → Near d e f → Near d (min a e) (min b f)
    near_min a b e f (inl h) (inl g) = inl (ap (λ n. min n e) h ∙ ap (min b) g)
    near_min a b e f (inr h) (inr g) = inr (le-min h.0 g.0, le-min h.1 g.1)
    near_min a b e f (inl h) (inr g) = low_min a b e f h g.0 g.1
    near_min a b e f (inr h) (inl g) =
        subst (λ n. Near d n (min b f)) (min_comm e a)
        (subst (λ n. Near d (min e a) n) (min_comm f b) (low_min e f a b g h.0 h.1))

    bits_near : (s : Sort) (h g : ℕ) → Near d h g → Same (bits types h s) (bits types g s)
    bits_near s h g (inl e) = inl (ap (λ n. bits types n s) e)
    bits_near s h g (inr far) = by (bits_either types d s)
      where
        by : Grows (λ k. bits types k s) d → Same (bits types h s) (bits types g s)
        by (inl more) = inr (le_then d (bits types d s) (bits types g s) more (bits_grow types d g s far.1))
        by (inr same) = inl (same h far.0 ∙ sym (same g far.1))

    nodes_near : (s : Sort) (h g : ℕ) → Near d h g → Same (nodes types h s) (nodes types g s)
    nodes_near s h g (inl e) = inl (ap (λ n. nodes types n s) e)
    nodes_near s h g (inr far) = by (nodes_either types d s)
      where
        by : Grows (λ k. nodes types k s) d → Same (nodes types h s) (nodes types g s)
        by (inl more) = inr (le_then d (nodes types d s) (nodes types g s) more (nodes_grow types d g s far.1))
        by (inr same) = inl (same h far.0 ∙ sym (same g far.1))

    choice_near : (s : Sort) (h g : ℕ) → Near d h g → Same (choice_gates types h s) (choice_gates types g s)
    choice_near sort.Int h g near = inl refl
    choice_near sort.Bool h g near = inl refl
    choice_near (sort.Tree t) h g near = by (bits_near (sort.Tree t) h g near)
      where
        by : Same (bits types h (sort.Tree t)) (bits types g (sort.Tree t))
            → Same (choice_gates types h (sort.Tree t)) (choice_gates types g (sort.Tree t))
        by (inl e) = inl (ap (λ n. 32 + n) e)
        by (inr far) = inr (omega arith)

    equality_near : (s : Sort) (h g : ℕ) → Near d h g → Same (equality_gates types h s) (equality_gates types g s)
    equality_near sort.Int h g near = inl refl
    equality_near sort.Bool h g near = inl refl
    equality_near (sort.Tree t) h g near = by (bits_near (sort.Tree t) h g near)
      where
        by : Same (bits types h (sort.Tree t)) (bits types g (sort.Tree t))
            → Same (equality_gates types h (sort.Tree t)) (equality_gates types g (sort.Tree t))
        by (inl e) = inl (ap (λ n. 4 * (32 + n)) e)
        by (inr far) = inr (omega arith)

    binary_near : (op : BinaryOp) (s : Sort) (h g : ℕ) → Near d h g
        → Same (binary_gates types op h s) (binary_gates types op g s)
    binary_near Equal s h g near = equality_near s h g near
    binary_near Differ s h g near = equality_near s h g near
    binary_near op s h g near = inl refl

    descent_near : (s : Sort) (h g i j : ℕ) → Near d h g → Near d i j
        → Same (descent_gates types h i s) (descent_gates types g j s)
    descent_near sort.Int h g i j new old = inl refl
    descent_near sort.Bool h g i j new old = inl refl
    descent_near (sort.Tree t) h g i j new old =
        by (bits_near (sort.Tree t) h g new) (nodes_near (sort.Tree t) i j old)
      where
        by : Same (bits types h (sort.Tree t)) (bits types g (sort.Tree t))
            → Same (nodes types i (sort.Tree t)) (nodes types j (sort.Tree t))
            → Same (descent_gates types h i (sort.Tree t)) (descent_gates types g j (sort.Tree t))
        by (inl e) (inl f) =
            inl (ap (λ n. 64 + 4 * (32 + n) * (1 + nodes types i (sort.Tree t))) e
            ∙ ap (λ n. 64 + 4 * (32 + bits types g (sort.Tree t)) * (1 + n)) f)
        by (inr far) f =
            let wide : d ≤ 4 * (32 + bits types g (sort.Tree t)) = omega arith in
            let more = product_more types d _ (nodes types j (sort.Tree t)) wide in
            inr (omega arith)
        by (inl e) (inr far) =
            let deep : d ≤ 1 + nodes types j (sort.Tree t) = omega arith in
            let one : 1 ≤ 4 * (32 + bits types g (sort.Tree t)) = omega arith in
            let more = times_grow 1 _ d _ one deep in
            inr (omega arith)

    module _ (σ : Sorts) (η ζ : Heights) where
      gates_near : (k : ℕ) (s : Step) → Reads k s → ((i : ℕ) → i < k → Near d (η i) (ζ i))
          → Same (gates_of types σ η k s) (gates_of types σ ζ k s)
      gates_near k (steps.Choose c a b) r near =
          choice_near (σ k) (max (η a) (η b)) (max (ζ a) (ζ b))
          (near_max (η a) (ζ a) (η b) (ζ b) (near a r.1) (near b r.2))
      gates_near k (steps.Binary op a b) r near =
          binary_near op (σ a) (min (η a) (η b)) (min (ζ a) (ζ b))
          (near_min (η a) (ζ a) (η b) (ζ b) (near a r.0) (near b r.1))
      gates_near k (steps.GoesDown a b) r near =
          descent_near (σ a) (η a) (ζ a) (η b) (ζ b) (near a r.0) (near b r.1)
      gates_near k s r near = inl refl

      -- where heights are near, steps take as much, or at least d
      pub all_near : (k : ℕ) (ss : List Step) → AllRead k ss → ((i : ℕ) → i < k + length ss → Near d (η i) (ζ i))
          → Same (all_gates types σ η k ss) (all_gates types σ ζ k ss)
      all_near k [] r near = inl refl
      all_near k (s ∷ ss) r near =
          by (gates_near k s r.0 (λ i h. near i (before i k (length ss) h)))
          (all_near (suc k) ss r.1 (λ i h. near i (within i k (length ss) h)))
        where
          before : (i k n : ℕ) → i < k → i < k + suc n
          before i k n h = omega arith

          within : (i k n : ℕ) → i < suc k + n → i < k + suc n
          within i k n h = omega arith

          by : Same (gates_of types σ η k s) (gates_of types σ ζ k s)
              → Same (all_gates types σ η (suc k) ss) (all_gates types σ ζ (suc k) ss)
              → Same (all_gates types σ η k (s ∷ ss)) (all_gates types σ ζ k (s ∷ ss))
          by (inr far) rest = inr (omega arith)
          by (inl e) (inr far) = inr (omega arith)
          by (inl e) (inl f) = inl (omega arith)

  -- ---- heights

  module _ (b : ℕ) where
    apart_later : (i k h g : ℕ) → i < k → Apart b i h g → Apart b k h g
    apart_later i k h g le (inl e) = inl e
    apart_later i k h g le (inr far) = inr (omega arith, omega arith)

    apart_max : (k h g i j : ℕ) → Apart b k h g → Apart b k i j → Apart b k (max h i) (max g j)
    apart_max k h g i j (inl e) (inl f) = inl (ap (λ n. max n i) e ∙ ap (max g) f)
    apart_max k h g i j (inr far) f = inr (omega arith, omega arith)
    apart_max k h g i j (inl e) (inr far) = inr (omega arith, omega arith)

    apart_part : (s : Sort) (i k h g : ℕ) → i < k → Apart b i h g
        → Apart b k (height_at (h - 1) s) (height_at (g - 1) s)
    apart_part sort.Int i k h g le far = inl refl
    apart_part sort.Bool i k h g le far = inl refl
    apart_part (sort.Tree t) i k h g le (inl e) = inl (ap (λ n. n - 1) e)
    apart_part (sort.Tree t) i k h g le (inr far) = inr (omega arith, omega arith)

    module _ (σ : Sorts) (η ζ : Heights) where
      apart_greatest : (k : ℕ) → ((i : ℕ) → i < k → Apart b i (η i) (ζ i)) → (ns : List ℕ) → Below k ns
          → Apart b k (greatest (map η ns)) (greatest (map ζ ns))
      apart_greatest k apart [] below = inl refl
      apart_greatest k apart (n ∷ ns) below =
          apart_max k (η n) (ζ n) (greatest (map η ns)) (greatest (map ζ ns))
          (apart_later n k (η n) (ζ n) below.0 (apart n below.0)) (apart_greatest k apart ns below.1)

      apart_more : (k h g : ℕ) → Apart b k h g → Apart b k (1 + h) (1 + g)
      apart_more k h g (inl e) = inl (ap (λ n. 1 + n) e)
      apart_more k h g (inr far) = inr (omega arith, omega arith)

      apart_step : (k : ℕ) (s : Step) → Reads k s → ((i : ℕ) → i < k → Apart b i (η i) (ζ i))
          → Apart b k (height_of types σ η k s) (height_of types σ ζ k s)
      apart_step k (steps.Choose c x y) r apart =
          apart_max k (η x) (ζ x) (η y) (ζ y) (apart_later x k (η x) (ζ x) r.1 (apart x r.1))
          (apart_later y k (η y) (ζ y) r.2 (apart y r.2))
      apart_step k (steps.Construct c fields) r apart = apart_more k _ _ (apart_greatest k apart fields r)
      apart_step k (steps.CtorField c i x) r apart = apart_part (σ k) x k (η x) (ζ x) r (apart x r)
      apart_step k (steps.Field x i) r apart = apart_part (σ k) x k (η x) (ζ x) r (apart x r)
      apart_step k s r apart = inl refl

      -- heights that are apart by so much at first stay so
      pub all_apart : (k : ℕ) (ss : List Step) → AllRead k ss → AllHigh types σ η k ss → AllHigh types σ ζ k ss
          → ((i : ℕ) → i < k → Apart b i (η i) (ζ i)) → (i : ℕ) → i < k + length ss → Apart b i (η i) (ζ i)
      all_apart k [] r x y apart i h = apart i (omega arith)
      all_apart k (s ∷ ss) r x y apart i h =
          all_apart (suc k) ss r.1 x.1 y.1 here i (omega arith)
        where
          at_step : Apart b k (η k) (ζ k)
          at_step =
              subst (λ n. Apart b k n (ζ k)) (sym x.0) (subst (λ n. Apart b k (height_of types σ η k s) n) (sym y.0)
              (apart_step k s r.0 apart))

          here : (j : ℕ) → j < suc k → Apart b j (η j) (ζ j)
          here j less = by (eq-or-lt_of_le (low j k less))
            where
              low : (j k : ℕ) → j < suc k → j ≤ k
              low j k h = omega arith

              by : (j ≡ k) ⊎ (j < k) → Apart b j (η j) (ζ j)
              by (inl e) = subst (λ n. Apart b n (η n) (ζ n)) (sym e) at_step
              by (inr h) = apart j h
