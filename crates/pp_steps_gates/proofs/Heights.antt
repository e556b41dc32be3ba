-- Steps have heights: those of the first steps are chosen, and each later step has the one that earlier ones determine.
use Rattle.std.proofs.Common.{◌≡◌, ℕ, suc, ◌+◌, ◌-◌, ◌<◌, ◌≤◌, max, Bool, true, false, List, [], ◌∷◌, map, length, refl}
use Rattle.std.proofs.Common.{sym, ap, ◌∙◌, arith}
use Rattle.std.proofs.lemmas.Bool.{eq-eqb, eqb-true}
use Rattle.std.proofs.Math.Nat.{max-le}
use Rattle.std.specs.Prelude.{nat_eq, if◌then◌else◌}
use Rattle.pp_prog.specs.declared.sort.Sort.{Sort}
use Rattle.pp_prog.specs.declared.sort.Sort.TheVariants as sort
use Rattle.pp_prog.specs.declared.types.TypeTable.{TypeTable}
use Rattle.pp_prog.specs.Sizes.{height_at}
use Rattle.pp_prog.specs.Values.{greatest}
use Rattle.pp_steps.proofs.Counting.{less_suc, nat_eq_less, self_less}
use Rattle.pp_steps.specs.declared.step.Step.{Step}
use Rattle.pp_steps.specs.declared.step.Step.TheVariants as steps
use Rattle.pp_steps.specs.Gates.{AllHigh, Heights, height_of}
use Rattle.pp_steps.specs.Reads.{AllRead, Below, Reads}
use Rattle.pp_steps.specs.Sorted.{AllSorted, Constructs, IsSorted, Sorts}

-- the heights, with this one at number k
abbrev set : Heights → ℕ → ℕ → Heights
set η k h i = if nat_eq i k then h else η i

set_here : (η : Heights) (k h : ℕ) → set η k h k ≡ h
set_here η k h = rw (eq-eqb k k refl) refl

set_less : (η : Heights) (k h i : ℕ) → i < k → set η k h i ≡ η i
set_less η k h i le = rw (nat_eq_less i k le) refl

pub height_at_most : (h : ℕ) (s : Sort) → height_at h s ≤ h
height_at_most h sort.Int = omega arith
height_at_most h sort.Bool = omega arith
height_at_most h (sort.Tree d) = omega arith

module _ (types : TypeTable) (σ : Sorts) where
  -- the heights of steps, the first of which has the number k, after these heights
  abbrev pub solved : ℕ → List Step → Heights → Heights
  solved k [] η = η
  solved k (s ∷ ss) η = solved (suc k) ss (set η k (height_of types σ η k s))

  pub solved_keeps : (k : ℕ) (ss : List Step) (η : Heights) (i : ℕ) → i < k → solved k ss η i ≡ η i
  solved_keeps k [] η i h = refl
  solved_keeps k (s ∷ ss) η i h =
      solved_keeps (suc k) ss (set η k (height_of types σ η k s)) i (less_suc i k h)
      ∙ set_less η k (height_of types σ η k s) i h

  greatest_same : (k : ℕ) (η ζ : Heights) (ns : List ℕ) → Below k ns → ((i : ℕ) → i < k → ζ i ≡ η i)
      → greatest (map ζ ns) ≡ greatest (map η ns)
  greatest_same k η ζ [] b h = refl
  greatest_same k η ζ (n ∷ ns) b h =
      ap (λ g. max g (greatest (map ζ ns))) (h n b.0) ∙ ap (max (η n)) (greatest_same k η ζ ns b.1 h)

  -- a step's height hangs on earlier numbers alone
  height_same : (k : ℕ) (s : Step) (η ζ : Heights) → Reads k s → ((i : ℕ) → i < k → ζ i ≡ η i)
      → height_of types σ ζ k s ≡ height_of types σ η k s
  height_same k (steps.Choose c a b) η ζ r h = ap (λ g. max g (ζ b)) (h a r.1) ∙ ap (max (η a)) (h b r.2)
  height_same k (steps.Construct c fields) η ζ r h = ap (λ g. 1 + g) (greatest_same k η ζ fields r h)
  height_same k (steps.CtorField c i a) η ζ r h = ap (λ g. height_at (g - 1) (σ k)) (h a r)
  height_same k (steps.Field a i) η ζ r h = ap (λ g. height_at (g - 1) (σ k)) (h a r)
  height_same k s η ζ r h = refl

  pub solved_high : (k : ℕ) (ss : List Step) (η : Heights) → AllRead k ss → AllHigh types σ (solved k ss η) k ss
  solved_high k [] η r = tt
  solved_high k (s ∷ ss) η r =
      let g = height_of types σ η k s in
      let next = set η k g in
      let ζ = solved (suc k) ss next in
      let same = λ (i : ℕ) (h : i < k). solved_keeps (suc k) ss next i (less_suc i k h) ∙ set_less η k g i h in (
        solved_keeps (suc k) ss next k (self_less k) ∙ set_here η k g ∙ sym (height_same k s η ζ r.0 same),
        solved_high (suc k) ss next r.1,
      )

  -- ---- no height grows by more than 1 at a step

  greatest_low : (η : Heights) (d : ℕ) → ((i : ℕ) → η i ≤ d) → (ns : List ℕ) → greatest (map η ns) ≤ d
  greatest_low η d h [] = omega arith
  greatest_low η d h (n ∷ ns) = max-le (h n) (greatest_low η d h ns)

  le_up : (a b : ℕ) → a ≤ b → a ≤ suc b
  le_up a b h = omega arith

  part_low : (a d : ℕ) (s : Sort) → a ≤ d → height_at (a - 1) s ≤ suc d
  part_low a d s h = let low = height_at_most (a - 1) s in omega arith

  height_low : (k : ℕ) (s : Step) (η : Heights) (d : ℕ) → ((i : ℕ) → η i ≤ d) → height_of types σ η k s ≤ suc d
  height_low k (steps.Choose c a b) η d h = le_up (max (η a) (η b)) d (max-le (h a) (h b))
  height_low k (steps.Construct c fields) η d h = let low = greatest_low η d h fields in omega arith
  height_low k (steps.CtorField c i a) η d h = part_low (η a) d (σ k) (h a)
  height_low k (steps.Field a i) η d h = part_low (η a) d (σ k) (h a)
  height_low k s η d h = omega arith

  set_low : (η : Heights) (k g d : ℕ) → ((i : ℕ) → η i ≤ d) → g ≤ suc d → (i : ℕ) → set η k g i ≤ suc d
  set_low η k g d h le i = by (nat_eq i k)
    where
      by : (b : Bool) → (if b then g else η i) ≤ suc d
      by true = le
      by false = le_up (η i) d (h i)

  pub solved_low : (k : ℕ) (ss : List Step) (η : Heights) (d : ℕ) → ((i : ℕ) → η i ≤ d) → (i : ℕ)
      → solved k ss η i ≤ d + length ss
  solved_low k [] η d h i = let low = h i in omega arith
  solved_low k (s ∷ ss) η d h i =
      let g = height_of types σ η k s in
      let low = solved_low (suc k) ss (set η k g) (suc d) (set_low η k g d h (height_low k s η d h)) i in
      omega arith

  -- ---- truth values have no height

  abbrev pub AreFlat : Heights → Type 0
  AreFlat η = (i : ℕ) → σ i ≡ sort.Bool → η i ≡ 0

  no_bit : (r s : Sort) (d : _) → r ≡ sort.Tree d → r ≡ sort.Bool → ⊥
  no_bit r s d h g = cc

  height_flat : (k : ℕ) (s : Step) (η : Heights) → AreFlat η → IsSorted types σ s (σ k) → σ k ≡ sort.Bool
      → height_of types σ η k s ≡ 0
  height_flat k (steps.Choose c a b) η h m bit =
      let x = h a (m.1 ∙ bit) in let y = h b (m.2 ∙ bit) in rw (x, y) refl
  height_flat k (steps.Construct c fields) η h m bit =
      let made : Constructs types σ c fields (σ k) = m in absurd (no_bit (σ k) sort.Bool made.ctor.of made.result bit)
  height_flat k (steps.CtorField c i a) η h m bit = ap (height_at (η a - 1)) bit
  height_flat k (steps.Field a i) η h m bit = ap (height_at (η a - 1)) bit
  height_flat k s η h m bit = refl

  set_flat : (η : Heights) (k g : ℕ) → AreFlat η → (σ k ≡ sort.Bool → g ≡ 0) → AreFlat (set η k g)
  set_flat η k g h is i bit = by (nat_eq i k) refl
    where
      by : (b : Bool) → nat_eq i k ≡ b → (if b then g else η i) ≡ 0
      by true e = is (ap σ (sym (eqb-true i k e)) ∙ bit)
      by false e = h i bit

  pub solved_flat : (k : ℕ) (ss : List Step) (η : Heights) → AllSorted types σ k ss → AreFlat η
      → AreFlat (solved k ss η)
  solved_flat k [] η m h = h
  solved_flat k (s ∷ ss) η m h =
      let g = height_of types σ η k s in
      solved_flat (suc k) ss (set η k g) m.1 (set_flat η k g h (height_flat k s η h m.0))
