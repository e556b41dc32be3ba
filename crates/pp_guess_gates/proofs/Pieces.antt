-- Pieces whose steps have their sorts: what they weigh, one after another.
use Rattle.std.proofs.Common.{◌≡◌, ℕ, suc, ◌+◌, ◌*◌, ◌≤◌, Bool, true, false, List, [], ◌∷◌, ◌++◌, length, Option, Some}
use Rattle.std.proofs.Common.{None, sym, ap, ◌∙◌, subst, arith, length-append}
use Rattle.std.proofs.Math.Nat.{add-zero, zero-add}
use Rattle.pp_prog.specs.declared.sort.Sort.{Sort}
use Rattle.pp_prog.specs.declared.sort.Sort.TheVariants as sort
use Rattle.pp_prog.specs.declared.types.TypeTable.{TypeTable}
use Rattle.pp_prog.specs.Sizes.{by_sort, width}
use Rattle.pp_estimate_laws.proofs.Numbers.{le_same, le_then}
use Rattle.pp_steps.proofs.Counting.{add_suc}
use Rattle.pp_steps.specs.declared.step.OpenCall.{OpenCall}
use Rattle.pp_steps.specs.declared.step.Step.{Step}
use Rattle.pp_steps.specs.declared.step.Step.TheVariants as steps
use Rattle.pp_steps.specs.Compile.{one, unless, when}
use Rattle.pp_operators.specs.Gates.{unary_gates}
use Rattle.pp_steps.specs.Piece.{Piece, after, choice, demand, joined, pick_step, picked, plain}
use Rattle.pp_steps.specs.Sorted.{AllSorted, Sorts}
use Rattle.pp_steps_gates.proofs.Pieces.{IsBit}
use Rattle.pp_guess_gates.specs.Measure.{operator_gates}
use Rattle.pp_guess_gates.proofs.Prices.{Prices, look_price}

-- the number has the sort
abbrev pub Is : Sorts → Sort → ℕ → Type 0
Is σ s n = σ n ≡ s

-- the number has the sort, if there is one
abbrev pub MayBe : Sorts → Sort → Option ℕ → Type 0
MayBe σ s None = Unit {0}
MayBe σ s (Some n) = Is σ s n

module _ (types : TypeTable) (σ : Sorts) where
  pub sorted_first : (k : ℕ) (xs ys : List Step) → AllSorted types σ k (xs ++ ys) → AllSorted types σ k xs
  sorted_first k [] ys h = tt
  sorted_first k (x ∷ xs) ys h = (h.0, sorted_first (suc k) xs ys h.1)

  pub sorted_rest : (k : ℕ) (xs ys : List Step) → AllSorted types σ k (xs ++ ys)
      → AllSorted types σ (k + length xs) ys
  sorted_rest k [] ys h = subst (λ n. AllSorted types σ n ys) (sym (add-zero k)) h
  sorted_rest k (x ∷ xs) ys h =
      subst (λ n. AllSorted types σ n ys) (sym (add_suc k (length xs))) (sorted_rest (suc k) xs ys h.1)

  pub sorted_left : {A B : Type 0} (k : ℕ) (x : Piece A) (y : Piece B) → AllSorted types σ k (joined x y).steps
      → AllSorted types σ k x.steps
  sorted_left k x y m = sorted_first k x.steps y.steps m

  pub sorted_right : {A B : Type 0} (k : ℕ) (x : Piece A) (y : Piece B) → AllSorted types σ k (joined x y).steps
      → AllSorted types σ (after k x) y.steps
  sorted_right k x y m = sorted_rest k x.steps y.steps m

  -- the steps of the one branch, and of the other
  pub sorted_one : (k n taken : ℕ) (x : Piece ℕ) (y : Piece (Option ℕ))
      → AllSorted types σ k (choice n taken x y).steps → AllSorted types σ k x.steps
  sorted_one k n taken x y m =
      sorted_first k x.steps (y.steps ++ steps.Choose taken x.alive y.alive ∷ pick_step taken x.out y.out) m

  pub sorted_other : (k n taken : ℕ) (x : Piece ℕ) (y : Piece (Option ℕ))
      → AllSorted types σ k (choice n taken x y).steps → AllSorted types σ (after k x) y.steps
  sorted_other k n taken x y m =
      let tail = steps.Choose taken x.alive y.alive ∷ pick_step taken x.out y.out in
      sorted_first (after k x) y.steps tail (sorted_rest k x.steps (y.steps ++ tail) m)

-- a name, a number or a truth value is at most 32 bits wide
pub width_low : (s : Sort) → width s ≤ 32
width_low sort.Int = le_same 32
width_low sort.Bool = omega arith
width_low (sort.Tree d) = le_same 32

module _ (types : TypeTable) (σ : Sorts) (ψ : Prices) (left : OpenCall → ℕ) where
  -- What step number k weighs: one, its gates and inputs but those of looks and comparisons, the prices of its looks
  -- and comparisons, and what an open call leaves.
  abbrev pub weigh : ℕ → Step → ℕ
  weigh k (steps.Open s) = 1 + width s
  weigh k (steps.HasAnswer c) = 2 + left c
  weigh k (steps.Answer c) = 1 + width c.result
  weigh k (steps.Both a b) = 2
  weigh k (steps.Choose c a b) = 1 + width (σ k)
  weigh k (steps.Unary op a) = 1 + unary_gates op
  weigh k (steps.Binary op a b) = 1 + operator_gates types op (σ a)
  weigh k (steps.Construct c fields) = 1 + by_sort 0 0 (look_price ψ) (σ k)
  weigh k (steps.IsCtor c n a) = 1 + by_sort 0 0 (look_price ψ) (σ a)
  weigh k (steps.Field a i) = 1 + by_sort 0 0 (look_price ψ) (σ a)
  weigh k (steps.GoesDown a b) = 1 + by_sort 1024 0 (λ d. 194 + ψ.compare) (σ a)
  weigh k s = 1

  -- what all steps weigh, the first of which has the number k
  abbrev pub weight : ℕ → List Step → ℕ
  weight k [] = 0
  weight k (s ∷ ss) = weigh k s + weight (suc k) ss

  pub weight_of_both : (k : ℕ) (xs ys : List Step) → weight k (xs ++ ys) ≡ weight k xs + weight (k + length xs) ys
  weight_of_both k [] ys = ap (λ n. weight n ys) (sym (add-zero k)) ∙ sym (zero-add (weight (k + 0) ys))
  weight_of_both k (x ∷ xs) ys =
      let rest = weight_of_both (suc k) xs ys in
      let moved = ap (λ n. weight n ys) (add_suc k (length xs)) in
      omega arith

  -- what a piece weighs that begins at number k: its steps, and a choice for each number that tells whether the asked
  -- check fails
  abbrev pub load : {A : Type 0} → ℕ → Piece A → ℕ
  load k x = weight k x.steps + 2 * length x.fails

  pub load_of_both : {A B : Type 0} (k : ℕ) (x : Piece A) (y : Piece B)
      → load k (joined x y) ≡ load k x + load (after k x) y
  load_of_both k x y =
      let e = weight_of_both k x.steps y.steps in
      let f = length-append x.fails y.fails in
      omega arith

  -- The piece begins at number k: its outcome is one of R, a truth value tells whether it has one, and it weighs at
  -- most so much.
  pub record IsLight {A : Type 0} (R : A → Type 0) (k : ℕ) (x : Piece A) (most : ℕ) : Type 0 where
    pub out : R x.out
    pub alive : IsBit σ x.alive
    pub few : load k x ≤ most

  pub joined_light : {A B : Type 0} (S : B → Type 0) (k : ℕ) (x : Piece A) (y : Piece B) (a b : ℕ)
      → load k x ≤ a → IsLight S (after k x) y b → IsLight S k (joined x y) (a + b)
  joined_light S k x y a b h g =
      let few = g.few in
      let e = load_of_both k x y in
      record { out = g.out; alive = g.alive; few = omega arith }

  pub lighter : {A : Type 0} (R : A → Type 0) (k : ℕ) (x : Piece A) (a b : ℕ) → IsLight R k x a → a ≤ b
      → IsLight R k x b
  lighter R k x a b h le = record { out = h.out; alive = h.alive; few = le_then (load k x) a b h.few le }

  -- ---- some steps

  pub one_light : (R : ℕ → Type 0) (s : Step) (k alive : ℕ) → R k → IsBit σ alive
      → IsLight R k (one s k alive) (weigh k s)
  one_light R s k alive r a = record { out = r; alive = a; few = omega arith }

  pub plain_light : {A : Type 0} (R : A → Type 0) (k : ℕ) (out : A) (alive : ℕ) → R out → IsBit σ alive
      → IsLight R k (plain [] out alive) 0
  plain_light R k out alive r a = record { out = r; alive = a; few = le_same 0 }

  pub when_light : (k alive test : ℕ) → AllSorted types σ k (when k alive test).steps
      → IsLight (IsBit σ) k (when k alive test) 2
  when_light k alive test m = record { out = m.0.2; alive = m.0.0; few = le_same 2 }

  pub unless_light : (k alive test : ℕ) → AllSorted types σ k (unless k alive test).steps
      → IsLight (IsBit σ) k (unless k alive test) 3
  unless_light k alive test m = record { out = m.1.0.2; alive = m.1.0.0; few = le_same 3 }

  pub demand_light : (b : Bool) (k alive test : ℕ) → AllSorted types σ k (demand b k alive test).steps
      → IsLight (IsBit σ) k (demand b k alive test) 7
  demand_light true k alive test m = record { out = m.0.1; alive = m.0.2; few = le_same 7 }
  demand_light false k alive test m = record { out = m.0.1; alive = m.0.2; few = omega arith }

  -- ---- choices

  -- a choice between truth values
  pub bit_choice : (k : ℕ) (c a b : ℕ) → IsBit σ k → weigh k (steps.Choose c a b) ≡ 2
  bit_choice k c a b e = ap (λ t. 1 + width t) e

  pick_light : (s : Sort) (k taken a : ℕ) (o : Option ℕ) → Is σ s a → MayBe σ s o
      → AllSorted types σ k (pick_step taken a o)
      → Is σ s (picked k a o) × (weight k (pick_step taken a o) ≤ 33)
  pick_light s k taken a None x y m = (x, omega arith)
  pick_light s k taken a (Some b) x y m = (sym m.0.1 ∙ x, let low = width_low (σ k) in omega arith)

  module _ (s : Sort) (k taken : ℕ) (x : Piece ℕ) (y : Piece (Option ℕ)) where
    abbrev last : ℕ
    last = after (after k x) y

    abbrev tail : List Step
    tail = steps.Choose taken x.alive y.alive ∷ pick_step taken x.out y.out

    choice_here : Is σ s x.out → IsBit σ x.alive → MayBe σ s y.out → AllSorted types σ k (choice last taken x y).steps
        → IsLight (Is σ s) k (choice last taken x y) (load k x + (load (after k x) y + 35))
    choice_here a b c m =
        let t = sorted_rest types σ (after k x) y.steps tail (sorted_rest types σ k x.steps (y.steps ++ tail) m) in
        let bit : IsBit σ last = sym t.0.1 ∙ b in
        let p = pick_light s (suc last) taken x.out y.out a c t.1 in
        let one = bit_choice last taken x.alive y.alive bit in
        let few = p.1 in
        let e = weight_of_both k x.steps (y.steps ++ tail) in
        let f = weight_of_both (after k x) y.steps tail in
        let g = length-append x.fails y.fails in
        record { out = p.0; alive = bit; few = omega arith }

    pub choice_light : (n : ℕ) → last ≡ n → Is σ s x.out → IsBit σ x.alive → MayBe σ s y.out
        → AllSorted types σ k (choice n taken x y).steps
        → IsLight (Is σ s) k (choice n taken x y) (load k x + (load (after k x) y + 35))
    choice_light n e a b c m =
        subst (λ i. IsLight (Is σ s) k (choice i taken x y) (load k x + (load (after k x) y + 35))) e
        (choice_here a b c (subst (λ i. AllSorted types σ k (choice i taken x y).steps) (sym e) m))
