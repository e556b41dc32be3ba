-- Pieces whose steps have their sorts and heights: what they take, one after another.
use Rattle.std.proofs.Common.{◌≡◌, ℕ, suc, ◌+◌, ◌≤◌, max, Bool, true, false, List, [], ◌∷◌, ◌++◌, length, Option, Some}
use Rattle.std.proofs.Common.{None, sym, ap, ◌∙◌, subst, arith, length-append}
use Rattle.std.proofs.Math.Nat.{add-zero, max-le, zero-add}
use Rattle.pp_prog.specs.declared.sort.Sort.{Sort}
use Rattle.pp_prog.specs.declared.sort.Sort.TheVariants as sort
use Rattle.pp_prog.specs.declared.types.TypeTable.{TypeTable}
use Rattle.pp_prog.specs.Sizes.{bits}
use Rattle.pp_estimate_laws.proofs.Numbers.{le_same, le_then, plus_grows}
use Rattle.pp_estimate_laws.proofs.Sizes.{bits_grow}
use Rattle.pp_steps.proofs.Counting.{add_suc}
use Rattle.pp_steps.specs.declared.step.Step.{Step}
use Rattle.pp_steps.specs.declared.step.Step.TheVariants as steps
use Rattle.pp_steps.specs.Compile.{one, unless, when}
use Rattle.pp_steps.specs.Gates.{AllHigh, Heights, all_gates, choice_gates, gates_of, height_of}
use Rattle.pp_steps.specs.Piece.{Piece, after, choice, demand, joined, pick_step, picked, plain}
use Rattle.pp_steps.specs.Sorted.{AllSorted, IsSorted, Sorts}

-- the number has the sort of truth values
abbrev pub IsBit : Sorts → ℕ → Type 0
IsBit σ n = σ n ≡ sort.Bool

-- any number will do
abbrev pub Any : ℕ → Type 0
Any n = Unit {0}

module _ (types : TypeTable) (σ : Sorts) (η : Heights) where
  -- each step has its sort and its height, where the first has the number k
  abbrev pub IsMade : ℕ → List Step → Type 0
  IsMade k [] = Unit {0}
  IsMade k (s ∷ ss) = (IsSorted types σ s (σ k) × (η k ≡ height_of types σ η k s)) × IsMade (suc k) ss

  pub made_by_both : (k : ℕ) (ss : List Step) → AllSorted types σ k ss → AllHigh types σ η k ss → IsMade k ss
  made_by_both k [] s h = tt
  made_by_both k (x ∷ xs) s h = ((s.0, h.0), made_by_both (suc k) xs s.1 h.1)

  pub made_first : (k : ℕ) (xs ys : List Step) → IsMade k (xs ++ ys) → IsMade k xs
  made_first k [] ys h = tt
  made_first k (x ∷ xs) ys h = (h.0, made_first (suc k) xs ys h.1)

  pub made_rest : (k : ℕ) (xs ys : List Step) → IsMade k (xs ++ ys) → IsMade (k + length xs) ys
  made_rest k [] ys h = subst (λ n. IsMade n ys) (sym (add-zero k)) h
  made_rest k (x ∷ xs) ys h = subst (λ n. IsMade n ys) (sym (add_suc k (length xs))) (made_rest (suc k) xs ys h.1)

  pub made_left : {A B : Type 0} (k : ℕ) (x : Piece A) (y : Piece B) → IsMade k (joined x y).steps → IsMade k x.steps
  made_left k x y m = made_first k x.steps y.steps m

  pub made_right : {A B : Type 0} (k : ℕ) (x : Piece A) (y : Piece B) → IsMade k (joined x y).steps
      → IsMade (after k x) y.steps
  made_right k x y m = made_rest k x.steps y.steps m

  abbrev pub gates : ℕ → List Step → ℕ
  gates = all_gates types σ η

  pub gates_of_both : (k : ℕ) (xs ys : List Step) → gates k (xs ++ ys) ≡ gates k xs + gates (k + length xs) ys
  gates_of_both k [] ys = ap (λ n. gates n ys) (sym (add-zero k)) ∙ sym (zero-add (gates (k + 0) ys))
  gates_of_both k (x ∷ xs) ys =
      let rest = gates_of_both (suc k) xs ys in
      let moved = ap (λ n. gates n ys) (add_suc k (length xs)) in
      omega arith

  -- what a piece takes that begins at number k: its gates and inputs, and one more for each number that tells whether
  -- the asked check fails
  abbrev pub load : {A : Type 0} → ℕ → Piece A → ℕ
  load k x = gates k x.steps + length x.fails

  pub load_of_both : {A B : Type 0} (k : ℕ) (x : Piece A) (y : Piece B)
      → load k (joined x y) ≡ load k x + load (after k x) y
  load_of_both k x y =
      let e = gates_of_both k x.steps y.steps in
      let f = length-append x.fails y.fails in
      omega arith

  -- the number has the sort, and at most the height
  pub record Has (s : Sort) (h n : ℕ) : Type 0 where
    pub sort : σ n ≡ s
    pub height : η n ≤ h

  -- so has the number, if there is one
  abbrev pub MayHave : Sort → ℕ → Option ℕ → Type 0
  MayHave s h None = Unit {0}
  MayHave s h (Some n) = Has s h n

  -- The piece begins at number k: its outcome is one of R, a truth value tells whether it has one, and it takes at most
  -- so much.
  pub record IsFew {A : Type 0} (R : A → Type 0) (k : ℕ) (x : Piece A) (most : ℕ) : Type 0 where
    pub out : R x.out
    pub alive : IsBit σ x.alive
    pub few : load k x ≤ most

  pub joined_few : {A B : Type 0} (S : B → Type 0) (k : ℕ) (x : Piece A) (y : Piece B) (a b : ℕ)
      → load k x ≤ a → IsFew S (after k x) y b → IsFew S k (joined x y) (a + b)
  joined_few S k x y a b h g =
      let few = g.few in
      let e = load_of_both k x y in
      record { out = g.out; alive = g.alive; few = omega arith }

  pub fewer : {A : Type 0} (R : A → Type 0) (k : ℕ) (x : Piece A) (a b : ℕ) → IsFew R k x a → a ≤ b → IsFew R k x b
  fewer R k x a b h le = record { out = h.out; alive = h.alive; few = le_then (load k x) a b h.few le }

  -- ---- some steps

  pub one_few : (R : ℕ → Type 0) (s : Step) (k alive : ℕ) → R k → IsBit σ alive
      → IsFew R k (one s k alive) (gates_of types σ η k s)
  one_few R s k alive r a = record { out = r; alive = a; few = omega arith }

  pub plain_few : {A : Type 0} (R : A → Type 0) (k : ℕ) (out : A) (alive : ℕ) → R out → IsBit σ alive
      → IsFew R k (plain [] out alive) 0
  plain_few R k out alive r a = record { out = r; alive = a; few = le_same 0 }

  pub when_few : (k alive test : ℕ) → IsMade k (when k alive test).steps → IsFew (IsBit σ) k (when k alive test) 1
  when_few k alive test m = record { out = m.0.0.2; alive = m.0.0.0; few = le_same 1 }

  pub unless_few : (k alive test : ℕ) → IsMade k (unless k alive test).steps → IsFew (IsBit σ) k (unless k alive test) 1
  unless_few k alive test m = record { out = m.1.0.0.2; alive = m.1.0.0.0; few = le_same 1 }

  pub demand_few : (b : Bool) (k alive test : ℕ) → IsMade k (demand b k alive test).steps
      → IsFew (IsBit σ) k (demand b k alive test) 3
  demand_few true k alive test m = record { out = m.0.0.1; alive = m.0.0.2; few = le_same 3 }
  demand_few false k alive test m = record { out = m.0.0.1; alive = m.0.0.2; few = omega arith }

  -- ---- choices

  pub choice_gates_fit : (s : Sort) (g h : ℕ) → g ≤ h → choice_gates types g s ≤ 32 + bits types h s
  choice_gates_fit sort.Int g h le = omega arith
  choice_gates_fit sort.Bool g h le = omega arith
  choice_gates_fit (sort.Tree d) g h le =
      plus_grows 32 32 (bits types g (sort.Tree d)) (bits types h (sort.Tree d)) (le_same 32)
      (bits_grow types g h (sort.Tree d) le)

  -- a choice between truth values
  pub bit_choice : (s : Sort) (h : ℕ) → s ≡ sort.Bool → choice_gates types h s ≡ 1
  bit_choice s h e = ap (λ t. choice_gates types h t) e

  pick_few : (s : Sort) (h k taken a : ℕ) (o : Option ℕ) → Has s h a → MayHave s h o
      → IsMade k (pick_step taken a o)
      → Has s h (picked k a o) × (gates k (pick_step taken a o) ≤ 32 + bits types h s)
  pick_few s h k taken a None x y m = (x, omega arith)
  pick_few s h k taken a (Some b) x y m =
      let same : σ k ≡ s = sym m.0.0.1 ∙ x.sort in
      let low : max (η a) (η b) ≤ h = max-le x.height y.height in
      let fits = choice_gates_fit s (max (η a) (η b)) h low in (
        record { sort = same; height = subst (λ n. n ≤ h) (sym m.0.1) low },
        (let is = ap (λ t. choice_gates types (max (η a) (η b)) t) same in omega arith),
      )

  pub made_one : (k n taken : ℕ) (x : Piece ℕ) (y : Piece (Option ℕ)) → IsMade k (choice n taken x y).steps
      → IsMade k x.steps
  made_one k n taken x y m =
      made_first k x.steps (y.steps ++ steps.Choose taken x.alive y.alive ∷ pick_step taken x.out y.out) m

  pub made_other : (k n taken : ℕ) (x : Piece ℕ) (y : Piece (Option ℕ)) → IsMade k (choice n taken x y).steps
      → IsMade (after k x) y.steps
  made_other k n taken x y m =
      let tail = steps.Choose taken x.alive y.alive ∷ pick_step taken x.out y.out in
      made_first (after k x) y.steps tail (made_rest k x.steps (y.steps ++ tail) m)

  module _ (s : Sort) (h k taken : ℕ) (x : Piece ℕ) (y : Piece (Option ℕ)) where
    abbrev last : ℕ
    last = after (after k x) y

    abbrev tail : List Step
    tail = steps.Choose taken x.alive y.alive ∷ pick_step taken x.out y.out

    choice_here : Has s h x.out → IsBit σ x.alive → MayHave s h y.out → IsMade k (choice last taken x y).steps
        → IsFew (Has s h) k (choice last taken x y) (load k x + (load (after k x) y + (33 + bits types h s)))
    choice_here a b c m =
        let t = made_rest (after k x) y.steps tail (made_rest k x.steps (y.steps ++ tail) m) in
        let bit : IsBit σ last = sym t.0.0.1 ∙ b in
        let p = pick_few s h (suc last) taken x.out y.out a c t.1 in
        let one = bit_choice (σ last) (max (η x.alive) (η y.alive)) bit in
        let few = p.1 in
        let e = gates_of_both k x.steps (y.steps ++ tail) in
        let f = gates_of_both (after k x) y.steps tail in
        let g = length-append x.fails y.fails in
        record { out = p.0; alive = bit; few = omega arith }

    pub choice_few : (n : ℕ) → last ≡ n → Has s h x.out → IsBit σ x.alive → MayHave s h y.out
        → IsMade k (choice n taken x y).steps
        → IsFew (Has s h) k (choice n taken x y) (load k x + (load (after k x) y + (33 + bits types h s)))
    choice_few n e a b c m =
        subst (λ i. IsFew (Has s h) k (choice i taken x y) (load k x + (load (after k x) y + (33 + bits types h s)))) e
        (choice_here a b c (subst (λ i. IsMade k (choice i taken x y).steps) (sym e) m))
