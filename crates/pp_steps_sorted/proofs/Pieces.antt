-- Pieces whose steps are well sorted, where the steps have the sorts that follow from their operands.
use Rattle.std.proofs.Common.{◌≡◌, ℕ, suc, ◌+◌, Bool, true, false, List, [], ◌∷◌, ◌++◌, length, map, Option, Some, None}
use Rattle.std.proofs.Common.{sym, ap, ◌∙◌, subst, arith}
use Rattle.std.proofs.lemmas.List.{map-append}
use Rattle.pp_prog.specs.declared.sort.Sort.{Sort}
use Rattle.pp_prog.specs.declared.sort.Sort.TheVariants as sort
use Rattle.pp_prog.specs.declared.types.TypeTable.{TypeTable}
use Rattle.pp_steps.specs.declared.step.Step.{Step}
use Rattle.pp_steps.specs.declared.step.Step.TheVariants as steps
use Rattle.pp_steps.specs.Compile.{one, unless, when}
use Rattle.pp_steps.specs.Piece.{Piece, after, choice, demand, joined, pick_step, picked, plain, possible}
use Rattle.pp_steps.specs.Sorted.{AllSorted, IsSorted, Sorts}
use Rattle.pp_steps_sorted.proofs.Assigned.{AllAssigned, IsAssigned, assigned_parts}

module _ (types : TypeTable) (σ : Sorts) where
  -- the number is of this sort
  abbrev pub IsOf : Sort → ℕ → Type 0
  IsOf s n = σ n ≡ s

  -- so is the number, if there is one
  abbrev pub MaybeOf : Sort → Option ℕ → Type 0
  MaybeOf s None = Unit {0}
  MaybeOf s (Some n) = σ n ≡ s

  -- the numbers are of these sorts
  abbrev pub AreOf : List Sort → List ℕ → Type 0
  AreOf ss ns = map σ ns ≡ ss

  -- each number is a truth value
  abbrev pub AreBool : List ℕ → Type 0
  AreBool [] = Unit {0}
  AreBool (n ∷ ns) = (σ n ≡ sort.Bool) × AreBool ns

  pub bool_join : (ms ns : List ℕ) → AreBool ms → AreBool ns → AreBool (ms ++ ns)
  bool_join [] ns h g = g
  bool_join (m ∷ ms) ns h g = (h.0, bool_join ms ns h.1 g)

  pub of_join : (ss ts : List Sort) (ms ns : List ℕ) → AreOf ss ms → AreOf ts ns → AreOf (ss ++ ts) (ms ++ ns)
  of_join ss ts ms ns h g = map-append σ ms ns ∙ ap (λ l. l ++ map σ ns) h ∙ ap (λ l. ss ++ l) g

  pub of_more : (ss : List Sort) (s : Sort) (ns : List ℕ) (n : ℕ) → AreOf ss ns → IsOf s n
      → AreOf (ss ++ s ∷ []) (ns ++ n ∷ [])
  of_more ss s ns n h g = of_join ss (s ∷ []) ns (n ∷ []) h (ap (λ t. t ∷ []) g)

  sorted_here : (k : ℕ) (ys : List Step) → AllSorted types σ (k + 0) ys → AllSorted types σ k ys
  sorted_here k ys h = let e : k + 0 ≡ k = omega arith in subst (λ n. AllSorted types σ n ys) e h

  sorted_next : (k m : ℕ) (ys : List Step) → AllSorted types σ (k + suc m) ys → AllSorted types σ (suc k + m) ys
  sorted_next k m ys h = let e : k + suc m ≡ suc k + m = omega arith in subst (λ n. AllSorted types σ n ys) e h

  pub sorted_join : (k : ℕ) (xs ys : List Step) → AllSorted types σ k xs → AllSorted types σ (k + length xs) ys
      → AllSorted types σ k (xs ++ ys)
  sorted_join k [] ys h g = sorted_here k ys g
  sorted_join k (x ∷ xs) ys h g = (h.0, sorted_join (suc k) xs ys h.1 (sorted_next k (length xs) ys g))

  -- what a piece leaves: an outcome with this property, and a truth value
  pub record Leaves {A : Type 0} (R : A → Type 0) (x : Piece A) : Type 0 where
    pub out : R x.out
    pub alive : σ x.alive ≡ sort.Bool

  -- The piece begins at number k: its steps are well sorted, and those numbers are truth values that have to be.
  pub record IsSortedFrom {A : Type 0} (R : A → Type 0) (k : ℕ) (x : Piece A) : Type 0 where
    pub sorted : AllSorted types σ k x.steps
    pub fails : AreBool x.fails
    pub leaves : Leaves R x

  -- so it is where its steps have the sorts that follow from their operands
  pub record WellSorted {A : Type 0} (R : A → Type 0) (k : ℕ) (x : Piece A) : Type 0 where
    pub given : AllAssigned types σ k x.steps → IsSortedFrom R k x

  -- a piece, and one that stands after it
  pub joined_sorted : {A B : Type 0} {R : A → Type 0} {S : B → Type 0} (k : ℕ) (x : Piece A) (y : Piece B)
      → WellSorted R k x → (Leaves R x → WellSorted S (after k x) y)
      → WellSorted S k (joined x y)
  joined_sorted k x y h go = record {
    given = λ all.
        let both = assigned_parts types σ k x.steps y.steps all in
        let a = h.given both.0 in
        let b = (go a.leaves).given both.1 in
        record {
          sorted = sorted_join k x.steps y.steps a.sorted b.sorted;
          fails = bool_join x.fails y.fails a.fails b.fails;
          leaves = record { out = b.leaves.out; alive = b.leaves.alive };
        };
  }

  pub plain_sorted : {A : Type 0} {R : A → Type 0} (k : ℕ) (ss : List Step) (out : A) (alive : ℕ)
      → (AllAssigned types σ k ss → AllSorted types σ k ss × R out × (σ alive ≡ sort.Bool))
      → WellSorted R k (plain ss out alive)
  plain_sorted k ss out alive h = record {
    given = λ all.
        let it = h all in record { sorted = it.0; fails = tt; leaves = record { out = it.1; alive = it.2 } };
  }

  -- no steps
  pub none_sorted : {A : Type 0} {R : A → Type 0} (k : ℕ) (out : A) (alive : ℕ) → R out → σ alive ≡ sort.Bool
      → WellSorted R k (plain [] out alive)
  none_sorted k out alive r a = plain_sorted k [] out alive (λ all. (tt, r, a))

  -- where the step has the sort that follows from its operands, it is well sorted, of sort r
  abbrev pub Makes : Sort → ℕ → Step → Type 0
  Makes r k s = IsAssigned types σ k s → IsSorted types σ s (σ k) × (σ k ≡ r)

  pub one_sorted : (s : Step) (r : Sort) (k alive : ℕ) → Makes r k s → σ alive ≡ sort.Bool
      → WellSorted (IsOf r) k (one s k alive)
  one_sorted s r k alive h a =
      plain_sorted {R = IsOf r} k (s ∷ []) k alive (λ all. let it = h all.0 in ((it.0, tt), it.1, a))

  -- ---- truth values

  pub when_sorted : (k alive test : ℕ) → σ alive ≡ sort.Bool → σ test ≡ sort.Bool
      → WellSorted (IsOf sort.Bool) k (when k alive test)
  when_sorted k alive test a t =
      plain_sorted {R = IsOf sort.Bool} k (steps.Both alive test ∷ []) k alive (λ all. (((a, t, all.0), tt), all.0, a))

  pub unless_sorted : (k alive test : ℕ) → σ alive ≡ sort.Bool → σ test ≡ sort.Bool
      → WellSorted (IsOf sort.Bool) k (unless k alive test)
  unless_sorted k alive test a t =
      plain_sorted {R = IsOf sort.Bool} k (steps.Not test ∷ steps.Both alive k ∷ []) (suc k) alive
      (λ all. (((t, all.0), ((a, all.0, all.1.0), tt)), all.1.0, a))

  pub demand_sorted : (b : Bool) (k alive test : ℕ) → σ alive ≡ sort.Bool → σ test ≡ sort.Bool
      → WellSorted (IsOf sort.Bool) k (demand b k alive test)
  demand_sorted true k alive test a t = record {
    given = λ all. record {
      sorted = ((a, t, all.0), ((t, all.1.0), ((a, all.1.0, all.1.1.0), tt)));
      fails = (all.1.1.0, tt);
      leaves = record { out = t; alive = all.0 };
    };
  }
  demand_sorted false k alive test a t = record {
    given = λ all. record {
      sorted = ((a, t, all.0), tt);
      fails = tt;
      leaves = record { out = t; alive = all.0 };
    };
  }

  -- ---- choices

  pick_sorted : (k taken a : ℕ) (o : Option ℕ) (s : Sort) → σ taken ≡ sort.Bool → IsOf s a → MaybeOf s o
      → AllAssigned types σ (suc k) (pick_step taken a o)
      → AllSorted types σ (suc k) (pick_step taken a o) × IsOf s (picked (suc k) a o)
  pick_sorted k taken a None s t h g all = (tt, h)
  pick_sorted k taken a (Some b) s t h g all = (((t, sym all.0, g ∙ sym h ∙ sym all.0), tt), all.0 ∙ h)

  pub choice_sorted : (s : Sort) (k taken : ℕ) (x : Piece ℕ) (y : Piece (Option ℕ)) → σ taken ≡ sort.Bool
      → WellSorted (IsOf s) k x → WellSorted (MaybeOf s) (after k x) y
      → WellSorted (IsOf s) k (choice (after (after k x) y) taken x y)
  choice_sorted s k taken x y t h g = record {
    given = λ all.
        let end = after (after k x) y in
        let tail = steps.Choose taken x.alive y.alive ∷ pick_step taken x.out y.out in
        let both = assigned_parts types σ k x.steps (y.steps ++ tail) all in
        let more = assigned_parts types σ (after k x) y.steps tail both.1 in
        let a = h.given both.0 in
        let b = g.given more.0 in
        let here = more.1.0 in
        let pick = pick_sorted end taken x.out y.out s t a.leaves.out b.leaves.out more.1.1 in
        record {
          sorted = sorted_join k x.steps (y.steps ++ tail) a.sorted
              (sorted_join (after k x) y.steps tail b.sorted
              ((t, sym here, b.leaves.alive ∙ sym a.leaves.alive ∙ sym here), pick.0));
          fails = bool_join x.fails y.fails a.fails b.fails;
          leaves = record { out = pick.1; alive = here ∙ a.leaves.alive };
        };
  }

  pub possible_sorted : (s : Sort) (k : ℕ) (x : Piece ℕ) → WellSorted (IsOf s) k x
      → WellSorted (MaybeOf s) k (possible x)
  possible_sorted s k x h = record {
    given = λ all.
        let it = h.given all in
        record {
          sorted = it.sorted;
          fails = it.fails;
          leaves = record { out = it.leaves.out; alive = it.leaves.alive };
        };
  }
