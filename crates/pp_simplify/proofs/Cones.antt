-- The numbers of needed steps, marked from the last step down.
use Rattle.std.proofs.Common.{◌≡◌, ℕ, zero, suc, ◌+◌, ◌-◌, ◌<◌, ◌≤◌, Bool, true, false, List, [], ◌∷◌, length}
use Rattle.std.proofs.Common.{slice_get, slice_index_or, Some, Contains, replicate, refl, sym, ap, ◌∙◌, subst, inl, inr}
use Rattle.std.proofs.Common.{arith}
use Rattle.std.proofs.lemmas.Bool.{false≢true, cases_lt}
use Rattle.std.proofs.lemmas.List.{length-replicate}
use Rattle.std.proofs.lemmas.Option.{same_Some, slice_get_within}
use Rattle.pp_steps.specs.declared.step.Step.{Step}
use Rattle.pp_steps.specs.declared.step.Step.TheVariants as steps
use Rattle.pp_steps.specs.Reads.{AllRead, Below, Reads}
use Rattle.pp_simplify.specs.Marks.{Marks, is_marked}
use Rattle.pp_simplify.specs.Operands.{operands}
use Rattle.pp_simplify.specs.Pruned.{AreNeeded, IsNeeded, asked_one, first_one, operand}
use Rattle.pp_simplify.proofs.Marking.{none_marked}

-- ---- operands are earlier

pub reads_below : (k : ℕ) (s : Step) → Reads k s → Below k (operands s)
reads_below k (steps.Open s) r = tt
reads_below k (steps.Int n) r = tt
reads_below k (steps.Bool b) r = tt
reads_below k (steps.Not a) r = (r, tt)
reads_below k (steps.Both a b) r = (r.0, (r.1, tt))
reads_below k (steps.Choose c a b) r = (r.0, (r.1, (r.2, tt)))
reads_below k (steps.Unary op a) r = (r, tt)
reads_below k (steps.Binary op a b) r = (r.0, (r.1, tt))
reads_below k (steps.Construct c fields) r = r
reads_below k (steps.IsCtor c n a) r = (r, tt)
reads_below k (steps.CtorField c i a) r = (r, tt)
reads_below k (steps.Field a i) r = (r, tt)
reads_below k (steps.IsAlike a b) r = (r.0, (r.1, tt))
reads_below k (steps.GoesDown a b) r = (r.0, (r.1, tt))
reads_below k (steps.HasAnswer c) r = r
reads_below k (steps.Answer c) r = r

pub below_each : (k : ℕ) (ns : List ℕ) (a : ℕ) → Below k ns → Contains ns a → a < k
below_each k [] a b c = absurd (omega (arith, c.1))
below_each k (n ∷ ns) a b (zero, lt, e) = subst (λ i. i < k) e b.0
below_each k (n ∷ ns) a b (suc i, lt, e) = below_each k ns a b.1 (i, omega arith, e)

pub below_more : (k n : ℕ) (ns : List ℕ) → k ≤ n → Below k ns → Below n ns
below_more k n [] le b = tt
below_more k n (x ∷ ns) le b = (omega (arith, b.0), below_more k n ns le b.1)

reads_from : (j : ℕ) (ss : List Step) (i k : ℕ) (s : Step) → AllRead j ss → slice_get ss i ≡ Some s → k ≡ j + i
    → Below k (operands s)
reads_from j [] i k s all at is = absurd (cc)
reads_from j (x ∷ ss) zero k s all at is =
    let e : j ≡ k = omega arith in
    subst (λ n. Below n (operands s)) e (subst (λ y. Below j (operands y)) (same_Some x s at) (reads_below j x all.0))
reads_from j (x ∷ ss) (suc i) k s all at is = reads_from (suc j) ss i k s all.1 at (omega arith)

pub reads_at : (ss : List Step) (k : ℕ) (s : Step) → AllRead 0 ss → slice_get ss k ≡ Some s → Below k (operands s)
reads_at ss k s all at = reads_from 0 ss k k s all at (omega arith)

-- the element that the code read at a place stands there
pub at_read : (ss : List Step) (k : ℕ) (s : Step) → k < length ss → s ≡ slice_index_or ss k s → slice_get ss k ≡ Some s
at_read [] k s lt e = absurd (omega arith)
at_read (y ∷ ss) zero s lt e = ap Some (sym e)
at_read (y ∷ ss) (suc k) s lt e = at_read ss k s (omega arith) e

-- the step that is read at a place can be marked through
pub read_below : (ss : List Step) (k n : ℕ) (s : Step) → AllRead 0 ss → k < length ss → s ≡ slice_index_or ss k s
    → n ≡ length ss → Below n (operands s)
read_below ss k n s all lt e many =
    below_more k n (operands s) (omega arith) (reads_at ss k s all (at_read ss k s lt e))

-- ---- the first ones and the asked one

-- the first n numbers are marked, of so many
pub record AreFirst (many n : ℕ) (marks : List Bool) : Type 0 where
  pub len : length marks ≡ many
  pub these : (k : ℕ) → k < n → is_marked marks k ≡ true
  pub only : (k : ℕ) → is_marked marks k ≡ true → k < n

pub first_none : (many : ℕ) → AreFirst many 0 (replicate many false)
first_none many = record {
  len = length-replicate many false;
  these = λ k lt. absurd (omega arith);
  only = λ k h. absurd (none_marked many k h);
}

pub first_more : (many n : ℕ) (old new : List Bool) → AreFirst many n old → Marks old new (n ∷ [])
    → AreFirst many (n + 1) new
first_more many n old new f m = record {
  len = m.len ∙ f.len;
  these = λ k lt. elim (cases_lt k n) [
    | inl less ↦ m.stays k (f.these k less)
    | inr here ↦ m.these k (0, omega arith, omega arith)
  ];
  only = λ k h. elim (m.only k h) [
    | inl before ↦ (let lt = f.only k before in omega arith)
    | inr here ↦ (let e = one_of n k here in omega arith)
  ];
}
  where
    one_of : (g k : ℕ) → Contains (g ∷ []) k → g ≡ k
    one_of g k (zero, lt, e) = e
    one_of g k (suc i, lt, e) = absurd (omega arith)

-- ---- the cone

module _ (first asked : ℕ) (ss : List Step) where
  -- what is marked once the steps from number i on are done
  pub record IsConeFrom (i : ℕ) (marks : List Bool) : Type 0 where
    pub len : length marks ≡ length ss
    pub first_marked : (k : ℕ) → k < first → is_marked marks k ≡ true
    pub asked_marked : is_marked marks asked ≡ true
    pub closed : (k : ℕ) (s : Step) (a : ℕ) → i ≤ k → slice_get ss k ≡ Some s → is_marked marks k ≡ true
        → Contains (operands s) a → is_marked marks a ≡ true
    pub only : (k : ℕ) → is_marked marks k ≡ true → IsNeeded first asked ss k

  pub cone_start : (n : ℕ) (old marks : List Bool) → n ≡ length ss → AreFirst (length ss) first old
      → Marks old marks (asked ∷ []) → IsConeFrom n marks
  cone_start n old marks all f m = record {
    len = m.len ∙ f.len;
    first_marked = λ k lt. m.stays k (f.these k lt);
    asked_marked = m.these asked (0, omega arith, refl);
    closed = λ k s a above at marked c. let within = slice_get_within ss k s at in absurd (omega arith);
    only = λ k h. elim (m.only k h) [
      | inl before ↦ first_one k (f.only k before)
      | inr here ↦ subst (IsNeeded first asked ss) (one_of asked k here) asked_one
    ];
  }
    where
      one_of : (g k : ℕ) → Contains (g ∷ []) k → g ≡ k
      one_of g k (zero, lt, e) = e
      one_of g k (suc i, lt, e) = absurd (omega arith)

  cone_skip : (i next : ℕ) (marks : List Bool) → next ≡ i + 1 → is_marked marks i ≡ false → IsConeFrom next marks
      → IsConeFrom i marks
  cone_skip i next marks e off c = record {
    len = c.len;
    first_marked = c.first_marked;
    asked_marked = c.asked_marked;
    closed = λ k s a above at marked o. elim (cases_lt i k) [
      | inl later ↦ c.closed k s a (omega arith) at marked o
      | inr here ↦ (let same : k ≡ i = omega arith in
          absurd (false≢true (sym off ∙ ap (is_marked marks) (sym same) ∙ marked)))
    ];
    only = c.only;
  }

  cone_turn : (i next : ℕ) (s : Step) (old marks : List Bool) → AllRead 0 ss → next ≡ i + 1 → slice_get ss i ≡ Some s
      → is_marked old i ≡ true → Marks old marks (operands s) → IsConeFrom next old → IsConeFrom i marks
  cone_turn i next s old marks reads e at on m c = record {
    len = m.len ∙ c.len;
    first_marked = λ k lt. m.stays k (c.first_marked k lt);
    asked_marked = m.stays asked c.asked_marked;
    closed = closed;
    only = λ k h. elim (m.only k h) [
      | inl before ↦ c.only k before
      | inr here ↦ operand i s k (c.only i on) at here
    ];
  }
    where
      was : (k : ℕ) → i ≤ k → is_marked marks k ≡ true → is_marked old k ≡ true
      was k above h = elim (m.only k h) [
        | inl before ↦ before
        | inr here ↦ (let low = below_each i (operands s) k (reads_at ss i s reads at) here in absurd (omega arith))
      ]

      closed : (k : ℕ) (t : Step) (a : ℕ) → i ≤ k → slice_get ss k ≡ Some t → is_marked marks k ≡ true
          → Contains (operands t) a → is_marked marks a ≡ true
      closed k t a above there marked o = elim (cases_lt i k) [
        | inl later ↦ m.stays a (c.closed k t a (omega arith) there (was k above marked) o)
        | inr here ↦ (let same : i ≡ k = omega arith in
            let is : s ≡ t = same_Some s t (sym at ∙ ap (slice_get ss) same ∙ there) in
            m.these a (subst (λ (x : Step). Contains (operands x) a) (sym is) o))
      ]

  pub cone_next : (done : ℕ) (s : Step) (old marks : List Bool) → AllRead 0 ss → done < length ss
      → s ≡ slice_index_or ss (length ss - 1 - done) s
      → (is_marked old (length ss - 1 - done) ≡ true → Marks old marks (operands s))
      → (is_marked old (length ss - 1 - done) ≡ false → marks ≡ old)
      → IsConeFrom (length ss - done) old → IsConeFrom (length ss - (done + 1)) marks
  cone_next done s old marks reads lt e on off c =
      subst (λ (n : ℕ). IsConeFrom n marks) (omega arith) (by (is_marked old i) refl)
    where
      i : ℕ
      i = length ss - 1 - done

      by : (b : Bool) → is_marked old i ≡ b → IsConeFrom i marks
      by true h = cone_turn i (length ss - done) s old marks reads (omega arith) (at_read ss i s (omega arith) e) h
          (on h) c
      by false h = subst (IsConeFrom i) (sym (off h)) (cone_skip i (length ss - done) old (omega arith) h c)

  pub cone_end : (n : ℕ) (marks : List Bool) → n ≡ 0 → IsConeFrom n marks → AreNeeded first asked ss marks
  cone_end n marks e h = record { len = h.len; every = every; only = h.only }
    where
      every : (k : ℕ) → IsNeeded first asked ss k → is_marked marks k ≡ true
      every k (first_one j lt) = h.first_marked j lt
      every k asked_one = h.asked_marked
      every k (operand j s a on at o) = h.closed j s a (omega arith) at (every j on) o

pub below_index : (ns : List ℕ) (i n m : ℕ) → Below n ns → i < length ns → m ≡ n → slice_index_or ns i 0 < m
below_index [] i n m b lt e = absurd (omega arith)
below_index (x ∷ ns) zero n m b lt e = omega (arith, b.0)
below_index (x ∷ ns) (suc i) n m b lt e = below_index ns i n m b.1 (omega arith) e
