-- Cones, ranks and the depths of call trees.
use Rattle.std.proofs.Common.{◌≡◌, ◌⊎◌, ◌<◌, ◌≤◌, ℕ, zero, suc, Bool, List, length, refl, sym, subst, arith, inl, inr}
use Rattle.std.proofs.Common.{⊎_elim, Contains, IsTrue}
use Rattle.std.proofs.lemmas.Bool.Decides.{eqb_tells, leb_tells}
use Rattle.std.proofs.lemmas.Option.{slice_get_cases}
use Rattle.pp_graph.specs.Reaches.{Reaches, SameGroup, by_call, by_more, called_by, calls_of}
use Rattle.pp_graph.specs.Rows.{Tells, bit}
use Rattle.pp_graph.proofs.Decided.{reaches_or_not}
use Rattle.pp_graph.proofs.Paths.{further, nothing}
use Rattle.pp_checks.specs.Closed.{Nests}
use Rattle.pp_checks.specs.Ranks.{CountBelow}
use Rattle.pp_checks.specs.Tables.{IsRankIn}
use Rattle.pp_checks.proofs.Counting.{count_le, count_lt, count_of, count_same, count_within}

module _ (calls : List (List ℕ)) where
  -- g is f, or f reaches it
  abbrev pub Cone : ℕ → ℕ → Type 0
  Cone f g = (f ≡ g) ⊎ Reaches calls f g

  cone_or_not : (f g : ℕ) → Cone f g ⊎ (Cone f g → ⊥)
  cone_or_not f g = elim (eqb_tells f g) [
    | inl e ↦ inl (inl e.1)
    | inr ne ↦ elim (reaches_or_not calls f g) [
      | inl r
          ↦ inl (inr r)
      | inr never ↦ inr (λ c. ⊎_elim ne.1 never c)
    ]
  ]

  -- from a function that f reaches, or is, its cone is within that of f
  cone_within : (f g h : ℕ) → Cone f g → Cone g h → Cone f h
  cone_within f g h (inl e) c = subst (λ k. Cone k h) (sym e) c
  cone_within f g h (inr r) (inl e) = inr (subst (Reaches calls f) e r)
  cone_within f g h (inr r) (inr q) = inr (further calls f g h r q)

  in_cone_of : (f g : ℕ) → SameGroup calls f g → Cone f g × Cone g f
  in_cone_of f g (inl e) = (inl e, inl (sym e))
  in_cone_of f g (inr r) = (inr r.0, inr r.1)

  pub one_rank : (N f g n m : ℕ) → SameGroup calls f g → CountBelow (Cone f) N n → CountBelow (Cone g) N m → n ≡ m
  one_rank N f g n m same a b =
      let both = in_cone_of f g same in
      let le = count_le (Cone f) (Cone g) N n m (λ h lt c. cone_within g f h both.1 c) a b in
      let ge = count_le (Cone g) (Cone f) N m n (λ h lt c. cone_within f g h both.0 c) b a in
      omega (arith, le, ge)

  pub lower_rank : (N f g n m : ℕ) → f < N → Contains (calls_of calls f) g → (SameGroup calls f g → ⊥)
      → CountBelow (Cone f) N n → CountBelow (Cone g) N m → m < n
  lower_rank N f g n m lt called other a b =
      count_lt (Cone g) (Cone f) N m n f (λ h less c. cone_within f g h (inr (by_call f g called)) c) lt (inl refl)
      (back (by_call f g called)) b a
    where
      back : Reaches calls f g → Cone g f → ⊥
      back r (inl e) = other (inl (sym e))
      back r (inr q) = other (inr (r, q))

  -- a deeper bound holds too
  pub nests_more : (n m f : ℕ) → n ≤ m → Nests calls n f → Nests calls m f
  nests_more zero zero f le nests = nests
  nests_more zero (suc m) f le nests = λ g c. absurd (nests g c)
  nests_more (suc n) zero f le nests = absurd (omega arith)
  nests_more (suc n) (suc m) f le nests = λ g c. nests_more n m g (omega arith) (nests g c)

  along : (n f g : ℕ) → Reaches calls f g → Nests calls n f → (m : ℕ) × (m < n) × Nests calls m g
  along zero _ _ (by_call f g c) e = absurd (e g c)
  along (suc n) _ _ (by_call f g c) e = (n, omega arith, e g c)
  along zero _ _ (by_more f g h c r) e = absurd (e g c)
  along (suc n) _ _ (by_more f g h c r) e =
      let p = along n g h r (e g c) in (p.0, omega (arith, p.1), p.2)

  not_recursive : (k n f : ℕ) → n < k → Nests calls n f → Reaches calls f f → ⊥
  not_recursive zero n f lt e r = absurd (omega arith)
  not_recursive (suc k) n f lt e r =
      let p = along n f f r e in not_recursive k p.0 f (omega (arith, p.1)) p.2 r

  -- no function of the cone of a call tree with an end is recursive
  pub nests_acyclic : (n f g : ℕ) → Nests calls n f → Cone f g → Reaches calls g g → ⊥
  nests_acyclic n f g e (inl same) r =
      not_recursive (suc n) n f (omega arith) e (subst (λ k. Reaches calls k k) (sym same) r)
  nests_acyclic n f g e (inr path) r =
      let p = along n f g path e in not_recursive (suc p.0) p.0 g (omega arith) p.2 r

  -- what is no function of the graph calls nothing
  pub past_nests : (k g : ℕ) → length calls ≤ g → Nests calls k g
  past_nests k g past = by k
    where
      none : (h : ℕ) → Contains (calls_of calls g) h → ⊥
      none h c =
          elim (slice_get_cases calls g).1 [
            | inl here ↦ absurd (omega (arith, here.1, past))
            | inr p ↦ nothing h
                (subst (λ o. Contains (called_by o) h) p.1 c)
          ]

      by : (k : ℕ) → Nests calls k g
      by zero = none
      by (suc k) = λ h c. absurd (none h c)

  -- a call tree with an end is at most as deep as its cone has functions
  nests_rank : (m f r k : ℕ) → Nests calls m f → f < length calls → CountBelow (Cone f) (length calls) r → r ≤ k
      → Nests calls k f
  nests_rank zero f r k nests lt count le = nests_more 0 k f (omega arith) nests
  nests_rank (suc m) f r zero nests lt count le =
      absurd (by (count_lt (λ g. ⊥) (Cone f) (length calls) 0 r f (λ g less no. absurd no) lt (inl refl) (λ no. no)
      (none (length calls)) count))
    where
      by : 0 < r → ⊥
      by h = omega (arith, h, le)

      none : (n : ℕ) → CountBelow (λ g. ⊥) n 0
      none zero = refl
      none (suc n) = inr (λ no. no, none n)
  nests_rank (suc m) f r (suc k) nests lt count le =
      λ g c. by g (λ x less cx fits. nests_rank m g x k (nests g c) less cx fits) c (eqb_less g)
    where
      eqb_less : (g : ℕ) → (g < length calls) ⊎ (length calls ≤ g)
      eqb_less g = elim (leb_tells (length calls) g) [ inl e ↦ inr e.1 | inr e ↦ inl (omega (arith, e.1)) ]

      by : (g : ℕ) → ((x : ℕ) → g < length calls → CountBelow (Cone g) (length calls) x → x ≤ k
          → Nests calls k g) → Contains (calls_of calls f) g → (g < length calls) ⊎ (length calls ≤ g)
          → Nests calls k g
      by g again c (inr past) = past_nests k g past
      by g again c (inl less) =
          let rank = count_of (Cone g) (length calls) (cone_or_not g) in
          let lower = lower_rank (length calls) f g r rank.0 lt c (λ same. apart g c same) count rank.1 in
          again rank.0 less rank.1 (omega (arith, lower, le))
        where
          apart : (g : ℕ) → Contains (calls_of calls f) g → SameGroup calls f g → ⊥
          apart g c same = nests_acyclic (suc m) f f nests (inl refl) (round g c same)
            where
              round : (g : ℕ) → Contains (calls_of calls f) g → SameGroup calls f g → Reaches calls f f
              round g c (inl e) = subst (λ k. Reaches calls f k) (sym e) (by_call f g c)
              round g c (inr r) = by_more f g f c r.1

  -- a call tree with an end is at most as deep as there are functions
  pub nests_within : (m f : ℕ) → f < length calls → Nests calls m f → Nests calls (length calls) f
  nests_within m f lt nests =
      let rank = count_of (Cone f) (length calls) (cone_or_not f) in
      nests_rank m f rank.0 (length calls) nests lt rank.1 (count_within (Cone f) (length calls) rank.0 rank.1)

  -- the rank that the rows show
  pub rank_shown : (rows : List (List Bool)) (f r : ℕ) → f < length calls → Tells calls (length calls) rows
      → IsRankIn rows f (length rows) r → CountBelow (Cone f) (length calls) r
  rank_shown rows f r lt t count =
      count_same (λ g. (f ≡ g) ⊎ IsTrue (bit rows f g)) (Cone f) (length calls) r (λ g less. (
        λ c. there g less c,
        λ c. back g less c,
      )) (subst (λ n. IsRankIn rows f n r) t.size count)
    where
      there : (g : ℕ) → g < length calls → (f ≡ g) ⊎ IsTrue (bit rows f g) → Cone f g
      there g less (inl e) = inl e
      there g less (inr b) = inr ((t.tells f g lt less).0 b)

      back : (g : ℕ) → g < length calls → Cone f g → (f ≡ g) ⊎ IsTrue (bit rows f g)
      back g less (inl e) = inl e
      back g less (inr r) = inr ((t.tells f g lt less).1 r)
