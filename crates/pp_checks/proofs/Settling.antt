-- The depths of call trees, one depth after another.
use Rattle.std.proofs.Common.{◌≡◌, ◌↔◌, ◌⊎◌, ◌<◌, ◌≤◌, ◌+◌, ℕ, zero, suc, nat_lt, Bool, true, false, ◌&&◌, List, []}
use Rattle.std.proofs.Common.{◌∷◌, length, replicate, Option, Some, None, slice_get, slice_set, refl, sym, ap, ◌∙◌}
use Rattle.std.proofs.Common.{subst, arith, inl, inr, Contains, nat_eq, nat_le, ◌≢◌}
use Rattle.std.specs.List.{list_all}
use Rattle.std.proofs.lemmas.Bool.Decides.{eqb_tells, leb_tells}
use Rattle.std.proofs.lemmas.Bool.{lt-ltb, ltb-true}
use Rattle.std.proofs.lemmas.List.{length-replicate}
use Rattle.std.proofs.lemmas.Option.{slice_get_cases, slice_get_within}
use Rattle.pp_graph.specs.Reaches.{calls_of}
use Rattle.pp_checks.specs.Closed.{IsNesting, Nests}
use Rattle.pp_checks.specs.Plan.{AreOf}
use Rattle.pp_checks.specs.Tables.{AreSettled, AreSettledTo, IsSettled, is_before, is_less, is_unknown, is_unset}
use Rattle.pp_checks.proofs.Cones.{nests_more, nests_within, past_nests}

first_in : (g : ℕ) (gs : List ℕ) → Contains (g ∷ gs) g
first_in g gs = (0, omega arith, refl)

later_in : (g h : ℕ) (gs : List ℕ) → Contains gs h → Contains (g ∷ gs) h
later_in g h gs c = (suc c.0, omega (arith, c.1), c.2)

one_of : (g h : ℕ) (gs : List ℕ) → Contains (g ∷ gs) h → (g ≡ h) ⊎ Contains gs h
one_of g h gs (zero, lt, is) = inl is
one_of g h gs (suc k, lt, is) = inr (k, omega (arith, lt), is)

-- a test of all elements, and what it tells of each
all_iff : (p : ℕ → Bool) (P : ℕ → Type 0) → ((g : ℕ) → (p g ≡ true) ↔ P g) → (gs : List ℕ)
    → (list_all p gs ≡ true) ↔ ((g : ℕ) → Contains gs g → P g)
all_iff p P tells [] = (λ e g c. absurd (let lt = c.1 in omega arith), λ all. refl)
all_iff p P tells (g ∷ gs) = split (all_iff p P tells gs)
  where
    both : (a b : Bool) → a && b ≡ true → (a ≡ true) × (b ≡ true)
    both true b h = (refl, h)
    both false b h = cc

    by : (h : ℕ) → P g → ((x : ℕ) → Contains gs x → P x) → (g ≡ h) ⊎ Contains gs h → P h
    by h first rest (inl e) = subst P e first
    by h first rest (inr c) = rest h c

    split : (list_all p gs ≡ true) ↔ ((x : ℕ) → Contains gs x → P x) → (list_all p (g ∷ gs) ≡ true) ↔ ((x : ℕ)
        → Contains (g ∷ gs) x → P x)
    split rest = (
      λ e h c. let b = both (p g) (list_all p gs) e in by h ((tells g).0 b.0) (rest.0 b.1) (one_of g h gs c),
      λ all. rw ((tells g).1 (all g (first_in g gs))) (rest.1 (λ h c. all h (later_in g h gs c))),
    )

module _ (calls : List (List ℕ)) where
  -- what is known of g, for the depth below n
  known_of : (n i : ℕ) (depths : List (Option ℕ)) → AreSettledTo calls n i depths → (g : ℕ) (o : Option ℕ)
      → slice_get depths g ≡ Some o → IsSettled calls n g o ⊎ IsSettled calls (suc n) g o
  known_of n i depths s g o is =
      elim (leb_tells i g) [ inl e ↦ inl (s.left g o e.1 is) | inr e ↦ inr (s.done g o e.1 is) ]

  none_before : (n : ℕ) (g : ℕ) → ((m : ℕ) → m < suc n → Nests calls m g → ⊥) → (false ≡ true) ↔ Nests calls n g
  none_before n g never = (λ e. let no : false ≡ true = e in cc, λ nests. absurd (never n (omega arith) nests))

  depth_before : (n k g : ℕ) → ((m : ℕ) → Nests calls m g ↔ (k ≤ m)) → (nat_lt k (suc n) ≡ true) ↔ Nests calls n g
  depth_before n k g tells = (
    λ e. (tells n).1 (omega (arith, ltb-true k (suc n) e)),
    λ nests. lt-ltb k (suc n)
        (omega (arith, (tells n).0 nests)),
  )

  less_tells : (n g : ℕ) (o : Option ℕ) → IsSettled calls (suc n) g o ⊎ IsSettled calls (suc (suc n)) g o
      → (is_less (Some o) (suc n) ≡ true) ↔ Nests calls n g
  less_tells n g None (inl never) = none_before n g never
  less_tells n g None (inr never) = none_before n g (λ m lt. never m (omega arith))
  less_tells n g (Some k) (inl known) = depth_before n k g known.1
  less_tells n g (Some k) (inr known) = depth_before n k g known.1

  before_tells : (n i : ℕ) (depths : List (Option ℕ)) → AreSettledTo calls (suc n) i depths → (g : ℕ)
      → (is_before depths (suc n) g ≡ true) ↔ Nests calls n g
  before_tells n i depths s g = by (slice_get depths g) refl
    where
      by : (r : Option (Option ℕ)) → slice_get depths g ≡ r → (is_less r (suc n) ≡ true) ↔ Nests calls n g
      by None e =
          (λ t. past_nests calls n g (past e), λ nests. lt-ltb 0 (suc n) (omega arith))
        where
          past : slice_get depths g ≡ None → length calls ≤ g
          past e =
              elim (slice_get_cases depths g).1 [
                | inl here ↦ absurd (let no : None ≡ Some here.0 = sym e
                    ∙ here.2 in cc)
                | inr p ↦ omega (arith, p.0, s.size)
              ]
      by (Some o) e = less_tells n g o (known_of (suc n) i depths s g o e)

  never_zero : (n : ℕ) (r : Option (Option ℕ)) → (is_less r 0 ≡ true) → ⊥
  never_zero n None e = let no : false ≡ true = e in cc
  never_zero n (Some None) e = let no : false ≡ true = e in cc
  never_zero n (Some (Some k)) e = absurd (let lt = ltb-true k 0 e in omega arith)

  -- all called functions have less, exactly where the call tree is at most this deep
  nests_tells : (n i f : ℕ) (depths : List (Option ℕ)) → AreSettledTo calls n i depths
      → (list_all (is_before depths n) (calls_of calls f) ≡ true) ↔ Nests calls n f
  nests_tells zero i f depths s =
      all_iff (is_before depths 0) (λ g. ⊥) (λ g. (never_zero 0 (slice_get depths g), λ no. absurd no)) (calls_of
      calls f)
  nests_tells (suc n) i f depths s =
      all_iff (is_before depths (suc n)) (Nests calls n) (before_tells n i depths s) (calls_of calls f)

  pub settled_start : (n : ℕ) (depths : List (Option ℕ)) → AreSettled calls n depths → AreSettledTo calls n 0 depths
  settled_start n depths s =
      record { size = s.size; done = λ f o lt. absurd (omega (arith, lt)); left = λ f o le is. s.each f o is }

  pub settled_end : (n i : ℕ) (depths : List (Option ℕ)) → length calls ≤ i → AreSettledTo calls n i depths
      → AreSettled calls (n + 1) depths
  settled_end n i depths over s = record {
    size = s.size;
    each = λ f o is. subst (λ m. IsSettled calls m f o) (one_more n) (s.done f o (omega (
      arith,
      over,
      s.size,
      slice_get_within depths f o is,
    )) is);
  }
    where
      one_more : (n : ℕ) → suc n ≡ n + 1
      one_more n = omega arith

  -- what holds of one function more
  settled_next : (n f : ℕ) (depths : List (Option ℕ)) → AreSettledTo calls n f depths → ((o : Option ℕ)
      → slice_get depths f ≡ Some o → IsSettled calls (suc n) f o) → AreSettledTo calls n (f + 1) depths
  settled_next n f depths s here = record {
    size = s.size;
    done = λ g o lt is. by g o lt is (eqb_tells g f);
    left = λ g o le is. s.left g o (omega arith) is;
  }
    where
      by : (g : ℕ) (o : Option ℕ) → g < f + 1 → slice_get depths g ≡ Some o
          → ((nat_eq g f ≡ true) × (g ≡ f)) ⊎ ((nat_eq g f ≡ false) × (g ≢ f)) → IsSettled calls (suc n) g o
      by g o lt is (inl e) =
          subst (λ k. IsSettled calls (suc n) k o) (sym e.1) (here o (ap (slice_get depths) (sym e.1) ∙ is))
      by g o lt is (inr e) = s.done g o (omega (arith, e.1)) is

  pub settled_known : (n f : ℕ) (depths : List (Option ℕ)) → AreSettledTo calls n f depths
      → is_unknown depths f ≡ false → AreSettledTo calls n (f + 1) depths
  settled_known n f depths s known = settled_next n f depths s (λ o is. by o is (s.left f o (omega arith) is))
    where
      by : (o : Option ℕ) → slice_get depths f ≡ Some o → IsSettled calls n f o → IsSettled calls (suc n) f o
      by None is old = let no : true ≡ false = ap is_unset (sym is) ∙ known in cc
      by (Some k) is old = (omega (arith, old.0), old.1)

  unset_is : (depths : List (Option ℕ)) (f : ℕ) → is_unknown depths f ≡ true → slice_get depths f ≡ Some None
  unset_is depths f unknown = by (slice_get depths f) refl unknown
    where
      by : (r : Option (Option ℕ)) → slice_get depths f ≡ r → is_unset r ≡ true → r ≡ Some None
      by None e u = let no : false ≡ true = u in cc
      by (Some None) e u = refl
      by (Some (Some k)) e u = let no : false ≡ true = u in cc

  never_before : (n f : ℕ) (depths : List (Option ℕ)) → AreSettledTo calls n f depths
      → is_unknown depths f ≡ true → (m : ℕ) → m < n → Nests calls m f → ⊥
  never_before n f depths s unknown = s.left f None (omega arith) (unset_is depths f unknown)

  pub settled_left : (n f : ℕ) (depths : List (Option ℕ)) → AreSettledTo calls n f depths
      → is_unknown depths f ≡ true → list_all (is_before depths n) (calls_of calls f) ≡ false
      → AreSettledTo calls n (f + 1) depths
  settled_left n f depths s unknown some = settled_next n f depths s (λ o is. by o is)
    where
      never : (m : ℕ) → m < suc n → Nests calls m f → ⊥
      never m lt nests =
          elim (eqb_tells m n) [
            | inl e ↦ absurd (let no : false ≡ true = sym some
                ∙ (nests_tells n f f depths s).1 (subst (λ k. Nests calls k f) e.1 nests) in
                cc)
            | inr e ↦ never_before n f depths s unknown m (omega (arith, e.1)) nests
          ]

      by : (o : Option ℕ) → slice_get depths f ≡ Some o → IsSettled calls (suc n) f o
      by o is =
          let both : Some None ≡ Some o = sym (unset_is depths f unknown) ∙ is in
          let same : None ≡ o = (cc) in
          subst (IsSettled calls (suc n) f) same never

  set_here : (depths : List (Option ℕ)) (f : ℕ) (x o : Option ℕ) → slice_get (slice_set depths f x) f ≡ Some o → x ≡ o
  set_here [] f x o is = let no : None ≡ Some o = is in cc
  set_here (d ∷ depths) zero x o is = let both : Some x ≡ Some o = is in cc
  set_here (d ∷ depths) (suc f) x o is = set_here depths f x o is

  set_other : (depths : List (Option ℕ)) (f g : ℕ) (x : Option ℕ) → (g ≡ f → ⊥)
      → slice_get (slice_set depths f x) g ≡ slice_get depths g
  set_other [] f g x ne = refl
  set_other (d ∷ depths) zero zero x ne = absurd (ne refl)
  set_other (d ∷ depths) zero (suc g) x ne = refl
  set_other (d ∷ depths) (suc f) zero x ne = refl
  set_other (d ∷ depths) (suc f) (suc g) x ne = set_other depths f g x (λ e. ne (ap suc e))

  set_length : (depths : List (Option ℕ)) (f : ℕ) (x : Option ℕ) → length (slice_set depths f x) ≡ length depths
  set_length [] f x = refl
  set_length (d ∷ depths) zero x = refl
  set_length (d ∷ depths) (suc f) x = ap suc (set_length depths f x)

  pub settled_set : (n f : ℕ) (depths : List (Option ℕ)) → AreSettledTo calls n f depths
      → is_unknown depths f ≡ true → list_all (is_before depths n) (calls_of calls f) ≡ true
      → AreSettledTo calls n (f + 1) (slice_set depths f (Some n))
  settled_set n f depths s unknown all = record {
    size = set_length depths f (Some n) ∙ s.size;
    done = λ g o lt is. by g o lt is (eqb_tells g f);
    left = λ g o le is. s.left g o (omega arith) (sym (set_other depths f g (Some n) (λ e. absurd (omega (
      arith,
      e,
    )))) ∙ is);
  }
    where
      nests : Nests calls n f
      nests = (nests_tells n f f depths s).0 all

      here : IsSettled calls (suc n) f (Some n)
      here = (omega arith, λ m. (λ h. by_less m h (leb_tells n m), λ le. nests_more calls n m f le nests))
        where
          by_less : (m : ℕ) → Nests calls m f → ((nat_le n m ≡ true) × (n ≤ m)) ⊎ ((nat_le n m ≡ false) × (m < n))
              → n ≤ m
          by_less m h (inl e) = e.1
          by_less m h (inr e) = absurd (never_before n f depths s unknown m e.1 h)

      by : (g : ℕ) (o : Option ℕ) → g < f + 1 → slice_get (slice_set depths f (Some n)) g ≡ Some o
          → ((nat_eq g f ≡ true) × (g ≡ f)) ⊎ ((nat_eq g f ≡ false) × (g ≢ f)) → IsSettled calls (suc n) g o
      by g o lt is (inl e) =
          let same = set_here depths f (Some n) o (ap (slice_get (slice_set depths f (Some n))) (sym e.1) ∙ is) in
          subst (λ k. IsSettled calls (suc n) k o) (sym e.1) (subst (IsSettled calls (suc n) f) same here)
      by g o lt is (inr e) =
          s.done g o (omega (arith, e.1)) (sym (set_other depths f g (Some n) e.1) ∙ is)

  none_set : (n f : ℕ) (o : Option ℕ) → slice_get (replicate n None) f ≡ Some o → None ≡ o
  none_set zero f o is = let no : None ≡ Some o = is in cc
  none_set (suc n) zero o is = let both : Some None ≡ Some o = is in cc
  none_set (suc n) (suc f) o is = none_set n f o is

  pub settled_none : AreSettled calls 0 (replicate (length calls) None)
  settled_none = record {
    size = length-replicate (length calls) None;
    each = λ f o is. subst (IsSettled calls 0 f) (none_set (length calls) f o is) (λ m lt. absurd (omega (
      arith,
      lt,
    )));
  }

  -- after all depths up to the number of functions
  pub settled_all : (n : ℕ) (depths : List (Option ℕ)) → length calls < n → AreSettled calls n depths
      → AreOf (IsNesting calls) (length calls) depths
  settled_all n depths over s =
      record {
        size = s.size;
        each = λ f o is. by f o (omega (arith, s.size, slice_get_within depths f o is))
            (s.each f o is);
      }
    where
      by : (f : ℕ) (o : Option ℕ) → f < length calls → IsSettled calls n f o → IsNesting calls f o
      by f None lt never = λ m nests. never (length calls) over (nests_within calls m f lt nests)
      by f (Some k) lt known = known.1
