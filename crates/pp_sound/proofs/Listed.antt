-- The checks of a function's sites are listed, so its sites are met.
use Rattle.std.proofs.Common.{◌≡◌, ℕ, zero, suc, ◌+◌, ◌<◌, Bool, true, List, [], ◌∷◌, map, length, get_or, Option, Some}
use Rattle.std.proofs.Common.{None, slice_get, refl, sym, ap, ◌∙◌, subst, arith, Contains}
use Rattle.std.specs.List.{list_all}
use Rattle.std.proofs.lemmas.Bool.{and_parts}
use Rattle.std.proofs.lemmas.List.Elements.{All-weaker, All-contains_itself, Contains-append_left}
use Rattle.std.proofs.lemmas.List.Elements.{Contains-append_right}
use Rattle.pp_list.specs.Joined.{joined}
use Rattle.pp_prog.specs.declared.check.CheckKind.{CheckKind}
use Rattle.pp_prog.specs.declared.check.CheckKind.TheVariants as kind
use Rattle.pp_prog.specs.declared.expr.Function.{Function}
use Rattle.pp_prog.specs.declared.id.CheckId.{CheckId}
use Rattle.pp_prog.specs.declared.program.Program.{Program}
use Rattle.pp_prog.specs.declared.types.TypeTable.{TypeTable}
use Rattle.pp_prog.specs.ExprSorts.{is_sorted}
use Rattle.pp_prog.specs.Listing.{Site, plain, division, assertion, precondition, measure, matching, postcondition}
use Rattle.pp_prog.specs.Listing.{carried, function_checks, function_sites}
use Rattle.pp_prog.specs.Valid.{Entry, entry, entry_of, listing, listing_from}
use Rattle.pp_prog.proofs.Sure.{is_valid}
use Rattle.pp_sound.specs.Sound.{IsCheckOf}
use Rattle.pp_sound.proofs.Parts.{IsOwn}
use Rattle.pp_sound.proofs.Sites.{AreMet, IsMet, check_of}

pub all_at : {A : Type 0} (test : A → Bool) (xs : List A) (i : ℕ) (x : A) → list_all test xs ≡ true
    → slice_get xs i ≡ Some x → test x ≡ true
all_at test [] i x h is = cc
all_at test (y ∷ ys) zero x h is = let e : y ≡ x = cc in subst (λ z. test z ≡ true) e (and_parts (test y) _ h).0
all_at test (y ∷ ys) (suc i) x h is = all_at test ys i x (and_parts (test y) _ h).1 is

joined_has : {A B : Type 0} (f : A → List B) (xs : List A) (x : A) (y : B) (k : ℕ) → k < length xs → get_or xs k x ≡ x
    → Contains (f x) y → Contains (joined (map f xs)) y
joined_has f [] x y k lt e has = absurd (omega arith)
joined_has f (z ∷ zs) x y zero lt e has = Contains-append_left (f z) (joined (map f zs)) y
    (subst (λ w. Contains (f w) y) (sym e) has)
joined_has f (z ∷ zs) x y (suc k) lt e has =
    Contains-append_right (f z) (joined (map f zs)) y (joined_has f zs x y k (omega arith) e has)

map_has : {A B : Type 0} (f : A → B) (xs : List A) (x : A) (k : ℕ) → k < length xs → get_or xs k x ≡ x
    → Contains (map f xs) (f x)
map_has f [] x k lt e = absurd (omega arith)
map_has f (z ∷ zs) x zero lt e = (0, omega arith, ap f e)
map_has f (z ∷ zs) x (suc k) lt e = Contains-append_right (f z ∷ []) (map f zs) (f x) (map_has f zs x k (omega arith) e)

map_from : {A B : Type 0} (f : A → B) (xs : List A) (y : B) (k : ℕ) → k < length (map f xs) → get_or (map f xs) k y ≡ y
    → (x : A) × (slice_get xs k ≡ Some x) × (f x ≡ y)
map_from f [] y k lt e = absurd (omega arith)
map_from f (z ∷ zs) y zero lt e = (z, refl, e)
map_from f (z ∷ zs) y (suc k) lt e = map_from f zs y k (omega arith) e

listing_has : (types : TypeTable) (functions fs : List Function) (m j : ℕ) (f : Function) → slice_get fs j ≡ Some f
    → (c : CheckId × CheckKind) → Contains (function_checks types functions f) c
    → Contains (listing_from types functions m fs) (entry_of (m + j) c)
listing_has types functions [] m j f is c has = cc
listing_has types functions (g ∷ fs) m zero f is c has =
    let e : g ≡ f = cc in
    let here : Contains (function_checks types functions g) c =
    subst (λ h. Contains (function_checks types functions h) c) (sym e) has in
    let n : m ≡ m + 0 = omega arith in
    subst (λ k. Contains (listing_from types functions m (g ∷ fs)) (entry_of k c)) n
    (Contains-append_left (map (entry_of m) (function_checks types functions g))
    (listing_from types functions (suc m) fs) (entry_of m c)
    (map_has (entry_of m) (function_checks types functions g) c here.0 here.1 here.2))
listing_has types functions (g ∷ fs) m (suc j) f is c has =
    let n : suc m + j ≡ m + suc j = omega arith in
    subst (λ k. Contains (listing_from types functions m (g ∷ fs)) (entry_of k c)) n
    (Contains-append_right (map (entry_of m) (function_checks types functions g))
    (listing_from types functions (suc m) fs) (entry_of (suc m + j) c)
    (listing_has types functions fs (suc m) j f is c has))

-- a site carries its check
carries_it : (site : Site) (c : CheckId) → check_of site ≡ Some c → (k : CheckKind) × Contains (carried site) (c, k)
carries_it (plain check) c e = cc
carries_it (division None) c e = cc
carries_it (division (Some d)) c e = let same : d ≡ c = cc in
    (kind.Division, (0, omega arith, ap (λ (x : CheckId). (x, kind.Division)) same))
carries_it (assertion d) c e = let same : d ≡ c = cc in
    (kind.Assertion, (0, omega arith, ap (λ (x : CheckId). (x, kind.Assertion)) same))
carries_it (precondition g None) c e = cc
carries_it (precondition g (Some d)) c e = let same : d ≡ c = cc in
    (kind.Precondition, (0, omega arith, ap (λ (x : CheckId). (x, kind.Precondition)) same))
carries_it (measure g None) c e = cc
carries_it (measure g (Some d)) c e = let same : d ≡ c = cc in
    (kind.Measure, (0, omega arith, ap (λ (x : CheckId). (x, kind.Measure)) same))
carries_it (matching s patterns None) c e = cc
carries_it (matching s patterns (Some d)) c e = let same : d ≡ c = cc in
    (kind.Match, (0, omega arith, ap (λ (x : CheckId). (x, kind.Match)) same))
carries_it (postcondition d) c e = let same : d ≡ c = cc in
    (kind.Postcondition, (0, omega arith, ap (λ (x : CheckId). (x, kind.Postcondition)) same))

module _ (p : Program) (i : ℕ) (f : Function) (is : slice_get p.functions i ≡ Some f) where
  -- a check of the function is listed as its
  check_found : (c : CheckId × CheckKind) → Contains (function_checks p.types p.functions f) c → IsCheckOf p i c.0.0
  check_found c has =
      let whole : Contains (listing p.types p.functions) (entry_of i c) =
      subst (λ n. Contains (listing p.types p.functions) (entry_of n c)) (omega arith)
      (listing_has p.types p.functions p.functions 0 i f is c has) in
      let there : Contains (map entry p.checks) (entry_of i c) =
      subst (λ (l : List Entry). Contains l (entry_of i c)) (sym (is_valid p).listed) whole in
      let found = map_from entry p.checks (entry_of i c) there.0 there.1 there.2 in
      let numbered = (is_valid p).numbered there.0 found.0 found.1 in
      record {
        check = found.0;
        listed = ap (slice_get p.checks) (sym (ap (λ (e : Entry). e.0) found.2) ∙ numbered) ∙ found.1;
        owner = ap (λ (e : Entry). e.1) found.2;
      }

  own_from : (o : Option CheckId) → ((c : CheckId) → o ≡ Some c → IsCheckOf p i c.0) → IsOwn p i o
  own_from None h = tt
  own_from (Some c) h = h c refl

  site_met : (site : Site) → Contains (function_sites p.types p.functions f) site → IsMet p i site
  site_met site has = record {
    carries = (is_valid p).carried i f is site has;
    own = own_from (check_of site)
        (λ c e. let k = carries_it site c e in
        check_found (c, k.0) (joined_has carried (function_sites p.types p.functions f) site (c, k.0) has.0 has.1 has.2
        k.1));
  }

  -- the sites of the function are met
  pub function_met : AreMet p i (function_sites p.types p.functions f)
  function_met =
      let sites = function_sites p.types p.functions f in
      record { each = All-weaker (λ site. Contains sites site) (IsMet p i) site_met sites (All-contains_itself sites) }

  -- the expressions of the function have their sorts
  pub function_sorted : is_sorted p.types p.functions f ≡ true
  function_sorted = all_at (is_sorted p.types p.functions) p.functions i f p.sorted is
