-- How often a check is carried: by the sites of a function at most once.
use Rattle.std.proofs.Common.{◌≡◌, ℕ, zero, suc, ◌+◌, ◌<◌, ◌≤◌, nat_eq, Bool, true, false, List, [], ◌∷◌, ◌++◌, map}
use Rattle.std.proofs.Common.{Option, Some, None, slice_get, refl, sym, ap, ◌∙◌, arith, Contains, eq-eqb, eqb-true}
use Rattle.std.proofs.lemmas.Option.{slice_get-map}
use Rattle.std.specs.Option.{option_map}
use Rattle.pp_list.specs.Joined.{joined}
use Rattle.pp_prog.specs.declared.check.Check.{Check}
use Rattle.pp_prog.specs.declared.check.CheckKind.{CheckKind}
use Rattle.pp_prog.specs.declared.expr.Function.{Function}
use Rattle.pp_prog.specs.declared.id.CheckId.{CheckId}
use Rattle.pp_prog.specs.declared.program.Program.{Program}
use Rattle.pp_prog.specs.declared.types.TypeTable.{TypeTable}
use Rattle.pp_prog.specs.Listing.{Site, as_kind, carried, function_checks, function_sites}
use Rattle.pp_prog.specs.Valid.{Entry, entry, entry_of, listing, listing_from}
use Rattle.pp_prog.proofs.Sure.{is_valid}

abbrev pub one_if : Bool → ℕ
one_if true = 1
one_if false = 0

module _ (c : ℕ) where
  -- how often the number stands in the list
  abbrev pub count : List ℕ → ℕ
  count [] = 0
  count (x ∷ xs) = one_if (nat_eq x c) + count xs

  pub count_append : (xs ys : List ℕ) → count (xs ++ ys) ≡ count xs + count ys
  count_append [] ys = omega arith
  count_append (x ∷ xs) ys = omega (arith, count_append xs ys)

  -- the checks with their kinds
  abbrev pub ids : List (CheckId × CheckKind) → List ℕ
  ids xs = map (λ x. x.0.0) xs

  -- a check that isn't counted isn't there
  pub uncounted : (k : CheckKind) (check : Option CheckId) (d : CheckId) → d.0 ≡ c → count (ids (as_kind k check)) ≡ 0
      → check ≡ Some d → ⊥
  uncounted k None d same none e = cc
  uncounted k (Some x) d same none e =
      let one : x ≡ d = cc in
      absurd (omega (arith, ap one_if (eq-eqb x.0 c (ap (λ (z : CheckId). z.0) one ∙ same)), none))

  -- a number that stands in the list is counted
  pub count_has : (xs : List ℕ) → Contains xs c → 1 ≤ count xs
  count_has [] has = absurd (omega (arith, has.1))
  count_has (x ∷ xs) (zero, lt, is) = omega (arith, ap one_if (eq-eqb x c is))
  count_has (x ∷ xs) (suc k, lt, is) = omega (arith, count_has xs (k, omega (arith, lt), is))

  ids_append : (xs ys : List (CheckId × CheckKind)) → count (ids (xs ++ ys)) ≡ count (ids xs) + count (ids ys)
  ids_append [] ys = omega arith
  ids_append (x ∷ xs) ys = omega (arith, ids_append xs ys)

  -- how often sites carry the check
  abbrev pub places : List Site → ℕ
  places [] = 0
  places (s ∷ ss) = count (ids (carried s)) + places ss

  pub places_append : (xs ys : List Site) → places (xs ++ ys) ≡ places xs + places ys
  places_append [] ys = omega arith
  places_append (x ∷ xs) ys = omega (arith, places_append xs ys)

  places_are : (sites : List Site) → count (ids (joined (map carried sites))) ≡ places sites
  places_are [] = refl
  places_are (s ∷ ss) = omega (arith, ids_append (carried s) (joined (map carried ss)), places_are ss)

  -- ---- a list whose numbers are its places

  abbrev AreNumbered : ℕ → List ℕ → Type 0
  AreNumbered start xs = (i x : ℕ) → slice_get xs i ≡ Some x → x ≡ start + i

  tail_numbered : (start x : ℕ) (xs : List ℕ) → AreNumbered start (x ∷ xs) → AreNumbered (suc start) xs
  tail_numbered start x xs h i y is = omega (arith, h (suc i) y is)

  none_before : (start : ℕ) (xs : List ℕ) → AreNumbered start xs → c < start → count xs ≡ 0
  none_before start [] h lt = refl
  none_before start (x ∷ xs) h lt =
      by (nat_eq x c) refl (none_before (suc start) xs (tail_numbered start x xs h) (omega (arith, lt)))
    where
      by : (t : Bool) → nat_eq x c ≡ t → count xs ≡ 0 → one_if (nat_eq x c) + count xs ≡ 0
      by true e rest = absurd (omega (arith, eqb-true x c e, h 0 x refl, lt))
      by false e rest = omega (arith, ap one_if e, rest)

  at_most_once : (start : ℕ) (xs : List ℕ) → AreNumbered start xs → count xs ≤ 1
  at_most_once start [] h = omega arith
  at_most_once start (x ∷ xs) h = by (nat_eq x c) refl (at_most_once (suc start) xs (tail_numbered start x xs h))
    where
      by : (t : Bool) → nat_eq x c ≡ t → count xs ≤ 1 → one_if (nat_eq x c) + count xs ≤ 1
      by true e rest =
          let none = none_before (suc start) xs (tail_numbered start x xs h)
          (omega (arith, eqb-true x c e, h 0 x refl)) in
          omega (arith, ap one_if e, none)
      by false e rest = omega (arith, ap one_if e, rest)

  -- ---- the checks of a program

  abbrev numbers : List Entry → List ℕ
  numbers es = map (λ e. e.0) es

  numbers_append : (xs ys : List Entry) → count (numbers (xs ++ ys)) ≡ count (numbers xs) + count (numbers ys)
  numbers_append [] ys = omega arith
  numbers_append (x ∷ xs) ys = omega (arith, numbers_append xs ys)

  numbers_of : (f : ℕ) (xs : List (CheckId × CheckKind)) → count (numbers (map (entry_of f) xs)) ≡ count (ids xs)
  numbers_of f [] = refl
  numbers_of f (x ∷ xs) = omega (arith, numbers_of f xs)

  within_listing : (types : TypeTable) (functions fs : List Function) (m j : ℕ) (f : Function) → slice_get fs j ≡ Some f
      → count (ids (function_checks types functions f)) ≤ count (numbers (listing_from types functions m fs))
  within_listing types functions [] m j f is = cc
  within_listing types functions (g ∷ fs) m zero f is =
      let same : g ≡ f = cc in
      let here : count (ids (function_checks types functions g)) ≡ count (ids (function_checks types functions f)) =
      ap (λ (h : Function). count (ids (function_checks types functions h))) same in
      omega (
        arith,
        here,
        numbers_of m (function_checks types functions g),
        numbers_append (map (entry_of m) (function_checks types functions g)) (listing_from types functions (suc m) fs),
      )
  within_listing types functions (g ∷ fs) m (suc j) f is =
      omega (
        arith,
        within_listing types functions fs (suc m) j f is,
        numbers_append (map (entry_of m) (function_checks types functions g)) (listing_from types functions (suc m) fs),
      )

  numbered : (checks : List Check) → ((i : ℕ) (k : Check) → slice_get checks i ≡ Some k → k.id.0 ≡ i)
      → AreNumbered 0 (numbers (map entry checks))
  numbered checks h i x is = from (slice_get checks i) refl
    where
      from : (o : Option Check) → slice_get checks i ≡ o → x ≡ 0 + i
      from None e =
          let no : None ≡ Some x = sym (slice_get-map (λ (e : Entry). e.0) (map entry checks) i ∙ ap
          (option_map (λ (e : Entry). e.0)) (slice_get-map entry checks i ∙ ap (option_map entry) e)) ∙ is in cc
      from (Some k) e =
          let both : Some k.id.0 ≡ Some x = sym (slice_get-map (λ (e : Entry). e.0) (map entry checks) i ∙ ap
          (option_map (λ (e : Entry). e.0)) (slice_get-map entry checks i ∙ ap (option_map entry) e)) ∙ is in
          let same : k.id.0 ≡ x = cc in omega (arith, h i k e, same)

  -- the sites of a function carry the check at most once
  pub carried_once : (p : Program) (i : ℕ) (f : Function) → slice_get p.functions i ≡ Some f
      → places (function_sites p.types p.functions f) ≤ 1
  carried_once p i f is =
      let v = is_valid p in
      let once = at_most_once 0 (numbers (map entry p.checks)) (numbered p.checks v.numbered) in
      let all : count (numbers (map entry p.checks)) ≡ count (numbers (listing p.types p.functions)) = ap
      (λ es. count (numbers es)) v.listed in
      omega (
        arith,
        once,
        all,
        within_listing p.types p.functions p.functions 0 i f is,
        places_are
            (function_sites p.types p.functions f),
      )
