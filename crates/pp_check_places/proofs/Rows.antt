-- The checks of all functions, each with its offset.
use Rattle.std.proofs.Common.{◌≡◌, ◌≤◌, ℕ, suc, true, List, [], ◌∷◌, ◌++◌, length, map, All, Contains, Option, Some}
use Rattle.std.proofs.Common.{None, refl, sym, ap, ◌∙◌, subst, arith, ⊎_elim}
use Rattle.std.specs.Prelude.{slice_get}
use Rattle.std.specs.List.{list_all}
use Rattle.std.proofs.lemmas.Bool.{and_parts}
use Rattle.std.proofs.lemmas.List.{map-append}
use Rattle.std.proofs.lemmas.List.Elements.{All-contains, Contains-append_cases}
use Rattle.std.proofs.lemmas.Option.{slice_get_cases, slice_get_past}
use Rattle.pp_check_places.proofs.Apart.{two_differ}
use Rattle.pp_check_places.proofs.Chosen.{Differ, carried_kind, choose}
use Rattle.pp_check_places.proofs.Defs.{def_checks, def_differ, def_offsets_are, def_stands}
use Rattle.pp_check_places.proofs.Functions.{function_kinds}
use Rattle.pp_check_places.proofs.Marked.{KindAt, kind_of, offset_of}
use Rattle.pp_instances.proofs.Kept.{nothing_in}
use Rattle.pp_instances.specs.declared.member.Instance.{Instance}
use Rattle.pp_instances.specs.declared.member.Member.{Member}
use Rattle.pp_order.proofs.Listing.{at_place}
use Rattle.pp_order.proofs.Made.{in_head, in_tail, in_more}
use Rattle.pp_prog.specs.ExprSorts.{is_sorted}
use Rattle.pp_prog.specs.Listing.{function_checks, function_sites}
use Rattle.pp_prog.specs.Valid.{Entry, entry_of, listing_from}
use Rattle.pp_prog.specs.declared.check.CheckKind.{CheckKind}
use Rattle.pp_prog.specs.declared.expr.Function.{Function}
use Rattle.pp_prog.specs.declared.id.CheckId.{CheckId}
use Rattle.pp_prog.specs.declared.place.Place.{Place}
use Rattle.pp_prog.specs.declared.program.Program.{Program}
use Rattle.pp_translation.specs.Bare.{bare_function}
use Rattle.pp_translation.specs.Functions.{function_if, function_of, functions_of, place_at}
use Rattle.pp_translation.specs.Places.{offsets_or_none, places_of, told}
use Rattle.pp_typed.specs.Apart.{IsApart}
use Rattle.pp_typed.specs.Stand.{DefStands, Stands}
use Rattle.pp_typed.specs.declared.typed.Typed.{Typed}
use Rattle.pp_typed.specs.declared.typed.TypedDef.{TypedDef}

-- the number of a function, and a kind of check at an offset
abbrev pub Row : Type 0
Row = ℕ × KindAt

abbrev pub row : ℕ → KindAt → Row
row n k = (n, k)

abbrev pub Kind : Type 0
Kind = ℕ × CheckKind

abbrev pub of_kind : ℕ → CheckKind → Kind
of_kind n k = (n, k)

abbrev pub row_kind : Row → Kind
row_kind r = (r.0, r.1.0)

abbrev pub entry_kind : Entry → Kind
entry_kind e = (e.1, e.2)

-- numbers of declarations don't fall
abbrev pub Rises : List Instance → Type 0
Rises [] = Unit {0}
Rises (i ∷ is) = ((j : Instance) → Contains is j → i.number ≤ j.number) × Rises is

twice : {A B C : Type 0} (f : B → C) (g : A → B) (xs : List A) → map f (map g xs) ≡ map (λ x. f (g x)) xs
twice f g [] = refl
twice f g (x ∷ xs) = ap (λ l. f (g x) ∷ l) (twice f g xs)

-- an element of a mapped list is that of an element
unmapped : {A B : Type 0} (f : A → B) (xs : List A) (y : B) → Contains (map f xs) y
    → (x : A) × Contains xs x × (f x ≡ y)
unmapped f [] y has = absurd (nothing_in y has)
unmapped f (x ∷ xs) y has =
    in_more (f x) y (map f xs) has (λ is. (x, in_head x xs, is))
    (λ later. (let t = unmapped f xs y later in (t.0, in_tail x t.0 xs t.1, t.2)))

rows_differ : (n : ℕ) (ks : List KindAt) → Differ ks → Differ (map (row n) ks)
rows_differ n [] differ = tt
rows_differ n (k ∷ ks) differ = (
  λ has. (let t = unmapped (row n) ks (row n k) has in
      differ.0 (subst (Contains ks) (ap (λ (r : Row). r.1) t.2) t.1)),
  rows_differ n ks differ.1,
)

entries_kinds : (n : ℕ) (cs : List (CheckId × CheckKind))
    → map entry_kind (map (entry_of n) cs) ≡ map (of_kind n) (map carried_kind cs)
entries_kinds n [] = refl
entries_kinds n (c ∷ cs) = ap (λ l. (n, c.1) ∷ l) (entries_kinds n cs)

at_def : (P : TypedDef → Type 0) (defs : List TypedDef) (f : ℕ) (d : TypedDef) → All P defs
    → slice_get defs f ≡ Some d → P d
at_def P defs f d all there = All-contains P defs d all (at_place defs f d there)

past_end : {X : Type 0} (xs : List X) (n : ℕ) → slice_get xs n ≡ None → length xs ≤ n
past_end xs n none =
    ⊎_elim (λ inside. (let never : None ≡ Some inside.0 = sym none ∙ inside.2 in cc)) (λ past. past.0)
    (slice_get_cases xs n).1

same_head : (f g : Function) (fs gs : List Function) → f ∷ fs ≡ g ∷ gs → f ≡ g
same_head f g fs gs is = cc

same_tail : (f g : Function) (fs gs : List Function) → f ∷ fs ≡ g ∷ gs → fs ≡ gs
same_tail f g fs gs is = cc

no_head : (f : Function) (fs : List Function) → f ∷ fs ≡ [] → ⊥
no_head f fs is = cc

module _ (typed : Typed) (texts : List (List ℕ)) (p : Program) (roots functions : List Member) where
  abbrev pub placed : Row → Place
  placed r = place_at texts r.1.1

  -- the checks of functions, the first of which has the number n, each with its offset
  pub record AreRows (n : ℕ) (fs : List Function) (is : List Instance) : Type 0 where
    pub rows : List Row
    pub kinds : map row_kind rows ≡ map entry_kind (listing_from p.types p.functions n fs)
    pub places : map placed rows ≡ places_of typed texts p.types p.functions fs is
    pub from : (r : Row) → Contains rows r → n ≤ r.0
    pub stands : (r : Row) → Contains rows r → Stands texts r.1.1
    pub differ : Differ rows

  no_rows : (n : ℕ) (is : List Instance) → AreRows n [] is
  no_rows n is = record {
    rows = [];
    kinds = refl;
    places = refl;
    from = λ r has. absurd (nothing_in r has);
    stands = λ r has. absurd (nothing_in r has);
    differ = tt;
  }

  more_rows : (n : ℕ) (f : Function) (fs : List Function) (i : Instance) (is : List Instance) (d : TypedDef)
      → slice_get typed.defs i.number ≡ Some d → bare_function f ≡ function_of typed texts roots functions i d
      → is_sorted p.types p.functions f ≡ true → IsApart d → DefStands texts d → AreRows (suc n) fs is
      → AreRows n (f ∷ fs) (i ∷ is)
  more_rows n f fs i is d there bare sorted apart stands more =
      let ss = function_sites p.types p.functions f in
      let cs = choose ss (def_checks d) (function_kinds typed texts roots functions i d p f bare sorted) in
      let own = map (row n) cs.chosen in
      let os = offsets_or_none (slice_get typed.defs i.number) in
      let number = λ (r : Row) (left : Contains own r).
      let t = unmapped (row n) cs.chosen r left in ap (λ (q : Row). q.0) t.2 in
      record {
        rows = own ++ more.rows;
        kinds = map-append row_kind own more.rows
            ∙ ap (λ l. l ++ map row_kind more.rows)
            (twice row_kind (row n) cs.chosen ∙ sym (twice (of_kind n) kind_of cs.chosen)
            ∙ ap (map (of_kind n)) cs.kinds
            ∙ sym (entries_kinds n (function_checks p.types p.functions f)))
            ∙ ap (λ l. map entry_kind (map (entry_of n) (function_checks p.types p.functions f)) ++ l) more.kinds
            ∙ sym (map-append entry_kind (map (entry_of n) (function_checks p.types p.functions f))
            (listing_from p.types p.functions (suc n) fs));
        places = map-append placed own more.rows
            ∙ ap (λ l. l ++ map placed more.rows)
            (twice placed (row n) cs.chosen ∙ sym (twice (place_at texts) offset_of cs.chosen)
            ∙ ap (map (place_at texts)) (cs.offsets ∙ ap (told ss) (def_offsets_are typed roots functions i.args d)
            ∙ ap (λ o. told ss (offsets_or_none o)) (sym there)))
            ∙ ap (λ l. map (place_at texts) (told ss os) ++ l) more.places;
        from = λ r has. ⊎_elim
            (λ left. (let e = number r left in omega (arith, e)))
            (λ right. (let le = more.from r right in omega (arith, le))) (Contains-append_cases own more.rows r has);
        stands = λ r has. ⊎_elim
            (λ left. (let t = unmapped (row n) cs.chosen r left in
            subst (λ (q : Row). Stands texts q.1.1) t.2
            (def_stands typed roots functions i.args d texts stands t.0 (cs.among t.0 t.1))))
            (more.stands r) (Contains-append_cases own more.rows r has);
        differ = two_differ own more.rows (rows_differ n cs.chosen (cs.differ (def_differ d apart))) more.differ
            (λ r left right.
            (let e = number r left in let le = more.from r right in absurd (omega (arith, e, le))));
      }

  -- functions that are past the end are none
  none_left : (is : List Instance) (n : ℕ) → length typed.defs ≤ n → ((j : Instance) → Contains is j → n ≤ j.number)
      → functions_of typed texts roots functions is ≡ []
  none_left [] n past up = refl
  none_left (i ∷ is) n past up =
      let le = up i (in_head i is) in
      ap (λ o. function_if typed texts roots functions i o ++ functions_of typed texts roots functions is)
      (slice_get_past typed.defs i.number (omega (arith, le)))
      ∙ none_left is n past (λ j has. up j (in_tail i j is has))

  module _ (apart : All IsApart typed.defs) (stand : All (DefStands texts) typed.defs) where
    rows_by : (n : ℕ) (f : Function) (fs : List Function) (i : Instance) (is : List Instance) (o : Option TypedDef)
        → slice_get typed.defs i.number ≡ o
        → bare_function f ∷ map bare_function fs
        ≡ function_if typed texts roots functions i o ++ functions_of typed texts roots functions is
        → is_sorted p.types p.functions f ≡ true → ((j : Instance) → Contains is j → i.number ≤ j.number)
        → (map bare_function fs ≡ functions_of typed texts roots functions is → AreRows (suc n) fs is)
        → AreRows n (f ∷ fs) (i ∷ is)
    rows_by n f fs i is None there bare sorted up more =
        absurd (no_head _ _ (bare ∙ none_left is i.number (past_end typed.defs i.number there) up))
    rows_by n f fs i is (Some d) there bare sorted up more =
        more_rows n f fs i is d there (same_head _ _ _ _ bare) sorted (at_def IsApart typed.defs i.number d apart there)
        (at_def (DefStands texts) typed.defs i.number d stand there) (more (same_tail _ _ _ _ bare))

    pub rows_of : (n : ℕ) (fs : List Function) (is : List Instance)
        → map bare_function fs ≡ functions_of typed texts roots functions is
        → list_all (is_sorted p.types p.functions) fs ≡ true → Rises is → AreRows n fs is
    rows_of n [] is bare sorted rises = no_rows n is
    rows_of n (f ∷ fs) [] bare sorted rises = absurd (no_head _ _ bare)
    rows_of n (f ∷ fs) (i ∷ is) bare sorted rises =
        let both = and_parts (is_sorted p.types p.functions f) (list_all (is_sorted p.types p.functions) fs) sorted in
        rows_by n f fs i is (slice_get typed.defs i.number) refl bare both.0 rises.0
        (λ rest. rows_of (suc n) fs is rest both.1 rises.1)
