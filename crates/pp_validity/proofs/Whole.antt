-- All functions of a program: their checks are the listing, each site carries what it should, and they stand where the
-- typed functions have them.
use Rattle.std.proofs.Common.{◌≡◌, ⊎_elim, inl, inr, ◌⊎◌, ℕ, zero, suc, ◌+◌, Bool, true, false, ◌&&◌, List, [], ◌∷◌}
use Rattle.std.proofs.Common.{◌++◌, map, length, refl, sym, ap, ◌∙◌, subst, arith, append_assoc, length-append}
use Rattle.std.specs.Prelude.{Some, None, slice_get, Contains}
use Rattle.std.specs.List.{list_all}
use Rattle.std.proofs.lemmas.List.{append-nil, map-append, map_push}
use Rattle.std.proofs.lemmas.List.Elements.{Contains-push, Contains-append_left, Contains-append_right}
use Rattle.std.proofs.lemmas.Option.{none-some, same_Some}
use Rattle.pp_instances.specs.Uses.{text_mentions}
use Rattle.pp_instances.specs.declared.member.Instance.{Instance}
use Rattle.pp_instances.specs.declared.member.Member.{Member}
use Rattle.pp_prog.specs.ExprSorts.{is_sorted}
use Rattle.pp_prog.specs.Listing.{Site, function_checks, function_sites}
use Rattle.pp_prog.specs.Valid.{Carries, Entry, entry, entry_of, listing_from}
use Rattle.pp_prog.specs.declared.check.Check.{Check}
use Rattle.pp_prog.specs.declared.expr.Function.{Function}
use Rattle.pp_prog.specs.declared.place.Place.{Place}
use Rattle.pp_translation.specs.Bare.{bare_function}
use Rattle.pp_translation.specs.Defs.{TranslatesDefs, checks_from, no_defs, more_defs, none_more, numbered}
use Rattle.pp_translation.specs.Functions.{functions_of, place_at}
use Rattle.pp_translation.specs.Numbered.{is_written}
use Rattle.pp_translation.specs.Places.{offsets_or_none, places_of, told}
use Rattle.pp_translation.specs.Setting.{Setting}
use Rattle.pp_translation.specs.declared.frame.CheckAt.{CheckAt}
use Rattle.pp_translation.specs.declared.frame.Frame.{Frame}
use Rattle.pp_typed.specs.WellSorted.{IsDef}
use Rattle.pp_typed.specs.declared.sort.GenericSort.{GenericSort}
use Rattle.pp_typed.specs.declared.typed.Typed.{Typed}
use Rattle.pp_typed.specs.declared.typed.TypedDef.{TypedDef}
use Rattle.pp_validity.proofs.BareDefs.{def_bare, functions_push}
use Rattle.pp_validity.proofs.Defs.{def_lists, def_sorted}
use Rattle.pp_validity.proofs.Known.{HasTypes, IsGrouped, IsKnown}
use Rattle.pp_validity.proofs.Listed.{numbers_from, offset_of}
use Rattle.pp_validity.proofs.Placed.{before}
use Rattle.pp_validity.proofs.Within.{Within}

abbrev pub place_of : Check → Place
place_of c = c.place

and_both : (a b c : Bool) → a && b ≡ true → (b ≡ true → c ≡ true) → a && c ≡ true
and_both true b c h go = go h
and_both false b c h go = h

all_push : {A : Type 0} (p : A → Bool) (xs : List A) (x : A) → list_all p xs ≡ true → p x ≡ true
    → list_all p (xs ++ x ∷ []) ≡ true
all_push p [] x h t = ap (λ b. b && true) t
all_push p (y ∷ xs) x h t = and_both (p y) (list_all p xs) (list_all p (xs ++ x ∷ [])) h
    (λ more. all_push p xs x more t)

pub at_last : {A : Type 0} (xs : List A) (x : A) → slice_get (xs ++ x ∷ []) (length xs) ≡ Some x
at_last [] x = refl
at_last (y ∷ xs) x = at_last xs x

-- the last of a list, or one before it
pub last_or_before : {A : Type 0} (xs : List A) (x : A) (n : ℕ) (y : A) → slice_get (xs ++ x ∷ []) n ≡ Some y
    → (slice_get xs n ≡ Some y) ⊎ ((n ≡ length xs) × (x ≡ y))
last_or_before [] x zero y h = inr (refl, same_Some _ _ h)
last_or_before [] x (suc n) y h = let no_more : None ≡ Some y = h in cc
last_or_before (z ∷ xs) x zero y h = inl h
last_or_before (z ∷ xs) x (suc n) y h =
    ⊎_elim (λ e. inl e) (λ (q : (n ≡ length xs) × (x ≡ y)). inr (ap suc q.0, q.1)) (last_or_before xs x n y h)

module _ (typed : Typed) (set : Setting) (texts : List (List ℕ)) (all : List Function) where
  checks_append : (n : ℕ) (a b : List CheckAt) → checks_from texts n (a ++ b) ≡ checks_from texts n a ++ checks_from
      texts (n + length a) b
  checks_append n [] b = let e : n ≡ n + 0 = omega arith in ap (λ k. checks_from texts k b) e
  checks_append n (c ∷ a) b =
      let e : suc n + length a ≡ n + suc (length a) = omega arith in
      ap (λ l. numbered texts n c ∷ l) (checks_append (suc n) a b
      ∙ ap (λ k. checks_from texts (suc n) a ++ checks_from texts k b) e)

  entries_are : (f n : ℕ) (cs : List CheckAt) → ((c : CheckAt) → Contains cs c → c.function ≡ f)
      → map entry (checks_from texts n cs) ≡ map (entry_of f) (numbers_from n cs)
  entries_are f n [] own = refl
  entries_are f n (c ∷ cs) own =
      let one : Entry = (n, f, c.kind) in
      let made : ℕ → Entry = λ g. (n, g, c.kind) in
      ap (λ g. made g ∷ map entry (checks_from texts (suc n) cs))
      (own c (Contains-append_left (c ∷ []) cs c (Contains-push [] c)))
      ∙ ap (λ l. one ∷ l) (entries_are f (suc n) cs (λ d h. own d (Contains-append_right (c ∷ []) cs d h)))

  places_are : (n : ℕ) (cs : List CheckAt) → map place_of (checks_from texts n cs) ≡ map (place_at texts)
      (map offset_of cs)
  places_are n [] = refl
  places_are n (c ∷ cs) = ap (λ l. place_at texts (c.source, c.at) ∷ l) (places_are (suc n) cs)

  listing_push : (n : ℕ) (fs : List Function) (f : Function)
      → listing_from set.types all n (fs ++ f ∷ []) ≡ listing_from set.types all n fs ++ map (entry_of (n + length fs))
      (function_checks set.types all f)
  listing_push n [] f = let e : n ≡ n + 0 = omega arith in
      append-nil (map (entry_of n) (function_checks set.types all f))
      ∙ ap (λ k. map (entry_of k) (function_checks set.types all f)) e
  listing_push n (g ∷ fs) f =
      let e : suc n + length fs ≡ n + suc (length fs) = omega arith in
      let here = map (entry_of n) (function_checks set.types all g) in
      ap (λ l. here ++ l) (listing_push (suc n) fs f ∙ ap
      (λ k. listing_from set.types all (suc n) fs ++ map (entry_of k) (function_checks set.types all f)) e)
      ∙ sym (append_assoc here (listing_from set.types all (suc n) fs)
      (map (entry_of (n + suc (length fs))) (function_checks set.types all f)))

  abbrev At : List Function → List Instance → List Place
  At = places_of typed texts set.types all

  abbrev places_at : Function → Instance → List Place
  places_at f i = map (place_at texts) (told (function_sites set.types all f)
      (offsets_or_none (slice_get typed.defs i.number)))

  places_push : (fs : List Function) (is : List Instance) (f : Function) (i : Instance) → length fs ≡ length is
      → At (fs ++ f ∷ []) (is ++ i ∷ []) ≡ At fs is ++ places_at f i
  places_push [] [] f i even = append-nil (places_at f i)
  places_push [] (j ∷ is) f i even = absurd (omega (arith, even))
  places_push (g ∷ fs) [] f i even = absurd (omega (arith, even))
  places_push (g ∷ fs) (j ∷ is) f i even =
      ap (λ l. places_at g j ++ l) (places_push fs is f i (omega arith))
      ∙ sym (append_assoc (places_at g j) (At fs is) (places_at f i))

  -- what is known of an instance of a function
  pub record IsReady (ms : List Member) (own : Frame) (d : TypedDef) : Type 0 where
    pub def : IsDef typed d
    pub within : Within ms own.args (text_mentions d)
    pub types : (s : GenericSort) → Contains own.args s → HasTypes ms s
    pub grouped : IsGrouped typed set ms all own

  -- the functions so far, their checks and their places
  pub record AreWhole (is : List Instance) (fs : List Function) (cs : List CheckAt) : Type 0 where
    pub even : length fs ≡ length is
    pub entries : map entry (checks_from texts 0 cs) ≡ listing_from set.types all 0 fs
    pub sorted : list_all (is_sorted set.types all) fs ≡ true
    pub carry : (n : ℕ) (g : Function) → slice_get fs n ≡ Some g → (s : Site)
        → Contains (function_sites set.types all g) s → Carries set.types all n s
    pub bare : map bare_function fs ≡ functions_of typed texts set.roots set.functions is
    pub places : map place_of (checks_from texts 0 cs) ≡ places_of typed texts set.types all fs is

  module _ (ms : List Member) (known : IsKnown typed set ms all) (instances : List Instance)
      (ready : (own : Frame) (i : Instance) (d : TypedDef) → slice_get instances own.number ≡ Some i
      → slice_get typed.defs i.number ≡ Some d → own.args ≡ i.args
      → own.measured ≡ is_written d.measure → IsReady ms own d)
      (declared : (n : ℕ) (i : Instance) → slice_get instances n ≡ Some i → (d : TypedDef)
      × (slice_get typed.defs i.number ≡ Some d)) where
    -- all functions are
    pub whole : {is : List Instance} {fs : List Function} {start cs : List CheckAt} (rest : List Instance)
        → TranslatesDefs typed set texts is fs start cs → start ≡ [] → instances ≡ is ++ rest
        → AreWhole is fs cs
    whole {cs = cs} rest no_defs none at =
        record {
          even = refl;
          entries = ap (λ l. map entry (checks_from texts 0 l)) none;
          sorted = refl;
          carry = λ n g h. (let nothing : None ≡ Some g = h in cc);
          bare = refl;
          places = ap (λ l. map place_of (checks_from texts 0 l)) none;
        }
    whole rest (none_more {is = is} i {fs = fs} missing earlier) none at =
        let here = ap (λ l. slice_get l (length is)) at ∙ before (is ++ i ∷ []) rest (length is) i (at_last is i) in
        let d = declared (length is) i here in
        absurd (none-some _ (sym missing ∙ d.1))
    whole rest (more_defs {is = is} {i = i} {fs = fs} {f = f} {mid = mid} {new = new} own d number args measured at_def
        earlier t) none at =
        let w = whole (i ∷ rest) earlier none (at ∙ append_assoc is (i ∷ []) rest) in
        let here = ap (slice_get instances) (number ∙ w.even) ∙ ap (λ l. slice_get l (length is)) at
        ∙ before (is ++ i ∷ []) rest (length is) i (at_last is i) in
        let r = ready own i d here at_def args measured in
        let lists = def_lists typed set ms all known own r.grouped r.types d t r.def r.within in
        let checks = function_checks set.types all f in
        let zero_more : 0 + length mid ≡ length mid = omega arith in
        let zero_fs : own.number ≡ 0 + length fs = omega arith in
        let long = ap (λ l. checks_from texts 0 l) lists.is ∙ checks_append 0 mid lists.more in
        let behind_is : checks_from texts (0 + length mid) lists.more ≡ checks_from texts (length mid) lists.more =
        ap (λ k. checks_from texts k lists.more) zero_more in
        record {
          even = (let p = length-append fs (f ∷ []) in let q = length-append is (i ∷ []) in let e = w.even in
              omega arith);
          entries = ap (map entry) long ∙ map-append entry (checks_from texts 0 mid)
              (checks_from texts (0 + length mid) lists.more)
              ∙ ap (λ l. l ++ map entry (checks_from texts (0 + length mid) lists.more)) w.entries
              ∙ ap (λ l. listing_from set.types all 0 fs ++ l)
              (ap (map entry) behind_is ∙ entries_are own.number (length mid) lists.more lists.owned
              ∙ ap (map (entry_of own.number)) (sym lists.entries) ∙ ap (λ k. map (entry_of k) checks) zero_fs)
              ∙ sym (listing_push 0 fs f);
          sorted = all_push (is_sorted set.types all) fs f w.sorted
              (def_sorted typed set ms all known own r.grouped r.types d t r.def r.within);
          carry = λ k g h s c. ⊎_elim (λ (e : slice_get fs k ≡ Some g). w.carry k g e s c)
              (λ (q : (k ≡ length fs) × (f ≡ g)). subst (λ (j : ℕ). Carries set.types all j s) (number ∙ sym q.0)
              (lists.carry s (subst (λ (z : Function). Contains (function_sites set.types all z) s) (sym q.1) c)))
              (last_or_before fs f k g h);
          bare = map_push bare_function fs f ∙ ap (λ l. l ++ bare_function f ∷ []) w.bare
              ∙ ap (λ z. functions_of typed texts set.roots set.functions is ++ z ∷ [])
              (def_bare typed set own d t args)
              ∙ sym (functions_push typed set texts is i d at_def);
          places = ap (map place_of) long ∙ map-append place_of (checks_from texts 0 mid)
              (checks_from texts (0 + length mid) lists.more)
              ∙ ap (λ l. l ++ map place_of (checks_from texts (0 + length mid) lists.more)) w.places
              ∙ ap (λ l. At fs is ++ l) (ap (map place_of) behind_is ∙ places_are (length mid) lists.more
              ∙ ap (map (place_at texts)) (sym lists.places)
              ∙ ap (λ o. map (place_at texts) (told (function_sites set.types all f) (offsets_or_none o))) (sym at_def))
              ∙ sym (places_push fs is f i w.even);
        }
