-- Which sites carry a check depends on the functions without numbers alone.
use Rattle.std.proofs.Common.{◌≡◌, ◌↔◌, ℕ, suc, ◌+◌, Bool, true, false, List, [], ◌∷◌, ◌++◌, map, Option, Some, None}
use Rattle.std.proofs.Common.{is_none, is_some, slice_get, Contains, IsTrue}
use Rattle.std.proofs.Common.{refl, sym, ap, ◌∙◌, subst, arith}
use Rattle.std.specs.List.{list_all}
use Rattle.std.specs.Option.{option_map}
use Rattle.std.proofs.lemmas.Bool.{and_parts}
use Rattle.std.proofs.lemmas.List.{map-append}
use Rattle.std.proofs.lemmas.Option.{slice_get-map}
use Rattle.pp_call_graph.proofs.Numberless.{table_of_bare}
use Rattle.pp_graph.specs.Reaches.{SameGroup}
use Rattle.pp_prog.specs.Calls.{OneGroup}
use Rattle.pp_prog.specs.ExprSorts.{is_sorted}
use Rattle.pp_prog.specs.Listing.{Site, plain, division, assertion, precondition, measure, matching, postcondition}
use Rattle.pp_prog.specs.Listing.{function_sites}
use Rattle.pp_prog.specs.Valid.{Carries, Covers, has_measure, has_precondition, is_written}
use Rattle.pp_prog.specs.declared.expr.Expr.{Expr}
use Rattle.pp_prog.specs.declared.expr.Function.{Function}
use Rattle.pp_prog.specs.declared.id.CheckId.{CheckId}
use Rattle.pp_prog.specs.declared.types.TypeTable.{TypeTable}
use Rattle.pp_translation.specs.Bare.{bare, bare_function}
use Rattle.pp_mono_laws.proofs.BareSites.{function_blank}
use Rattle.pp_mono_laws.proofs.Ordered.{head_in, tail_in}
use Rattle.pp_mono_laws.proofs.Slots.{all_slots, blank, function_slots, slot_of}
use Rattle.pp_mono_laws.proofs.Slotted.{function_has}

-- what has to hold for a site of function f to carry a check
abbrev Needs : TypeTable → List Function → ℕ → Site → Type 0
Needs types bs f (plain check) = ⊥
Needs types bs f (division check) = Unit {0}
Needs types bs f (assertion check) = Unit {0}
Needs types bs f (precondition g check) = IsTrue (has_precondition (slice_get bs g.0))
Needs types bs f (measure g check) =
    OneGroup bs f g.0 × IsTrue (has_measure (slice_get bs f)) × IsTrue (has_measure (slice_get bs g.0))
Needs types bs f (matching s patterns check) = Covers types.ctors s patterns → ⊥
Needs types bs f (postcondition check) = Unit {0}

none_or_some : (o : Option CheckId) → IsTrue (is_none o) → IsTrue (is_some o) → ⊥
none_or_some None none some = let no_more : false ≡ true = some in cc
none_or_some (Some c) none some = let no_more : false ≡ true = none in cc

bare_precondition : (o : Option Function) → has_precondition (option_map bare_function o) ≡ has_precondition o
bare_precondition None = refl
bare_precondition (Some f) = by f.pre
  where
    by : (pre : Option Expr) → is_some (option_map bare pre) ≡ is_some pre
    by None = refl
    by (Some e) = refl

bare_measure : (o : Option Function) → has_measure (option_map bare_function o) ≡ has_measure o
bare_measure None = refl
bare_measure (Some f) = by f.measure
  where
    by : (es : List Expr) → is_written (map bare es) ≡ is_written es
    by [] = refl
    by (e ∷ es) = refl

module _ (types : TypeTable) (fs : List Function) (f : ℕ) where
  abbrev bs : List Function
  bs = map bare_function fs

  pre_is : (g : ℕ) → has_precondition (slice_get bs g) ≡ has_precondition (slice_get fs g)
  pre_is g = ap has_precondition (slice_get-map bare_function fs g) ∙ bare_precondition (slice_get fs g)

  measure_is : (g : ℕ) → has_measure (slice_get bs g) ≡ has_measure (slice_get fs g)
  measure_is g = ap has_measure (slice_get-map bare_function fs g) ∙ bare_measure (slice_get fs g)

  carries_where : (site : Site) → Carries types fs f site
      → IsTrue (is_some (slot_of site)) ↔ Needs types bs f (blank site)
  carries_where (plain check) h = (λ t. none_or_some check h t, λ n. absurd n)
  carries_where (division check) h = (λ t. tt, λ n. h)
  carries_where (assertion check) h = (λ t. tt, λ n. refl)
  carries_where (precondition g check) h = (λ t. pre_is g.0 ∙ sym h ∙ t, λ n. h ∙ sym (pre_is g.0) ∙ n)
  carries_where (measure g check) h = (
    λ t. let k = h.0 t in
        (subst (λ c. SameGroup c f g.0) (sym (table_of_bare fs)) k.0, measure_is f ∙ k.1, measure_is g.0 ∙ k.2),
    λ n. h.1
        (subst (λ c. SameGroup c f g.0) (table_of_bare fs) n.0, sym (measure_is f) ∙ n.1, sym (measure_is g.0) ∙ n.2),
  )
  carries_where (matching s patterns None) h =
      (λ t covers. let no_more : false ≡ true = t in cc, λ n. absurd (n (h.0 refl)))
  carries_where (matching s patterns (Some c)) h =
      (λ t covers. let no_more : false ≡ true = h.1 covers in cc, λ n. refl)
  carries_where (postcondition check) h = (λ t. tt, λ n. refl)

one_truth : (a b : Bool) (N : Type 0) → IsTrue a ↔ N → IsTrue b ↔ N → a ≡ b
one_truth true b N p q = sym (q.1 (p.0 refl))
one_truth false true N p q = p.1 (q.0 refl)
one_truth false false N p q = refl

module _ (types : TypeTable) (fs gs : List Function) (forms : map bare_function fs ≡ map bare_function gs) where
  one_flag : (f : ℕ) (a b : Site) → blank a ≡ blank b → Carries types fs f a → Carries types gs f b
      → is_some (slot_of a) ≡ is_some (slot_of b)
  one_flag f a b same p q =
      one_truth _ _ (Needs types (map bare_function fs) f (blank a)) (carries_where types fs f a p)
      (subst (λ z. IsTrue (is_some (slot_of b)) ↔ Needs types (map bare_function fs) f z) (sym same)
      (subst (λ l. IsTrue (is_some (slot_of b)) ↔ Needs types l f (blank b)) (sym forms)
      (carries_where types gs f b q)))

  flags_are : (f : ℕ) (xs ys : List Site) → map blank xs ≡ map blank ys
      → ((s : Site) → Contains xs s → Carries types fs f s) → ((s : Site) → Contains ys s → Carries types gs f s)
      → map is_some (map slot_of xs) ≡ map is_some (map slot_of ys)
  flags_are f [] [] same p q = refl
  flags_are f [] (y ∷ ys) same p q = cc
  flags_are f (x ∷ xs) [] same p q = cc
  flags_are f (x ∷ xs) (y ∷ ys) same p q =
      let head : blank x ≡ blank y = cc in
      let tail : map blank xs ≡ map blank ys = cc in
      ap (λ b. b ∷ map is_some (map slot_of xs)) (one_flag f x y head (p x (head_in x xs)) (q y (head_in y ys)))
      ∙ ap (λ l. is_some (slot_of y) ∷ l)
      (flags_are f xs ys tail (λ s has. p s (tail_in x xs s has)) (λ s has. q s (tail_in y ys s has)))

-- functions from number n on have sorts, and their sites carry checks where they can fail
abbrev pub CarryFrom : TypeTable → List Function → ℕ → List Function → Type 0
CarryFrom types fs n [] = Unit {0}
CarryFrom types fs n (h ∷ hs) =
    (is_sorted types fs h ≡ true) × ((s : Site) → Contains (function_sites types fs h) s → Carries types fs n s)
    × CarryFrom types fs (suc n) hs

pub carry_from : (types : TypeTable) (fs : List Function) (n : ℕ) (hs : List Function)
    → list_all (is_sorted types fs) hs ≡ true
    → ((i k : ℕ) (h : Function) → slice_get hs i ≡ Some h → k ≡ n + i → (s : Site)
    → Contains (function_sites types fs h) s → Carries types fs k s)
    → CarryFrom types fs n hs
carry_from types fs n [] sorted carry = tt
carry_from types fs n (h ∷ hs) sorted carry = (
  (and_parts (is_sorted types fs h) (list_all (is_sorted types fs) hs) sorted).0,
  carry 0 n h refl (omega arith),
  carry_from types fs (suc n) hs (and_parts (is_sorted types fs h) (list_all (is_sorted types fs) hs) sorted).1
      (λ i k g is at. carry (suc i) k g is (omega (arith, at))),
)

module _ (types : TypeTable) (fs gs : List Function) (forms : map bare_function fs ≡ map bare_function gs) where
  function_flags : (n : ℕ) (h k : Function) → bare_function h ≡ bare_function k → is_sorted types fs h ≡ true
      → is_sorted types gs k ≡ true → ((s : Site) → Contains (function_sites types fs h) s → Carries types fs n s)
      → ((s : Site) → Contains (function_sites types gs k) s → Carries types gs n s)
      → map is_some (function_slots h) ≡ map is_some (function_slots k)
  function_flags n h k same one two p q =
      let xs = function_sites types fs h in
      let ys = function_sites types gs k in
      let blanks = sym (function_blank types fs h) ∙ ap (λ l. function_sites types l (bare_function h)) forms
      ∙ ap (function_sites types (map bare_function gs)) same ∙ function_blank types gs k in
      ap (map is_some) (sym (function_has types fs h one)) ∙ flags_are types fs gs forms n xs ys blanks p q
      ∙ ap (map is_some) (function_has types gs k two)

  -- the same slots of functions with the same forms have a check
  pub all_flags : (n : ℕ) (hs ks : List Function) → map bare_function hs ≡ map bare_function ks
      → CarryFrom types fs n hs → CarryFrom types gs n ks → map is_some (all_slots hs) ≡ map is_some (all_slots ks)
  all_flags n [] [] same p q = refl
  all_flags n [] (k ∷ ks) same p q = cc
  all_flags n (h ∷ hs) [] same p q = cc
  all_flags n (h ∷ hs) (k ∷ ks) same p q =
      let head : bare_function h ≡ bare_function k = cc in
      let tail : map bare_function hs ≡ map bare_function ks = cc in
      map-append is_some (function_slots h) (all_slots hs)
      ∙ ap (λ l. l ++ map is_some (all_slots hs)) (function_flags n h k head p.0 q.0 p.1 q.1)
      ∙ ap (λ l. map is_some (function_slots k) ++ l) (all_flags (suc n) hs ks tail p.2 q.2)
      ∙ sym (map-append is_some (function_slots k) (all_slots ks))
