-- The numbers of checks run from 0 on, through the slots in order; so they are told by which slots have a check.
use Rattle.std.proofs.Common.{◌≡◌, ℕ, suc, ◌+◌, true, false, List, [], ◌∷◌, ◌++◌, map, Option, Some, None, is_some}
use Rattle.std.proofs.Common.{slice_get, Contains}
use Rattle.std.proofs.Common.{refl, sym, ap, ◌∙◌, subst, arith}
use Rattle.std.specs.Option.{option_map}
use Rattle.std.proofs.lemmas.List.{map-append}
use Rattle.std.proofs.lemmas.Option.{slice_get-map}
use Rattle.pp_list.specs.Joined.{joined}
use Rattle.pp_prog.specs.Listing.{Site, plain, division, assertion, precondition, measure, matching, postcondition}
use Rattle.pp_prog.specs.Listing.{as_kind, carried, function_checks, function_sites}
use Rattle.pp_prog.specs.Valid.{Carries, Entry, IsValid, entry, entry_of, listing_from}
use Rattle.pp_prog.specs.declared.check.Check.{Check}
use Rattle.pp_prog.specs.declared.check.CheckKind.{CheckKind}
use Rattle.pp_prog.specs.declared.check.CheckKind.TheVariants as kind
use Rattle.pp_prog.specs.declared.expr.Function.{Function}
use Rattle.pp_prog.specs.declared.id.CheckId.{CheckId}
use Rattle.pp_prog.specs.declared.types.TypeTable.{TypeTable}
use Rattle.pp_translation.specs.Bare.{bare_function}
use Rattle.pp_mono_laws.proofs.Needs.{CarryFrom, all_flags, carry_from}
use Rattle.pp_mono_laws.proofs.Ordered.{head_in, tail_in}
use Rattle.pp_mono_laws.proofs.Refunction.{one_by_slots}
use Rattle.pp_mono_laws.proofs.Slots.{Slots, all_slots, function_slots, slot_of}
use Rattle.pp_mono_laws.proofs.Slotted.{function_has}

-- the numbers of the checks in slots
abbrev numbers : Slots → List ℕ
numbers [] = []
numbers (None ∷ slots) = numbers slots
numbers (Some check ∷ slots) = check.0 ∷ numbers slots

numbers_append : (a b : Slots) → numbers (a ++ b) ≡ numbers a ++ numbers b
numbers_append [] b = refl
numbers_append (None ∷ a) b = numbers_append a b
numbers_append (Some check ∷ a) b = ap (λ l. check.0 ∷ l) (numbers_append a b)

-- the numbers are those from n on
abbrev AreFrom : ℕ → List ℕ → Type 0
AreFrom n l = (i x : ℕ) → slice_get l i ≡ Some x → x ≡ n + i

from_next : (n x : ℕ) (l : List ℕ) → AreFrom n (x ∷ l) → AreFrom (suc n) l
from_next n x l h i y is = let e = h (suc i) y is in omega arith

abbrev made : ℕ → CheckId
made n = record { 0 = n }

one_number : (n : ℕ) (c d : CheckId) (xs ys : List ℕ) → AreFrom n (c.0 ∷ xs) → AreFrom n (d.0 ∷ ys) → c ≡ d
one_number n c d xs ys p q = ap made (p 0 c.0 refl ∙ sym (q 0 d.0 refl))

-- slots that have checks at the same places have the same checks
one_numbering : (n : ℕ) (xs ys : Slots) → map is_some xs ≡ map is_some ys → AreFrom n (numbers xs)
    → AreFrom n (numbers ys) → xs ≡ ys
one_numbering n [] [] same p q = refl
one_numbering n [] (y ∷ ys) same p q = cc
one_numbering n (x ∷ xs) [] same p q = cc
one_numbering n (None ∷ xs) (None ∷ ys) same p q =
    let tail : map is_some xs ≡ map is_some ys = cc in ap (λ l. None ∷ l) (one_numbering n xs ys tail p q)
one_numbering n (None ∷ xs) (Some d ∷ ys) same p q = let never : false ≡ true = cc in cc
one_numbering n (Some c ∷ xs) (None ∷ ys) same p q = let never : true ≡ false = cc in cc
one_numbering n (Some c ∷ xs) (Some d ∷ ys) same p q =
    let tail : map is_some xs ≡ map is_some ys = cc in
    ap (λ z. Some z ∷ xs) (one_number n c d (numbers xs) (numbers ys) p q)
    ∙ ap (λ l. Some d ∷ l)
    (one_numbering (suc n) xs ys tail (from_next n c.0 (numbers xs) p) (from_next n d.0 (numbers ys) q))

abbrev number : Entry → ℕ
number e = e.0

abbrev listed : ℕ → List (CheckId × CheckKind) → List ℕ
listed n checks = map number (map (entry_of n) checks)

listed_append : (n : ℕ) (a b : List (CheckId × CheckKind)) → listed n (a ++ b) ≡ listed n a ++ listed n b
listed_append n a b =
    ap (map number) (map-append (entry_of n) a b) ∙ map-append number (map (entry_of n) a) (map (entry_of n) b)

of_kind : (n : ℕ) (k : CheckKind) (check : Option CheckId) → listed n (as_kind k check) ≡ numbers (check ∷ [])
of_kind n k None = refl
of_kind n k (Some check) = refl

module _ (types : TypeTable) (fs : List Function) where
  of_site : (n : ℕ) (site : Site) → Carries types fs n site → listed n (carried site) ≡ numbers (slot_of site ∷ [])
  of_site n (plain None) h = refl
  of_site n (plain (Some check)) h = let never : false ≡ true = h in cc
  of_site n (division check) h = of_kind n kind.Division check
  of_site n (assertion check) h = refl
  of_site n (precondition g check) h = of_kind n kind.Precondition check
  of_site n (measure g check) h = of_kind n kind.Measure check
  of_site n (matching s patterns check) h = of_kind n kind.Match check
  of_site n (postcondition check) h = refl

  of_sites : (n : ℕ) (sites : List Site) → ((s : Site) → Contains sites s → Carries types fs n s)
      → listed n (joined (map carried sites)) ≡ numbers (map slot_of sites)
  of_sites n [] h = refl
  of_sites n (site ∷ sites) h =
      listed_append n (carried site) (joined (map carried sites))
      ∙ ap (λ l. l ++ listed n (joined (map carried sites))) (of_site n site (h site (head_in site sites)))
      ∙ ap (λ l. numbers (slot_of site ∷ []) ++ l) (of_sites n sites (λ s has. h s (tail_in site sites s has)))
      ∙ sym (numbers_append (slot_of site ∷ []) (map slot_of sites))

  -- the numbers in the listing are those in the slots
  of_functions : (n : ℕ) (hs : List Function) → CarryFrom types fs n hs
      → map number (listing_from types fs n hs) ≡ numbers (all_slots hs)
  of_functions n [] carry = refl
  of_functions n (h ∷ hs) carry =
      map-append number (map (entry_of n) (function_checks types fs h)) (listing_from types fs (suc n) hs)
      ∙ ap (λ l. l ++ map number (listing_from types fs (suc n) hs))
      (of_sites n (function_sites types fs h) carry.1 ∙ ap numbers (function_has types fs h carry.0))
      ∙ ap (λ l. numbers (function_slots h) ++ l) (of_functions (suc n) hs carry.2)
      ∙ sym (numbers_append (function_slots h) (all_slots hs))

  module _ (checks : List Check) (valid : IsValid types fs checks) where
    all_carry : CarryFrom types fs 0 fs
    all_carry =
        carry_from types fs 0 fs valid.sorted
        (λ i k h is at s has.
        valid.carried k h (subst (λ j. slice_get fs j ≡ Some h) (sym (omega (arith, at))) is) s has)

    at_check : (i x : ℕ) (o : Option Check) → slice_get checks i ≡ o
        → option_map number (option_map entry o) ≡ Some x → x ≡ 0 + i
    at_check i x None is h = cc
    at_check i x (Some c) is h =
        let e = valid.numbered i c is in
        let same : c.id.0 ≡ x = cc in
        omega (arith, e, same)

    all_from : AreFrom 0 (numbers (all_slots fs))
    all_from =
        subst (AreFrom 0) (ap (map number) valid.listed ∙ of_functions 0 fs all_carry)
        (λ i x is. at_check i x (slice_get checks i) refl
        (ap (option_map number) (sym (slice_get-map entry checks i))
        ∙ sym (slice_get-map number (map entry checks) i) ∙ is))

-- valid programs whose functions have the same forms without numbers have the same functions
pub one_functions : (types : TypeTable) (fs gs : List Function) (cs ds : List Check) → IsValid types fs cs
    → IsValid types gs ds → map bare_function fs ≡ map bare_function gs → fs ≡ gs
one_functions types fs gs cs ds p q forms =
    one_by_slots fs gs forms
    (one_numbering 0 (all_slots fs) (all_slots gs)
    (all_flags types fs gs forms 0 fs gs forms (all_carry types fs cs p) (all_carry types gs ds q))
    (all_from types fs cs p) (all_from types gs ds q))
