-- Where no mark stands twice, no kind of check stands twice at one offset.
use Rattle.std.proofs.Common.{◌≡◌, ℕ, zero, suc, List, [], ◌∷◌, ◌++◌, map, Contains, Some, None, refl, sym, ap, ◌∙◌}
use Rattle.std.proofs.Common.{subst, arith, ⊎_elim}
use Rattle.std.specs.Prelude.{slice_get}
use Rattle.std.proofs.lemmas.List.Elements.{Contains-append_cases}
use Rattle.std.proofs.lemmas.Option.{same_Some, slice_get-get_or}
use Rattle.pp_check_places.proofs.Chosen.{Differ}
use Rattle.pp_check_places.proofs.Marked.{KindAt, all_at, at_offset, kinds_at, mark_kinds}
use Rattle.pp_instances.proofs.Kept.{nothing_in}
use Rattle.pp_order.proofs.Listing.{at_place}
use Rattle.pp_order.proofs.Made.{in_head, in_tail, in_more}
use Rattle.pp_prog.specs.declared.check.CheckKind.{CheckKind}
use Rattle.pp_prog.specs.declared.check.CheckKind.TheVariants as kind
use Rattle.pp_typed.specs.Apart.{Mark, SiteKind, a_call, a_division, a_match, an_assertion}
use Rattle.pp_typed.specs.Stand.{Offset}

-- a list in which an element's place is its only one
pub differ_from : {X : Type 0} (xs : List X)
    → ((i j : ℕ) (x : X) → slice_get xs i ≡ Some x → slice_get xs j ≡ Some x → i ≡ j) → Differ xs
differ_from [] one_place = tt
differ_from (x ∷ xs) one_place = (
  λ has.
      let there = slice_get-get_or xs has.0 x has.1 ∙ ap Some has.2 in
      let same : 0 ≡ suc has.0 = one_place 0 (suc has.0) x refl there in absurd (omega arith),
  differ_from xs (λ i j y there here.
      let same : suc i ≡ suc j = one_place (suc i) (suc j) y there here in omega arith),
)

-- and back
pub one_place : {X : Type 0} (xs : List X) (i j : ℕ) (x : X) → Differ xs → slice_get xs i ≡ Some x
    → slice_get xs j ≡ Some x → i ≡ j
one_place [] i j x differ there here = (let never : None ≡ Some x = there in cc)
one_place (y ∷ xs) zero zero x differ there here = refl
one_place (y ∷ xs) zero (suc j) x differ there here =
    absurd (differ.0 (subst (Contains xs) (sym (same_Some _ _ there)) (at_place xs j x here)))
one_place (y ∷ xs) (suc i) zero x differ there here =
    absurd (differ.0 (subst (Contains xs) (sym (same_Some _ _ here)) (at_place xs i x there)))
one_place (y ∷ xs) (suc i) (suc j) x differ there here = ap suc (one_place xs i j x differ.1 there here)

pub two_differ : {X : Type 0} (a b : List X) → Differ a → Differ b
    → ((x : X) → Contains a x → Contains b x → ⊥) → Differ (a ++ b)
two_differ [] b one other apart = other
two_differ (x ∷ a) b one other apart = (
  λ has. ⊎_elim one.0 (apart x (in_head x a)) (Contains-append_cases a b x has),
  two_differ a b one.1 other (λ y left. apart y (in_tail x y a left)),
)

-- the mark at which a kind of check stands; postconditions stand at none
site_of : CheckKind → SiteKind
site_of kind.Precondition = a_call
site_of kind.Postcondition = a_call
site_of kind.Match = a_match
site_of kind.Division = a_division
site_of kind.Measure = a_call
site_of kind.Assertion = an_assertion

one_of : (k l : CheckKind) → Contains (k ∷ []) l → k ≡ l
one_of k l has = in_more k l [] has (λ is. is) (λ none. absurd (nothing_in l none))

either_of : {P : Type 0} (k l m : CheckKind) → Contains (k ∷ l ∷ []) m → (k ≡ m → P) → (l ≡ m → P) → P
either_of k l m has first second = in_more k m (l ∷ []) has first (λ later. second (one_of l m later))

site_is : (s : SiteKind) (k : CheckKind) → Contains (mark_kinds s) k → site_of k ≡ s
unfolding site_of
site_is a_call k has =
    either_of kind.Precondition kind.Measure k has (λ is. ap site_of (sym is)) (λ is. ap site_of (sym is))
site_is a_division k has = ap site_of (sym (one_of kind.Division k has))
site_is a_match k has = ap site_of (sym (one_of kind.Match k has))
site_is an_assertion k has = ap site_of (sym (one_of kind.Assertion k has))

no_postcondition : (s : SiteKind) → Contains (mark_kinds s) kind.Postcondition → ⊥
no_postcondition a_call has = either_of kind.Precondition kind.Measure kind.Postcondition has (λ is. cc) (λ is. cc)
no_postcondition a_division has = let is = one_of kind.Division kind.Postcondition has in cc
no_postcondition a_match has = let is = one_of kind.Match kind.Postcondition has in cc
no_postcondition an_assertion has = let is = one_of kind.Assertion kind.Postcondition has in cc

at_mark : (o : Offset) (ks : List CheckKind) (p : KindAt) → Contains (map (at_offset o) ks) p
    → (p.1 ≡ o) × Contains ks p.0
at_mark o [] p has = absurd (nothing_in p has)
at_mark o (k ∷ ks) p has =
    in_more (k, o) p (map (at_offset o) ks) has
    (λ is. (ap (λ (q : KindAt). q.1) (sym is), subst (λ (q : KindAt). Contains (k ∷ ks) q.0) is (in_head k ks)))
    (λ later. (let more = at_mark o ks p later in (more.0, in_tail k p.0 ks more.1)))

-- a kind of check stands at a mark
pub at_some : (ms : List Mark) (p : KindAt) → Contains (all_at ms) p
    → (s : SiteKind) × Contains ms (s, p.1) × Contains (mark_kinds s) p.0
at_some [] p has = absurd (nothing_in p has)
at_some (m ∷ ms) p has =
    ⊎_elim
    (λ here. (let t = at_mark m.1 (mark_kinds m.0) p here in
    (m.0, subst (λ o. Contains (m ∷ ms) (m.0, o)) (sym t.0) (in_head m ms), t.1)))
    (λ later. (let t = at_some ms p later in (t.0, in_tail m (t.0, p.1) ms t.1, t.2)))
    (Contains-append_cases (kinds_at m) (all_at ms) p has)

-- no postcondition stands at a mark
pub none_at : (ms : List Mark) (o : Offset) → Contains (all_at ms) (kind.Postcondition, o) → ⊥
none_at ms o has = let t = at_some ms (kind.Postcondition, o) has in no_postcondition t.0 t.2

own_differ : (s : SiteKind) (o : Offset) → Differ (kinds_at (s, o))
own_differ a_call o = (
  λ has. in_more (kind.Measure, o) (kind.Precondition, o) [] has
      (λ is. (let same : kind.Measure ≡ kind.Precondition = ap (λ (p : KindAt). p.0) is in cc))
      (nothing_in (kind.Precondition, o)),
  (nothing_in (kind.Measure, o), tt),
)
own_differ a_division o = (nothing_in (kind.Division, o), tt)
own_differ a_match o = (nothing_in (kind.Match, o), tt)
own_differ an_assertion o = (nothing_in (kind.Assertion, o), tt)

-- where no mark stands twice, no kind of check stands twice at one offset
pub all_differ : (ms : List Mark) → Differ ms → Differ (all_at ms)
all_differ [] differ = tt
all_differ (m ∷ ms) differ =
    two_differ (kinds_at m) (all_at ms) (own_differ m.0 m.1) (all_differ ms differ.1)
    (λ p here later.
    let t = at_mark m.1 (mark_kinds m.0) p here in
    let u = at_some ms p later in
    let same : u.0 ≡ m.0 = sym (site_is u.0 p.0 u.2) ∙ site_is m.0 p.0 t.1 in
    differ.0 (subst (λ s. Contains ms (s, m.1)) same (subst (λ o. Contains ms (u.0, o)) t.0 u.1)))
