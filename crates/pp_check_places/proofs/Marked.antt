-- Marks, with the offsets and the kinds of the checks that their sites may carry.
use Rattle.std.proofs.Common.{◌≡◌, List, [], ◌∷◌, ◌++◌, map, Contains, refl, sym, ap, ◌∙◌, subst, ⊎_elim}
use Rattle.std.proofs.lemmas.List.{append-nil, map-append}
use Rattle.std.proofs.lemmas.List.Elements.{Contains-append_cases, Contains-append_left, Contains-append_right}
use Rattle.pp_list.specs.Joined.{joined}
use Rattle.pp_check_places.proofs.SiteKinds.{Kinds}
use Rattle.pp_instances.proofs.Kept.{nothing_in}
use Rattle.pp_order.proofs.Made.{in_head, in_tail, in_more}
use Rattle.pp_prog.specs.declared.check.CheckKind.{CheckKind}
use Rattle.pp_prog.specs.declared.check.CheckKind.TheVariants as kind
use Rattle.pp_typed.specs.Apart.{Mark, SiteKind, a_call, a_division, a_match, an_assertion}
use Rattle.pp_typed.specs.Stand.{Offset}
use Rattle.pp_validity.proofs.Listed.{joined_append}

-- a kind of check at an offset
abbrev pub KindAt : Type 0
KindAt = CheckKind × Offset

abbrev pub kind_of : KindAt → CheckKind
kind_of k = k.0

abbrev pub offset_of : KindAt → Offset
offset_of k = k.1

abbrev pub mark_kinds : SiteKind → Kinds
mark_kinds a_call = kind.Precondition ∷ kind.Measure ∷ []
mark_kinds a_division = kind.Division ∷ []
mark_kinds a_match = kind.Match ∷ []
mark_kinds an_assertion = kind.Assertion ∷ []

abbrev pub at_offset : Offset → CheckKind → KindAt
at_offset o k = (k, o)

-- the kinds of checks at a mark, and at several
abbrev pub kinds_at : Mark → List KindAt
kinds_at m = map (at_offset m.1) (mark_kinds m.0)

abbrev pub all_at : List Mark → List KindAt
all_at ms = joined (map kinds_at ms)

abbrev pub mark_offsets : SiteKind → Offset → List Offset
mark_offsets mark here = map offset_of (kinds_at (mark, here))

all_at_append : (a b : List Mark) → all_at (a ++ b) ≡ all_at a ++ all_at b
all_at_append a b = ap joined (map-append kinds_at a b) ∙ joined_append (map kinds_at a) (map kinds_at b)

-- the marks have these offsets and kinds of checks, and stand among these offsets
pub record IsMarked (ms : List Mark) (os : List Offset) (ks : Kinds) (all : List Offset) : Type 0 where
  pub offsets : map offset_of (all_at ms) ≡ os
  pub kinds : map kind_of (all_at ms) ≡ ks
  pub within : (m : Mark) → Contains ms m → Contains all m.1

pub none_marked : (all : List Offset) → IsMarked [] [] [] all
none_marked all = record { offsets = refl; kinds = refl; within = λ m has. absurd (nothing_in m has) }

-- the offsets may be more
pub wider : {ms : List Mark} {os : List Offset} {ks : Kinds} {all : List Offset} (more : List Offset)
    → IsMarked ms os ks all → ((o : Offset) → Contains all o → Contains more o) → IsMarked ms os ks more
wider more marked into = record {
  offsets = marked.offsets;
  kinds = marked.kinds;
  within = λ m has. into m.1 (marked.within m has);
}

pub with_kinds : {ms : List Mark} {os : List Offset} {ks ls : Kinds} {all : List Offset} → IsMarked ms os ks all
    → ls ≡ ks → IsMarked ms os ls all
with_kinds {ms = ms} {os = os} {all = all} marked is = subst (λ l. IsMarked ms os l all) (sym is) marked

-- one after another
pub two_marked : {a b : List Mark} {o p : List Offset} {k l : Kinds} {x y : List Offset} → IsMarked a o k x
    → IsMarked b p l y → IsMarked (a ++ b) (o ++ p) (k ++ l) (x ++ y)
two_marked {a = a} {b = b} {o = o} {k = k} {x = x} {y = y} one other = record {
  offsets = ap (map offset_of) (all_at_append a b) ∙ map-append offset_of (all_at a) (all_at b)
      ∙ ap (λ z. z ++ map offset_of (all_at b)) one.offsets ∙ ap (λ z. o ++ z) other.offsets;
  kinds = ap (map kind_of) (all_at_append a b) ∙ map-append kind_of (all_at a) (all_at b)
      ∙ ap (λ z. z ++ map kind_of (all_at b)) one.kinds ∙ ap (λ z. k ++ z) other.kinds;
  within = λ m has. ⊎_elim (λ left. Contains-append_left x y m.1 (one.within m left))
      (λ right. Contains-append_right x y m.1 (other.within m right)) (Contains-append_cases a b m has);
}

kinds_back : (o : Offset) (ks : Kinds) → map kind_of (map (at_offset o) ks) ≡ ks
kinds_back o [] = refl
kinds_back o (k ∷ ks) = ap (λ l. k ∷ l) (kinds_back o ks)

one_marked : (mark : SiteKind) (here : Offset)
    → IsMarked ((mark, here) ∷ []) (mark_offsets mark here) (mark_kinds mark) (here ∷ [])
one_marked mark here = record {
  offsets = ap (map offset_of) (append-nil (kinds_at (mark, here)));
  kinds = ap (map kind_of) (append-nil (kinds_at (mark, here))) ∙ kinds_back here (mark_kinds mark);
  within =
      λ m has. in_more (mark, here) m [] has (λ is. subst (λ (z : Mark). Contains (here ∷ []) z.1) is (in_head here []))
      (λ none. absurd (nothing_in m none));
}

-- a mark, and more
pub front_marked : {b : List Mark} {p : List Offset} {l : Kinds} {y : List Offset} (mark : SiteKind) (here : Offset)
    → IsMarked b p l y
    → IsMarked ((mark, here) ∷ b) (mark_offsets mark here ++ p) (mark_kinds mark ++ l) (here ∷ y)
front_marked mark here more = two_marked (one_marked mark here) more

-- marks, a mark, and more
pub around_marked : {a b : List Mark} {o p : List Offset} {k l : Kinds} {x y : List Offset} (mark : SiteKind)
    (here : Offset) → IsMarked a o k x → IsMarked b p l y
    → IsMarked (a ++ (mark, here) ∷ b) (o ++ (mark_offsets mark here ++ p)) (k ++ (mark_kinds mark ++ l))
    (here ∷ (x ++ y))
around_marked {x = x} {y = y} mark here one more =
    wider (here ∷ (x ++ y)) (two_marked one (front_marked mark here more))
    (λ o has. ⊎_elim (λ left. in_tail here o (x ++ y) (Contains-append_left x y o left))
    (λ right. in_more here o y right (λ is. subst (Contains (here ∷ (x ++ y))) is (in_head here (x ++ y)))
    (λ later. in_tail here o (x ++ y) (Contains-append_right x y o later)))
    (Contains-append_cases x (here ∷ y) o has))

-- marks, and a mark
pub last_marked : {a b : List Mark} {o p : List Offset} {k l : Kinds} {x : List Offset} (here : Offset)
    → IsMarked a o k x → IsMarked b p l (here ∷ []) → IsMarked (a ++ b) (o ++ p) (k ++ l) (here ∷ x)
last_marked {x = x} here one last =
    wider (here ∷ x) (two_marked one last)
    (λ o has. ⊎_elim (λ left. in_tail here o x left)
    (λ right. in_more here o [] right (λ is. subst (Contains (here ∷ x)) is (in_head here x))
    (λ none. absurd (nothing_in o none))) (Contains-append_cases x (here ∷ []) o has))

pub call_marked : (here : Offset)
    → IsMarked ((a_call, here) ∷ []) (here ∷ here ∷ []) (kind.Precondition ∷ kind.Measure ∷ []) (here ∷ [])
call_marked here = one_marked a_call here

pub division_marked : (here : Offset) → IsMarked ((a_division, here) ∷ []) (here ∷ []) (kind.Division ∷ []) (here ∷ [])
division_marked here = one_marked a_division here

-- below an expression
pub under_marked : {a : List Mark} {o : List Offset} {k : Kinds} {x : List Offset} (here : Offset) → IsMarked a o k x
    → IsMarked a o k (here ∷ x)
under_marked {x = x} here one = wider (here ∷ x) one (λ o has. in_tail here o x has)
