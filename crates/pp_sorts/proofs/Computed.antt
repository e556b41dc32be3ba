-- A written type is a sort exactly where that is the sort that is computed.
use Rattle.std.proofs.Common.{◌≡◌, ◌∙◌, ℕ, Bool, true, false, List, [], ◌∷◌, ◌++◌, Option, Some, None, Ok, Err, refl}
use Rattle.std.proofs.Common.{sym, ap, subst, eq-eqb, nat_eq, append_assoc, if◌then◌else◌}
use Rattle.std.proofs.lemmas.Bool.{eqb-true}
use Rattle.std.proofs.lemmas.List.{append-nil}
use Rattle.pp_fault.specs.Part.{Part, and_then, fault}
use Rattle.pp_fault.specs.declared.Rule.TheVariants.{Arity}
use Rattle.pp_names.specs.Places.{Word}
use Rattle.pp_sorts.specs.IsSort.{count, arity, sort_with, head_of, IsSort, a_sort, AreSorts, no_sorts, more_sorts}
use Rattle.pp_sorts.specs.SortOf.{applied, sort_of, sorts_from}
use Rattle.pp_sorts.specs.declared.head.Head.{Head}
use Rattle.pp_tree.specs.Plain.{TypeTree, type_text, TypeTrees, no_types, more_types}
use Rattle.pp_typed.specs.declared.sort.GenericSort.{GenericSort}
use Rattle.pp_typed.specs.declared.typed.TypedRoot.{TypedRoot}

module _ (roots : List TypedRoot) (params : List Word) (source : ℕ) where
  abbrev Sorts : Type 0
  Sorts = List GenericSort

  abbrev counted : ℕ → Word → Head → Part Sorts → Bool → Part GenericSort
  counted at w h args b = if b then and_then args (λ ss. Ok (sort_with h ss)) else fault Arity w source at

  mutual
    pub complete : {t : TypeTree} {s : GenericSort} → IsSort roots params t s → sort_of roots params source t ≡ Ok s
    complete (a_sort at w ts h ss e n all is) =
        ap (λ (o : Option Head). applied roots params source at w o (count ts) (sorts_from roots params source [] ts)) e
        ∙ ap (counted at w h (sorts_from roots params source [] ts)) (eq-eqb (count ts) (arity h) n)
        ∙ ap (λ (p : Part Sorts). and_then p (λ (xs : Sorts). Ok (sort_with h xs))) (complete_all [] all)
        ∙ ap Ok (sym is)

    complete_all : (done : Sorts) {ts : TypeTrees} {ss : Sorts} → AreSorts roots params ts ss
        → sorts_from roots params source done ts ≡ Ok (done ++ ss)
    complete_all done no_sorts = ap Ok (sym (append-nil done))
    complete_all done (more_sorts {t} {ts} {s} {ss} one all) =
        ap (λ (p : Part GenericSort). and_then p (λ (x : GenericSort). sorts_from roots params source
        (done ++ x ∷ []) ts)) (complete one)
        ∙ complete_all (done ++ s ∷ []) all ∙ ap Ok (append_assoc done (s ∷ []) ss)

  -- the sorts of the rest of a list, which stand after these
  pub record Rest (ts : TypeTrees) (done out : Sorts) : Type 0 where
    pub rest : Sorts
    pub sorts : AreSorts roots params ts rest
    pub all : out ≡ done ++ rest

  none_before : (ts : TypeTrees) (out : Sorts) → Rest ts [] out → AreSorts roots params ts out
  none_before ts out r = subst (AreSorts roots params ts) (sym r.all) r.sorts

  -- what is left of the whole once the arguments are sorts
  module _ (at : ℕ) (w : Word) (ts : TypeTrees) (s : GenericSort) (all : (out : Sorts)
      → sorts_from roots params source [] ts ≡ Ok out → AreSorts roots params ts out) where
    of_args : (h : Head) (p : Part Sorts) → head_of roots params w ≡ Some h → count ts ≡ arity h
        → sorts_from roots params source [] ts ≡ p
        → and_then p (λ (xs : Sorts). Ok (sort_with h xs)) ≡ Ok s → IsSort roots params (type_text at w ts) s
    of_args h (Ok ss) e n r is = a_sort at w ts h ss e n (all ss r) cc
    of_args h (Err f) e n r is = cc

    of_count : (h : Head) (b : Bool) → head_of roots params w ≡ Some h → nat_eq (count ts) (arity h) ≡ b
        → counted at w h (sorts_from roots params source [] ts) b ≡ Ok s → IsSort roots params (type_text at w ts) s
    of_count h true e n is =
        of_args h (sorts_from roots params source [] ts) e (eqb-true (count ts) (arity h) n) refl is
    of_count h false e n is = cc

    of_head : (o : Option Head) → head_of roots params w ≡ o
        → applied roots params source at w o (count ts) (sorts_from roots params source [] ts) ≡ Ok s
        → IsSort roots params (type_text at w ts) s
    of_head None e is = cc
    of_head (Some h) e is = of_count h (nat_eq (count ts) (arity h)) e refl is

  one_more : (t : TypeTree) (ts : TypeTrees) (done out : Sorts) (p : Part GenericSort) → ((s : GenericSort)
      → p ≡ Ok s → IsSort roots params t s)
      → ((s : GenericSort) → sorts_from roots params source (done ++ s ∷ []) ts ≡ Ok out → Rest ts (done ++ s ∷ []) out)
      → and_then p (λ (x : GenericSort). sorts_from roots params source (done ++ x ∷ []) ts) ≡ Ok out
      → Rest (more_types t ts) done out
  one_more t ts done out (Ok s) one later e =
      let r = later s e in record {
        rest = s ∷ r.rest;
        sorts = more_sorts (one s refl) r.sorts;
        all = r.all ∙ append_assoc done (s ∷ []) r.rest;
      }
  one_more t ts done out (Err f) one later e = cc

  mutual
    pub sound : (t : TypeTree) (s : GenericSort) → sort_of roots params source t ≡ Ok s → IsSort roots params t s
    sound (type_text at w ts) s e =
        of_head at w ts s (λ out h. none_before ts out (sound_all ts [] out h)) (head_of roots params w) refl e

    sound_all : (ts : TypeTrees) (done out : Sorts) → sorts_from roots params source done ts ≡ Ok out → Rest ts done out
    sound_all no_types done out e = record {
      rest = [];
      sorts = no_sorts;
      all = (let is : out ≡ done = cc in is ∙ sym (append-nil done));
    }
    sound_all (more_types t ts) done out e =
        one_more t ts done out (sort_of roots params source t) (sound t) (λ s h. sound_all ts (done ++ s ∷ []) out h) e

  pub sorts_sound : (ts : TypeTrees) (out : Sorts) → sorts_from roots params source [] ts ≡ Ok out
      → AreSorts roots params ts out
  sorts_sound ts out e = none_before ts out (sound_all ts [] out e)

  pub sorts_complete : {ts : TypeTrees} {ss : Sorts} → AreSorts roots params ts ss
      → sorts_from roots params source [] ts ≡ Ok ss
  sorts_complete all = complete_all [] all
