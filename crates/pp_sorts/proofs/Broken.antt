-- A fault that is computed stands there.
use Rattle.std.proofs.Common.{◌≡◌, ◌≢◌, ◌∙◌, ℕ, Bool, true, false, List, [], ◌∷◌, ◌++◌, Option, Some, None, Ok, Err}
use Rattle.std.proofs.Common.{refl, sym, ap, subst, nat_eq, if◌then◌else◌, ◌⊎◌, inl, inr}
use Rattle.std.proofs.lemmas.Bool.Decides.{eqb_tells}
use Rattle.pp_fault.specs.Part.{Part, and_then, fault}
use Rattle.pp_fault.specs.declared.Fault.{Fault}
use Rattle.pp_fault.specs.declared.Rule.TheVariants.{Unknown, Arity}
use Rattle.pp_names.specs.Places.{Word}
use Rattle.pp_sorts.specs.IsSort.{count, arity, sort_with, head_of, unknown, arguments, inside, OneBreaks, here, later}
use Rattle.pp_sorts.specs.Laws.{StandsIn}
use Rattle.pp_sorts.specs.SortOf.{applied, sort_of, sorts_from}
use Rattle.pp_sorts.specs.declared.head.Head.{Head}
use Rattle.pp_tree.specs.Plain.{TypeTree, type_text, TypeTrees, no_types, more_types}
use Rattle.pp_typed.specs.declared.sort.GenericSort.{GenericSort}
use Rattle.pp_typed.specs.declared.typed.TypedRoot.{TypedRoot}

-- an error is the fault that it holds
fault_of : {A : Type 0} (p : Part A) (f g : Fault) → p ≡ Err f → p ≡ Err g → f ≡ g
fault_of p f g h i = let e : Err f ≡ Err g = sym h ∙ i in cc

module _ (roots : List TypedRoot) (params : List Word) (source : ℕ) where
  abbrev Sorts : Type 0
  Sorts = List GenericSort

  -- the fault stands in one of the written types
  pub record StandsInOne (ts : TypeTrees) (f : Fault) : Type 0 where
    pub in_source : f.source ≡ source
    pub broken : OneBreaks roots params ts f.rule f.name f.at

  module _ (at : ℕ) (w : Word) (ts : TypeTrees) (f : Fault) (all : sorts_from roots params source [] ts ≡ Err f
      → StandsInOne ts f) where
    of_args : (h : Head) (p : Part Sorts) → sorts_from roots params source [] ts ≡ p
        → and_then p (λ (xs : Sorts). Ok (sort_with h xs)) ≡ Err f
        → StandsIn roots params source (type_text at w ts) f
    of_args h (Ok ss) r e = cc
    of_args h (Err g) r e = let one =
        all (r ∙ ap Err (fault_of (and_then (Err g) (λ (xs : Sorts). Ok (sort_with h xs))) g f refl e)) in
        record { in_source = one.in_source; broken = inside at w ts f.rule f.name f.at one.broken }

    of_count : (h : Head) → head_of roots params w ≡ Some h
        → ((nat_eq (count ts) (arity h) ≡ true) × (count ts ≡ arity h))
        ⊎ ((nat_eq (count ts) (arity h) ≡ false) × (count ts ≢ arity h))
        → applied roots params source at w (Some h) (count ts) (sorts_from roots params source [] ts) ≡ Err f
        → StandsIn roots params source (type_text at w ts) f
    of_count h e (inl n) is =
        of_args h (sorts_from roots params source [] ts) refl (sym (ap (λ (b : Bool). if b
        then and_then (sorts_from roots params source [] ts) (λ (xs : Sorts). Ok (sort_with h xs))
        else fault Arity w source at) n.0) ∙ is)
    of_count h e (inr n) is =
        let whole = sym (ap (λ (b : Bool). if b
        then and_then (sorts_from roots params source [] ts) (λ (xs : Sorts). Ok (sort_with h xs))
        else fault Arity w source at) n.0) ∙ is in
        subst (StandsIn roots params source (type_text at w ts)) (fault_of (fault Arity w source at)
        (record { rule = Arity; name = w; source = source; at = at }) f refl whole)
        (record { in_source = refl; broken = arguments at w ts h e n.1 })

    of_head : (o : Option Head) → head_of roots params w ≡ o
        → applied roots params source at w o (count ts) (sorts_from roots params source [] ts) ≡ Err f
        → StandsIn roots params source (type_text at w ts) f
    of_head None e is =
        subst (StandsIn roots params source (type_text at w ts)) (fault_of (fault Unknown w source at)
        (record { rule = Unknown; name = w; source = source; at = at }) f refl is)
        (record { in_source = refl; broken = unknown at w ts e })
    of_head (Some h) e is = of_count h e (eqb_tells (count ts) (arity h)) is

  one_more : (t : TypeTree) (ts : TypeTrees) (done : Sorts) (f : Fault) (p : Part GenericSort) → (p ≡ Err f
      → StandsIn roots params source t f)
      → ((s : GenericSort) → sorts_from roots params source (done ++ s ∷ []) ts ≡ Err f → StandsInOne ts f)
      → and_then p (λ (x : GenericSort). sorts_from roots params source (done ++ x ∷ []) ts) ≡ Err f
      → StandsInOne (more_types t ts) f
  one_more t ts done f (Ok s) one rest e = let r = rest s e in record {
    in_source = r.in_source;
    broken = later t ts f.rule f.name f.at r.broken;
  }
  one_more t ts done f (Err g) one rest e = let r =
      one (ap Err (fault_of (and_then (Err g) (λ (x : GenericSort). sorts_from roots params source
      (done ++ x ∷ []) ts)) g f refl e)) in record {
        in_source = r.in_source;
        broken = here t ts f.rule f.name f.at r.broken;
      }

  mutual
    pub stands : (t : TypeTree) (f : Fault) → sort_of roots params source t ≡ Err f → StandsIn roots params source t f
    stands (type_text at w ts) f e = of_head at w ts f (stands_in_one ts [] f) (head_of roots params w) refl e

    stands_in_one : (ts : TypeTrees) (done : Sorts) (f : Fault) → sorts_from roots params source done ts ≡ Err f
        → StandsInOne ts f
    stands_in_one no_types done f e = cc
    stands_in_one (more_types t ts) done f e =
        one_more t ts done f (sort_of roots params source t) (stands t f) (λ s h. stands_in_one ts
        (done ++ s ∷ []) f h) e

  pub one_stands : (ts : TypeTrees) (f : Fault) → sorts_from roots params source [] ts ≡ Err f → StandsInOne ts f
  one_stands ts f e = stands_in_one ts [] f e
