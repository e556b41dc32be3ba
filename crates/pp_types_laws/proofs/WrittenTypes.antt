-- A written type is a sort in range.
use Rattle.std.proofs.Common.{◌≡◌, ◌∙◌, ℕ, suc, ◌<◌, Bool, true, false, if◌then◌else◌, List, [], Option, Some, None}
use Rattle.std.proofs.Common.{length, slice_get, refl, sym, ap, subst}
use Rattle.std.proofs.lemmas.List.Quantifiers.{position-Some}
use Rattle.std.specs.Str.{bytes_eq}
use Rattle.pp_names.specs.Find.{names_of}
use Rattle.pp_names.specs.Places.{Word, place_of}
use Rattle.pp_sorts.specs.declared.head.Head.{Head}
use Rattle.pp_sorts.specs.declared.head.Head.TheVariants as head
use Rattle.pp_sorts.specs.IsSort.{IsSort, a_sort, AreSorts, no_sorts, more_sorts, arity, boolean_word, count}
use Rattle.pp_sorts.specs.IsSort.{declared_head, head_of, int_word, root_at, root_head, sort_with}
use Rattle.pp_tree.specs.Plain.{TypeTree, TypeTrees}
use Rattle.pp_typed.specs.InRange.{IsInRange, int_in_range, bool_in_range, param_in_range, root_in_range, AreInRange}
use Rattle.pp_typed.specs.InRange.{none_in_range, more_in_range}
use Rattle.pp_typed.specs.declared.sort.GenericSort.{GenericSort}
use Rattle.pp_typed.specs.declared.typed.TypedRoot.{TypedRoot}

module _ (roots : List TypedRoot) (params : List Word) where
  -- the root of a head is declared, with as many type parameters
  record IsRootHead (r n : ℕ) : Type 0 where
    root : TypedRoot
    there : slice_get roots r ≡ Some root
    count_is : root.type_params ≡ n

  abbrev HeadFits : Head → Type 0
  HeadFits head.Int = Unit {0}
  HeadFits head.Bool = Unit {0}
  HeadFits (head.Param i) = i < length params
  HeadFits (head.Root r n) = IsRootHead r n

  root_fits : (r : ℕ) (o : Option TypedRoot) (h : Head) → slice_get roots r ≡ o → root_at r o ≡ Some h → HeadFits h
  root_fits r None h there e = cc
  root_fits r (Some root) h there e =
      let same : head.Root r root.type_params ≡ h = cc in
      subst HeadFits same (record { root = root; there = there; count_is = refl })

  found_fits : (o : Option ℕ) (h : Head) → root_head roots o ≡ Some h → HeadFits h
  found_fits None h e = cc
  found_fits (Some r) h e = root_fits r (slice_get roots r) h refl e

  declared_fits : (w : Word) (o : Option ℕ) (h : Head) → place_of w params ≡ o
      → declared_head roots params w o ≡ Some h → HeadFits h
  declared_fits w None h p e = found_fits (place_of w (names_of roots)) h e
  declared_fits w (Some i) h p e =
      let same : head.Param i ≡ h = cc in
      subst HeadFits same (position-Some (bytes_eq w) params i [] p).0

  chosen_fits : (a b : Bool) (rest : Option Head) (h : Head) → ((g : Head) → rest ≡ Some g → HeadFits g)
      → (if a then Some head.Int else if b then Some head.Bool else rest) ≡ Some h → HeadFits h
  chosen_fits true b rest h go e = let same : head.Int ≡ h = cc in subst HeadFits same tt
  chosen_fits false true rest h go e = let same : head.Bool ≡ h = cc in subst HeadFits same tt
  chosen_fits false false rest h go e = go h e

  head_fits : (w : Word) (h : Head) → head_of roots params w ≡ Some h → HeadFits h
  head_fits w h e =
      chosen_fits (bytes_eq w int_word) (bytes_eq w boolean_word) (declared_head roots params w (place_of w params)) h
      (λ g is. declared_fits w (place_of w params) g refl is) e

  pub all_written_count : {ts : TypeTrees} {ss : List GenericSort} → AreSorts roots params ts ss → length ss ≡ count ts
  all_written_count no_sorts = refl
  all_written_count (more_sorts s ss) = ap suc (all_written_count ss)

  with_head : (h : Head) (ss : List GenericSort) → HeadFits h → length ss ≡ arity h
      → AreInRange roots (length params) ss
      → (s : GenericSort) → s ≡ sort_with h ss → IsInRange roots (length params) s
  with_head head.Int ss fits c all s e = int_in_range e
  with_head head.Bool ss fits c all s e = bool_in_range e
  with_head (head.Param i) ss fits c all s e = param_in_range i e fits
  with_head (head.Root r k) ss fits c all s e =
      root_in_range r fits.root ss e fits.there (c ∙ sym fits.count_is) all

  mutual
    pub written_in_range : {t : TypeTree} {s : GenericSort} → IsSort roots params t s
        → IsInRange roots (length params) s
    written_in_range (a_sort at w ts h ss is c all {s} e) =
        with_head h ss (head_fits w h is) (all_written_count all ∙ c) (all_written_in_range all) s e

    pub all_written_in_range : {ts : TypeTrees} {ss : List GenericSort} → AreSorts roots params ts ss
        → AreInRange roots (length params) ss
    all_written_in_range no_sorts = none_in_range
    all_written_in_range (more_sorts s ss) = more_in_range (written_in_range s) (all_written_in_range ss)
