-- A look at a tree, from what was prepared and entered.
use Rattle.std.proofs.Common.{◌≡◌, ℕ, zero, suc, ◌+◌, ◌≤◌, ◌<◌, List, [], ◌∷◌, ◌++◌, length, map}
use Rattle.std.proofs.Common.{reverse, Some, refl, sym, ap}
use Rattle.std.proofs.Common.{◌∙◌, subst, arith, slice_get, inl, inr}
use Rattle.std.proofs.lemmas.List.{map-append, reverse-append}
use Rattle.std.proofs.lemmas.Option.{same_Some, slice_get_within}
use Rattle.pp_prog.specs.declared.id.DataId.{DataId}
use Rattle.pp_prog.specs.declared.sort.Sort.{Sort}
use Rattle.pp_prog.specs.declared.sort.Sort.TheVariants as sort
use Rattle.pp_prog.specs.declared.types.TypeTable.{TypeTable}
use Rattle.pp_prog.specs.Sizes.{ctors_of}
use Rattle.pp_clause.specs.Literal.{Literal}
use Rattle.pp_gate.specs.declared.gate.Gate.{Gate}
use Rattle.pp_gate.proofs.Growing.{length-Grows}
use Rattle.pp_gate.proofs.Places.{at_next, at_some}
use Rattle.pp_bits.specs.Number.{nat_of}
use Rattle.pp_domain.specs.declared.symbol.Symbol.{Symbol}
use Rattle.pp_domain.specs.declared.symbol.Symbol.TheVariants as symbol
use Rattle.pp_domain.specs.Allowance.{look_gates}
use Rattle.pp_domain.specs.Moves.{Moves}
use Rattle.pp_domain.proofs.Composition.{Extended_more, Extended_none, Moves_more, Moves_none, Moves_weaker}
use Rattle.pp_named_trees.specs.declared.arena.Alternative.{Alternative}
use Rattle.pp_named_trees.specs.declared.arena.Expansion.{Expansion}
use Rattle.pp_named_trees.specs.declared.arena.NamedTree.{NamedTree}
use Rattle.pp_named_trees.specs.declared.arena.NamedTrees.{NamedTrees}
use Rattle.pp_named_trees.specs.Arena.{ExpansionFits, IsExpanded, IsKept, data_of_look, looked}
use Rattle.pp_named_trees.specs.Found.{IsPlaceOf}
use Rattle.pp_named_trees.specs.Laws.{name_later}
use Rattle.pp_named_trees.specs.Meaning.{NamedFits, named_sense}
use Rattle.pp_named_trees.specs.Parts.{PartFits, PartsFit}
use Rattle.pp_named_trees.proofs.Lawful.{named_lawful}
use Rattle.pp_named_trees.proofs.Parts.{kept_named}
use Rattle.pp_named_contents.specs.Fitting.{ContentsFit}
use Rattle.pp_named_contents.proofs.Blocks.{block_length}
use Rattle.pp_named_contents.proofs.Kept.{expansion_fits}
use Rattle.pp_named_instances.specs.Condition.{HaveLevels}
use Rattle.pp_named_instances.specs.Levels.{DataHasLevels}
use Rattle.pp_named_expand.specs.Entered.{IsEntered, enter_gates}
use Rattle.pp_named_expand.specs.Looking.{HasCtors, IsLook}
use Rattle.pp_named_expand.specs.Prepared.{IsPrepared, prepare_gates}
use Rattle.pp_named_expand.proofs.Budget.{look_room, pairs_of, prepare_most}

-- ---- whether the tree was looked at before

pub data_from : (d e : DataId) → d.0 ≡ e.0 → d ≡ e
data_from d e is = let mk : ℕ → DataId = λ n. record { 0 = n } in ap mk is

found : (ys : List Expansion) (t : NamedTree) (p : ℕ) → IsPlaceOf ys t p → p < length ys → IsExpanded ys t
found ys t p is lt =
    let y = at_some ys p lt in record {
      number = p;
      expansion = y.0;
      at = y.1;
      of = data_from y.0.of t.of (is.of y.0 y.1);
      name = is.name y.0 y.1;
    }

pub not_found : (ys : List Expansion) (t : NamedTree) (p : ℕ) → IsPlaceOf ys t p → length ys ≤ p → IsExpanded ys t → ⊥
not_found ys t p is le x =
    let w = slice_get_within ys x.number x.expansion x.at in
    is.before x.number x.expansion (omega arith) x.at (ap (λ (d : DataId). d.0) x.of) x.name

pub looked_pushed : (ys : List Expansion) (y : Expansion) → looked (ys ++ y ∷ []) ≡ y.of ∷ looked ys
looked_pushed ys y =
    ap reverse (map-append data_of_look ys (y ∷ [])) ∙ reverse-append (map data_of_look ys) (y.of ∷ [])

-- ---- what is entered has levels

sort_at : (gs : List Gate) (ss : List Sort) (xs : List (Symbol NamedTree)) (p : ℕ) (t : NamedTree) → PartsFit gs ss xs
    → slice_get xs p ≡ Some (symbol.Tree t) → slice_get ss p ≡ Some (sort.Tree t.of)
sort_at gs ss [] p t fits at = cc
sort_at gs (s ∷ ss) (x ∷ xs) zero t fits at =
    ap Some (own s t (subst (λ z. PartFits gs s z) (same_Some x (symbol.Tree t) at) fits.0))
  where
    own : (s : Sort) (t : NamedTree) → PartFits gs s (symbol.Tree t) → s ≡ sort.Tree t.of
    own (sort.Tree of) t fits = ap sort.Tree (sym fits.1)
    own sort.Int t fits = absurd fits
    own sort.Bool t fits = absurd fits
sort_at gs (s ∷ ss) (x ∷ xs) (suc p) t fits at = sort_at gs ss xs p t fits.1 at
sort_at gs [] (x ∷ xs) p t fits at = absurd fits

pub have_levels : (types : TypeTable) (gs : List Gate) (e : NamedTrees) (of : DataId) (name : List Literal)
    (xs : List Alternative) → ContentsFit gs types of xs → DataHasLevels types e.groups e.levels of
    → HaveLevels e.groups e.levels (record { of = of; name = name; alternatives = xs })
have_levels types gs e of name xs fits levels = record {
  own = levels.own;
  fields = λ j x p t at field one.
      let len : length xs ≡ length (ctors_of types of) =
      fits.many ∙ sym (block_length types of fits.datatype fits.at) in
      let k = at_some (ctors_of types of) j (let w = slice_get_within xs j x at in omega arith) in
      levels.fields j k.0 k.1 p (sort.Tree t.of)
      (sort_at gs k.0.fields x.fields p t (pairs_of types gs of xs fits j k.0 x k.1 at) field) one;
}

-- ---- the look

module _ (types : TypeTable) (d : NamedTrees) (gs : List Gate) (t : NamedTree) (fits : NamedFits types d gs) where
  pub look_none : (n : ℕ) → Moves named_sense types d gs d gs n
  look_none n =
      Moves_weaker named_sense types d d gs gs 0 n (Moves_none named_sense types named_lawful d gs fits) (omega arith)

  pub look_again : (ys : List Expansion) (p m : ℕ) → ys ≡ d.expansions → IsPlaceOf ys t p → m ≡ length d.expansions
      → p < m → IsLook types d gs d gs t
  look_again ys p m same is count lt = record {
    looks = record {
      expanded = subst (λ zs. IsExpanded zs t) same
          (found ys t p is (let e = ap length same in omega arith));
      once = inl (record { looks = refl; compares = refl }, refl);
    };
    extends = λ n a v good stands names. Extended_none named_sense types d gs n a good;
  }

  -- a tree without a place wasn't looked at
  pub unseen : (ys : List Expansion) (p m : ℕ) → ys ≡ d.expansions → IsPlaceOf ys t p → m ≡ length d.expansions
      → m ≤ p → IsExpanded d.expansions t → ⊥
  unseen ys p m same at count le x =
      not_found ys t p at (let l = ap length same in omega arith) (subst (λ zs. IsExpanded zs t) (sym same) x)

  module _ (e : NamedTrees) (hs : List Gate) (xs : List Alternative) (ctors : HasCtors types t.of)
      (moves : Moves named_sense types d gs e hs (prepare_gates types t.of))
      (prepared : IsPrepared types d gs e hs t.of xs) (node : IsKept d.nodes t) where
    abbrev pub entry : Expansion
    entry = record { of = t.of; name = t.name; alternatives = xs }

    pub entry_fits : ExpansionFits hs e.nodes types entry
    entry_fits =
        expansion_fits hs e.nodes types t.of t.name xs prepared.fits prepared.kept
        (name_later gs hs (prepare_gates types t.of) moves.grows t.name (kept_named gs d.nodes fits.nodes t node))

    pub entry_levels : HaveLevels e.groups e.levels entry
    entry_levels = have_levels types hs e t.of t.name xs prepared.fits prepared.levels

    pub whole : prepare_gates types t.of + enter_gates e entry ≤ look_gates types (looked d.expansions) 0 t.of
    whole = look_room types hs d e entry prepared.fits ctors.some prepared.expansions

    pub enter_room : (most : ℕ) → length gs + look_gates types (looked d.expansions) 0 t.of ≤ most
        → length hs + enter_gates e entry ≤ most
    enter_room most room =
        let w = whole in
        let g = (length-Grows gs hs (prepare_gates types t.of) moves.grows).1 in omega arith

    pub look_moves : (f : NamedTrees) (is : List Gate) → Moves named_sense types e hs f is (enter_gates e entry)
        → Moves named_sense types d gs f is (look_gates types (looked d.expansions) 0 t.of)
    look_moves f is more =
        Moves_more named_sense types d e f gs hs is (prepare_gates types t.of) (enter_gates e entry)
        (look_gates types (looked d.expansions) 0 t.of) moves more whole

    pub look_first : (f : NamedTrees) (is : List Gate) (ys : List Expansion) (p m : ℕ) → ys ≡ d.expansions
        → IsPlaceOf ys t p → m ≡ length d.expansions → m ≤ p → IsEntered types e hs f is entry
        → IsLook types d gs f is t
    look_first f is ys p m same at count le entered = record {
      looks = record {
        expanded = record {
          number = length e.expansions;
          expansion = entry;
          at = ap (λ (g : NamedTrees). slice_get g.expansions (length e.expansions)) entered.is
              ∙ at_next e.expansions [] entry;
          of = refl;
          name = refl;
        };
        once = inr (record {
          inexact = refl;
          before = unseen ys p m same at count le;
          looks = ap (λ (g : NamedTrees). looked g.expansions) entered.is ∙ looked_pushed e.expansions entry
              ∙ ap (λ zs. t.of ∷ looked zs) prepared.expansions;
          compares = refl;
        });
      };
      extends = λ n a v good stands names.
          let sorted = good.admitted.naming.sorts t.of (nat_of a t.name) v stands in
          let c = prepared.chosen n a v good sorted names in
          let x = c.extended in
          let there = (moves.stands n a x.next t v node x.agree).0 stands in
          Extended_more named_sense types e f gs hs is (prepare_gates types t.of) n a moves.grows x
          (entered.extends n x.next x.good (record { value = v; named = there; each = c.holds }));
    }

  pub prepare_room : (most : ℕ) → length gs + look_gates types (looked d.expansions) 0 t.of ≤ most
      → length gs + prepare_gates types t.of ≤ most
  prepare_room most room = let w = prepare_most types t.of (looked d.expansions) in omega arith

  pub prepare_moves : (e : NamedTrees) (hs : List Gate) → Moves named_sense types d gs e hs (prepare_gates types t.of)
      → Moves named_sense types d gs e hs (look_gates types (looked d.expansions) 0 t.of)
  prepare_moves e hs moves =
      Moves_weaker named_sense types d e gs hs (prepare_gates types t.of)
      (look_gates types (looked d.expansions) 0 t.of) moves (prepare_most types t.of (looked d.expansions))
