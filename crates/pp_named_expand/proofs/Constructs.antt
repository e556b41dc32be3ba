-- A tree with a known constructor stands for it with the values of its fields.
use Rattle.std.proofs.Common.{◌≡◌, ℕ, ◌+◌, ◌≤◌, Bool, true, List, [], ◌∷◌, length, map}
use Rattle.std.proofs.Common.{Some, refl}
use Rattle.std.proofs.Common.{sym, ap, ◌∙◌, subst, arith, slice_get, inr}
use Rattle.std.proofs.lemmas.Bool.{and_from}
use Rattle.std.proofs.lemmas.Option.{same_Some, slice_get_within}
use Rattle.std.specs.Int.{w32}
use Rattle.pp_prog.specs.declared.id.CtorId.{CtorId}
use Rattle.pp_prog.specs.declared.id.DataId.{DataId}
use Rattle.pp_prog.specs.declared.sort.Sort.{Sort}
use Rattle.pp_prog.specs.declared.sort.Sort.TheVariants as sort
use Rattle.pp_prog.specs.declared.types.Ctor.{Ctor}
use Rattle.pp_prog.specs.declared.types.TypeTable.{TypeTable}
use Rattle.pp_prog.specs.declared.value.Value.{Value}
use Rattle.pp_prog.specs.declared.value.Value.TheVariants as value
use Rattle.pp_prog.specs.Sizes.{ctors_of}
use Rattle.pp_prog.specs.Sorts.{has_sort, have_sorts}
use Rattle.pp_prog.specs.Values.{greatest}
use Rattle.pp_prog.proofs.Values.{ctor_same}
use Rattle.pp_prog.proofs.ValueSorts.{int_has, tree_has_sort, truth_has}
use Rattle.pp_clause.specs.Literal.{lit_value}
use Rattle.pp_gate.specs.declared.gate.Gate.{Gate}
use Rattle.pp_gate.proofs.Places.{at_next, at_some}
use Rattle.pp_bits.specs.Number.{nat_of}
use Rattle.pp_wordgate.specs.Meaning.{word_of}
use Rattle.pp_domain.specs.declared.symbol.Symbol.{Symbol}
use Rattle.pp_domain.specs.declared.symbol.Symbol.TheVariants as symbol
use Rattle.pp_domain.specs.Allowance.{construct_gates, expand_gates_of, look_gates}
use Rattle.pp_domain.specs.Answers.{CanConstruct, IsConstruct}
use Rattle.pp_domain.specs.Moves.{LooksAt, Moves}
use Rattle.pp_domain.specs.Naming.{IsNaming, IsOfData, Names, Naming}
use Rattle.pp_domain.specs.Sense.{Extended, Good}
use Rattle.pp_domain.specs.Symbols.{AreSymbols, SymbolsStand, symbol_height}
use Rattle.pp_domain.proofs.Composition.{Extended_more, Moves_more, Moves_weaker}
use Rattle.pp_bounded_trees.proofs.Candidates.{in_block_ctor}
use Rattle.pp_named_trees.specs.declared.arena.Expansion.{Expansion}
use Rattle.pp_named_trees.specs.declared.arena.NamedTree.{NamedTree}
use Rattle.pp_named_trees.specs.declared.arena.NamedTrees.{NamedTrees}
use Rattle.pp_named_trees.specs.declared.arena.Node.{Node}
use Rattle.pp_named_trees.specs.Arena.{ExpansionFits, FieldFits, FieldsFit, IsKept, looked}
use Rattle.pp_named_trees.specs.Holding.{SymbolHolds, SymbolsHold}
use Rattle.pp_named_trees.specs.Meaning.{NamedFits, named_sense}
use Rattle.pp_named_trees.proofs.Parts.{parts_agree, parts_of_fields}
use Rattle.pp_named_trees.proofs.Reading.{test_means}
use Rattle.pp_named_contents.proofs.Blocks.{block_length}
use Rattle.pp_named_contents.proofs.Knowing.{known_holds}
use Rattle.pp_named_contents.proofs.Kept.{expansion_fits}
use Rattle.pp_named_instances.specs.Condition.{HaveLevels}
use Rattle.pp_named_expand.specs.Constructed.{IsKnownNew, known_gates}
use Rattle.pp_named_expand.specs.Entered.{IsEntered, enter_gates}
use Rattle.pp_named_expand.proofs.Budget.{known_most, known_room}
use Rattle.pp_named_expand.proofs.Looks.{have_levels, looked_pushed}
use Rattle.pp_named_expand.proofs.ReadTrees.{has_ctors}
use Rattle.pp_named_contents.specs.Known.{AreFieldsOf}
use Rattle.pp_gate.proofs.Growing.{length-Grows}
use Rattle.pp_domain.proofs.PlainSymbols.{word_is_int}

module _ (d : NamedTrees) (gs : List Gate) where
  pub fields_of_symbols : (ss : List Sort) (xs : List (Symbol NamedTree)) → AreSymbols named_sense d gs ss xs
      → FieldsFit gs d.nodes ss xs
  fields_of_symbols [] [] are = tt
  fields_of_symbols (sort.Int ∷ ss) (symbol.Word w ∷ xs) are = (are.0, fields_of_symbols ss xs are.1)
  fields_of_symbols (sort.Bool ∷ ss) (symbol.Bit l ∷ xs) are = (are.0, fields_of_symbols ss xs are.1)
  fields_of_symbols (sort.Tree of ∷ ss) (symbol.Tree t ∷ xs) are = (are.0, fields_of_symbols ss xs are.1)
  fields_of_symbols (sort.Int ∷ ss) (symbol.Bit l ∷ xs) are = absurd are.0
  fields_of_symbols (sort.Int ∷ ss) (symbol.Tree t ∷ xs) are = absurd are.0
  fields_of_symbols (sort.Bool ∷ ss) (symbol.Word w ∷ xs) are = absurd are.0
  fields_of_symbols (sort.Bool ∷ ss) (symbol.Tree t ∷ xs) are = absurd are.0
  fields_of_symbols (sort.Tree of ∷ ss) (symbol.Word w ∷ xs) are = absurd are.0
  fields_of_symbols (sort.Tree of ∷ ss) (symbol.Bit l ∷ xs) are = absurd are.0
  fields_of_symbols [] (x ∷ xs) are = absurd are
  fields_of_symbols (s ∷ ss) [] are = absurd are

stand_hold : (d : NamedTrees) (a : ℕ → Bool) (n : Naming) (xs : List (Symbol NamedTree)) (vs : List Value)
    → SymbolsStand named_sense d a n xs vs → SymbolsHold a n xs vs
stand_hold d a n [] [] are = tt
stand_hold d a n (symbol.Word w ∷ xs) (v ∷ vs) are = (are.0, stand_hold d a n xs vs are.1)
stand_hold d a n (symbol.Bit l ∷ xs) (v ∷ vs) are = (are.0, stand_hold d a n xs vs are.1)
stand_hold d a n (symbol.Tree t ∷ xs) (v ∷ vs) are = (are.0, stand_hold d a n xs vs are.1)
stand_hold d a n [] (v ∷ vs) are = absurd are
stand_hold d a n (x ∷ xs) [] are = absurd are

-- fields that hold stand for one list of values
hold_same : (a : ℕ → Bool) (n : Naming) (xs : List (Symbol NamedTree)) (vs ws : List Value) → SymbolsHold a n xs vs
    → SymbolsHold a n xs ws → vs ≡ ws
hold_same a n [] [] [] h i = refl
hold_same a n (x ∷ xs) (v ∷ vs) (w ∷ ws) h i =
    let one = value_same x v w h.0 i.0 in let rest = hold_same a n xs vs ws h.1 i.1 in λ k. one k ∷ rest k
  where
    value_same : (x : Symbol NamedTree) (v w : Value) → SymbolHolds a n x v → SymbolHolds a n x w → v ≡ w
    value_same (symbol.Word l) v w h i = h ∙ sym i
    value_same (symbol.Bit l) v w h i = h ∙ sym i
    value_same (symbol.Tree t) v w h i = same_Some v w (sym h ∙ i)
hold_same a n [] (v ∷ vs) ws h i = absurd h
hold_same a n [] [] (w ∷ ws) h i = absurd i
hold_same a n (x ∷ xs) [] ws h i = absurd h
hold_same a n (x ∷ xs) (v ∷ vs) [] h i = absurd i

-- the values of fields have their sorts
module _ (types : TypeTable) (gs : List Gate) (nodes : List Node) (a : ℕ → Bool) (n : Naming)
    (naming : IsNaming types n) where
  value_has : (s : Sort) (x : Symbol NamedTree) (v : Value) → FieldFits gs nodes s x → SymbolHolds a n x v
      → has_sort types.ctors v s ≡ true
  value_has sort.Int (symbol.Word w) v fits is =
      subst (λ u. has_sort types.ctors u sort.Int ≡ true) (sym is)
      (int_has types.ctors (word_of w32 a w) (word_is_int a w fits.0))
  value_has sort.Bool (symbol.Bit l) v fits is =
      subst (λ u. has_sort types.ctors u sort.Bool ≡ true) (sym is) (truth_has types.ctors (lit_value a l))
  value_has (sort.Tree of) (symbol.Tree t) v fits is =
      subst (λ (o : DataId). has_sort types.ctors v (sort.Tree o) ≡ true) fits.1
      (naming.sorts t.of (nat_of a t.name) v is)
  value_has sort.Int (symbol.Bit l) v fits is = absurd fits
  value_has sort.Int (symbol.Tree t) v fits is = absurd fits
  value_has sort.Bool (symbol.Word w) v fits is = absurd fits
  value_has sort.Bool (symbol.Tree t) v fits is = absurd fits
  value_has (sort.Tree of) (symbol.Word w) v fits is = absurd fits
  value_has (sort.Tree of) (symbol.Bit l) v fits is = absurd fits

  values_have : (ss : List Sort) (xs : List (Symbol NamedTree)) (vs : List Value) → FieldsFit gs nodes ss xs
      → SymbolsHold a n xs vs → have_sorts types.ctors vs ss ≡ true
  values_have [] [] [] fits are = refl
  values_have (s ∷ ss) (x ∷ xs) (v ∷ vs) fits are =
      and_from (has_sort types.ctors v s) _ (value_has s x v fits.0 are.0) (values_have ss xs vs fits.1 are.1)
  values_have [] (x ∷ xs) vs fits are = absurd fits
  values_have (s ∷ ss) [] vs fits are = absurd fits
  values_have [] [] (v ∷ vs) fits are = absurd are
  values_have (s ∷ ss) (x ∷ xs) [] fits are = absurd are

module _ (types : TypeTable) (d e : NamedTrees) (gs hs : List Gate) (c : CtorId) (fields : List (Symbol NamedTree))
    (y : Expansion) (k : Ctor) (fits : NamedFits types d gs) (at : slice_get types.ctors c.0 ≡ Some k)
    (of : k.of ≡ y.of) (are : AreSymbols named_sense d gs k.fields fields)
    (moves : Moves named_sense types d gs e hs (known_gates types y.of))
    (new : IsKnownNew types d gs e hs y.of c fields y) where
  pub new_fits : ExpansionFits hs e.nodes types y
  new_fits = expansion_fits hs e.nodes types y.of y.name y.alternatives new.known.fits new.kept new.name

  pub new_levels : HaveLevels e.groups e.levels y
  new_levels = have_levels types hs e y.of y.name y.alternatives new.known.fits new.levels

  module _ (f : NamedTrees) (is : List Gate) (after : Moves named_sense types e hs f is (enter_gates e y))
      (entered : IsEntered types e hs f is y) (h : ℕ) where
    abbrev pub tree : NamedTree
    tree = record { of = y.of; height = h; name = y.name }

    new_node : IsKept f.nodes tree
    new_node = (after.nodes tree (new.node h)).node

    new_at : slice_get f.expansions (length e.expansions) ≡ Some y
    new_at =
        ap (λ (g : NamedTrees). slice_get g.expansions (length e.expansions)) entered.is ∙ at_next e.expansions [] y

    new_looks : LooksAt named_sense d gs f is tree y.of
    new_looks = record {
      expanded = record {
        number = length e.expansions;
        expansion = y;
        at = new_at;
        of = refl;
        name = refl;
      };
      once = inr (record {
        inexact = refl;
        before = λ x. new.fresh x.expansion.name (fits.expansions x.number x.expansion x.at).name x.name;
        looks = ap (λ (g : NamedTrees). looked g.expansions) entered.is ∙ looked_pushed e.expansions y
            ∙ ap (λ zs. y.of ∷ looked zs) new.expansions;
        compares = refl;
      });
    }

    new_means : (n : Naming) (a : ℕ → Bool) (vs : List Value) → Good named_sense types f is n a
        → SymbolsStand named_sense f a n fields vs → n y.of (nat_of a y.name) ≡ Some (value.Tree c vs)
    new_means n a vs good stand =
        let there = new_at in
        let holds = good.matches.expansions (length e.expansions) y there in
        let block = in_block_ctor types y.of c.0 k at of in
        let count = new.known.fits.many ∙ sym (block_length types y.of new.known.fits.datatype new.known.fits.at) in
        let x = at_some y.alternatives block.place
        (let w = slice_get_within (ctors_of types y.of) block.place k block.at in omega arith) in
        let kind : block.datatype ≡ new.known.fits.datatype =
        same_Some block.datatype new.known.fits.datatype (sym block.at_data ∙ new.known.fits.at) in
        let own : x.0.ctor ≡ c = ctor_same x.0.ctor c ((new.known.fits.each block.place x.0 x.1).ctor
        ∙ ap (λ (u : _). u.first.0 + block.place) (sym kind) ∙ sym block.number) in
        let known = new.known.each block.place x.0 x.1 in
        let on = known.on own a (after.back n a good).gates in
        let has = (test_means types f is after.fits tree (length e.expansions) y there refl refl block.place x.0 x.1
        n a holds.value good holds.named).0 on in
        let held = (holds.each block.place x.0 x.1).own has.0 has.1 in
        let one = hold_same a n fields vs has.0 (stand_hold f a n fields vs stand)
        (subst (λ zs. SymbolsHold a n zs has.0) (known.own own) held.1) in
        let back = sym one in
        holds.named ∙ ap Some (has.1 ∙ (λ i. value.Tree (own i) (back i)))

    new_extends : (n : Naming) (a : ℕ → Bool) (vs : List Value) → Good named_sense types d gs n a
        → SymbolsStand named_sense d a n fields vs → Names types n (value.Tree c vs)
        → Extended named_sense types gs n a f is
    new_extends n a vs good stand names =
        let fit = fields_of_symbols d gs k.fields fields are in
        let held = stand_hold d a n fields vs stand in
        let sorted : IsOfData types y.of (value.Tree c vs) =
        subst (λ (o : DataId). IsOfData types o (value.Tree c vs)) of
        (tree_has_sort types.ctors c k vs at
        (values_have types gs d.nodes a n good.admitted.naming k.fields fields vs fit held)) in
        let num = names y.of sorted in
        let x = new.chosen n a num.number good (good.matches.short y.of num.number (value.Tree c vs) num.is) in
        let next = x.extended.next in
        let still = parts_agree gs a next x.extended.agree n k.fields fields vs
        (parts_of_fields gs d.nodes fits.nodes k.fields fields fit) held in
        Extended_more named_sense types e f gs hs is (known_gates types y.of) n a moves.grows x.extended
        (entered.extends n next x.extended.good (record {
          value = value.Tree c vs;
          named = ap (λ (m : ℕ). n y.of m) x.number ∙ num.is;
          each = known_holds types hs y.of c fields y.alternatives next n vs new.known x.extended.good.gates still;
        }))

    pub construct_is : h ≡ 1 + greatest (map (symbol_height named_sense d) fields)
        → IsConstruct named_sense types d gs f is c fields tree
    construct_is high = record {
      node = new_node;
      data_of = (k, at, of);
      height = high;
      looks = new_looks;
      means = λ n a vs good stand. new_means n a vs good stand;
      extends = λ n a good holds. let w = holds refl in new_extends n a w.0 good w.1 w.2;
    }

-- ---- as the call reads the table

module _ (types : TypeTable) (d : NamedTrees) (gs : List Gate) (c : CtorId) (fields : List (Symbol NamedTree))
    (k : Ctor) (fits : NamedFits types d gs) (at : slice_get types.ctors c.0 ≡ Some k)
    (can : CanConstruct named_sense types d gs c fields) where
  are_read : AreSymbols named_sense d gs k.fields fields
  are_read =
      subst (λ (j : Ctor). AreSymbols named_sense d gs j.fields fields) (same_Some can.0 k (sym can.1 ∙ at)) can.2

  gates_read : construct_gates named_sense types d c ≡ look_gates types (looked d.expansions) 0 k.of
  gates_read = ap (expand_gates_of named_sense types d) at

  pub fields_read : AreFieldsOf types gs c fields
  fields_read =
      (k, at, parts_of_fields gs d.nodes fits.nodes k.fields fields (fields_of_symbols d gs k.fields fields are_read))

  pub known_room_read : (most : ℕ) → length gs + construct_gates named_sense types d c ≤ most
      → length gs + known_gates types k.of ≤ most
  known_room_read most room =
      let g = gates_read in let w = known_most types k.of (looked d.expansions) in omega arith

  pub known_moves_read : (e : NamedTrees) (hs : List Gate) → Moves named_sense types d gs e hs (known_gates types k.of)
      → Moves named_sense types d gs e hs (construct_gates named_sense types d c)
  known_moves_read e hs moves =
      Moves_weaker named_sense types d e gs hs (known_gates types k.of) (construct_gates named_sense types d c) moves
      (let g = gates_read in let w = known_most types k.of (looked d.expansions) in omega arith)

  module _ (e : NamedTrees) (hs : List Gate) (y : Expansion)
      (moves : Moves named_sense types d gs e hs (known_gates types k.of))
      (new : IsKnownNew types d gs e hs k.of c fields y) where
    own_new : IsKnownNew types d gs e hs y.of c fields y
    own_new = subst (λ (o : DataId). IsKnownNew types d gs e hs o c fields y) (sym new.data_of) new

    own_moves : Moves named_sense types d gs e hs (known_gates types y.of)
    own_moves = subst (λ (o : DataId). Moves named_sense types d gs e hs (known_gates types o)) (sym new.data_of) moves

    pub fits_read : ExpansionFits hs e.nodes types y
    fits_read = new_fits types d e gs hs c fields y k fits at (sym new.data_of) are_read own_moves own_new

    pub levels_read : HaveLevels e.groups e.levels y
    levels_read = new_levels types d e gs hs c fields y k fits at (sym new.data_of) are_read own_moves own_new

    whole : known_gates types k.of + enter_gates e y ≤ construct_gates named_sense types d c
    whole =
        let some = (has_ctors types c y.of (k, at, sym new.data_of)).some in
        let own = known_room types hs d e y own_new.known.fits some own_new.expansions in
        let o = ap (λ (u : DataId). known_gates types u) new.data_of in
        let l = ap (λ (u : DataId). look_gates types (looked d.expansions) 0 u) new.data_of in
        let g = gates_read in omega arith

    pub enter_room_read : (most : ℕ) → length gs + construct_gates named_sense types d c ≤ most
        → length hs + enter_gates e y ≤ most
    enter_room_read most room =
        let w = whole in
        let g = (length-Grows gs hs (known_gates types k.of) moves.grows).1 in omega arith

    pub moves_read : (f : NamedTrees) (is : List Gate) → Moves named_sense types e hs f is (enter_gates e y)
        → Moves named_sense types d gs f is (construct_gates named_sense types d c)
    moves_read f is more =
        Moves_more named_sense types d e f gs hs is (known_gates types k.of) (enter_gates e y)
        (construct_gates named_sense types d c) moves more whole

    pub answer_read : (f : NamedTrees) (is : List Gate) (h : ℕ) (t : NamedTree)
        → Moves named_sense types e hs f is (enter_gates e y) → IsEntered types e hs f is y
        → h ≡ 1 + greatest (map (symbol_height named_sense d) fields)
        → t ≡ record { of = k.of; height = h; name = y.name } → IsConstruct named_sense types d gs f is c fields t
    answer_read f is h t more entered high same =
        subst (λ (u : NamedTree). IsConstruct named_sense types d gs f is c fields u)
        (ap (λ (o : DataId). record { of = o; height = h; name = y.name }) new.data_of ∙ sym same)
        (construct_is types d e gs hs c fields y k fits at (sym new.data_of) are_read own_moves own_new f is more
        entered h high)
