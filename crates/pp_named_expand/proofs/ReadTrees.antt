-- What the constructors and fields of a tree that was looked at tell of it.
use Rattle.std.proofs.Common.{◌≡◌, ℕ, ◌+◌, ◌-◌, ◌≤◌, ◌<◌, List, length, Some, refl, sym}
use Rattle.std.proofs.Common.{ap, ◌∙◌}
use Rattle.std.proofs.Common.{subst, arith, slice_get, inl, inr}
use Rattle.std.proofs.lemmas.Option.{same_Some, slice_get_within}
use Rattle.pp_prog.specs.declared.id.CtorId.{CtorId}
use Rattle.pp_prog.specs.declared.id.DataId.{DataId}
use Rattle.pp_prog.specs.declared.sort.Sort.{Sort}
use Rattle.pp_prog.specs.declared.sort.Sort.TheVariants as sort
use Rattle.pp_prog.specs.declared.types.Ctor.{Ctor}
use Rattle.pp_prog.specs.declared.types.Datatype.{Datatype}
use Rattle.pp_prog.specs.declared.types.TypeTable.{TypeTable}
use Rattle.pp_prog.specs.Sizes.{ctors_of, height_at}
use Rattle.pp_prog.proofs.Values.{ctor_same}
use Rattle.pp_clause.specs.Literal.{Literal}
use Rattle.pp_gate.specs.declared.gate.Gate.{Gate}
use Rattle.pp_domain.specs.declared.symbol.Symbol.{Symbol}
use Rattle.pp_domain.specs.declared.symbol.Symbol.TheVariants as symbol
use Rattle.pp_domain.specs.Answers.{HasField, IsCtorOf, IsCtorTest, IsFieldRead}
use Rattle.pp_domain.specs.Symbols.{IsSymbol, symbol_height}
use Rattle.pp_bounded_trees.proofs.Candidates.{in_block_ctor}
use Rattle.pp_named_trees.specs.declared.arena.Alternative.{Alternative}
use Rattle.pp_named_trees.specs.declared.arena.Expansion.{Expansion}
use Rattle.pp_named_trees.specs.declared.arena.NamedTree.{NamedTree}
use Rattle.pp_named_trees.specs.declared.arena.NamedTrees.{NamedTrees}
use Rattle.pp_named_trees.specs.Arena.{AlternativeFits, FieldFits, IsExpanded}
use Rattle.pp_named_trees.specs.Meaning.{NamedFits, named_sense}
use Rattle.pp_named_trees.specs.Parts.{lowered}
use Rattle.pp_named_trees.proofs.Reading.{field_means, field_there, test_means}
use Rattle.pp_named_expand.specs.Looking.{HasCtors, IsLook}
use Rattle.pp_named_expand.specs.Reads.{IsCtorIn}
use Rattle.pp_named_expand.proofs.Looks.{data_from, not_found}
use Rattle.pp_named_contents.proofs.Blocks.{block_length}
use Rattle.pp_named_trees.specs.Found.{IsPlaceOf}
use Rattle.std.proofs.lemmas.Bool.{cases_lt}

-- a datatype with a constructor stands in the table
pub has_ctors : (types : TypeTable) (c : CtorId) (of : DataId) → IsCtorOf types c of → HasCtors types of
has_ctors types c of is =
    let block = in_block_ctor types of c.0 is.0 is.1 is.2 in record {
      within = slice_get_within types.datatypes of.0 block.datatype block.at_data;
      some = let w = slice_get_within (ctors_of types of) block.place is.0 block.at in omega arith;
    }

-- the place of a tree that was looked at
pub place_within : (ys zs us : List Expansion) (t : NamedTree) (p : ℕ) → ys ≡ us → zs ≡ us → IsPlaceOf ys t p
    → IsExpanded us t → p < length zs
place_within ys zs us t p one other is expanded = elim (cases_lt p (length ys)) [
  | inl lt ↦ let e = ap length (one ∙ sym other) in omega arith
  | inr ge ↦ absurd (not_found ys t p is ge (subst (λ ws. IsExpanded ws t) (sym one) expanded))
]

module _ (types : TypeTable) (c : CtorId) (of : DataId) (ctor : IsCtorOf types c of) (s : Datatype)
    (is : slice_get types.datatypes of.0 ≡ Some s) where
  number_is : (j : ℕ) × (c.0 ≡ s.first.0 + j) × (j < s.count)
  number_is =
      let block = in_block_ctor types of c.0 ctor.0 ctor.1 ctor.2 in
      let same : block.datatype ≡ s = same_Some block.datatype s (sym block.at_data ∙ is) in
      let w = slice_get_within (ctors_of types of) block.place ctor.0 block.at in
      let n = block_length types of s is in (
        block.place,
        block.number ∙ ap (λ (u : Datatype). u.first.0 + block.place) same,
        omega arith,
      )

  pub ctor_low : s.first.0 ≤ c.0
  ctor_low = let n = number_is in let e = n.1 in omega arith

  pub ctor_within : (d : NamedTrees) (gs : List Gate) (t : NamedTree) (ys : List Expansion) (p : ℕ) (y : Expansion)
      (xs : List Alternative) → NamedFits types d gs → of ≡ t.of → ys ≡ d.expansions → slice_get ys p ≡ Some y
      → y.of.0 ≡ t.of.0 → xs ≡ y.alternatives → c.0 - s.first.0 < length xs
  ctor_within d gs t ys p y xs fits own same at here alternatives =
      let look = fits.expansions p y (ap (λ us. slice_get us p) (sym same) ∙ at) in
      let kind : look.datatype ≡ s = same_Some look.datatype s
      (sym look.at ∙ ap (slice_get types.datatypes) (here ∙ ap (λ (u : DataId). u.0) (sym own)) ∙ is) in
      let many = ap length alternatives ∙ look.many ∙ ap (λ (u : Datatype). u.count) kind in
      let n = number_is in
      let e = n.1 in
      let lt = n.2 in omega arith

  pub ctor_found : (d : NamedTrees) (gs : List Gate) (t : NamedTree) (ys : List Expansion) (p : ℕ) (y : Expansion)
      (xs : List Alternative) (x : Alternative) → NamedFits types d gs → of ≡ t.of → ys ≡ d.expansions
      → slice_get ys p ≡ Some y → y.of.0 ≡ t.of.0 → y.name ≡ t.name → xs ≡ y.alternatives
      → slice_get xs (c.0 - s.first.0) ≡ Some x → IsCtorIn d.expansions t c x
  ctor_found d gs t ys p y xs x fits own same at here name alternatives to =
      let there = ap (λ us. slice_get us p) (sym same) ∙ at in
      let look = fits.expansions p y there in
      let kind : look.datatype ≡ s = same_Some look.datatype s
      (sym look.at ∙ ap (slice_get types.datatypes) (here ∙ ap (λ (u : DataId). u.0) (sym own)) ∙ is) in
      let where_ = ap (λ us. slice_get us (c.0 - s.first.0)) (sym alternatives) ∙ to in
      let number = (look.each (c.0 - s.first.0) x where_).ctor in
      let first = ap (λ (u : Datatype). u.first.0) kind in
      let low = ctor_low in record {
        number = p;
        expansion = y;
        at = there;
        of = data_from y.of t.of here;
        name = name;
        place = c.0 - s.first.0;
        to = where_;
        ctor = ctor_same x.ctor c (omega arith);
      }

module _ (types : TypeTable) (e : NamedTrees) (hs : List Gate) (fits : NamedFits types e hs) (t : NamedTree)
    (c : CtorId) (x : Alternative) (is : IsCtorIn e.expansions t c x) where
  pub test_is : (d : NamedTrees) (gs : List Gate) (l : Literal) → IsLook types d gs e hs t → l ≡ x.lit
      → IsCtorTest named_sense types d gs e hs t c l
  test_is d gs l look same =
      subst (λ (m : Literal). IsCtorTest named_sense types d gs e hs t c m) (sym same)
      (subst (λ (b : CtorId). IsCtorTest named_sense types d gs e hs t b x.lit) is.ctor (record {
        of = ((fits.expansions is.number is.expansion is.at).each is.place x is.to).lit;
        looks = look.looks;
        means = λ n a v good stands.
            test_means types e hs fits t is.number is.expansion is.at is.of is.name is.place x is.to n a v good stands;
        extends = λ n a good holds. let h = holds refl in look.extends n a h.0 good h.1 h.2;
      }))

  fit : AlternativeFits hs e.nodes types (fits.expansions is.number is.expansion is.at).datatype is.place x
  fit = (fits.expansions is.number is.expansion is.at).each is.place x is.to

  entry_is : (k : Ctor) → slice_get types.ctors c.0 ≡ Some k → fit.entry ≡ k
  entry_is k at =
      same_Some fit.entry k (sym fit.at ∙ ap (λ (b : CtorId). slice_get types.ctors b.0) is.ctor ∙ at)

  symbol_fits : (h : ℕ) (s : Sort) (q : Symbol NamedTree) → FieldFits hs e.nodes s q
      → IsSymbol named_sense e hs s (lowered h q)
  symbol_fits h sort.Int (symbol.Word w) f = f
  symbol_fits h sort.Bool (symbol.Bit l) f = f
  symbol_fits h (sort.Tree of) (symbol.Tree u) f = (
    record {
      number = f.0.number;
      node = f.0.node;
      at = f.0.at;
      of = f.0.of;
      name = f.0.name;
    },
    f.1,
  )
  symbol_fits h sort.Int (symbol.Bit l) f = absurd f
  symbol_fits h sort.Int (symbol.Tree u) f = absurd f
  symbol_fits h sort.Bool (symbol.Word w) f = absurd f
  symbol_fits h sort.Bool (symbol.Tree u) f = absurd f
  symbol_fits h (sort.Tree of) (symbol.Word w) f = absurd f
  symbol_fits h (sort.Tree of) (symbol.Bit l) f = absurd f

  symbol_high : (h : ℕ) (s : Sort) (q : Symbol NamedTree) → FieldFits hs e.nodes s q
      → symbol_height named_sense e (lowered h q) ≡ height_at h s
  symbol_high h sort.Int (symbol.Word w) f = refl
  symbol_high h sort.Bool (symbol.Bit l) f = refl
  symbol_high h (sort.Tree of) (symbol.Tree u) f = refl
  symbol_high h sort.Int (symbol.Bit l) f = absurd f
  symbol_high h sort.Int (symbol.Tree u) f = absurd f
  symbol_high h sort.Bool (symbol.Word w) f = absurd f
  symbol_high h sort.Bool (symbol.Tree u) f = absurd f
  symbol_high h (sort.Tree of) (symbol.Word w) f = absurd f
  symbol_high h (sort.Tree of) (symbol.Bit l) f = absurd f

  -- the field that has a sort stands in the list
  pub field_within : (place : ℕ) (s : Sort) → HasField types c place s → place < length x.fields
  field_within place s has =
      let sorted : slice_get fit.entry.fields place ≡ Some s =
      ap (λ (k : Ctor). slice_get k.fields place) (entry_is has.0 has.1) ∙ has.2 in
      let there = field_there hs e.nodes fit.entry.fields x.fields place s fit.fields sorted in
      slice_get_within x.fields place there.0 there.1

  pub field_is : (d : NamedTrees) (gs : List Gate) (place h : ℕ) (s : Sort) (q r : Symbol NamedTree)
      → IsLook types d gs e hs t → HasField types c place s → slice_get x.fields place ≡ Some q → h ≡ t.height - 1
      → r ≡ lowered h q → IsFieldRead named_sense types d gs e hs t c place s r
  field_is d gs place h s q r look has at high same =
      let sorted : slice_get fit.entry.fields place ≡ Some s =
      ap (λ (k : Ctor). slice_get k.fields place) (entry_is has.0 has.1) ∙ has.2 in
      let there = field_there hs e.nodes fit.entry.fields x.fields place s fit.fields sorted in
      let one : there.0 ≡ q = same_Some there.0 q (sym there.1 ∙ at) in
      let own : FieldFits hs e.nodes s q = subst (λ z. FieldFits hs e.nodes s z) one there.2 in
      subst (λ z. IsFieldRead named_sense types d gs e hs t c place s z) (sym same)
      (subst (λ (b : CtorId). IsFieldRead named_sense types d gs e hs t b place s (lowered h q)) is.ctor (record {
        of = symbol_fits h s q own;
        height = symbol_high h s q own ∙ ap (λ n. height_at n s) high;
        looks = look.looks;
        means = λ n a v u good stands field exact.
            field_means types e hs fits t is.number is.expansion is.at is.of is.name is.place x is.to h place s q
            (fits.expansions is.number is.expansion is.at).datatype fit sorted at own n a v u good stands field;
        extends = λ n a good holds. let w = holds refl in look.extends n a w.0 good w.2 w.3;
      }))

  -- as the call reads the fields
  pub field_place : (place : ℕ) (xs : List (Symbol NamedTree)) → xs ≡ x.fields → (s : Sort) × HasField types c place s
      → place < length xs
  field_place place xs same has =
      let w = field_within place has.0 has.1 in let e = ap length same in omega arith
