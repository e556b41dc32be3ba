-- Expansions that hold agree: trees of one datatype have one number exactly where their constructors and fields are the
-- same.
use Rattle.std.proofs.Common.{◌≡◌, ◌↔◌, ◌⊎◌, ℕ, zero, suc, ◌+◌, ◌-◌, ◌<◌, ◌≤◌, Bool, true, List, [], ◌∷◌, length}
use Rattle.std.proofs.Common.{All, Option, Some, None, refl, sym, ap, ◌∙◌, subst, arith, inl, inr, slice_get}
use Rattle.std.proofs.lemmas.Bool.{both_ways, and_parts, ltb-true, leb-true}
use Rattle.std.proofs.lemmas.Bool.Decides.{eqb_tells}
use Rattle.std.specs.Int.{w32, cast_signed}
use Rattle.std.proofs.lemmas.Option.{same_Some}
use Rattle.pp_prog.specs.declared.id.CtorId.{CtorId}
use Rattle.pp_prog.specs.declared.id.DataId.{DataId}
use Rattle.pp_prog.specs.declared.sort.Sort.{Sort}
use Rattle.pp_prog.specs.declared.sort.Sort.TheVariants as sort
use Rattle.pp_prog.specs.declared.types.Ctor.{Ctor}
use Rattle.pp_prog.specs.declared.types.Datatype.{Datatype}
use Rattle.pp_prog.specs.declared.types.TypeTable.{TypeTable}
use Rattle.pp_prog.specs.declared.value.Value.{Value}
use Rattle.pp_prog.specs.declared.value.Value.TheVariants as value
use Rattle.pp_prog.specs.declared.value.Value.TheVariants.{outs-Int}
use Rattle.pp_prog.specs.declared.value.Value.TheViews.{out-Value}
use Rattle.pp_prog.specs.Table.{in_block, in_block_of}
use Rattle.pp_prog.proofs.Values.{ctor_same, same_ctor}
use Rattle.pp_prog.proofs.ValueSorts.{tree_value}
use Rattle.pp_clause.specs.Literal.{Literal, lit_value}
use Rattle.pp_gate.specs.declared.gate.Gate.{Gate}
use Rattle.pp_gate.specs.Circuit.{Gives}
use Rattle.pp_gate.proofs.Places.{at_some}
use Rattle.pp_bits.specs.Number.{nat_of}
use Rattle.pp_wordgate.specs.Meaning.{word_of}
use Rattle.pp_domain.specs.declared.symbol.Symbol.{Symbol}
use Rattle.pp_domain.specs.declared.symbol.Symbol.TheVariants as symbol
use Rattle.pp_domain.specs.Naming.{Naming, IsNaming, HasCtor, IsOfData}
use Rattle.pp_domain.proofs.AnySort.{bool_same}
use Rattle.pp_named_trees.specs.declared.arena.Alternative.{Alternative}
use Rattle.pp_named_trees.specs.declared.arena.Expansion.{Expansion}
use Rattle.pp_named_trees.specs.declared.arena.NamedTree.{NamedTree}
use Rattle.pp_named_trees.specs.declared.arena.Node.{Node}
use Rattle.pp_named_trees.specs.Arena.{AlternativeFits, ExpansionFits, FieldFits, FieldsFit, IsBlank}
use Rattle.pp_named_trees.specs.Holding.{AlternativeHolds, AlternativesHold, ExpansionHolds, SymbolHolds, SymbolsHold}
use Rattle.pp_named_trees.specs.Instances.{Agrees, SameAlternatives, SameSymbol, SameSymbols}

zero_word : (a : ℕ → Bool) (v w : List Literal) → nat_of a v ≡ 0 → nat_of a w ≡ 0 → word_of w32 a v ≡ word_of w32 a w
unfolding word_of
zero_word a v w e f = ap (λ (n : ℕ). cast_signed w32 n) (e ∙ sym f)

int_same : (x y : _) → value.Int x ≡ value.Int y → x ≡ y
int_same x y e = let o = sym (outs-Int x) ∙ ap out-Value e ∙ outs-Int y in cc

first_same : (v w : Value) (vs ws : List Value) → v ∷ vs ≡ w ∷ ws → v ≡ w
first_same v w vs ws e = cc

rest_same : (v w : Value) (vs ws : List Value) → v ∷ vs ≡ w ∷ ws → vs ≡ ws
rest_same v w vs ws e = cc

-- the value has the constructor or another one
has_or_not : (b c : CtorId) (v : Value) (vs : List Value) → v ≡ value.Tree b vs
    → (v ≡ value.Tree c vs) ⊎ (HasCtor c v → ⊥)
has_or_not b c v vs is = elim (eqb_tells b.0 c.0) [
  | inl e ↦ inl (is ∙ ap (λ d. value.Tree d vs) (ctor_same b c e.1))
  | inr e ↦ inr (λ has. e.1 (ap (λ (d : CtorId). d.0) (same_ctor b c vs has.0 (sym is ∙ has.1))))
]

module _ (a : ℕ → Bool) where
  -- lists of constructors, one by one
  same_all : (xs ys : List Alternative) → length xs ≡ length ys
      → ((j : ℕ) (x y : Alternative) → slice_get xs j ≡ Some x → slice_get ys j ≡ Some y
      → (lit_value a x.lit ≡ lit_value a y.lit) × SameSymbols a x.fields y.fields) → SameAlternatives a xs ys
  same_all [] [] len each = tt
  same_all (x ∷ xs) (y ∷ ys) len each =
      let own = each 0 x y refl refl in
      (own.0, own.1, same_all xs ys (omega arith) (λ j u v at to. each (suc j) u v at to))
  same_all [] (y ∷ ys) len each = absurd (omega arith)
  same_all (x ∷ xs) [] len each = absurd (omega arith)

  same_at : (xs ys : List Alternative) (j : ℕ) (x : Alternative) → SameAlternatives a xs ys → slice_get xs j ≡ Some x
      → (y : Alternative) × (slice_get ys j ≡ Some y) × (lit_value a x.lit ≡ lit_value a y.lit)
      × SameSymbols a x.fields y.fields
  same_at [] ys j x same at = cc
  same_at (u ∷ xs) (v ∷ ys) zero x same at =
      let is : u ≡ x = cc in (
        v,
        refl,
        subst (λ (z : Alternative). lit_value a z.lit ≡ lit_value a v.lit) is same.0,
        subst (λ (z : Alternative). SameSymbols a z.fields v.fields) is same.1,
      )
  same_at (u ∷ xs) (v ∷ ys) (suc j) x same at = same_at xs ys j x same.2 at
  same_at (u ∷ xs) [] j x same at = absurd same

module _ (types : TypeTable) (gs : List Gate) (nodes : List Node) (a : ℕ → Bool) (n : Naming)
    (naming : IsNaming types n) (gives : Gives a gs) where
  -- blank fields of one sort are the same
  blank_same : (s : Sort) (x y : Symbol NamedTree) → FieldFits gs nodes s x → FieldFits gs nodes s y → IsBlank a x
      → IsBlank a y → SameSymbol a x y
  blank_same sort.Int (symbol.Word v) (symbol.Word w) f g b c = zero_word a v w b c
  blank_same sort.Bool (symbol.Bit l) (symbol.Bit m) f g b c = b ∙ sym c
  blank_same (sort.Tree of) (symbol.Tree t) (symbol.Tree u) f g b c = b ∙ sym c
  blank_same sort.Int (symbol.Word v) (symbol.Bit m) f g b c = absurd g
  blank_same sort.Int (symbol.Word v) (symbol.Tree u) f g b c = absurd g
  blank_same sort.Bool (symbol.Bit l) (symbol.Word w) f g b c = absurd g
  blank_same sort.Bool (symbol.Bit l) (symbol.Tree u) f g b c = absurd g
  blank_same (sort.Tree of) (symbol.Tree t) (symbol.Word w) f g b c = absurd g
  blank_same (sort.Tree of) (symbol.Tree t) (symbol.Bit m) f g b c = absurd g
  blank_same sort.Int (symbol.Bit l) y f g b c = absurd f
  blank_same sort.Int (symbol.Tree t) y f g b c = absurd f
  blank_same sort.Bool (symbol.Word w) y f g b c = absurd f
  blank_same sort.Bool (symbol.Tree t) y f g b c = absurd f
  blank_same (sort.Tree of) (symbol.Word w) y f g b c = absurd f
  blank_same (sort.Tree of) (symbol.Bit l) y f g b c = absurd f

  blanks_same : (ss : List Sort) (xs ys : List (Symbol NamedTree)) → FieldsFit gs nodes ss xs → FieldsFit gs nodes ss ys
      → All (IsBlank a) xs → All (IsBlank a) ys → SameSymbols a xs ys
  blanks_same [] [] [] f g b c = tt
  blanks_same (s ∷ ss) (x ∷ xs) (y ∷ ys) f g b c = (
    blank_same s x y f.0 g.0 (b 0 x (omega arith)) (c 0 y (omega arith)),
    blanks_same ss xs ys f.1 g.1 (λ k d lt. b (suc k) d (omega arith)) (λ k d lt. c (suc k) d (omega arith)),
  )
  blanks_same [] (x ∷ xs) ys f g b c = absurd f
  blanks_same [] [] (y ∷ ys) f g b c = absurd g
  blanks_same (s ∷ ss) [] ys f g b c = absurd f
  blanks_same (s ∷ ss) (x ∷ xs) [] f g b c = absurd g

  -- fields that hold are the same exactly where their values are
  held_same : (s : Sort) (x y : Symbol NamedTree) (v w : Value) → FieldFits gs nodes s x → FieldFits gs nodes s y
      → SymbolHolds a n x v → SymbolHolds a n y w → SameSymbol a x y ↔ (v ≡ w)
  held_same sort.Int (symbol.Word p) (symbol.Word q) v w f g h i =
      (λ e. h ∙ ap value.Int e ∙ sym i, λ e. int_same (word_of w32 a p) (word_of w32 a q) (sym h ∙ e ∙ i))
  held_same sort.Bool (symbol.Bit l) (symbol.Bit m) v w f g h i =
      (λ e. h ∙ ap value.Bool e ∙ sym i, λ e. bool_same (lit_value a l) (lit_value a m) (sym h ∙ e ∙ i))
  held_same (sort.Tree of) (symbol.Tree t) (symbol.Tree u) v w f g h i =
      let same : u.of ≡ t.of = g.1 ∙ sym f.1 in
      let to : n t.of (nat_of a u.name) ≡ Some w = ap (λ d. n d (nat_of a u.name)) (sym same) ∙ i in (
        λ e. same_Some v w (sym h ∙ ap (λ (k : ℕ). n t.of k) e ∙ to),
        λ e. naming.apart t.of (nat_of a t.name) (nat_of a u.name) v h (to ∙ ap Some (sym e)),
      )
  held_same sort.Int (symbol.Word p) (symbol.Bit m) v w f g h i = absurd g
  held_same sort.Int (symbol.Word p) (symbol.Tree u) v w f g h i = absurd g
  held_same sort.Bool (symbol.Bit l) (symbol.Word q) v w f g h i = absurd g
  held_same sort.Bool (symbol.Bit l) (symbol.Tree u) v w f g h i = absurd g
  held_same (sort.Tree of) (symbol.Tree t) (symbol.Word q) v w f g h i = absurd g
  held_same (sort.Tree of) (symbol.Tree t) (symbol.Bit m) v w f g h i = absurd g
  held_same sort.Int (symbol.Bit l) y v w f g h i = absurd f
  held_same sort.Int (symbol.Tree t) y v w f g h i = absurd f
  held_same sort.Bool (symbol.Word q) y v w f g h i = absurd f
  held_same sort.Bool (symbol.Tree t) y v w f g h i = absurd f
  held_same (sort.Tree of) (symbol.Word q) y v w f g h i = absurd f
  held_same (sort.Tree of) (symbol.Bit l) y v w f g h i = absurd f

  helds_same : (ss : List Sort) (xs ys : List (Symbol NamedTree)) (vs ws : List Value) → FieldsFit gs nodes ss xs
      → FieldsFit gs nodes ss ys → SymbolsHold a n xs vs → SymbolsHold a n ys ws → SameSymbols a xs ys ↔ (vs ≡ ws)
  helds_same [] [] [] [] [] f g h i = (λ e. refl, λ e. tt)
  helds_same (s ∷ ss) (x ∷ xs) (y ∷ ys) (v ∷ vs) (w ∷ ws) f g h i =
      let one = held_same s x y v w f.0 g.0 h.0 i.0 in
      let rest = helds_same ss xs ys vs ws f.1 g.1 h.1 i.1 in (
        λ e. let p = one.0 e.0 in let q = rest.0 e.1 in λ k. p k ∷ q k,
        λ e. (one.1 (first_same v w vs ws e), rest.1 (rest_same v w vs ws e)),
      )
  helds_same [] (x ∷ xs) ys vs ws f g h i = absurd f
  helds_same [] [] (y ∷ ys) vs ws f g h i = absurd g
  helds_same [] [] [] (v ∷ vs) ws f g h i = absurd h
  helds_same [] [] [] [] (w ∷ ws) f g h i = absurd i
  helds_same (s ∷ ss) [] ys vs ws f g h i = absurd f
  helds_same (s ∷ ss) (x ∷ xs) [] vs ws f g h i = absurd g
  helds_same (s ∷ ss) (x ∷ xs) (y ∷ ys) [] ws f g h i = absurd h
  helds_same (s ∷ ss) (x ∷ xs) (y ∷ ys) (v ∷ vs) [] f g h i = absurd i

  module _ (t : Datatype) (j : ℕ) (x y : Alternative) (f : AlternativeFits gs nodes types t j x)
      (g : AlternativeFits gs nodes types t j y) where
    ctors_same : x.ctor ≡ y.ctor
    ctors_same = ctor_same x.ctor y.ctor (f.ctor ∙ sym g.ctor)

    entries_same : g.entry ≡ f.entry
    entries_same =
        same_Some g.entry f.entry (sym g.at ∙ ap (λ (c : CtorId). slice_get types.ctors c.0) (sym ctors_same) ∙ f.at)

    others_fit : FieldsFit gs nodes f.entry.fields y.fields
    others_fit = subst (λ (e : Ctor). FieldsFit gs nodes e.fields y.fields) entries_same g.fields

    -- two that hold for one value are the same
    pair_same : (b : CtorId) (v : Value) (vs : List Value) → v ≡ value.Tree b vs → AlternativeHolds a n v x
        → AlternativeHolds a n v y → (lit_value a x.lit ≡ lit_value a y.lit) × SameSymbols a x.fields y.fields
    pair_same b v vs is h i = elim (has_or_not b x.ctor v vs is) [
      | inl has ↦
          let one = h.own vs has in
          let two = i.own vs (has ∙ ap (λ d. value.Tree d vs) ctors_same) in (
            one.0 ∙ sym two.0,
            (helds_same f.entry.fields x.fields y.fields vs vs f.fields others_fit one.1 two.1).1 refl,
          )
      | inr without ↦
          let one = h.other without in
          let two = i.other (λ has. without (has.0, has.1 ∙ ap (λ d. value.Tree d has.0) (sym ctors_same))) in (
            one ∙ sym two,
            blanks_same f.entry.fields x.fields y.fields f.fields others_fit (f.blank a gives one)
                (g.blank a gives two),
          )
    ]

    -- where the first is the value's own, and the two are the same, they hold for one value
    pair_value : (v w : Value) (b : CtorId) (vs us ws : List Value) → v ≡ value.Tree x.ctor vs → w ≡ value.Tree b ws
        → AlternativeHolds a n v x → AlternativeHolds a n w y → lit_value a x.lit ≡ lit_value a y.lit
        → SameSymbols a x.fields y.fields → v ≡ w
    pair_value v w b vs us ws is to h i lits fields = elim (has_or_not b y.ctor w ws to) [
      | inl has ↦
          let one = h.own vs is in
          let two = i.own ws has in
          let same = (helds_same f.entry.fields x.fields y.fields vs ws f.fields others_fit one.1 two.1).0 fields in
          is ∙ (λ k. value.Tree (ctors_same k) (same k)) ∙ sym has
      | inr without ↦ absurd (both_ways (lit_value a y.lit) (i.other without) (sym lits ∙ (h.own vs is).0))
    ]

  -- the constructor of a value stands among those of its datatype
  block_place : (o : Option Datatype) (t : Datatype) (c : ℕ) → o ≡ Some t → in_block_of o c ≡ true
      → (t.first.0 ≤ c) × (c < t.first.0 + t.count)
  block_place None t c e h = cc
  block_place (Some u) t c e h =
      let p = and_parts _ _ (subst (λ (z : Datatype). in_block z c ≡ true) (same_Some u t e) h) in
      (leb-true t.first.0 c p.0, ltb-true c (t.first.0 + t.count) p.1)

  pub contents_same : (t : Datatype) (of : DataId) (xs ys : List Alternative) (v w : Value)
      → slice_get types.datatypes of.0 ≡ Some t → length xs ≡ t.count → length ys ≡ t.count
      → ((j : ℕ) (x : Alternative) → slice_get xs j ≡ Some x → AlternativeFits gs nodes types t j x)
      → ((j : ℕ) (y : Alternative) → slice_get ys j ≡ Some y → AlternativeFits gs nodes types t j y)
      → IsOfData types of v → IsOfData types of w → AlternativesHold a n v xs → AlternativesHold a n w ys
      → SameAlternatives a xs ys ↔ (v ≡ w)
  contents_same t of xs ys v w at many more fits to first second holds held = (
    λ same.
        let tree = tree_value types.ctors of v first in
        let other = tree_value types.ctors of w second in
        let within = block_place (slice_get types.datatypes tree.entry.of.0) t tree.ctor.0
        (ap (λ (d : DataId). slice_get types.datatypes d.0) tree.data_of ∙ at)
        (types.agree.stands tree.ctor.0 tree.entry tree.at) in
        let j = tree.ctor.0 - t.first.0 in
        let x = at_some xs j (omega (arith, within.0, within.1)) in
        let fit = fits j x.0 x.1 in
        let here : tree.ctor ≡ x.0.ctor = ctor_same tree.ctor x.0.ctor (let e = fit.ctor in omega (arith, within.0)) in
        let y = same_at a xs ys j x.0 same x.1 in
        pair_value t j x.0 y.0 fit (to j y.0 y.1) v w other.ctor tree.fields tree.fields other.fields
        (tree.is ∙ ap (λ c. value.Tree c tree.fields) here) other.is (holds j x.0 x.1) (held j y.0 y.1) y.2 y.3,
    λ same.
        let tree = tree_value types.ctors of v first in
        same_all a xs ys (many ∙ sym more) (λ j x y here there.
        pair_same t j x y (fits j x here) (to j y there) tree.ctor v tree.fields tree.is (holds j x here)
        (subst (λ u. AlternativeHolds a n u y) (sym same) (held j y there))),
  )

  -- trees of one datatype that were looked at agree
  pub expansions_agree : (y z : Expansion) → ExpansionFits gs nodes types y → ExpansionFits gs nodes types z
      → z.of ≡ y.of → ExpansionHolds a n y → ExpansionHolds a n z → Agrees a y z
  expansions_agree y z f g same h i =
      let datatype : g.datatype ≡ f.datatype =
      same_Some g.datatype f.datatype (sym g.at ∙ ap (λ (d : DataId). slice_get types.datatypes d.0) same ∙ f.at) in
      let to : n y.of (nat_of a z.name) ≡ Some i.value = ap (λ d. n d (nat_of a z.name)) (sym same) ∙ i.named in
      let both = contents_same f.datatype y.of y.alternatives z.alternatives h.value i.value f.at f.many
      (g.many ∙ ap (λ (t : Datatype). t.count) datatype) f.each
      (λ j x at. subst (λ (t : Datatype). AlternativeFits gs nodes types t j x) datatype (g.each j x at))
      (naming.sorts y.of (nat_of a y.name) h.value h.named)
      (naming.sorts y.of (nat_of a z.name) i.value to) h.each i.each in (
        λ e. both.1 (same_Some h.value i.value (sym h.named ∙ ap (λ (k : ℕ). n y.of k) e ∙ to)),
        λ e. naming.apart y.of (nat_of a y.name) (nat_of a z.name) h.value h.named (to ∙ ap Some (sym (both.0 e))),
      )
