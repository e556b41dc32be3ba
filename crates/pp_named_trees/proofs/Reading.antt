-- What an expansion tells of its tree: its constructor and its fields.
use Rattle.std.proofs.Common.{◌≡◌, ◌↔◌, ℕ, zero, suc, pos, Bool, true, List, [], ◌∷◌, All}
use Rattle.std.proofs.Common.{Some}
use Rattle.std.proofs.Common.{refl, sym, ap, ◌∙◌, subst, inl, inr, slice_get, get_or}
use Rattle.std.specs.Int.{w32, cast_signed}
use Rattle.std.proofs.lemmas.Bool.{both_ways}
use Rattle.std.proofs.lemmas.Bool.Decides.{eqb_tells}
use Rattle.std.proofs.lemmas.Option.{slice_get_within, slice_get-get_or, same_Some}
use Rattle.pp_prog.specs.declared.id.CtorId.{CtorId}
use Rattle.pp_prog.specs.declared.sort.Sort.{Sort}
use Rattle.pp_prog.specs.declared.sort.Sort.TheVariants as sort
use Rattle.pp_prog.specs.declared.types.Datatype.{Datatype}
use Rattle.pp_prog.specs.declared.types.TypeTable.{TypeTable}
use Rattle.pp_prog.specs.declared.value.Value.{Value}
use Rattle.pp_prog.specs.declared.value.Value.TheVariants as value
use Rattle.pp_prog.proofs.Values.{ctor_same, same_ctor}
use Rattle.pp_prog.proofs.ValueSorts.{tree_value}
use Rattle.pp_clause.specs.Literal.{Literal, lit_value}
use Rattle.pp_gate.specs.declared.gate.Gate.{Gate}
use Rattle.pp_bits.specs.Number.{nat_of}
use Rattle.pp_wordgate.specs.Meaning.{word_of}
use Rattle.pp_domain.specs.declared.symbol.Symbol.{Symbol}
use Rattle.pp_domain.specs.declared.symbol.Symbol.TheVariants as symbol
use Rattle.pp_domain.specs.Naming.{Naming, HasCtor, IsDefault, IsFieldOf, own, other}
use Rattle.pp_domain.specs.Sense.{Good}
use Rattle.pp_domain.specs.Symbols.{SymbolStands}
use Rattle.pp_named_trees.specs.declared.arena.Alternative.{Alternative}
use Rattle.pp_named_trees.specs.declared.arena.Expansion.{Expansion}
use Rattle.pp_named_trees.specs.declared.arena.NamedTree.{NamedTree}
use Rattle.pp_named_trees.specs.declared.arena.NamedTrees.{NamedTrees}
use Rattle.pp_named_trees.specs.declared.arena.Node.{Node}
use Rattle.pp_named_trees.specs.Arena.{AlternativeFits, FieldFits, FieldsFit, IsBlank}
use Rattle.pp_named_trees.specs.Holding.{AlternativeHolds, SymbolHolds, SymbolsHold}
use Rattle.pp_named_trees.specs.Meaning.{NamedFits, named_sense}
use Rattle.pp_named_trees.specs.Parts.{lowered}

word_zero : (a : ℕ → Bool) (w : List Literal) → nat_of a w ≡ 0 → word_of w32 a w ≡ pos 0
unfolding word_of
word_zero a w e = ap (λ (n : ℕ). cast_signed w32 n) e

module _ (gs : List Gate) (nodes : List Node) where
  pub field_there : (ss : List Sort) (xs : List (Symbol NamedTree)) (p : ℕ) (s : Sort) → FieldsFit gs nodes ss xs
      → slice_get ss p ≡ Some s → (q : Symbol NamedTree) × (slice_get xs p ≡ Some q) × FieldFits gs nodes s q
  field_there [] xs p s fits at = cc
  field_there (r ∷ ss) (x ∷ xs) zero s fits at =
      let is : r ≡ s = cc in (x, refl, subst (λ z. FieldFits gs nodes z x) is fits.0)
  field_there (r ∷ ss) (x ∷ xs) (suc p) s fits at = field_there ss xs p s fits.1 at
  field_there (r ∷ ss) [] p s fits at = absurd fits

module _ (gs : List Gate) (nodes : List Node) (e : NamedTrees) (a : ℕ → Bool) (n : Naming) where
  held_there : (xs : List (Symbol NamedTree)) (vs : List Value) (p : ℕ) (q : Symbol NamedTree) (u : Value)
      → SymbolsHold a n xs vs → slice_get xs p ≡ Some q → slice_get vs p ≡ Some u → SymbolHolds a n q u
  held_there [] vs p q u are at to = cc
  held_there (x ∷ xs) (v ∷ vs) zero q u are at to =
      let one : x ≡ q = cc in let two : v ≡ u = cc in
      subst (λ z. SymbolHolds a n q z) two (subst (λ z. SymbolHolds a n z v) one are.0)
  held_there (x ∷ xs) (v ∷ vs) (suc p) q u are at to = held_there xs vs p q u are.1 at to
  held_there (x ∷ xs) [] p q u are at to = absurd are

  blank_there : (xs : List (Symbol NamedTree)) (p : ℕ) (q : Symbol NamedTree) → All (IsBlank a) xs
      → slice_get xs p ≡ Some q → IsBlank a q
  blank_there xs p q all at =
      let lt = slice_get_within xs p q at in
      subst (λ z. IsBlank a z) (same_Some (get_or xs p q) q (sym (slice_get-get_or xs p q lt) ∙ at)) (all p q lt)

  lowered_stands : (h : ℕ) (q : Symbol NamedTree) (u : Value) → SymbolHolds a n q u
      → SymbolStands named_sense e a n (lowered h q) u
  lowered_stands h (symbol.Word w) u is = is
  lowered_stands h (symbol.Bit l) u is = is
  lowered_stands h (symbol.Tree t) u is = is

  default_stands : (s : Sort) (q : Symbol NamedTree) (u : Value) → FieldFits gs nodes s q → IsBlank a q
      → IsDefault n s u → SymbolHolds a n q u
  default_stands sort.Int (symbol.Word w) u fits blank is = is ∙ ap value.Int (sym (word_zero a w blank))
  default_stands sort.Bool (symbol.Bit l) u fits blank is = is ∙ ap value.Bool (sym blank)
  default_stands (sort.Tree d) (symbol.Tree t) u fits blank is =
      ap (λ c. n c (nat_of a t.name)) fits.1 ∙ ap (λ (k : ℕ). n d k) blank ∙ is
  default_stands sort.Int (symbol.Bit l) u fits blank is = absurd fits
  default_stands sort.Int (symbol.Tree t) u fits blank is = absurd fits
  default_stands sort.Bool (symbol.Word w) u fits blank is = absurd fits
  default_stands sort.Bool (symbol.Tree t) u fits blank is = absurd fits
  default_stands (sort.Tree d) (symbol.Word w) u fits blank is = absurd fits
  default_stands (sort.Tree d) (symbol.Bit l) u fits blank is = absurd fits

module _ (types : TypeTable) (e : NamedTrees) (hs : List Gate) (fits : NamedFits types e hs) (t : NamedTree)
    (i : ℕ) (y : Expansion) (at : slice_get e.expansions i ≡ Some y) (of : y.of ≡ t.of) (name : y.name ≡ t.name)
    (j : ℕ) (x : Alternative) (to : slice_get y.alternatives j ≡ Some x) where
  value_is : (n : Naming) (a : ℕ → Bool) (v : Value) → Good named_sense types e hs n a
      → n t.of (nat_of a t.name) ≡ Some v → AlternativeHolds a n v x
  value_is n a v good stands =
      let holds = good.matches.expansions i y at in
      let same : holds.value ≡ v = same_Some holds.value v
      (sym holds.named ∙ ap (λ d. n d (nat_of a y.name)) of ∙ ap (λ l. n t.of (nat_of a l)) name ∙ stands) in
      subst (λ u. AlternativeHolds a n u x) same (holds.each j x to)

  pub test_means : (n : Naming) (a : ℕ → Bool) (v : Value) → Good named_sense types e hs n a
      → n t.of (nat_of a t.name) ≡ Some v → (lit_value a x.lit ≡ true) ↔ HasCtor x.ctor v
  test_means n a v good stands =
      let holds = value_is n a v good stands in
      let tree = tree_value types.ctors t.of v (good.admitted.naming.sorts t.of (nat_of a t.name) v stands) in (
        λ on. elim (eqb_tells tree.ctor.0 x.ctor.0) [
          | inl same ↦ (tree.fields, tree.is ∙ ap (λ c. value.Tree c tree.fields) (ctor_same tree.ctor x.ctor same.1))
          | inr differ ↦ absurd (both_ways (lit_value a x.lit) (holds.other (λ h.
              differ.1 (ap (λ (c : CtorId). c.0) (same_ctor tree.ctor x.ctor tree.fields h.0 (sym tree.is ∙ h.1))))) on)
        ],
        λ has. (holds.own has.0 has.1).0,
      )

  pub field_means : (h place : ℕ) (s : Sort) (q : Symbol NamedTree) (types_at : Datatype)
      → (fit : AlternativeFits hs e.nodes types types_at j x) → slice_get fit.entry.fields place ≡ Some s
      → slice_get x.fields place ≡ Some q → FieldFits hs e.nodes s q
      → (n : Naming) (a : ℕ → Bool) (v u : Value) → Good named_sense types e hs n a
      → n t.of (nat_of a t.name) ≡ Some v → IsFieldOf n x.ctor place s v u
      → SymbolStands named_sense e a n (lowered h q) u
  field_means h place s q types_at fit sorted here field n a v u good stands (own fields is there) =
      let holds = value_is n a v good stands in
      lowered_stands hs e.nodes e a n h q u (held_there hs e.nodes e a n x.fields fields place q u
      (holds.own fields is).1 here there)
  field_means h place s q types_at fit sorted here field n a v u good stands (other b fields is differ default) =
      let holds = value_is n a v good stands in
      let off = holds.other (λ has. differ (same_ctor b x.ctor fields has.0 (sym is ∙ has.1))) in
      lowered_stands hs e.nodes e a n h q u (default_stands hs e.nodes e a n s q u field
      (blank_there hs e.nodes e a n x.fields place q (fit.blank a good.gates off) here) default)
