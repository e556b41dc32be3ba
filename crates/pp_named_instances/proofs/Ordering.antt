-- Expansions that hold are in order: a field of the tree's group comes before the tree.
use Rattle.std.proofs.Common.{◌≡◌, ℕ, zero, suc, ◌<◌, Bool, List, [], ◌∷◌, Some}
use Rattle.std.proofs.Common.{Contains, refl}
use Rattle.std.proofs.Common.{sym, ap, ◌∙◌, subst, inl, inr, slice_get}
use Rattle.std.proofs.lemmas.Bool.{both_ways}
use Rattle.std.proofs.lemmas.Bool.Decides.{eqb_tells}
use Rattle.std.proofs.lemmas.Option.{slice_get_within, slice_get-get_or}
use Rattle.pp_prog.specs.declared.id.CtorId.{CtorId}
use Rattle.pp_prog.specs.declared.id.DataId.{DataId}
use Rattle.pp_prog.specs.declared.types.TypeTable.{TypeTable}
use Rattle.pp_prog.specs.declared.value.Value.{Value}
use Rattle.pp_prog.specs.declared.value.Value.TheVariants as value
use Rattle.pp_prog.proofs.Values.{ctor_same, same_ctor}
use Rattle.pp_prog.proofs.ValueSorts.{tree_value}
use Rattle.pp_clause.specs.Literal.{lit_value}
use Rattle.pp_bits.specs.Number.{nat_of}
use Rattle.pp_domain.specs.declared.symbol.Symbol.{Symbol}
use Rattle.pp_domain.specs.declared.symbol.Symbol.TheVariants as symbol
use Rattle.pp_domain.specs.Naming.{Naming, IsNaming, HasCtor}
use Rattle.pp_named_order.specs.Order.{OneGroup, place}
use Rattle.pp_named_trees.specs.declared.arena.Alternative.{Alternative}
use Rattle.pp_named_trees.specs.declared.arena.Expansion.{Expansion}
use Rattle.pp_named_trees.specs.declared.arena.Level.{Level}
use Rattle.pp_named_trees.specs.declared.arena.NamedTree.{NamedTree}
use Rattle.pp_named_trees.specs.Holding.{ExpansionHolds, LevelsHold, SymbolHolds, SymbolsHold}
use Rattle.pp_named_trees.specs.Instances.{IsLevel, base, word, InOrder}

module _ (types : TypeTable) (a : ℕ → Bool) (n : Naming) (naming : IsNaming types n) (groups : List ℕ)
    (levels : List Level) (hold : LevelsHold a n groups levels) where
  pub level_is : (d : DataId) (k : ℕ) → IsLevel a groups levels d k → k ≡ hold.level d
  level_is d k (base first is) = is ∙ sym (hold.order.base d first)
  level_is d k (word i z at of is) = is ∙ hold.words i z at ∙ ap hold.level of

  held_at : (xs : List (Symbol NamedTree)) (vs : List Value) (p : ℕ) (x : Symbol NamedTree) → SymbolsHold a n xs vs
      → slice_get xs p ≡ Some x → (v : Value) × (slice_get vs p ≡ Some v) × SymbolHolds a n x v
  held_at [] vs p x are at = cc
  held_at (y ∷ xs) (v ∷ vs) zero x are at =
      let is : y ≡ x = cc in (v, refl, subst (λ z. SymbolHolds a n z v) is are.0)
  held_at (y ∷ xs) (v ∷ vs) (suc p) x are at = held_at xs vs p x are.1 at
  held_at (y ∷ xs) [] p x are at = absurd are

  contains : (vs : List Value) (p : ℕ) (v : Value) → slice_get vs p ≡ Some v → Contains vs v
  contains vs p v at =
      let lt = slice_get_within vs p v at in
      (p, lt, one (sym (slice_get-get_or vs p v lt) ∙ at))
    where
      one : {x : Value} → Some x ≡ Some v → x ≡ v
      one e = cc

  -- where the tree and its fields have levels
  pub in_order : (y : Expansion) (own : ℕ) → IsLevel a groups levels y.of own
      → ((j : ℕ) (x : Alternative) (p : ℕ) (t : NamedTree) → slice_get y.alternatives j ≡ Some x
      → slice_get x.fields p ≡ Some (symbol.Tree t) → OneGroup groups y.of t.of
      → (k : ℕ) × IsLevel a groups levels t.of k)
      → ExpansionHolds a n y → InOrder a groups levels y
  in_order y own is each holds j x p t at on field one =
      let sorted = naming.sorts y.of (nat_of a y.name) holds.value holds.named in
      let tree = tree_value types.ctors y.of holds.value sorted in
      let alternative = holds.each j x at in
      let has : holds.value ≡ value.Tree x.ctor tree.fields = elim (eqb_tells tree.ctor.0 x.ctor.0) [
        | inl e ↦ tree.is ∙ ap (λ c. value.Tree c tree.fields) (ctor_same tree.ctor x.ctor e.1)
        | inr e ↦ absurd (both_ways (lit_value a x.lit) (alternative.other (λ (h : HasCtor x.ctor holds.value).
            e.1 (ap (λ (c : CtorId). c.0) (same_ctor tree.ctor x.ctor tree.fields h.0 (sym tree.is ∙ h.1))))) on)
      ] in
      let value = held_at x.fields tree.fields p (symbol.Tree t) (alternative.own tree.fields has).1 field in
      let level = each j x p t at field one in
      let lower = hold.order.below y.of t.of (nat_of a t.name) (nat_of a y.name) holds.value value.0 one holds.named
      value.2 (record {
        ctor = x.ctor;
        fields = tree.fields;
        is = has;
        has = contains tree.fields p value.0 value.1;
      }) in record {
        field_level = level.0;
        tree_level = own;
        field_is = level.1;
        tree_is = is;
        below = subst (λ k. place k (nat_of a t.name) < place own (nat_of a y.name))
            (sym (level_is t.of level.0 level.1))
            (subst (λ k. place (hold.level t.of) (nat_of a t.name) < place k (nat_of a y.name))
            (sym (level_is y.of own is)) lower);
      }
