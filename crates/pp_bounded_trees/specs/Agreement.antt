-- The values of nodes depend on the variables of the circuit alone, and each on the nodes before it. (own)
use Rattle.std.specs.Prelude.{◌≡◌, ℕ, suc, ◌<◌, Bool, if◌then◌else◌, List, [], ◌∷◌, ◌++◌, length, map, Option, Some}
use Rattle.std.specs.Prelude.{slice_get}
use Rattle.std.proofs.Common.{refl, ap, ◌∙◌}
use Rattle.std.specs.Int.{w32}
use Rattle.pp_prog.specs.declared.id.DataId.{DataId}
use Rattle.pp_prog.specs.declared.sort.Sort.{Sort}
use Rattle.pp_prog.specs.declared.sort.Sort.TheVariants as sort
use Rattle.pp_prog.specs.declared.types.TypeTable.{TypeTable}
use Rattle.pp_prog.specs.declared.value.Value.{Value}
use Rattle.pp_prog.specs.declared.value.Value.TheVariants as value
use Rattle.pp_gate.specs.declared.gate.Gate.{Gate}
use Rattle.pp_gate.specs.Laws.{AgreeUpTo}
use Rattle.pp_gate.proofs.Agreement.{lit_agree}
use Rattle.pp_domain.specs.declared.symbol.Symbol.{Symbol}
use Rattle.pp_domain.specs.declared.symbol.Symbol.TheVariants as symbol
use Rattle.pp_domain.proofs.Symbols.{word_of_agree}
use Rattle.pp_bounded_trees.specs.declared.arena.Alternative.{Alternative}
use Rattle.pp_bounded_trees.specs.declared.arena.BoundedTree.{BoundedTree}
use Rattle.pp_bounded_trees.specs.declared.arena.Node.{Node}
use Rattle.pp_bounded_trees.specs.Arena.{AlternativeFits, ArenaFits, FieldFits, FieldsFit, NodeFits}
use Rattle.pp_bounded_trees.specs.Values.{value_at, all_values, built, symbol_value, value_among, values_after}
use Rattle.pp_bounded_trees.specs.Values.{values_of}

-- the two lists have one value at each of the first k places
abbrev pub SameBelow : ℕ → List (Option Value) → List (Option Value) → Type 0
SameBelow k os ps = (j : ℕ) → j < k → value_at os j ≡ value_at ps j

same_lists : (k : ℕ) (os : List (Option Value)) → SameBelow k os os
same_lists k os j lt = refl

-- a node's value depends on the variables of the circuit and the values of the nodes before it alone
module _ (gs : List Gate) (a b : ℕ → Bool) (agree : AgreeUpTo (length gs) a b) (nodes : List Node) (k : ℕ)
    (os ps : List (Option Value)) (same : SameBelow k os ps) where
  symbol_agree : (h : ℕ) (s : Sort) (x : Symbol BoundedTree) → FieldFits gs nodes k h s x
      → symbol_value a os x ≡ symbol_value b ps x
  symbol_agree h sort.Int (symbol.Word w) fits = ap (λ z. Some (value.Int z)) (word_of_agree w32 gs a b w fits.1 agree)
  symbol_agree h sort.Bool (symbol.Bit l) fits = ap (λ z. Some (value.Bool z)) (lit_agree (length gs) a b l fits agree)
  symbol_agree h (sort.Tree of) (symbol.Tree t) fits = same t.number fits.0.before
  symbol_agree h sort.Int (symbol.Bit l) fits = absurd fits
  symbol_agree h sort.Int (symbol.Tree t) fits = absurd fits
  symbol_agree h sort.Bool (symbol.Word w) fits = absurd fits
  symbol_agree h sort.Bool (symbol.Tree t) fits = absurd fits
  symbol_agree h (sort.Tree of) (symbol.Word w) fits = absurd fits
  symbol_agree h (sort.Tree of) (symbol.Bit l) fits = absurd fits

  symbols_agree : (h : ℕ) (ss : List Sort) (xs : List (Symbol BoundedTree)) → FieldsFit gs nodes k h ss xs
      → map (symbol_value a os) xs ≡ map (symbol_value b ps) xs
  symbols_agree h [] [] fits = refl
  symbols_agree h (s ∷ ss) (x ∷ xs) fits =
      let one = symbol_agree h s x fits.0 in
      let more = symbols_agree h ss xs fits.1 in λ i. one i ∷ more i
  symbols_agree h [] (x ∷ xs) fits = absurd fits
  symbols_agree h (s ∷ ss) [] fits = absurd fits

  pub among_agree : (types : TypeTable) (of : DataId) (h : ℕ) (xs : List Alternative)
      → ((j : ℕ) (y : Alternative) → slice_get xs j ≡ Some y → AlternativeFits gs nodes types k of h y)
      → value_among a os xs ≡ value_among b ps xs
  among_agree types of h [] fits = refl
  among_agree types of h (x ∷ xs) fits =
      let own = fits 0 x refl in
      let lit = lit_agree (length gs) a b x.lit own.lit_of agree in
      let fields = symbols_agree h own.entry.fields x.fields own.fields in
      let rest = among_agree types of h xs (λ j y at. fits (suc j) y at) in
      λ i. if lit i then built x.ctor (all_values (fields i)) else rest i

module _ (gs : List Gate) (a b : ℕ → Bool) (agree : AgreeUpTo (length gs) a b) (types : TypeTable)
    (nodes : List Node) where
  values_agree_after : (rest : List Node) (done : List (Option Value))
      → ((k : ℕ) (x : Node) → slice_get rest k ≡ Some x → (j : ℕ) × NodeFits gs nodes types j x)
      → values_after a done rest ≡ values_after b done rest
  values_agree_after [] done fits = refl
  values_agree_after (x ∷ rest) done fits =
      let own = fits 0 x refl in
      let one = among_agree gs a b agree nodes own.0 done done (same_lists own.0 done) types x.of x.height
      x.alternatives own.1.each in
      ap (λ o. values_after a (done ++ o ∷ []) rest) one
      ∙ values_agree_after rest (done ++ value_among b done x.alternatives ∷ []) (λ k y at. fits (suc k) y at)

  pub values_agree : ArenaFits types gs nodes → values_of a nodes ≡ values_of b nodes
  values_agree fits = values_agree_after nodes [] (λ k x at. (k, fits.each k x at))
