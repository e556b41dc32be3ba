-- Symbols of literals: later circuits, and assignments that agree.
use Rattle.std.proofs.Common.{◌≡◌, ℕ, Bool, List, [], ◌∷◌, length, Some, sym, ap, ◌∙◌, slice_get, subst}
use Rattle.std.specs.Int.{w32}
use Rattle.pp_prog.specs.declared.sort.Sort.{Sort}
use Rattle.pp_prog.specs.declared.sort.Sort.TheVariants as sort
use Rattle.pp_prog.specs.declared.value.Value.{Value}
use Rattle.pp_prog.specs.declared.value.Value.TheVariants as value
use Rattle.pp_gate.specs.declared.gate.Gate.{Gate}
use Rattle.pp_gate.specs.Growth.{Grows}
use Rattle.pp_gate.specs.Laws.{AgreeUpTo}
use Rattle.pp_gate.proofs.Agreement.{lit_agree}
use Rattle.pp_gate.proofs.Growing.{IsOf_more}
use Rattle.pp_bits.proofs.Chosen.{nat_of_agree}
use Rattle.pp_domain.specs.declared.symbol.Symbol.{Symbol}
use Rattle.pp_domain.specs.declared.symbol.Symbol.TheVariants as symbol
use Rattle.pp_domain.specs.Naming.{Naming}
use Rattle.pp_domain.proofs.Symbols.{word_of_agree}
use Rattle.pp_named_trees.specs.declared.arena.NamedTree.{NamedTree}
use Rattle.pp_named_trees.specs.declared.arena.Node.{Node}
use Rattle.pp_named_trees.specs.Arena.{FieldFits, FieldsFit, IsKept, IsName}
use Rattle.pp_named_trees.specs.Holding.{SymbolHolds, SymbolsHold}
use Rattle.pp_named_trees.specs.Laws.{name_later}
use Rattle.pp_named_trees.specs.Parts.{PartFits, PartsFit}

module _ (gs hs : List Gate) (k : ℕ) (grows : Grows gs hs k) where
  pub part_later : (s : Sort) (x : Symbol NamedTree) → PartFits gs s x → PartFits hs s x
  part_later sort.Int (symbol.Word w) fits = name_later gs hs k grows w fits
  part_later sort.Bool (symbol.Bit l) fits = IsOf_more gs hs k l grows fits
  part_later (sort.Tree of) (symbol.Tree t) fits = (name_later gs hs k grows t.name fits.0, fits.1)
  part_later sort.Int (symbol.Bit l) fits = absurd fits
  part_later sort.Int (symbol.Tree t) fits = absurd fits
  part_later sort.Bool (symbol.Word w) fits = absurd fits
  part_later sort.Bool (symbol.Tree t) fits = absurd fits
  part_later (sort.Tree of) (symbol.Word w) fits = absurd fits
  part_later (sort.Tree of) (symbol.Bit l) fits = absurd fits

  pub parts_later : (ss : List Sort) (xs : List (Symbol NamedTree)) → PartsFit gs ss xs → PartsFit hs ss xs
  parts_later [] [] fits = tt
  parts_later (s ∷ ss) (x ∷ xs) fits = (part_later s x fits.0, parts_later ss xs fits.1)
  parts_later [] (x ∷ xs) fits = absurd fits
  parts_later (s ∷ ss) [] fits = absurd fits

module _ (gs : List Gate) (a b : ℕ → Bool) (agree : AgreeUpTo (length gs) a b) (n : Naming) where
  pub part_agree : (s : Sort) (x : Symbol NamedTree) (v : Value) → PartFits gs s x → SymbolHolds a n x v
      → SymbolHolds b n x v
  part_agree sort.Int (symbol.Word w) v fits is = is ∙ ap value.Int (word_of_agree w32 gs a b w fits.of agree)
  part_agree sort.Bool (symbol.Bit l) v fits is = is ∙ ap value.Bool (lit_agree (length gs) a b l fits agree)
  part_agree (sort.Tree of) (symbol.Tree t) v fits is =
      ap (λ (k : ℕ). n t.of k) (sym (nat_of_agree gs a b t.name fits.0.of agree)) ∙ is
  part_agree sort.Int (symbol.Bit l) v fits is = absurd fits
  part_agree sort.Int (symbol.Tree t) v fits is = absurd fits
  part_agree sort.Bool (symbol.Word w) v fits is = absurd fits
  part_agree sort.Bool (symbol.Tree t) v fits is = absurd fits
  part_agree (sort.Tree of) (symbol.Word w) v fits is = absurd fits
  part_agree (sort.Tree of) (symbol.Bit l) v fits is = absurd fits

  pub parts_agree : (ss : List Sort) (xs : List (Symbol NamedTree)) (vs : List Value) → PartsFit gs ss xs
      → SymbolsHold a n xs vs → SymbolsHold b n xs vs
  parts_agree ss [] [] fits are = tt
  parts_agree (s ∷ ss) (x ∷ xs) (v ∷ vs) fits are = (part_agree s x v fits.0 are.0, parts_agree ss xs vs fits.1 are.1)
  parts_agree [] (x ∷ xs) (v ∷ vs) fits are = absurd fits
  parts_agree ss [] (v ∷ vs) fits are = absurd are
  parts_agree ss (x ∷ xs) [] fits are = absurd are

-- kept trees have names of the circuit
module _ (gs : List Gate) (nodes : List Node)
    (named : (i : ℕ) (x : Node) → slice_get nodes i ≡ Some x → IsName gs x.name) where
  pub kept_named : (t : NamedTree) → IsKept nodes t → IsName gs t.name
  kept_named t is = subst (λ l. IsName gs l) is.name (named is.number is.node is.at)

  pub part_of_field : (s : Sort) (x : Symbol NamedTree) → FieldFits gs nodes s x → PartFits gs s x
  part_of_field sort.Int (symbol.Word w) fits = record { len = fits.0; of = fits.1 }
  part_of_field sort.Bool (symbol.Bit l) fits = fits
  part_of_field (sort.Tree of) (symbol.Tree t) fits = (kept_named t fits.0, fits.1)
  part_of_field sort.Int (symbol.Bit l) fits = absurd fits
  part_of_field sort.Int (symbol.Tree t) fits = absurd fits
  part_of_field sort.Bool (symbol.Word w) fits = absurd fits
  part_of_field sort.Bool (symbol.Tree t) fits = absurd fits
  part_of_field (sort.Tree of) (symbol.Word w) fits = absurd fits
  part_of_field (sort.Tree of) (symbol.Bit l) fits = absurd fits

  pub parts_of_fields : (ss : List Sort) (xs : List (Symbol NamedTree)) → FieldsFit gs nodes ss xs → PartsFit gs ss xs
  parts_of_fields [] [] fits = tt
  parts_of_fields (s ∷ ss) (x ∷ xs) fits = (part_of_field s x fits.0, parts_of_fields ss xs fits.1)
  parts_of_fields [] (x ∷ xs) fits = absurd fits
  parts_of_fields (s ∷ ss) [] fits = absurd fits
