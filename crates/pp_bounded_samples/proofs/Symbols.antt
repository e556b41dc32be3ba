-- What keeps the trees and literals of a domain keeps its symbols.
use Rattle.std.proofs.Common.{◌≡◌, ◌<◌, ℕ, List, [], ◌∷◌, All, length, refl, slice_index_or, subst, sym}
use Rattle.std.proofs.lemmas.List.Elements.{All-cons, All-nil, All-weaker}
use Rattle.pp_prog.specs.declared.sort.Sort.{Sort}
use Rattle.pp_prog.specs.declared.sort.Sort.TheVariants as sort
use Rattle.pp_prog.specs.declared.types.TypeTable.{TypeTable}
use Rattle.pp_gate.specs.declared.gate.Gate.{Gate}
use Rattle.pp_gate.specs.Circuit.{IsOf}
use Rattle.pp_domain.specs.Symbols.{IsSymbol}
use Rattle.pp_domain.specs.declared.symbol.Symbol.{Symbol}
use Rattle.pp_domain.specs.declared.symbol.Symbol.TheVariants as symbol
use Rattle.pp_bounded_trees.specs.declared.arena.BoundedTree.{BoundedTree}
use Rattle.pp_bounded_trees.specs.declared.arena.Trees.{Trees}
use Rattle.pp_bounded_trees.specs.Arena.{TreeFits}
use Rattle.pp_bounded_trees.specs.Meaning.{bounded_sense}
use Rattle.pp_bounded_samples.specs.Kept.{Goes, IsOfSort}

module _ (types : TypeTable) (d e : Trees) (gs hs : List Gate) (goes : Goes types d gs e hs) where
  symbol_later : (s : Sort) (x : Symbol BoundedTree) → IsSymbol bounded_sense d gs s x → IsSymbol bounded_sense e hs s x
  symbol_later sort.Int (symbol.Word w) is = (is.0, All-weaker (IsOf gs) (IsOf hs) goes.literals w is.1)
  symbol_later sort.Bool (symbol.Bit l) is = goes.literals l is
  symbol_later (sort.Tree of) (symbol.Tree t) is = (goes.nodes t is.0, is.1)
  symbol_later sort.Int (symbol.Bit l) is = absurd is
  symbol_later sort.Int (symbol.Tree t) is = absurd is
  symbol_later sort.Bool (symbol.Word w) is = absurd is
  symbol_later sort.Bool (symbol.Tree t) is = absurd is
  symbol_later (sort.Tree of) (symbol.Word w) is = absurd is
  symbol_later (sort.Tree of) (symbol.Bit l) is = absurd is

  -- a symbol stays one
  pub of_sort_later : (x : Symbol BoundedTree) → IsOfSort d gs x → IsOfSort e hs x
  of_sort_later x of = record { sort = of.sort; is = symbol_later of.sort x of.is }

  pub all_of_sort_later : (xs : List (Symbol BoundedTree)) → All (IsOfSort d gs) xs → All (IsOfSort e hs) xs
  all_of_sort_later = All-weaker (IsOfSort d gs) (IsOfSort e hs) of_sort_later

  -- so does the one at a place of a list
  pub symbol_at : (xs : List (Symbol BoundedTree)) (k : ℕ) (x : Symbol BoundedTree) → All (IsOfSort d gs) xs
      → k < length xs → x ≡ slice_index_or xs k x → IsOfSort e hs x
  symbol_at xs k x all within is = of_sort_later x (subst (IsOfSort d gs) (sym is) (all k x within))

module _ (d : Trees) (gs : List Gate) where
  -- a kept tree is a symbol of the domain
  tree_of_sort : (t : BoundedTree) → TreeFits d.nodes (length d.nodes) t → IsOfSort d gs (symbol.Tree t)
  tree_of_sort t node = record { sort = sort.Tree t.of; is = (node, refl) }

  -- so are two
  pub trees_of_sort : (t u : BoundedTree) → TreeFits d.nodes (length d.nodes) t → TreeFits d.nodes (length d.nodes) u
      → All (IsOfSort d gs) (symbol.Tree t ∷ symbol.Tree u ∷ [])
  trees_of_sort t u left right =
      All-cons (IsOfSort d gs) (symbol.Tree t) (symbol.Tree u ∷ []) (tree_of_sort t left)
      (All-cons (IsOfSort d gs) (symbol.Tree u) [] (tree_of_sort u right) (All-nil (IsOfSort d gs)))
