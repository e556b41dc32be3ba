-- What falls from a node to its fields.
use Rattle.std.proofs.Common.{◌≡◌, ℕ, zero, suc, ◌≤◌, max, List, [], ◌∷◌, map, Some, refl, ap, arith, slice_get}
use Rattle.std.proofs.lemmas.Option.{same_Some}
use Rattle.pp_prog.specs.declared.id.DataId.{DataId}
use Rattle.pp_prog.specs.declared.sort.Sort.{Sort}
use Rattle.pp_prog.specs.declared.types.TypeTable.{TypeTable}
use Rattle.pp_prog.specs.Values.{greatest}
use Rattle.pp_gate.specs.declared.gate.Gate.{Gate}
use Rattle.pp_domain.specs.declared.symbol.Symbol.{Symbol}
use Rattle.pp_bounded_trees.specs.declared.arena.Alternative.{Alternative}
use Rattle.pp_bounded_trees.specs.declared.arena.BoundedTree.{BoundedTree}
use Rattle.pp_bounded_trees.specs.declared.arena.Node.{Node}
use Rattle.pp_bounded_trees.specs.Alternatives.{found}
use Rattle.pp_bounded_trees.specs.Arena.{AlternativeFits, FieldsFit}
use Rattle.pp_bounded_trees.proofs.Found.{found_some}
use Rattle.pp_bounded_trees.proofs.Reading.{field_rank, rank}

-- the greatest of the symbols, and of all fields of the constructors
abbrev pub ranks : List (Symbol BoundedTree) → ℕ
ranks xs = greatest (map rank xs)

abbrev pub tops : List Alternative → ℕ
tops [] = 0
tops (y ∷ ys) = max (ranks y.fields) (tops ys)

pub rank_in : (xs : List (Symbol BoundedTree)) (j : ℕ) (x : Symbol BoundedTree) → slice_get xs j ≡ Some x
    → rank x ≤ ranks xs
rank_in [] j x at = cc
rank_in (y ∷ xs) zero x at = let e = ap rank (same_Some y x at) in omega arith
rank_in (y ∷ xs) (suc j) x at = let r = rank_in xs j x at in omega arith

pub top_in : (ys : List Alternative) (j : ℕ) (y : Alternative) → slice_get ys j ≡ Some y → ranks y.fields ≤ tops ys
top_in [] j y at = cc
top_in (z ∷ ys) zero y at = let e = ap (λ (w : Alternative). ranks w.fields) (same_Some z y at) in omega arith
top_in (z ∷ ys) (suc j) y at = let r = top_in ys j y at in omega arith

pub top_found : (ys : List Alternative) (c : ℕ) (y : Alternative) → found c ys ≡ Some y → ranks y.fields ≤ tops ys
top_found ys c y is = let f = found_some c ys y is in top_in ys f.place y f.at

pub ranks_within : (gs : List Gate) (nodes : List Node) (k h : ℕ) (ss : List Sort) (xs : List (Symbol BoundedTree))
    → FieldsFit gs nodes k h ss xs → ranks xs ≤ k
ranks_within gs nodes k h [] [] fits = omega arith
ranks_within gs nodes k h [] (x ∷ xs) fits = absurd fits
ranks_within gs nodes k h (s ∷ ss) [] fits = absurd fits
ranks_within gs nodes k h (s ∷ ss) (x ∷ xs) fits =
    let one = field_rank gs nodes k h s x fits.0 in
    let rest = ranks_within gs nodes k h ss xs fits.1 in omega arith

pub tops_within : (types : TypeTable) (gs : List Gate) (nodes : List Node) (k : ℕ) (of : DataId) (h : ℕ)
    (ys : List Alternative)
    → ((j : ℕ) (y : Alternative) → slice_get ys j ≡ Some y → AlternativeFits gs nodes types k of h y) → tops ys ≤ k
tops_within types gs nodes k of h [] fits = omega arith
tops_within types gs nodes k of h (y ∷ ys) fits =
    let own = fits 0 y refl in
    let one = ranks_within gs nodes k h own.entry.fields y.fields own.fields in
    let rest = tops_within types gs nodes k of h ys (λ j z at. fits (suc j) z at) in omega arith
