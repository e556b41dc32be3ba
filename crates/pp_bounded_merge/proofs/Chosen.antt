-- Symbols that are chosen, and lists of them.
use Rattle.std.proofs.Common.{◌≡◌, ℕ, zero, suc, ◌+◌, ◌≤◌, max, Bool, true, false, if◌then◌else◌, List, [], ◌∷◌, ◌++◌}
use Rattle.std.proofs.Common.{length, map, take, Option, Some, refl, sym, ap, ◌∙◌, subst, arith, slice_get, inl, inr}
use Rattle.std.proofs.lemmas.List.{map_push}
use Rattle.std.proofs.lemmas.Option.{same_Some}
use Rattle.pp_prog.specs.declared.sort.Sort.{Sort}
use Rattle.pp_prog.specs.declared.sort.Sort.TheVariants as sort
use Rattle.pp_prog.specs.declared.types.TypeTable.{TypeTable}
use Rattle.pp_prog.specs.declared.value.Value.{Value}
use Rattle.pp_prog.specs.Sizes.{bits}
use Rattle.pp_clause.specs.Literal.{Literal, lit_value}
use Rattle.pp_gate.specs.declared.gate.Gate.{Gate}
use Rattle.pp_gate.specs.Circuit.{Gives}
use Rattle.pp_gate.proofs.Agreement.{Gives_old}
use Rattle.pp_gate.proofs.Places.{at_left, at_next, at_push}
use Rattle.pp_domain.specs.declared.symbol.Symbol.{Symbol}
use Rattle.pp_domain.specs.declared.symbol.Symbol.TheVariants as symbol
use Rattle.pp_domain.specs.Moves.{Moves}
use Rattle.pp_domain.specs.Symbols.{AreSymbols, IsSymbol}
use Rattle.pp_domain.proofs.Symbols.{AreSymbols_later}
use Rattle.pp_domain.proofs.Composition.{agree_self}
use Rattle.pp_bounded_trees.specs.declared.arena.Trees.{Trees}
use Rattle.pp_bounded_trees.specs.declared.arena.BoundedTree.{BoundedTree}
use Rattle.pp_bounded_trees.specs.declared.arena.Node.{Node}
use Rattle.pp_bounded_trees.specs.Arena.{FieldFits, FieldsFit, height_of}
use Rattle.pp_bounded_trees.specs.Possible.{total}
use Rattle.pp_bounded_trees.specs.Meaning.{bounded_sense}
use Rattle.pp_bounded_merge.specs.Merge.{AreChosen, AreLow, IsChosen, pair_bits, pairs_bits}
use Rattle.pp_bounded_trees.specs.Values.{all_values, field_values, symbol_value, values_of}
use Rattle.pp_bounded_merge.proofs.Adding.{bits_grow}
use Rattle.pp_bounded_trees.proofs.Candidates.{bits_of_bool, bits_of_int}
use Rattle.pp_bounded_trees.proofs.Kept.{AreSymbols_push, all_push, field_values_before, field_values_later}
use Rattle.pp_bounded_trees.proofs.Kept.{last_of_all}

-- the symbol at a place has the sort there
pub record SymbolAt (d : Trees) (gs : List Gate) (ss : List Sort) (i : ℕ) (x : Symbol BoundedTree) : Type 0 where
  pub sort : Sort
  pub at : slice_get ss i ≡ Some sort
  pub is : IsSymbol bounded_sense d gs sort x

pub symbol_at : (d : Trees) (gs : List Gate) (ss : List Sort) (xs : List (Symbol BoundedTree)) (i : ℕ)
    (x : Symbol BoundedTree) → AreSymbols bounded_sense d gs ss xs → slice_get xs i ≡ Some x → SymbolAt d gs ss i x
symbol_at d gs [] [] i x are at = cc
symbol_at d gs [] (y ∷ xs) i x are at = absurd are
symbol_at d gs (s ∷ ss) [] i x are at = absurd are
symbol_at d gs (s ∷ ss) (y ∷ xs) zero x are at = record {
  sort = s;
  at = refl;
  is = subst (λ (z : Symbol BoundedTree). IsSymbol bounded_sense d gs s z) (same_Some y x at) are.0;
}
symbol_at d gs (s ∷ ss) (y ∷ xs) (suc i) x are at =
    let r = symbol_at d gs ss xs i x are.1 at in record { sort = r.sort; at = r.at; is = r.is }

pub symbols_length : (d : Trees) (gs : List Gate) (ss : List Sort) (xs : List (Symbol BoundedTree))
    → AreSymbols bounded_sense d gs ss xs → length xs ≡ length ss
symbols_length d gs [] [] are = refl
symbols_length d gs [] (y ∷ xs) are = absurd are
symbols_length d gs (s ∷ ss) [] are = absurd are
symbols_length d gs (s ∷ ss) (y ∷ xs) are = ap suc (symbols_length d gs ss xs are.1)

pub symbols_taken : (d : Trees) (gs : List Gate) (i : ℕ) (ss : List Sort) (xs : List (Symbol BoundedTree))
    → AreSymbols bounded_sense d gs ss xs → AreSymbols bounded_sense d gs (take i ss) (take i xs)
symbols_taken d gs zero ss xs are = tt
symbols_taken d gs (suc i) [] [] are = tt
symbols_taken d gs (suc i) [] (y ∷ xs) are = absurd are
symbols_taken d gs (suc i) (s ∷ ss) [] are = absurd are
symbols_taken d gs (suc i) (s ∷ ss) (y ∷ xs) are = (are.0, symbols_taken d gs i ss xs are.1)

-- none
pub AreChosen_none : (d : Trees) (gs : List Gate) (choice : Literal) (rs : List (Symbol BoundedTree)) → rs ≡ []
    → AreChosen d gs choice [] [] [] rs
AreChosen_none d gs choice rs empty = subst (λ ts. AreChosen d gs choice [] [] [] ts) (sym empty) (record {
  of = tt;
  heights = λ h low also j x at. low j x at;
  means = λ a b vs gives is stand. no_fields a b vs stand;
})
  where
    no_fields : (a : ℕ → Bool) (b : Bool) (vs : List Value)
        → field_values a (values_of a d.nodes) (if b then [] else []) ≡ Some vs → Some [] ≡ Some vs
    no_fields a true vs stand = stand
    no_fields a false vs stand = stand

module _ (types : TypeTable) (d e : Trees) (gs hs : List Gate) (k : ℕ)
    (moves : Moves bounded_sense types d gs e hs k) (choice : Literal) (ss : List Sort)
    (xs ys rs : List (Symbol BoundedTree)) (s : Sort) (x y r : Symbol BoundedTree)
    (lefts : AreSymbols bounded_sense d gs ss xs) (rights : AreSymbols bounded_sense d gs ss ys)
    (all : AreChosen d gs choice ss xs ys rs) (one : IsChosen e hs choice s x y r) where
  abbrev value_of : (ℕ → Bool) → Symbol BoundedTree → Option Value
  value_of a z = symbol_value a (values_of a e.nodes) z

  low_left : (h : ℕ) (zs : List (Symbol BoundedTree)) (z : Symbol BoundedTree) → AreLow h (zs ++ z ∷ []) → AreLow h zs
  low_left h zs z low j w at = low j w (at_left zs (z ∷ []) j w at)

  means_side : (a : ℕ → Bool) (b : Bool) (zs : List (Symbol BoundedTree)) (z : Symbol BoundedTree) (vs : List Value)
      → Gives a hs → AreSymbols bounded_sense d gs ss zs
      → ((us : List Value) → field_values a (values_of a d.nodes) zs ≡ Some us
      → field_values a (values_of a d.nodes) rs ≡ Some us)
      → ((u : Value) → value_of a z ≡ Some u → value_of a r ≡ Some u)
      → field_values a (values_of a e.nodes) (zs ++ z ∷ []) ≡ Some vs
      → field_values a (values_of a e.nodes) (rs ++ r ∷ []) ≡ Some vs
  means_side a b zs z vs gives are firsts last stand =
      let l = last_of_all (map (value_of a) zs) (value_of a z) vs
      (sym (ap all_values (map_push (value_of a) zs z)) ∙ stand) in
      let old = firsts l.firsts
      (field_values_before types d e gs hs k moves a a (agree_self (length gs) a) ss zs l.firsts are l.firsts_are) in
      ap all_values (map_push (value_of a) rs r)
      ∙ all_push (map (value_of a) rs) (value_of a r) l.firsts l.last
      (field_values_later types d e gs hs k moves a a (agree_self (length gs) a) ss rs l.firsts all.of old)
      (last l.last l.last_is)
      ∙ ap Some (sym l.whole)

  pub AreChosen_push : (ts : List (Symbol BoundedTree)) → ts ≡ rs ++ r ∷ []
      → AreChosen e hs choice (ss ++ s ∷ []) (xs ++ x ∷ []) (ys ++ y ∷ []) ts
  AreChosen_push ts push =
      subst (λ us. AreChosen e hs choice (ss ++ s ∷ []) (xs ++ x ∷ []) (ys ++ y ∷ []) us) (sym push) (record {
        of = AreSymbols_push e hs ss s rs r (AreSymbols_later bounded_sense types d e gs hs k ss rs moves all.of)
            one.of;
        heights = λ h low also j z at. elim (at_push rs r j z at) [
          | inl old ↦ all.heights h (low_left h xs x low) (low_left h ys y also) j z old
          | inr new ↦
              let p = low (length xs) x (at_next xs [] x) in
              let q = also (length ys) y (at_next ys [] y) in
              let m = one.height in
              let e : height_of r ≡ height_of z = ap height_of new.1 in omega arith
        ];
        means = λ a b vs gives is stand. by_side a b vs gives is stand;
      })
    where
      by_side : (a : ℕ → Bool) (b : Bool) (vs : List Value) → Gives a hs → lit_value a choice ≡ b
          → field_values a (values_of a e.nodes) (if b then xs ++ x ∷ [] else ys ++ y ∷ []) ≡ Some vs
          → field_values a (values_of a e.nodes) (rs ++ r ∷ []) ≡ Some vs
      by_side a true vs gives is stand =
          means_side a true xs x vs gives lefts
          (λ us old. all.means a true us (Gives_old gs hs k moves.grows a gives) is old)
          (λ u v. one.means a true u gives is v) stand
      by_side a false vs gives is stand =
          means_side a false ys y vs gives rights
          (λ us old. all.means a false us (Gives_old gs hs k moves.grows a gives) is old)
          (λ u v. one.means a false u gives is v) stand

-- the gates of the first ones
pub pairs_taken : (types : TypeTable) (xs ys : List (Symbol BoundedTree)) (i : ℕ) (x y : Symbol BoundedTree)
    → slice_get xs i ≡ Some x → slice_get ys i ≡ Some y
    → pairs_bits types (take (i + 1) xs) (take (i + 1) ys)
    ≡ pairs_bits types (take i xs) (take i ys) + pair_bits types x y
pairs_taken types [] ys i x y at here = cc
pairs_taken types (w ∷ xs) [] i x y at here = cc
pairs_taken types (w ∷ xs) (z ∷ ys) zero x y at here =
    let e : 0 + 1 ≡ suc 0 = omega arith in
    let n : pair_bits types w z + 0 ≡ 0 + pair_bits types w z = omega arith in
    ap (λ n. pairs_bits types (take n (w ∷ xs)) (take n (z ∷ ys))) e ∙ n
    ∙ ap (λ a. 0 + pair_bits types a z) (same_Some w x at) ∙ ap (λ a. 0 + pair_bits types x a) (same_Some z y here)
pairs_taken types (w ∷ xs) (z ∷ ys) (suc i) x y at here =
    let e : suc i + 1 ≡ suc (i + 1) = omega arith in
    let r = pairs_taken types xs ys i x y at here in
    ap (λ n. pairs_bits types (take n (w ∷ xs)) (take n (z ∷ ys))) e ∙ ap (λ n. pair_bits types w z + n) r
    ∙ plus_assoc _ _ _
  where
    plus_assoc : (a b c : ℕ) → a + (b + c) ≡ (a + b) + c
    plus_assoc a b c = omega arith

pub pairs_within : (types : TypeTable) (xs ys : List (Symbol BoundedTree)) (i : ℕ)
    → pairs_bits types (take i xs) (take i ys) ≤ pairs_bits types xs ys
pairs_within types xs ys zero = omega arith
pairs_within types [] ys (suc i) = omega arith
pairs_within types (x ∷ xs) [] (suc i) = omega arith
pairs_within types (x ∷ xs) (y ∷ ys) (suc i) = let r = pairs_within types xs ys i in omega arith

-- two symbols of a sort, both lower than h + 1
module _ (types : TypeTable) (gs : List Gate) (nodes : List Node) (k h : ℕ) where
  pair_within : (s : Sort) (x y : Symbol BoundedTree) → FieldFits gs nodes k (suc h) s x
      → FieldFits gs nodes k (suc h) s y → pair_bits types x y ≤ bits types h s
  pair_within sort.Int (symbol.Word w) (symbol.Word v) left right = let e = bits_of_int types h in omega arith
  pair_within sort.Bool (symbol.Bit w) (symbol.Bit v) left right = let e = bits_of_bool types h in omega arith
  pair_within (sort.Tree of) (symbol.Tree t) (symbol.Tree u) left right =
      let low : max t.height u.height ≤ h = (let a = left.2 in let b = right.2 in omega arith) in
      let grow = bits_grow types (max t.height u.height) h (sort.Tree of) low in
      let same = ap (λ o. bits types (max t.height u.height) (sort.Tree o)) left.1 in omega arith
  pair_within sort.Int (symbol.Bit l) y left right = absurd left
  pair_within sort.Int (symbol.Tree t) y left right = absurd left
  pair_within sort.Int (symbol.Word w) (symbol.Bit l) left right = absurd right
  pair_within sort.Int (symbol.Word w) (symbol.Tree t) left right = absurd right
  pair_within sort.Bool (symbol.Word w) y left right = absurd left
  pair_within sort.Bool (symbol.Tree t) y left right = absurd left
  pair_within sort.Bool (symbol.Bit l) (symbol.Word w) left right = absurd right
  pair_within sort.Bool (symbol.Bit l) (symbol.Tree t) left right = absurd right
  pair_within (sort.Tree of) (symbol.Word w) y left right = absurd left
  pair_within (sort.Tree of) (symbol.Bit l) y left right = absurd left
  pair_within (sort.Tree of) (symbol.Tree t) (symbol.Word w) left right = absurd right
  pair_within (sort.Tree of) (symbol.Tree t) (symbol.Bit l) left right = absurd right

  pub fields_within : (ss : List Sort) (xs ys : List (Symbol BoundedTree)) → FieldsFit gs nodes k (suc h) ss xs
      → FieldsFit gs nodes k (suc h) ss ys → pairs_bits types xs ys ≤ total (bits types h) ss
  fields_within [] [] ys left right = omega arith
  fields_within [] (x ∷ xs) ys left right = absurd left
  fields_within (s ∷ ss) [] ys left right = absurd left
  fields_within (s ∷ ss) (x ∷ xs) [] left right = absurd right
  fields_within (s ∷ ss) (x ∷ xs) (y ∷ ys) left right =
      let one = pair_within s x y left.0 right.0 in
      let rest = fields_within ss xs ys left.1 right.1 in omega arith
