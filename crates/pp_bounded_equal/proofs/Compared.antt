-- Comparisons: of symbols, of lists of them, and their gates.
use Rattle.std.proofs.Common.{◌≡◌, ℕ, zero, suc, ◌+◌, ◌-◌, ◌*◌, ◌≤◌, min, ◌&&◌, Bool, List, [], ◌∷◌, ◌++◌}
use Rattle.std.proofs.Common.{length, map, take, Option, Some, None, refl, sym, ap, ◌∙◌, subst, arith, slice_get, inl}
use Rattle.std.proofs.Common.{inr}
use Rattle.std.proofs.lemmas.Bool.{and_from, and_parts, cases_lt}
use Rattle.std.proofs.lemmas.List.{map_push}
use Rattle.std.proofs.lemmas.Option.{same_Some}
use Rattle.pp_prog.specs.declared.sort.Sort.{Sort}
use Rattle.pp_prog.specs.declared.sort.Sort.TheVariants as sort
use Rattle.pp_prog.specs.declared.types.Ctor.{Ctor}
use Rattle.pp_prog.specs.declared.types.Datatype.{Datatype}
use Rattle.pp_prog.specs.declared.types.TypeTable.{TypeTable}
use Rattle.pp_prog.specs.declared.value.Value.{Value}
use Rattle.pp_prog.specs.Sizes.{bits, ctors_of}
use Rattle.pp_clause.specs.Literal.{Literal, lit_value}
use Rattle.pp_gate.specs.declared.gate.Gate.{Gate}
use Rattle.pp_gate.specs.Circuit.{Gives, IsOf, StandsFor}
use Rattle.pp_gate.specs.Growth.{AddsGates, Grows}
use Rattle.pp_gate.proofs.Agreement.{Gives_old}
use Rattle.pp_gate.proofs.Places.{at_some}
use Rattle.pp_domain.specs.declared.symbol.Symbol.{Symbol}
use Rattle.pp_domain.specs.declared.symbol.Symbol.TheVariants as symbol
use Rattle.pp_bounded_trees.specs.declared.arena.Alternative.{Alternative}
use Rattle.pp_bounded_trees.specs.declared.arena.Trees.{Trees}
use Rattle.pp_bounded_trees.specs.declared.arena.BoundedTree.{BoundedTree}
use Rattle.pp_bounded_trees.specs.declared.arena.Node.{Node}
use Rattle.pp_bounded_trees.specs.Alternatives.{found}
use Rattle.pp_bounded_trees.specs.Arena.{FieldFits, FieldsFit}
use Rattle.pp_bounded_equal.specs.Equal.{AreEqualFields, IsEqualTest, TwoTrees, ctors_test, joined_test, pair_test}
use Rattle.pp_bounded_equal.specs.Equal.{pairs_test}
use Rattle.pp_bounded_trees.specs.Possible.{field_bits, total}
use Rattle.pp_bounded_trees.specs.Values.{all_values, symbol_value, values_of}
use Rattle.pp_bounded_merge.proofs.Adding.{bits_grow}
use Rattle.pp_bounded_trees.proofs.Candidates.{bits_of_ctors, ctor_in_block, take_whole, total_taken, bits_of_bool}
use Rattle.pp_bounded_trees.proofs.Candidates.{bits_of_int}
use Rattle.pp_bounded_trees.proofs.Kept.{last_of_all}
use Rattle.pp_bounded_merge.proofs.MergedCtors.{FoundCtor, found_ctor}

-- ---- the gates

pub tests_taken : (types : TypeTable) (xs ys : List (Symbol BoundedTree)) (i : ℕ) (x y : Symbol BoundedTree)
    → slice_get xs i ≡ Some x → slice_get ys i ≡ Some y
    → pairs_test types (take (i + 1) xs) (take (i + 1) ys)
    ≡ pairs_test types (take i xs) (take i ys) + pair_test types x y
tests_taken types [] ys i x y at here = cc
tests_taken types (w ∷ xs) [] i x y at here = cc
tests_taken types (w ∷ xs) (z ∷ ys) zero x y at here =
    let e : 0 + 1 ≡ suc 0 = omega arith in
    let n : pair_test types w z + 0 ≡ 0 + pair_test types w z = omega arith in
    ap (λ n. pairs_test types (take n (w ∷ xs)) (take n (z ∷ ys))) e ∙ n
    ∙ ap (λ a. 0 + pair_test types a z) (same_Some w x at) ∙ ap (λ a. 0 + pair_test types x a) (same_Some z y here)
tests_taken types (w ∷ xs) (z ∷ ys) (suc i) x y at here =
    let e : suc i + 1 ≡ suc (i + 1) = omega arith in
    let r = tests_taken types xs ys i x y at here in
    ap (λ n. pairs_test types (take n (w ∷ xs)) (take n (z ∷ ys))) e ∙ ap (λ n. pair_test types w z + n) r
    ∙ plus_assoc _ _ _
  where
    plus_assoc : (a b c : ℕ) → a + (b + c) ≡ (a + b) + c
    plus_assoc a b c = omega arith

pub tests_within : (types : TypeTable) (xs ys : List (Symbol BoundedTree)) (i : ℕ)
    → pairs_test types (take i xs) (take i ys) ≤ pairs_test types xs ys
tests_within types xs ys zero = omega arith
tests_within types [] ys (suc i) = omega arith
tests_within types (x ∷ xs) [] (suc i) = omega arith
tests_within types (x ∷ xs) (y ∷ ys) (suc i) = let r = tests_within types xs ys i in omega arith

module _ (types : TypeTable) (gs : List Gate) (nodes : List Node) (k l hl hr : ℕ) where
  test_within : (s : Sort) (x y : Symbol BoundedTree) → FieldFits gs nodes k (suc hl) s x
      → FieldFits gs nodes l (suc hr) s y → pair_test types x y ≤ 4 * bits types (min hl hr) s
  test_within sort.Int (symbol.Word w) (symbol.Word v) left right = let e = bits_of_int types (min hl hr) in omega arith
  test_within sort.Bool (symbol.Bit w) (symbol.Bit v) left right = let e = bits_of_bool types (min hl hr) in omega arith
  test_within (sort.Tree of) (symbol.Tree t) (symbol.Tree u) left right =
      let low : min t.height u.height ≤ min hl hr = (let a = left.2 in let b = right.2 in omega arith) in
      let grow = bits_grow types (min t.height u.height) (min hl hr) (sort.Tree of) low in
      let same = ap (λ o. bits types (min t.height u.height) (sort.Tree o)) left.1 in omega arith
  test_within sort.Int (symbol.Bit b) y left right = absurd left
  test_within sort.Int (symbol.Tree t) y left right = absurd left
  test_within sort.Int (symbol.Word w) (symbol.Bit b) left right = absurd right
  test_within sort.Int (symbol.Word w) (symbol.Tree t) left right = absurd right
  test_within sort.Bool (symbol.Word w) y left right = absurd left
  test_within sort.Bool (symbol.Tree t) y left right = absurd left
  test_within sort.Bool (symbol.Bit b) (symbol.Word w) left right = absurd right
  test_within sort.Bool (symbol.Bit b) (symbol.Tree t) left right = absurd right
  test_within (sort.Tree of) (symbol.Word w) y left right = absurd left
  test_within (sort.Tree of) (symbol.Bit b) y left right = absurd left
  test_within (sort.Tree of) (symbol.Tree t) (symbol.Word w) left right = absurd right
  test_within (sort.Tree of) (symbol.Tree t) (symbol.Bit b) left right = absurd right

  pub fields_test_within : (ss : List Sort) (xs ys : List (Symbol BoundedTree)) → FieldsFit gs nodes k (suc hl) ss xs
      → FieldsFit gs nodes l (suc hr) ss ys → pairs_test types xs ys ≤ 4 * total (bits types (min hl hr)) ss
  fields_test_within [] [] ys left right = omega arith
  fields_test_within [] (x ∷ xs) ys left right = absurd left
  fields_test_within (s ∷ ss) [] ys left right = absurd left
  fields_test_within (s ∷ ss) (x ∷ xs) [] left right = absurd right
  fields_test_within (s ∷ ss) (x ∷ xs) (y ∷ ys) left right =
      let one = test_within s x y left.0 right.0 in
      let rest = fields_test_within ss xs ys left.1 right.1 in omega arith

module _ (types : TypeTable) (d : Trees) (gs : List Gate) (xs ys : List Alternative)
    (two : TwoTrees types d gs xs ys) where
  abbrev low : ℕ
  low = min two.left_height two.right_height

  pub two_entries : (c : ℕ) (x y : Alternative) → (p : FoundCtor types d gs two.of two.left_height c x)
      → (q : FoundCtor types d gs two.of two.right_height c y) → q.entry ≡ p.entry
  two_entries c x y p q = same_Some q.entry p.entry (sym q.at ∙ p.at)

  joined_test_within : (c : ℕ) (k : Ctor) → slice_get types.ctors c ≡ Some k
      → joined_test types (found c xs) (found c ys) ≤ 2 + 4 * field_bits types low k
  joined_test_within c k at = by (found c xs) (found c ys) refl refl
    where
      by : (o p : Option Alternative) → found c xs ≡ o → found c ys ≡ p
          → joined_test types o p ≤ 2 + 4 * field_bits types low k
      by None p e f = omega arith
      by (Some x) None e f = omega arith
      by (Some x) (Some y) e f =
          let p = found_ctor types d gs two.of two.left_height xs c x two.left e in
          let q = found_ctor types d gs two.of two.right_height ys c y two.right f in
          let same = two_entries c x y p q in
          let own : p.entry ≡ k = same_Some p.entry k (sym p.at ∙ at) in
          let w = fields_test_within types gs d.nodes (length d.nodes) (length d.nodes) two.left_height
          two.right_height p.entry.fields x.fields y.fields p.fits
          (subst (λ (l : Ctor). FieldsFit gs d.nodes (length d.nodes) (suc two.right_height) l.fields y.fields) same
          q.fits) in
          let r = ap (field_bits types low) own in
          omega arith

  ctors_test_within : (t : Datatype) → slice_get types.datatypes two.of.0 ≡ Some t → (n : ℕ)
      → n ≤ length (ctors_of types two.of)
      → ctors_test types xs ys t.first.0 n ≤ 2 * n + 4 * total (field_bits types low) (take n (ctors_of types two.of))
  ctors_test_within t is zero le = omega arith
  ctors_test_within t is (suc n) le =
      let before = ctors_test_within t is n (omega arith) in
      let k = at_some (ctors_of types two.of) n (omega arith) in
      let own = joined_test_within (t.first.0 + n) k.0 (ctor_in_block types two.of t n k.0 is k.1).0 in
      let taken = total_taken (field_bits types low) (ctors_of types two.of) n k.0 k.1 in
      let e : suc n ≡ n + 1 = omega arith in
      let f = ap (λ m. total (field_bits types low) (take m (ctors_of types two.of))) e in
      omega arith

  -- all of them, where there is one at all
  pub ctors_test_all : (t : Datatype) → slice_get types.datatypes two.of.0 ≡ Some t → (m : ℕ) → suc low ≡ m
      → (n : ℕ) → n ≡ length (ctors_of types two.of) → 1 ≤ n
      → ctors_test types xs ys t.first.0 n ≤ 4 * bits types m (sort.Tree two.of) - 1
  ctors_test_all t is m high n whole some =
      let w = ctors_test_within t is n (omega arith) in
      let b = bits_of_ctors types low two.of in
      let e = ap (λ k. bits types k (sort.Tree two.of)) high in
      let all = ap (λ k. take k (ctors_of types two.of)) whole ∙ take_whole (ctors_of types two.of) in
      let f = ap (total (field_bits types low)) all in
      omega arith

pub ctors_test_next : (types : TypeTable) (xs ys : List Alternative) (first n : ℕ)
    → ctors_test types xs ys first (n + 1)
    ≡ ctors_test types xs ys first n + joined_test types (found (first + n) xs) (found (first + n) ys)
ctors_test_next types xs ys first n = let e : n + 1 ≡ suc n = omega arith in ap (ctors_test types xs ys first) e

pub ctors_test_grow : (types : TypeTable) (xs ys : List Alternative) (first n m : ℕ) → n ≤ m
    → ctors_test types xs ys first n ≤ ctors_test types xs ys first m
ctors_test_grow types xs ys first n zero le = let e : n ≡ 0 = omega arith in
    let f = ap (ctors_test types xs ys first) e in omega arith
ctors_test_grow types xs ys first n (suc m) le = elim (cases_lt m n) [
  | inl above ↦ (let e : n ≡ suc m = omega arith in let f = ap (ctors_test types xs ys first) e in omega arith)
  | inr within ↦ (let r = ctors_test_grow types xs ys first n m within in omega arith)
]

-- ---- lists of symbols

push_same : (xs ys : List Value) (x y : Value) → xs ++ x ∷ [] ≡ ys ++ y ∷ [] → (xs ≡ ys) × (x ≡ y)
push_same [] [] x y e = (refl, first x y [] [] e)
  where
    first : (x y : Value) (xs ys : List Value) → x ∷ xs ≡ y ∷ ys → x ≡ y
    first x y xs ys e = cc
push_same [] (z ∷ ys) x y e = absurd (longer ys y (rest x z [] (ys ++ y ∷ []) e))
  where
    rest : (x y : Value) (xs ys : List Value) → x ∷ xs ≡ y ∷ ys → xs ≡ ys
    rest x y xs ys e = cc

    longer : (ys : List Value) (y : Value) → [] ≡ ys ++ y ∷ [] → ⊥
    longer [] y e = cc
    longer (z ∷ ys) y e = cc
push_same (w ∷ xs) [] x y e = absurd (longer xs x (sym (rest w y (xs ++ x ∷ []) [] e)))
  where
    rest : (x y : Value) (xs ys : List Value) → x ∷ xs ≡ y ∷ ys → xs ≡ ys
    rest x y xs ys e = cc

    longer : (ys : List Value) (y : Value) → [] ≡ ys ++ y ∷ [] → ⊥
    longer [] y e = cc
    longer (z ∷ ys) y e = cc
push_same (w ∷ xs) (z ∷ ys) x y e =
    let r = push_same xs ys x y (rest w z (xs ++ x ∷ []) (ys ++ y ∷ []) e) in
    (head w z xs ys (xs ++ x ∷ []) (ys ++ y ∷ []) e r.0, r.1)
  where
    rest : (x y : Value) (xs ys : List Value) → x ∷ xs ≡ y ∷ ys → xs ≡ ys
    rest x y xs ys e = cc

    head : (w z : Value) (xs ys us vs : List Value) → w ∷ us ≡ z ∷ vs → xs ≡ ys → w ∷ xs ≡ z ∷ ys
    head w z xs ys us vs e f = let g : w ≡ z = cc in λ i. g i ∷ f i

pub AreEqualFields_none : (d : Trees) (hs : List Gate) (l : Literal) → IsOf hs l → AreEqualFields d hs l l [] [] l
AreEqualFields_none d hs l of = record {
  of = of;
  guard = λ a gives is. (is, is);
  means = λ a vs ws gives left right one other.
      (λ is. none vs ws one other, λ same. left);
}
  where
    none : (vs ws : List Value) → Some [] ≡ Some vs → Some [] ≡ Some ws → vs ≡ ws
    none vs ws e f = cc

module _ (d : Trees) (gs h1 hs : List Gate) (k m : ℕ) (first : AddsGates gs h1 k) (second : AddsGates h1 hs m)
    (b l same more : Literal) (xs ys : List (Symbol BoundedTree)) (x y : Symbol BoundedTree)
    (all : AreEqualFields d gs b b xs ys l) (one : IsEqualTest d h1 x y same)
    (stands : StandsFor hs more (λ s. lit_value s l && lit_value s same)) where
  pub AreEqualFields_push : AreEqualFields d hs b b (xs ++ x ∷ []) (ys ++ y ∷ []) more
  AreEqualFields_push = record {
    of = stands.of;
    guard = λ a gives is.
        all.guard a (before a gives) (and_parts _ _ (sym (stands.value a gives) ∙ is)).0;
    means = λ a vs ws gives left right vs_are ws_are.
        let f = value_of a in
        let p = last_of_all (map f xs) (f x) vs (sym (ap all_values (map_push f xs x)) ∙ vs_are) in
        let q = last_of_all (map f ys) (f y) ws (sym (ap all_values (map_push f ys y)) ∙ ws_are) in
        let old = all.means a p.firsts q.firsts (before a gives) left right p.firsts_are q.firsts_are in
        let new = one.means a p.last q.last (Gives_old h1 hs m second.grows a gives) p.last_is q.last_is in (
          λ is.
              let t = and_parts _ _ (sym (stands.value a gives) ∙ is) in
              let e = old.0 t.0 in let g = new.0 t.1 in
              p.whole ∙ (λ i. e i ++ g i ∷ []) ∙ sym q.whole,
          λ e.
              let s = push_same p.firsts q.firsts p.last q.last (sym p.whole ∙ e ∙ q.whole) in
              stands.value a gives ∙ and_from _ _ (old.1 s.0) (new.1 s.1),
        );
  }
    where
      before : (a : ℕ → Bool) → Gives a hs → Gives a gs
      before a gives = Gives_old gs h1 k first.grows a (Gives_old h1 hs m second.grows a gives)

      value_of : (ℕ → Bool) → Symbol BoundedTree → Option Value
      value_of a z = symbol_value a (values_of a d.nodes) z

-- where the literal stands for both of these
pub AreEqualFields_of : (d : Trees) (g1 h1 hs : List Gate) (k m : ℕ) (b p q same : Literal)
    (xs ys : List (Symbol BoundedTree)) → Grows g1 h1 k → AddsGates h1 hs m
    → StandsFor g1 b (λ s. lit_value s p && lit_value s q) → AreEqualFields d h1 b b xs ys same
    → AreEqualFields d hs p q xs ys same
AreEqualFields_of d g1 h1 hs k m b p q same xs ys first second stands fields = record {
  of = second.literals same fields.of;
  guard = λ a gives is.
      let h = Gives_old h1 hs m second.grows a gives in
      and_parts _ _ (sym (stands.value a (Gives_old g1 h1 k first a h)) ∙ (fields.guard a h is).0);
  means = λ a vs ws gives left right one other.
      let h = Gives_old h1 hs m second.grows a gives in
      let t = stands.value a (Gives_old g1 h1 k first a h) ∙ and_from _ _ left right in
      fields.means a vs ws h t t one other;
}

pub IsEqualTest_later : (d : Trees) (gs hs : List Gate) (m : ℕ) (x y : Symbol BoundedTree) (l : Literal)
    → AddsGates gs hs m → IsEqualTest d gs x y l → IsEqualTest d hs x y l
IsEqualTest_later d gs hs m x y l adds test = record {
  of = adds.literals l test.of;
  means = λ a v w gives one other. test.means a v w (Gives_old gs hs m adds.grows a gives) one other;
}
