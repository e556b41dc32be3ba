-- The comparison of symbols, fields and constructors, and the gates that it adds. (own)
use Rattle.std.specs.Prelude.{◌≡◌, ◌↔◌, ℕ, zero, suc, ◌+◌, ◌*◌, ◌<◌, min, ◌||◌, Bool, true, List, [], ◌∷◌, Option, Some}
use Rattle.std.specs.Prelude.{None}
use Rattle.pp_prog.specs.declared.id.DataId.{DataId}
use Rattle.pp_prog.specs.declared.sort.Sort.TheVariants as sort
use Rattle.pp_prog.specs.declared.types.TypeTable.{TypeTable}
use Rattle.pp_prog.specs.declared.value.Value.{Value}
use Rattle.pp_prog.specs.Sizes.{bits}
use Rattle.pp_clause.specs.Literal.{Literal, lit_value}
use Rattle.pp_gate.specs.declared.gate.Gate.{Gate}
use Rattle.pp_gate.specs.Circuit.{Gives, IsOf}
use Rattle.pp_domain.specs.declared.symbol.Symbol.{Symbol}
use Rattle.pp_domain.specs.declared.symbol.Symbol.TheVariants as symbol
use Rattle.pp_bounded_trees.specs.declared.arena.Alternative.{Alternative}
use Rattle.pp_bounded_trees.specs.declared.arena.Trees.{Trees}
use Rattle.pp_bounded_trees.specs.declared.arena.BoundedTree.{BoundedTree}
use Rattle.pp_bounded_trees.specs.Alternatives.{IsOwn, found}
use Rattle.pp_bounded_merge.specs.Merge.{AreAlternatives}
use Rattle.pp_bounded_trees.specs.Values.{field_values, symbol_value, values_of}

-- the gates of a comparison: of two trees, of two symbols with one gate more, of two lists of them, of one constructor,
-- and of the n constructors from the first on
abbrev pub tree_test : TypeTable → BoundedTree → BoundedTree → ℕ
tree_test types t u = 4 * bits types (min t.height u.height) (sort.Tree t.of)

abbrev pub pair_test : TypeTable → Symbol BoundedTree → Symbol BoundedTree → ℕ
pair_test types (symbol.Word v) (symbol.Word w) = 65
pair_test types (symbol.Bit l) (symbol.Bit m) = 2
pair_test types (symbol.Tree t) (symbol.Tree u) = tree_test types t u
pair_test types _ _ = 0

abbrev pub pairs_test : TypeTable → List (Symbol BoundedTree) → List (Symbol BoundedTree) → ℕ
pairs_test types [] ys = 0
pairs_test types (x ∷ xs) [] = 0
pairs_test types (x ∷ xs) (y ∷ ys) = pair_test types x y + pairs_test types xs ys

abbrev pub joined_test : TypeTable → Option Alternative → Option Alternative → ℕ
joined_test types None p = 0
joined_test types (Some x) None = 0
joined_test types (Some x) (Some y) = 2 + pairs_test types x.fields y.fields

abbrev pub ctors_test : TypeTable → List Alternative → List Alternative → ℕ → ℕ → ℕ
ctors_test types xs ys first zero = 0
ctors_test types xs ys first (suc n) =
    ctors_test types xs ys first n + joined_test types (found (first + n) xs) (found (first + n) ys)

-- the literal is true exactly where the two have one value
pub record IsEqualTest (d : Trees) (hs : List Gate) (x y : Symbol BoundedTree) (l : Literal) : Type 0 where
  pub of : IsOf hs l
  pub means : (a : ℕ → Bool) (v w : Value) → Gives a hs → symbol_value a (values_of a d.nodes) x ≡ Some v
      → symbol_value a (values_of a d.nodes) y ≡ Some w → (lit_value a l ≡ true) ↔ (v ≡ w)

-- the literal is true only where both of these are, and where they are exactly where the fields have one value each
pub record AreEqualFields (d : Trees) (hs : List Gate) (m n : Literal) (xs ys : List (Symbol BoundedTree))
    (l : Literal) : Type 0 where
  pub of : IsOf hs l
  pub guard : (a : ℕ → Bool) → Gives a hs → lit_value a l ≡ true → (lit_value a m ≡ true) × (lit_value a n ≡ true)
  pub means : (a : ℕ → Bool) (vs ws : List Value) → Gives a hs → lit_value a m ≡ true → lit_value a n ≡ true
      → field_values a (values_of a d.nodes) xs ≡ Some vs → field_values a (values_of a d.nodes) ys ≡ Some ws
      → (lit_value a l ≡ true) ↔ (vs ≡ ws)

-- the constructors of two trees of one datatype
pub record TwoTrees (types : TypeTable) (d : Trees) (gs : List Gate) (xs ys : List Alternative) : Type 0 where
  pub of : DataId
  pub left_height : ℕ
  pub right_height : ℕ
  pub left : AreAlternatives types d gs of (suc left_height) xs
  pub right : AreAlternatives types d gs of (suc right_height) ys

-- the constructor of this number more: where both sides have it, it may be the one that both values have
pub record IsEqualStep (d : Trees) (hs : List Gate) (xs ys : List Alternative) (c : ℕ) (any more : Literal) : Type 0
  where
    pub of : IsOf hs more
    pub both : (x y : Alternative) → found c xs ≡ Some x → found c ys ≡ Some y → (same : Literal)
        × AreEqualFields d hs x.lit y.lit x.fields y.fields same
        × ((a : ℕ → Bool) → Gives a hs → lit_value a more ≡ (lit_value a any || lit_value a same))
    pub left_absent : found c xs ≡ None → more ≡ any
    pub right_absent : found c ys ≡ None → more ≡ any

-- true exactly where the two values are one, of one of the first i constructors
pub record EqualBefore (d : Trees) (hs : List Gate) (xs ys : List Alternative) (first i : ℕ) (any : Literal) : Type 0
  where
    pub of : IsOf hs any
    pub means : (a : ℕ → Bool) (v w : Value) (o : IsOwn a (values_of a d.nodes) xs v)
        → IsOwn a (values_of a d.nodes) ys w → Gives a hs
        → (lit_value a any ≡ true) ↔ ((v ≡ w) × (o.own.ctor.0 < first + i))
