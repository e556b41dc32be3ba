-- The search for a tree below another, and the gates that it adds. (own)
use Rattle.std.specs.Prelude.{◌≡◌, ◌↔◌, ◌⊎◌, ℕ, zero, suc, ◌+◌, ◌*◌, ◌<◌, Bool, true, false, List, Option, Some, None}
use Rattle.std.specs.Prelude.{slice_get}
use Rattle.pp_prog.specs.declared.sort.Sort.TheVariants as sort
use Rattle.pp_prog.specs.declared.types.TypeTable.{TypeTable}
use Rattle.pp_prog.specs.declared.value.Value.{Value}
use Rattle.pp_prog.specs.Sizes.{bits, nodes}
use Rattle.pp_prog.specs.Values.{IsBelow}
use Rattle.pp_clause.specs.Literal.{Literal, lit_value}
use Rattle.pp_gate.specs.declared.gate.Gate.{Gate}
use Rattle.pp_gate.specs.Circuit.{Gives, IsOf}
use Rattle.pp_domain.specs.declared.symbol.Symbol.{Symbol}
use Rattle.pp_domain.specs.declared.symbol.Symbol.TheVariants as symbol
use Rattle.pp_bounded_trees.specs.declared.arena.Alternative.{Alternative}
use Rattle.pp_bounded_trees.specs.declared.arena.Trees.{Trees}
use Rattle.pp_bounded_trees.specs.declared.arena.BoundedTree.{BoundedTree}
use Rattle.pp_bounded_trees.specs.Alternatives.{IsOwn, found}
use Rattle.pp_bounded_trees.specs.Possible.{total}
use Rattle.pp_bounded_trees.specs.Values.{field_values, symbol_value, values_of}

-- what each node of the old tree may add: the comparison with the new one, and three gates
abbrev pub weight : TypeTable → BoundedTree → ℕ
weight types t = 4 * bits types t.height (sort.Tree t.of) + 3

-- the nodes of a full tree of this height, of a symbol, of a constructor's fields, and of the n constructors from the
-- first on
abbrev pub tree_nodes : TypeTable → BoundedTree → ℕ
tree_nodes types t = nodes types t.height (sort.Tree t.of)

abbrev pub symbol_nodes : TypeTable → Symbol BoundedTree → ℕ
symbol_nodes types (symbol.Word w) = 0
symbol_nodes types (symbol.Bit l) = 0
symbol_nodes types (symbol.Tree t) = tree_nodes types t

abbrev pub fields_nodes : TypeTable → List (Symbol BoundedTree) → ℕ
fields_nodes types xs = total (symbol_nodes types) xs

abbrev pub ctor_nodes : TypeTable → Option Alternative → ℕ
ctor_nodes types None = 0
ctor_nodes types (Some x) = fields_nodes types x.fields

abbrev pub ctors_nodes : TypeTable → List Alternative → ℕ → ℕ → ℕ
ctors_nodes types xs first zero = 0
ctors_nodes types xs first (suc n) = ctors_nodes types xs first n + ctor_nodes types (found (first + n) xs)

-- v is one of these, or below one of them
abbrev pub IsUnder : Value → List Value → Type 0
IsUnder v ws = (j : ℕ) × (w : Value) × (slice_get ws j ≡ Some w) × ((v ≡ w) ⊎ IsBelow v w)

-- the literal is true exactly where the new value is below the old one
pub record IsBelowTest (d : Trees) (hs : List Gate) (new old : BoundedTree) (l : Literal) : Type 0 where
  pub of : IsOf hs l
  pub means : (a : ℕ → Bool) (v w : Value) → Gives a hs
      → symbol_value a (values_of a d.nodes) (symbol.Tree new) ≡ Some v
      → symbol_value a (values_of a d.nodes) (symbol.Tree old) ≡ Some w → (lit_value a l ≡ true) ↔ IsBelow v w

-- the literal is true exactly where the new value is the old one, or below it
pub record IsUnderTest (d : Trees) (hs : List Gate) (new old : BoundedTree) (l : Literal) : Type 0 where
  pub of : IsOf hs l
  pub means : (a : ℕ → Bool) (v w : Value) → Gives a hs
      → symbol_value a (values_of a d.nodes) (symbol.Tree new) ≡ Some v
      → symbol_value a (values_of a d.nodes) (symbol.Tree old) ≡ Some w
      → (lit_value a l ≡ true) ↔ ((v ≡ w) ⊎ IsBelow v w)

-- the literal `more` is true where `any` is, and where the constructor's literal is true and the new value is one of
-- these fields or below one
pub record AreUnderTest (d : Trees) (hs : List Gate) (new : BoundedTree) (lit any more : Literal)
    (xs : List (Symbol BoundedTree)) : Type 0 where
  pub of : IsOf hs more
  pub off : (a : ℕ → Bool) → Gives a hs → lit_value a lit ≡ false → lit_value a more ≡ lit_value a any
  pub on : (a : ℕ → Bool) (v : Value) (ws : List Value) → Gives a hs → lit_value a lit ≡ true
      → symbol_value a (values_of a d.nodes) (symbol.Tree new) ≡ Some v
      → field_values a (values_of a d.nodes) xs ≡ Some ws
      → (lit_value a more ≡ true) ↔ ((lit_value a any ≡ true) ⊎ IsUnder v ws)

-- one constructor more
pub record IsBelowStep (d : Trees) (hs : List Gate) (new : BoundedTree) (xs : List Alternative) (c : ℕ)
    (any more : Literal) : Type 0 where
  pub of : IsOf hs more
  pub there : (x : Alternative) → found c xs ≡ Some x → AreUnderTest d hs new x.lit any more x.fields
  pub absent : found c xs ≡ None → more ≡ any

-- true exactly where the old value has one of the first i constructors, and the new one is a field of it or below one
pub record BelowBefore (d : Trees) (hs : List Gate) (new : BoundedTree) (xs : List Alternative) (first i : ℕ)
    (any : Literal) : Type 0 where
  pub of : IsOf hs any
  pub means : (a : ℕ → Bool) (v w : Value) (o : IsOwn a (values_of a d.nodes) xs w) → Gives a hs
      → symbol_value a (values_of a d.nodes) (symbol.Tree new) ≡ Some v
      → (lit_value a any ≡ true) ↔ (IsUnder v o.fields × (o.own.ctor.0 < first + i))
