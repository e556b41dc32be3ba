-- What the condition of the domain says of looks: two trees of a datatype have one name exactly where they have one
-- constructor and one content; and a tree comes after its fields. (own; the theory of datatypes: disjoint, injective,
-- extensional and acyclic constructors)
use Rattle.std.specs.Prelude.{◌≡◌, ◌↔◌, ℕ, ◌<◌, ◌^◌, Bool, true, List, [], ◌∷◌, Some, slice_get}
use Rattle.std.specs.Int.{w32}
use Rattle.pp_prog.specs.declared.id.DataId.{DataId}
use Rattle.pp_clause.specs.Literal.{lit_value}
use Rattle.pp_bits.specs.Number.{nat_of}
use Rattle.pp_wordgate.specs.Meaning.{word_of}
use Rattle.pp_domain.specs.declared.symbol.Symbol.{Symbol}
use Rattle.pp_domain.specs.declared.symbol.Symbol.TheVariants as symbol
use Rattle.pp_named_order.specs.Order.{OneGroup, place}
use Rattle.pp_named_trees.specs.declared.arena.Alternative.{Alternative}
use Rattle.pp_named_trees.specs.declared.arena.Level.{Level}
use Rattle.pp_named_trees.specs.declared.arena.Expansion.{Expansion}
use Rattle.pp_named_trees.specs.declared.arena.NamedTree.{NamedTree}
use Rattle.pp_named_trees.specs.declared.arena.NamedTrees.{NamedTrees}

module _ (a : ℕ → Bool) where
  -- the symbols, of one sort, have one number
  abbrev pub SameSymbol : Symbol NamedTree → Symbol NamedTree → Type 0
  SameSymbol (symbol.Word v) (symbol.Word w) = word_of w32 a v ≡ word_of w32 a w
  SameSymbol (symbol.Bit l) (symbol.Bit m) = lit_value a l ≡ lit_value a m
  SameSymbol (symbol.Tree t) (symbol.Tree u) = nat_of a t.name ≡ nat_of a u.name
  SameSymbol _ _ = ⊥

  abbrev pub SameSymbols : List (Symbol NamedTree) → List (Symbol NamedTree) → Type 0
  SameSymbols [] [] = Unit {0}
  SameSymbols (x ∷ xs) (y ∷ ys) = SameSymbol x y × SameSymbols xs ys
  SameSymbols _ _ = ⊥

  abbrev pub SameAlternatives : List Alternative → List Alternative → Type 0
  SameAlternatives [] [] = Unit {0}
  SameAlternatives (x ∷ xs) (y ∷ ys) =
      (lit_value a x.lit ≡ lit_value a y.lit) × SameSymbols x.fields y.fields × SameAlternatives xs ys
  SameAlternatives _ _ = ⊥

  -- one name exactly where the constructors and fields are the same
  abbrev pub Agrees : Expansion → Expansion → Type 0
  Agrees y z = (nat_of a y.name ≡ nat_of a z.name) ↔ SameAlternatives y.alternatives z.alternatives

  -- the level of a datatype
  pub data IsLevel (groups : List ℕ) (levels : List Level) (d : DataId) (k : ℕ) : Type 0 where
    base : slice_get groups d.0 ≡ Some d.0 → k ≡ 2 ^ 31 → IsLevel groups levels d k
    word : (i : ℕ) (z : Level) → slice_get levels i ≡ Some z → z.of ≡ d → k ≡ nat_of a z.word
        → IsLevel groups levels d k

  -- the field comes before the tree
  pub record ComesBefore (groups : List ℕ) (levels : List Level) (t : NamedTree) (y : Expansion) : Type 0 where
    pub field_level : ℕ
    pub tree_level : ℕ
    pub field_is : IsLevel groups levels t.of field_level
    pub tree_is : IsLevel groups levels y.of tree_level
    pub below : place field_level (nat_of a t.name) < place tree_level (nat_of a y.name)

  -- so does each field of its group, of the constructor that the tree has
  abbrev pub InOrder : List ℕ → List Level → Expansion → Type 0
  InOrder groups levels y =
      (j : ℕ) (x : Alternative) (p : ℕ) (t : NamedTree) → slice_get y.alternatives j ≡ Some x
      → lit_value a x.lit ≡ true → slice_get x.fields p ≡ Some (symbol.Tree t) → OneGroup groups y.of t.of
      → ComesBefore groups levels t y

  pub record Instances (d : NamedTrees) : Type 0 where
    pub agree : (i j : ℕ) (y z : Expansion) → i < j → slice_get d.expansions i ≡ Some y
        → slice_get d.expansions j ≡ Some z → z.of ≡ y.of → Agrees z y
    pub order : (i : ℕ) (y : Expansion) → slice_get d.expansions i ≡ Some y → InOrder d.groups d.levels y
