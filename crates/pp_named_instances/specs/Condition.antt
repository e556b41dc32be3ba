-- The condition on a tree that is looked at: it agrees with those that were looked at before, and is in order. (own)
use Rattle.std.specs.Prelude.{◌≡◌, ℕ, Bool, true, List, Some, slice_get}
use Rattle.pp_prog.specs.declared.id.DataId.{DataId}
use Rattle.pp_prog.specs.declared.types.TypeTable.{TypeTable}
use Rattle.pp_clause.specs.Literal.{Literal, lit_value}
use Rattle.pp_gate.specs.declared.gate.Gate.{Gate}
use Rattle.pp_gate.specs.Circuit.{Gives, IsOf}
use Rattle.pp_domain.specs.declared.symbol.Symbol.TheVariants as symbol
use Rattle.pp_domain.specs.Naming.{IsNaming, Naming}
use Rattle.pp_named_order.specs.Order.{OneGroup}
use Rattle.pp_named_trees.specs.declared.arena.Alternative.{Alternative}
use Rattle.pp_named_trees.specs.declared.arena.Expansion.{Expansion}
use Rattle.pp_named_trees.specs.declared.arena.Level.{Level}
use Rattle.pp_named_trees.specs.declared.arena.NamedTree.{NamedTree}
use Rattle.pp_named_trees.specs.declared.arena.NamedTrees.{NamedTrees}
use Rattle.pp_named_trees.specs.Holding.{ExpansionHolds, LevelsHold}
use Rattle.pp_named_trees.specs.Instances.{InOrder}
use Rattle.pp_named_instances.specs.Tests.{AgreesWith}

-- the datatype has a level: it is the first of its group, or a word was made for it
pub data HasLevel (groups : List ℕ) (levels : List Level) (d : DataId) : Type 0 where
  is_first : slice_get groups d.0 ≡ Some d.0 → HasLevel groups levels d
  was_made : (i : ℕ) (z : Level) → slice_get levels i ≡ Some z → z.of ≡ d → HasLevel groups levels d

-- the datatype of the tree has a level, and so have those of its fields that are of its group
pub record HaveLevels (groups : List ℕ) (levels : List Level) (y : Expansion) : Type 0 where
  pub own : HasLevel groups levels y.of
  pub fields : (j : ℕ) (x : Alternative) (p : ℕ) (t : NamedTree) → slice_get y.alternatives j ≡ Some x
      → slice_get x.fields p ≡ Some (symbol.Tree t) → OneGroup groups y.of t.of → HasLevel groups levels t.of

-- the literal says that the tree agrees with the earlier ones and is in order; it is true where the tree, the earlier
-- ones and the levels hold
pub record IsCondition (types : TypeTable) (hs : List Gate) (d : NamedTrees) (y : Expansion) (l : Literal) : Type 0
  where
    pub of : IsOf hs l
    pub agrees : (a : ℕ → Bool) → Gives a hs → lit_value a l ≡ true → AgreesWith a y d.expansions
    pub ordered : (a : ℕ → Bool) → Gives a hs → lit_value a l ≡ true → InOrder a d.groups d.levels y
    pub holds : (a : ℕ → Bool) (n : Naming) → Gives a hs → IsNaming types n → LevelsHold a n d.groups d.levels
        → ((i : ℕ) (z : Expansion) → slice_get d.expansions i ≡ Some z → ExpansionHolds a n z) → ExpansionHolds a n y
        → lit_value a l ≡ true
