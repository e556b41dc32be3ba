-- A tree that was entered. (own)
use Rattle.std.specs.Prelude.{◌≡◌, ℕ, ◌+◌, Bool, List}
use Rattle.pp_prog.specs.declared.types.TypeTable.{TypeTable}
use Rattle.pp_clause.specs.Literal.{Literal}
use Rattle.pp_gate.specs.declared.gate.Gate.{Gate}
use Rattle.pp_domain.specs.Naming.{Naming}
use Rattle.pp_domain.specs.Sense.{Extended, Good}
use Rattle.pp_named_trees.specs.declared.arena.Expansion.{Expansion}
use Rattle.pp_named_trees.specs.declared.arena.NamedTrees.{NamedTrees}
use Rattle.pp_named_trees.specs.Holding.{ExpansionHolds}
use Rattle.pp_named_trees.specs.Kept.{with_expansion}
use Rattle.pp_named_trees.specs.Meaning.{named_sense}
use Rattle.pp_named_instances.specs.OrderTests.{order_gates}
use Rattle.pp_named_instances.specs.Tests.{agreements_gates}

-- the gates of the condition on the tree, and of entering it
abbrev pub condition_gates : NamedTrees → Expansion → ℕ
condition_gates d y = agreements_gates y d.expansions + order_gates y + 1

abbrev pub enter_gates : NamedTrees → Expansion → ℕ
enter_gates d y = condition_gates d y + 1

-- the tree came in with a condition, and a good assignment under which it stands for a value goes on
pub record IsEntered (types : TypeTable) (d : NamedTrees) (gs : List Gate) (e : NamedTrees) (hs : List Gate)
    (y : Expansion) : Type 0 where
  pub ok : Literal
  pub is : e ≡ with_expansion d y ok
  pub extends : (n : Naming) (a : ℕ → Bool) → Good named_sense types d gs n a → ExpansionHolds a n y
      → Extended named_sense types gs n a e hs
