-- What the domain of named trees means. (own)
use Rattle.std.specs.Prelude.{◌≡◌, ◌⊎◌, ◌≤◌, ◌^◌, min, ℕ, Bool, true, false, List, [], Some, slice_get}
use Rattle.pp_prog.specs.declared.id.DataId.{DataId}
use Rattle.pp_prog.specs.declared.types.TypeTable.{TypeTable}
use Rattle.pp_clause.specs.Literal.{lit_value}
use Rattle.pp_gate.specs.declared.gate.Gate.{Gate}
use Rattle.pp_gate.specs.Circuit.{Gives, IsCircuit, IsOf}
use Rattle.pp_graph.specs.Reaches.{AreGroups}
use Rattle.pp_bits.specs.Number.{nat_of}
use Rattle.pp_domain.specs.Naming.{Naming, IsNaming}
use Rattle.pp_domain.specs.Sense.{Sense}
use Rattle.pp_checks.specs.Tables.{field_table}
use Rattle.pp_named_order.specs.Order.{IsOrder}
use Rattle.pp_named_order.specs.Short.{AreShort}
use Rattle.pp_named_trees.specs.declared.arena.Level.{Level}
use Rattle.pp_named_trees.specs.declared.arena.Expansion.{Expansion}
use Rattle.pp_named_trees.specs.declared.arena.NamedTree.{NamedTree}
use Rattle.pp_named_trees.specs.declared.arena.NamedTrees.{NamedTrees}
use Rattle.pp_named_trees.specs.declared.arena.Node.{Node}
use Rattle.pp_named_trees.specs.Arena.{IsKept, IsExpanded, IsName, ExpansionFits, looked}
use Rattle.pp_named_trees.specs.Holding.{LevelsHold, ExpansionHolds}
use Rattle.pp_named_trees.specs.Instances.{Instances}

-- before the first look
pub record IsUntouched (d : NamedTrees) : Type 0 where
  pub groups : d.groups ≡ []
  pub expansions : d.expansions ≡ []
  pub levels : d.levels ≡ []

pub record NamedFits (types : TypeTable) (d : NamedTrees) (gs : List Gate) : Type 0 where
  pub circuit : IsCircuit gs
  pub ok_of : IsOf gs d.ok
  pub low : d.low ≤ 31
  pub groups : IsUntouched d ⊎ AreGroups (field_table types) d.groups
  pub nodes : (i : ℕ) (x : Node) → slice_get d.nodes i ≡ Some x → IsName gs x.name
  pub expansions : (i : ℕ) (y : Expansion) → slice_get d.expansions i ≡ Some y → ExpansionFits gs d.nodes types y
  pub levels : (i : ℕ) (z : Level) → slice_get d.levels i ≡ Some z → IsName gs z.word
  pub instances : (a : ℕ → Bool) → Gives a gs → lit_value a d.ok ≡ true → Instances a d

-- namings that have an order
pub record NamedAdmits (types : TypeTable) (n : Naming) : Type 0 where
  pub naming : IsNaming types n
  pub order : (groups : List ℕ) → AreGroups (field_table types) groups → (level : DataId → ℕ) × IsOrder groups n level

pub record NamedMatches (d : NamedTrees) (a : ℕ → Bool) (n : Naming) : Type 0 where
  pub short : AreShort d.low n
  pub expansions : (i : ℕ) (y : Expansion) → slice_get d.expansions i ≡ Some y → ExpansionHolds a n y
  pub levels : (i : ℕ) (z : Level) → slice_get d.levels i ≡ Some z → LevelsHold a n d.groups d.levels

abbrev pub named_sense : Sense NamedTrees NamedTree
named_sense = record {
  exact = false;
  Fits = NamedFits;
  Node = λ d t. IsKept d.nodes t;
  data_of = λ d t. t.of;
  height = λ d t. t.height;
  Expanded = λ d t. IsExpanded d.expansions t;
  looks = λ d. looked d.expansions;
  compares = λ d. 0;
  ok = λ d. d.ok;
  limit = λ d. 2 ^ min d.low 30;
  Reaches = λ d n. AreShort d.low n;
  Admits = NamedAdmits;
  Matches = NamedMatches;
  Stands = λ d a n t v. n t.of (nat_of a t.name) ≡ Some v;
}
