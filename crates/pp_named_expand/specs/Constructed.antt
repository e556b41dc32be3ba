-- A new tree with a known constructor, before it is entered. (own)
use Rattle.std.specs.Prelude.{◌≡◌, ℕ, ◌+◌, ◌<◌, ◌^◌, Bool, List}
use Rattle.pp_prog.specs.declared.id.CtorId.{CtorId}
use Rattle.pp_prog.specs.declared.id.DataId.{DataId}
use Rattle.pp_prog.specs.declared.types.TypeTable.{TypeTable}
use Rattle.pp_clause.specs.Literal.{Literal}
use Rattle.pp_gate.specs.declared.gate.Gate.{Gate}
use Rattle.pp_graph.specs.Reaches.{AreGroups}
use Rattle.pp_checks.specs.Tables.{field_table}
use Rattle.pp_bits.specs.Number.{nat_of}
use Rattle.pp_domain.specs.declared.symbol.Symbol.{Symbol}
use Rattle.pp_domain.specs.Naming.{Naming}
use Rattle.pp_domain.specs.Short.{IsShort}
use Rattle.pp_domain.specs.Sense.{Extended, Good}
use Rattle.pp_named_trees.specs.declared.arena.Expansion.{Expansion}
use Rattle.pp_named_trees.specs.declared.arena.NamedTree.{NamedTree}
use Rattle.pp_named_trees.specs.declared.arena.NamedTrees.{NamedTrees}
use Rattle.pp_named_trees.specs.Arena.{IsKept, IsName}
use Rattle.pp_named_trees.specs.Meaning.{named_sense}
use Rattle.pp_named_contents.specs.Kept.{FieldsKept}
use Rattle.pp_named_contents.specs.Known.{AreKnown}
use Rattle.pp_named_instances.specs.Levels.{DataHasLevels, levels_gates}

-- the gates and inputs of levels and of a new name
abbrev pub known_gates : TypeTable → DataId → ℕ
known_gates types of = levels_gates types of + 32

-- a good assignment goes on so that the name has this number
pub record NameHas (types : TypeTable) (gs : List Gate) (n : Naming) (a : ℕ → Bool) (e : NamedTrees) (hs : List Gate)
    (name : List Literal) (k : ℕ) : Type 0 where
  pub extended : Extended named_sense types gs n a e hs
  pub number : nat_of extended.next name ≡ k

-- no tree was entered; the groups and levels are there; the name is new, can have each short number, and is kept;
-- and the contents are the known ones, with trees that are kept
pub record IsKnownNew (types : TypeTable) (d : NamedTrees) (gs : List Gate) (e : NamedTrees) (hs : List Gate)
    (of : DataId) (c : CtorId) (fields : List (Symbol NamedTree)) (y : Expansion) : Type 0 where
  pub data_of : y.of ≡ of
  pub expansions : e.expansions ≡ d.expansions
  pub groups : AreGroups (field_table types) e.groups
  pub levels : DataHasLevels types e.groups e.levels of
  pub name : IsName hs y.name
  pub fresh : (ls : List Literal) → IsName gs ls → ls ≡ y.name → ⊥
  pub node : (h : ℕ) → IsKept e.nodes (record { of = of; height = h; name = y.name })
  pub known : AreKnown types hs of c fields y.alternatives
  pub kept : FieldsKept e.nodes y.alternatives
  pub chosen : (n : Naming) (a : ℕ → Bool) (k : ℕ) → Good named_sense types d gs n a → IsShort d.low k
      → NameHas types gs n a e hs y.name k
