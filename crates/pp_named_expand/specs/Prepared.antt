-- What came in before a tree that is looked at is entered. (own)
use Rattle.std.specs.Prelude.{◌≡◌, ℕ, ◌+◌, Bool, List}
use Rattle.pp_prog.specs.declared.id.DataId.{DataId}
use Rattle.pp_prog.specs.declared.types.TypeTable.{TypeTable}
use Rattle.pp_prog.specs.declared.value.Value.{Value}
use Rattle.pp_gate.specs.declared.gate.Gate.{Gate}
use Rattle.pp_graph.specs.Reaches.{AreGroups}
use Rattle.pp_checks.specs.Tables.{field_table}
use Rattle.pp_domain.specs.Naming.{IsOfData, Naming, NamesFields}
use Rattle.pp_domain.specs.Sense.{Extended, Good}
use Rattle.pp_named_trees.specs.declared.arena.Alternative.{Alternative}
use Rattle.pp_named_trees.specs.declared.arena.NamedTrees.{NamedTrees}
use Rattle.pp_named_trees.specs.Holding.{AlternativesHold}
use Rattle.pp_named_trees.specs.Meaning.{named_sense}
use Rattle.pp_named_contents.specs.Fitting.{ContentsFit}
use Rattle.pp_named_contents.specs.FreshContents.{contents_gates}
use Rattle.pp_named_contents.specs.Kept.{FieldsKept}
use Rattle.pp_named_instances.specs.Levels.{DataHasLevels, levels_gates}

-- the gates and inputs of levels and contents
abbrev pub prepare_gates : TypeTable → DataId → ℕ
prepare_gates types of = levels_gates types of + contents_gates types of

-- a good assignment goes on so that the contents hold for the value
pub record HoldsFor (types : TypeTable) (gs : List Gate) (n : Naming) (a : ℕ → Bool) (e : NamedTrees) (hs : List Gate)
    (v : Value) (xs : List Alternative) : Type 0 where
  pub extended : Extended named_sense types gs n a e hs
  pub holds : AlternativesHold extended.next n v xs

-- no tree was entered; the groups and levels are there; and the contents fit the datatype, their trees are kept, and
-- they can be those of each value whose fields have names
pub record IsPrepared (types : TypeTable) (d : NamedTrees) (gs : List Gate) (e : NamedTrees) (hs : List Gate)
    (of : DataId) (xs : List Alternative) : Type 0 where
  pub expansions : e.expansions ≡ d.expansions
  pub groups : AreGroups (field_table types) e.groups
  pub levels : DataHasLevels types e.groups e.levels of
  pub fits : ContentsFit hs types of xs
  pub kept : FieldsKept e.nodes xs
  pub chosen : (n : Naming) (a : ℕ → Bool) (v : Value) → Good named_sense types d gs n a → IsOfData types of v
      → NamesFields types n v → HoldsFor types gs n a e hs v xs
