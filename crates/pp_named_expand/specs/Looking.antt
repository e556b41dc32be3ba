-- A look at a tree: its constructors and fields are there from now on. (own)
use Rattle.std.specs.Prelude.{◌≡◌, ℕ, ◌<◌, ◌≤◌, Bool, List, length, Some}
use Rattle.pp_prog.specs.declared.id.DataId.{DataId}
use Rattle.pp_prog.specs.declared.types.TypeTable.{TypeTable}
use Rattle.pp_prog.specs.declared.value.Value.{Value}
use Rattle.pp_prog.specs.Sizes.{ctors_of}
use Rattle.pp_gate.specs.declared.gate.Gate.{Gate}
use Rattle.pp_bits.specs.Number.{nat_of}
use Rattle.pp_domain.specs.Moves.{LooksAt}
use Rattle.pp_domain.specs.Naming.{Naming, NamesFields}
use Rattle.pp_domain.specs.Sense.{Extended, Good}
use Rattle.pp_named_trees.specs.declared.arena.NamedTree.{NamedTree}
use Rattle.pp_named_trees.specs.declared.arena.NamedTrees.{NamedTrees}
use Rattle.pp_named_trees.specs.Meaning.{named_sense}

-- the datatype stands in the table, and has constructors
pub record HasCtors (types : TypeTable) (of : DataId) : Type 0 where
  pub within : of.0 < length types.datatypes
  pub some : 1 ≤ length (ctors_of types of)

-- the tree is expanded, for the first time or nothing was added; and a good assignment goes on under which it stands
-- for a value whose fields have names
pub record IsLook (types : TypeTable) (d : NamedTrees) (gs : List Gate) (e : NamedTrees) (hs : List Gate)
    (t : NamedTree) : Type 0 where
  pub looks : LooksAt named_sense d gs e hs t t.of
  pub extends : (n : Naming) (a : ℕ → Bool) (v : Value) → Good named_sense types d gs n a
      → n t.of (nat_of a t.name) ≡ Some v → NamesFields types n v → Extended named_sense types gs n a e hs
