-- All constructors of a datatype with their fields, whose trees needn't be kept yet. (own)
use Rattle.std.specs.Prelude.{◌≡◌, ℕ, ◌+◌, Bool, false, List, All, length, Some, slice_get}
use Rattle.pp_prog.specs.declared.id.DataId.{DataId}
use Rattle.pp_prog.specs.declared.types.Ctor.{Ctor}
use Rattle.pp_prog.specs.declared.types.Datatype.{Datatype}
use Rattle.pp_prog.specs.declared.types.TypeTable.{TypeTable}
use Rattle.pp_clause.specs.Literal.{lit_value}
use Rattle.pp_gate.specs.declared.gate.Gate.{Gate}
use Rattle.pp_gate.specs.Circuit.{Gives, IsOf}
use Rattle.pp_named_trees.specs.declared.arena.Alternative.{Alternative}
use Rattle.pp_named_trees.specs.Arena.{IsBlank, true_among}
use Rattle.pp_named_trees.specs.Parts.{PartsFit}

module _ (gs : List Gate) (types : TypeTable) where
  -- the j-th constructor of the datatype, with fields of its sorts, which are blank where its literal is false
  pub record CtorFits (t : Datatype) (j : ℕ) (x : Alternative) : Type 0 where
    pub ctor : x.ctor.0 ≡ t.first.0 + j
    pub lit : IsOf gs x.lit
    pub entry : Ctor
    pub at : slice_get types.ctors x.ctor.0 ≡ Some entry
    pub fields : PartsFit gs entry.fields x.fields
    pub blank : (a : ℕ → Bool) → Gives a gs → lit_value a x.lit ≡ false → All (IsBlank a) x.fields

  -- all constructors of the datatype, in order, of which exactly one literal is true
  pub record ContentsFit (of : DataId) (xs : List Alternative) : Type 0 where
    pub datatype : Datatype
    pub at : slice_get types.datatypes of.0 ≡ Some datatype
    pub many : length xs ≡ datatype.count
    pub each : (j : ℕ) (x : Alternative) → slice_get xs j ≡ Some x → CtorFits datatype j x
    pub one : (a : ℕ → Bool) → Gives a gs → true_among a xs ≡ 1
