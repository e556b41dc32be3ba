-- The contents of a tree that is looked at: all constructors of its datatype, of which exactly one is true. (own)
use Rattle.std.specs.Prelude.{◌≡◌, ℕ, ◌+◌, ◌*◌, Bool, List, [], ◌∷◌, Option, Some, None, length}
use Rattle.std.specs.Prelude.{slice_get}
use Rattle.pp_prog.specs.declared.id.CtorId.{CtorId}
use Rattle.pp_prog.specs.declared.id.DataId.{DataId}
use Rattle.pp_prog.specs.declared.sort.Sort.{Sort}
use Rattle.pp_prog.specs.declared.types.Ctor.{Ctor}
use Rattle.pp_prog.specs.Sizes.{ctors_of}
use Rattle.pp_prog.specs.declared.types.TypeTable.{TypeTable}
use Rattle.pp_clause.specs.Literal.{Literal}
use Rattle.pp_prog.specs.declared.value.Value.{Value}
use Rattle.pp_prog.specs.declared.value.Value.TheVariants.{Tree}
use Rattle.pp_gate.specs.declared.gate.Gate.{Gate}
use Rattle.pp_gate.specs.Circuit.{Gives}
use Rattle.pp_named_trees.specs.declared.arena.Alternative.{Alternative}
use Rattle.pp_domain.specs.Naming.{Naming, IsOfData}
use Rattle.pp_named_contents.specs.Contents.{AreContents, CanHolds, ChosenContents, parts_gates}
use Rattle.pp_named_contents.specs.Fitting.{ContentsFit}

abbrev pub fields_at : Option Ctor → List Sort
fields_at None = []
fields_at (Some k) = k.fields

-- the constructor with this number, and the sorts of its fields, counted from the first one
abbrev pub ctor_from : ℕ → ℕ → CtorId
ctor_from first j = record { 0 = first + j }

abbrev pub sorts_from : List Ctor → ℕ → List Sort
sorts_from ctors j = fields_at (slice_get ctors j)

-- the gates and inputs of the fields of these constructors
abbrev pub fields_gates : List Ctor → ℕ
fields_gates [] = 0
fields_gates (k ∷ ks) = parts_gates k.fields + fields_gates ks

abbrev pub contents_gates : TypeTable → DataId → ℕ
contents_gates types of = 3 * length (ctors_of types of) + fields_gates (ctors_of types of)

-- one for each of the first literals
pub record AreOf (gs hs : List Gate) (low first : ℕ) (ctors : List Ctor) (lits : List Literal) (i : ℕ)
    (xs : List Alternative) : Type 0 where
  pub many : length xs ≡ i
  pub lits_are : (j : ℕ) (x : Alternative) → slice_get xs j ≡ Some x → slice_get lits j ≡ Some x.lit
  pub contents : AreContents gs hs low (ctor_from first) (sorts_from ctors) xs

-- the fields of the value can be held, each by a symbol of its sort
abbrev pub CanHoldFields : ℕ → TypeTable → Naming → Value → Type 0
CanHoldFields low types n v =
    (c : CtorId) (k : Ctor) (vs : List Value) → slice_get types.ctors c.0 ≡ Some k → v ≡ Tree c vs
    → CanHolds low n k.fields vs

-- all constructors of the datatype, which can hold each value of the datatype whose fields can be held
pub record AreFresh (types : TypeTable) (gs hs : List Gate) (low : ℕ) (of : DataId) (xs : List Alternative) : Type 0
  where
    pub fits : ContentsFit hs types of xs
    pub chosen : (a : ℕ → Bool) (n : Naming) (v : Value) → Gives a gs → IsOfData types of v
        → CanHoldFields low types n v → ChosenContents gs hs a n v xs
