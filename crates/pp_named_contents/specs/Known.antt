-- Contents of which all is known: one constructor with given fields, and blank fields of the others. (own)
use Rattle.std.specs.Prelude.{◌≡◌, ◌≢◌, ℕ, Bool, true, false, List, All, Some, length, slice_get}
use Rattle.pp_prog.specs.declared.id.CtorId.{CtorId}
use Rattle.pp_prog.specs.declared.id.DataId.{DataId}
use Rattle.pp_prog.specs.declared.sort.Sort.{Sort}
use Rattle.pp_prog.specs.declared.types.Ctor.{Ctor}
use Rattle.pp_prog.specs.declared.types.TypeTable.{TypeTable}
use Rattle.pp_clause.specs.Literal.{lit_value}
use Rattle.pp_gate.specs.declared.gate.Gate.{Gate}
use Rattle.pp_gate.specs.Circuit.{Gives}
use Rattle.pp_domain.specs.declared.symbol.Symbol.{Symbol}
use Rattle.pp_named_trees.specs.declared.arena.Alternative.{Alternative}
use Rattle.pp_named_trees.specs.declared.arena.NamedTree.{NamedTree}
use Rattle.pp_named_trees.specs.Arena.{IsBlank}
use Rattle.pp_named_trees.specs.Parts.{PartFits, PartsFit}
use Rattle.pp_named_contents.specs.Contents.{PartFitsAt}
use Rattle.pp_named_contents.specs.Fitting.{ContentsFit}
use Rattle.pp_named_contents.specs.FreshContents.{ctor_from, sorts_from}

-- a symbol of this sort that is blank
pub record IsBlankPart (gs : List Gate) (s : Sort) (x : Symbol NamedTree) : Type 0 where
  pub fits : PartFits gs s x
  pub blank : (a : ℕ → Bool) → Gives a gs → IsBlank a x

-- symbols of these sorts that are blank
pub record AreBlankParts (gs : List Gate) (ss : List Sort) (xs : List (Symbol NamedTree)) : Type 0 where
  pub fits : PartsFit gs ss xs
  pub blank : (a : ℕ → Bool) → Gives a gs → All (IsBlank a) xs

-- the constructor's literal is always true where it is c, with these fields, and else always false
pub record IsKnownCtor (gs : List Gate) (c : CtorId) (fields : List (Symbol NamedTree)) (x : Alternative) : Type 0 where
  pub own : x.ctor ≡ c → x.fields ≡ fields
  pub on : x.ctor ≡ c → (a : ℕ → Bool) → Gives a gs → lit_value a x.lit ≡ true
  pub off : x.ctor ≢ c → (a : ℕ → Bool) → Gives a gs → lit_value a x.lit ≡ false

-- the constructors of the datatype, of which c is the one, with these fields
pub record AreKnown (types : TypeTable) (gs : List Gate) (of : DataId) (c : CtorId) (fields : List (Symbol NamedTree))
    (xs : List Alternative) : Type 0 where
  pub fits : ContentsFit gs types of xs
  pub each : (j : ℕ) (x : Alternative) → slice_get xs j ≡ Some x → IsKnownCtor gs c fields x

-- the symbols are of the sorts of the constructor's fields
abbrev pub AreFieldsOf : TypeTable → List Gate → CtorId → List (Symbol NamedTree) → Type 0
AreFieldsOf types gs c fields = (k : Ctor) × (slice_get types.ctors c.0 ≡ Some k) × PartsFit gs k.fields fields

-- the alternative of a constructor with fields of these sorts, beside the known one c
pub record IsKnownAt (gs : List Gate) (own : CtorId) (ss : List Sort) (c : CtorId) (fields : List (Symbol NamedTree))
    (x : Alternative) : Type 0 where
  pub part : PartFitsAt gs own ss x
  pub known : IsKnownCtor gs c fields x

-- the first i of the constructors
pub record AreKnownTo (gs : List Gate) (first : ℕ) (ctors : List Ctor) (i : ℕ) (c : CtorId)
    (fields : List (Symbol NamedTree)) (xs : List Alternative) : Type 0 where
  pub many : length xs ≡ i
  pub each : (j : ℕ) (x : Alternative) → slice_get xs j ≡ Some x
      → IsKnownAt gs (ctor_from first j) (sorts_from ctors j) c fields x
