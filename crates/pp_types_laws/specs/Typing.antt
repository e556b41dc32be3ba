-- Which units have which typing. Source: own; a syntax-directed relation, by the rules of the language.
use Rattle.std.specs.Prelude.{◌≡◌, List, [], ◌∷◌}
use Rattle.pp_declared.specs.Declares.{Declares}
use Rattle.pp_declared.specs.Listed.{DefIn, decls_in, defs_of}
use Rattle.pp_inhabited.specs.Value.{AreInhabited}
use Rattle.pp_rules.specs.Bodies.{TypesDef}
use Rattle.pp_tree.specs.Plain.{UnitTree}
use Rattle.pp_typed.specs.declared.declared.Declared.{Declared}
use Rattle.pp_typed.specs.declared.declared.Signature.{Signature}
use Rattle.pp_typed.specs.declared.typed.Typed.{Typed}
use Rattle.pp_typed.specs.declared.typed.TypedDef.{TypedDef}

-- which functions have which typing, where these are their signatures
pub data TypesDefs (declared : Declared) : List DefIn → List Signature → List TypedDef → Type 0 where
  no_defs : TypesDefs declared [] [] []
  more_defs : {d : DefIn} {ds : List DefIn} {s : Signature} {ss : List Signature} {t : TypedDef} {ts : List TypedDef} →
      TypesDef declared d.source d.def s t
      → TypesDefs declared ds ss ts → TypesDefs declared (d ∷ ds) (s ∷ ss) (t ∷ ts)

-- The units have this typing: they declare roots, constructors and functions, each root has a value, and each
-- function's contracts and body have a typing where these are declared.
pub record HasTyping (units : List UnitTree) (t : Typed) : Type 0 where
  pub declared : Declared
  pub declares : Declares units declared
  pub inhabited : AreInhabited declared.roots declared.ctors
  pub roots : t.roots ≡ declared.roots
  pub ctors : t.ctors ≡ declared.ctors
  pub defs : TypesDefs declared (defs_of (decls_in units)) declared.functions t.defs

-- the units have no typing
abbrev pub HasNoTyping : List UnitTree → Type 0
HasNoTyping units = (t : Typed) → HasTyping units t → ⊥
