-- Which roots, constructors and functions units declare. Source: own; the rules are those of the language's
-- declarations.
use Rattle.std.specs.Prelude.{◌≡◌, ℕ, ◌<◌, Bool, true, false, ◌&&◌, List, [], ◌∷◌, ◌++◌, Some, None, length, map}
use Rattle.std.specs.Prelude.{count_by, nat_eq, slice_get, All}
use Rattle.std.specs.Str.{bytes_eq}
use Rattle.pp_declared.specs.Listed.{DeclIn, ClassIn, DefIn, ImportIn, decls_in, imports_in, objects_in, roots_of}
use Rattle.pp_declared.specs.Listed.{ctors_of, defs_of}
use Rattle.pp_declared.specs.WellFormed.{AreNew, IsWellFormed, most_ctors, param_names}
use Rattle.pp_names.specs.Find.{owners_of}
use Rattle.pp_names.specs.Places.{Word, has, place_of}
use Rattle.pp_sorts.specs.IsSort.{IsSort, AreSorts}
use Rattle.pp_tree.specs.Plain.{TypeTree, type_text, TypeTrees, no_types, more_types, ParamTree, UnitTree}
use Rattle.pp_tree.specs.Shown.{type_trees}
use Rattle.pp_typed.specs.declared.declared.Declared.{Declared}
use Rattle.pp_typed.specs.declared.declared.Signature.{Signature}
use Rattle.pp_typed.specs.declared.typed.TypedCtor.{TypedCtor}
use Rattle.pp_typed.specs.declared.typed.TypedRoot.{TypedRoot}

-- the names of classes, and of functions
abbrev pub class_names : List ClassIn → List Word
class_names cs = map (λ (c : ClassIn). c.class.name) cs

abbrev pub def_names : List DefIn → List Word
def_names ds = map (λ (d : DefIn). d.def.name) ds

-- the root that a class declares
abbrev pub typed_root : ClassIn → TypedRoot
typed_root c = record { name = c.class.name; type_params = length c.class.params }

-- the written types of parameters
abbrev pub param_types : List ParamTree → TypeTrees
param_types ps = type_trees (map (λ (p : ParamTree). p.of) ps)

-- the written types are exactly these type parameters, in order
abbrev pub is_bare : TypeTrees → Bool
is_bare no_types = true
is_bare (more_types t ts) = false

abbrev pub is_param : Word → TypeTree → Bool
is_param p (type_text at w args) = bytes_eq p w && is_bare args

abbrev pub are_params : List Word → TypeTrees → Bool
are_params [] no_types = true
are_params [] (more_types t ts) = false
are_params (p ∷ ps) no_types = false
are_params (p ∷ ps) (more_types t ts) = is_param p t && are_params ps ts

-- The root of a constructor, by its place: a case class without a parent is a root with itself as its constructor;
-- else it is the sealed root of the same source that the constructor extends with exactly its own type parameters.
pub data IsOwner (roots : List ClassIn) (c : ClassIn) : ℕ → Type 0 where
  itself : (r : ℕ) → c.class.parent ≡ None → place_of c.class.name (class_names roots) ≡ Some r → IsOwner roots c r
  extended : (r : ℕ) (at : ℕ) (w : Word) (ts : TypeTrees) (root : ClassIn)
      → c.class.parent ≡ Some (type_text at w ts) → has w c.class.params ≡ false
      → place_of w (class_names roots) ≡ Some r → slice_get roots r ≡ Some root → root.sealed ≡ true
      → root.source ≡ c.source
      → length c.class.params ≡ length root.class.params → are_params c.class.params ts ≡ true → IsOwner roots c r

-- the constructor that a class declares
pub record IsCtor (roots : List ClassIn) (c : ClassIn) (t : TypedCtor) : Type 0 where
  pub name : t.name ≡ c.class.name
  pub owner : IsOwner roots c t.root
  pub fields : AreSorts (map typed_root roots) c.class.params (param_types c.class.fields) t.fields
  pub object : t.object ≡ c.class.object

-- the constructors that classes declare, after these constructors: before each there are fewer than 64 of its root
pub data AreCtors (roots : List ClassIn) : List TypedCtor → List ClassIn → List TypedCtor → Type 0 where
  no_ctors : (before : List TypedCtor) → AreCtors roots before [] []
  more_ctors : (before : List TypedCtor) {c : ClassIn} {cs : List ClassIn} {t : TypedCtor} {ts : List TypedCtor}
      → IsCtor roots c t → count_by (nat_eq t.root) (owners_of before) < most_ctors
      → AreCtors roots (before ++ t ∷ []) cs ts
      → AreCtors roots before (c ∷ cs) (t ∷ ts)

-- the names of the fields of a constructor
abbrev pub field_names : ClassIn → List Word
field_names c = param_names c.class.fields

-- the function that a definition declares, as its callers see it
pub record IsSignature (roots : List TypedRoot) (d : DefIn) (s : Signature) : Type 0 where
  pub name : s.name ≡ d.def.name
  pub type_params : s.type_params ≡ length d.def.type_params
  pub params : AreSorts roots d.def.type_params (param_types d.def.params) s.params
  pub list : s.list ≡ d.def.list
  pub result : IsSort roots d.def.type_params d.def.result s.result

pub data AreSignatures (roots : List TypedRoot) : List DefIn → List Signature → Type 0 where
  no_signatures : AreSignatures roots [] []
  more_signatures : {d : DefIn} {ds : List DefIn} {s : Signature} {ss : List Signature} → IsSignature roots d s
      → AreSignatures roots ds ss
      → AreSignatures roots (d ∷ ds) (s ∷ ss)

-- What units declare. There is one space of names of types, one of constructors and one of functions; an import names
-- an object; each declaration is well formed by itself.
pub record Declares (units : List UnitTree) (d : Declared) : Type 0 where
  pub imports : All (λ (i : ImportIn). has i.path.name (objects_in units) ≡ true) (imports_in units)
  pub well_formed : All (λ (x : DeclIn). IsWellFormed x.decl) (decls_in units)
  pub types_new : AreNew (class_names (roots_of (decls_in units)))
  pub ctors_new : AreNew (class_names (ctors_of (decls_in units)))
  pub functions_new : AreNew (def_names (defs_of (decls_in units)))
  pub roots : d.roots ≡ map typed_root (roots_of (decls_in units))
  pub ctors : AreCtors (roots_of (decls_in units)) [] (ctors_of (decls_in units)) d.ctors
  pub fields_named : d.field_names ≡ map field_names (ctors_of (decls_in units))
  pub functions : AreSignatures d.roots (defs_of (decls_in units)) d.functions
