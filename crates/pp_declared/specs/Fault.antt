-- Where declarations break which rule. Source: own; the rules are those of the language's declarations.
use Rattle.std.specs.Prelude.{◌≡◌, ◌≤◌, ◌<◌, ℕ, nat_eq, true, false, List, [], ◌∷◌, ◌++◌, Some, None, length, map}
use Rattle.std.specs.Prelude.{count_by, slice_get, Contains}
use Rattle.pp_declared.specs.Declares.{AreCtors, IsOwner, class_names, def_names, param_types, typed_root}
use Rattle.pp_declared.specs.Declare.{is_open_to, extends_whole}
use Rattle.pp_declared.specs.Listed.{DeclIn, ClassIn, DefIn, ImportIn, decls_in, imports_in, objects_in, roots_of}
use Rattle.pp_declared.specs.Listed.{ctors_of, defs_of}
use Rattle.pp_declared.specs.WellFormed.{AreNew, is_taken, most_ctors, most_params, most_type_params, param_names}
use Rattle.pp_fault.specs.declared.Rule.{Rule}
use Rattle.pp_fault.specs.declared.Rule.TheVariants.{Unknown, Duplicate, Mismatch, Arity, OverLimit}
use Rattle.pp_names.specs.Find.{owners_of}
use Rattle.pp_names.specs.Places.{Word, has, place_of}
use Rattle.pp_sorts.specs.IsSort.{Breaks, OneBreaks}
use Rattle.pp_tree.specs.Plain.{type_text, TypeTrees, ParamTree, ClassTree, DefTree, DeclTree, root, ctor, other, def}
use Rattle.pp_tree.specs.Plain.{UnitTree}
use Rattle.pp_typed.specs.declared.typed.TypedCtor.{TypedCtor}

-- a declaration of this name at this place, with these type parameters and parameters or fields, breaks a rule by
-- itself
pub data HeadBreaks (at : ℕ) (w : Word) (ts : List Word) (ps : List ParamTree) : Rule → Word → ℕ → Type 0 where
  many_type_params : most_type_params < length ts → HeadBreaks at w ts ps OverLimit w at
  type_param_twice : (AreNew ts → ⊥) → HeadBreaks at w ts ps Duplicate w at
  many_params : most_params < length ps → HeadBreaks at w ts ps OverLimit w at
  param_twice : (before : List ParamTree) (p : ParamTree) (after : List ParamTree) → ps ≡ before ++ p ∷ after
      → is_taken (param_names before) p.name ≡ true
      → HeadBreaks at w ts ps Duplicate p.name p.at

-- a class or a trait that is neither a root nor a constructor is a mismatch
pub data DeclBreaks : DeclTree → Rule → Word → ℕ → Type 0 where
  a_root : {c : ClassTree} {rule : Rule} {w : Word} {at : ℕ} → HeadBreaks c.at c.name c.params c.fields rule w at
      → DeclBreaks (root c) rule w at
  a_ctor : {c : ClassTree} {rule : Rule} {w : Word} {at : ℕ} → HeadBreaks c.at c.name c.params c.fields rule w at
      → DeclBreaks (ctor c) rule w at
  a_def : {d : DefTree} {rule : Rule} {w : Word} {at : ℕ} → HeadBreaks d.at d.name d.type_params d.params rule w at
      → DeclBreaks (def d) rule w at
  another : (c : ClassTree) → DeclBreaks (other c) Mismatch c.name c.at

-- What a constructor extends is no sealed root of its source, or stands for a type parameter; or the constructor
-- doesn't extend it with exactly its own type parameters.
pub data OwnerBreaks (roots : List ClassIn) (c : ClassIn) : Rule → Word → ℕ → Type 0 where
  nothing : place_of c.class.name (class_names roots) ≡ None → c.class.parent ≡ None
      → OwnerBreaks roots c Unknown c.class.name c.class.at
  no_root : (at : ℕ) (w : Word) (ts : TypeTrees) → c.class.parent ≡ Some (type_text at w ts)
      → place_of w (class_names roots) ≡ None → OwnerBreaks roots c Unknown w at
  hidden : (at : ℕ) (w : Word) (ts : TypeTrees) → c.class.parent ≡ Some (type_text at w ts)
      → has w c.class.params ≡ true → OwnerBreaks roots c Unknown w at
  closed : (at : ℕ) (w : Word) (ts : TypeTrees) (r : ℕ) → c.class.parent ≡ Some (type_text at w ts)
      → place_of w (class_names roots) ≡ Some r
      → is_open_to c (slice_get roots r) ≡ false → OwnerBreaks roots c Unknown w at
  not_whole : (at : ℕ) (w : Word) (ts : TypeTrees) (r : ℕ) → c.class.parent ≡ Some (type_text at w ts)
      → has w c.class.params ≡ false → place_of w (class_names roots) ≡ Some r
      → is_open_to c (slice_get roots r) ≡ true → extends_whole c ts (slice_get roots r) ≡ false
      → OwnerBreaks roots c Arity c.class.name c.class.at

-- the units break this rule with this name in this source at this place
pub data DeclaresBreak (units : List UnitTree) : Rule → Word → ℕ → ℕ → Type 0 where
  an_import : (i : ImportIn) → Contains (imports_in units) i → has i.path.name (objects_in units) ≡ false
      → DeclaresBreak units Unknown i.path.name i.source i.path.at
  by_itself : (d : DeclIn) {rule : Rule} {w : Word} {at : ℕ} → Contains (decls_in units) d
      → DeclBreaks d.decl rule w at → DeclaresBreak units rule w d.source at
  type_twice : (before : List ClassIn) (c : ClassIn) (after : List ClassIn)
      → roots_of (decls_in units) ≡ before ++ c ∷ after
      → is_taken (class_names before) c.class.name ≡ true
      → DeclaresBreak units Duplicate c.class.name c.source c.class.at
  ctor_twice : (before : List ClassIn) (c : ClassIn) (after : List ClassIn)
      → ctors_of (decls_in units) ≡ before ++ c ∷ after
      → is_taken (class_names before) c.class.name ≡ true
      → DeclaresBreak units Duplicate c.class.name c.source c.class.at
  function_twice : (before : List DefIn) (d : DefIn) (after : List DefIn)
      → defs_of (decls_in units) ≡ before ++ d ∷ after
      → is_taken (def_names before) d.def.name ≡ true → DeclaresBreak units Duplicate d.def.name d.source d.def.at
  an_owner : (c : ClassIn) {rule : Rule} {w : Word} {at : ℕ} → Contains (ctors_of (decls_in units)) c
      → OwnerBreaks (roots_of (decls_in units)) c rule w at
      → DeclaresBreak units rule w c.source at
  many_ctors : (before : List ClassIn) (c : ClassIn) (after : List ClassIn) (ts : List TypedCtor) (r : ℕ)
      → ctors_of (decls_in units) ≡ before ++ c ∷ after
      → AreCtors (roots_of (decls_in units)) [] before ts → IsOwner (roots_of (decls_in units)) c r
      → most_ctors ≤ count_by (nat_eq r) (owners_of ts)
      → DeclaresBreak units OverLimit c.class.name c.source c.class.at
  a_field : (c : ClassIn) {rule : Rule} {w : Word} {at : ℕ} → Contains (ctors_of (decls_in units)) c
      → OneBreaks (map typed_root (roots_of (decls_in units))) c.class.params (param_types c.class.fields) rule w at →
      DeclaresBreak units rule w c.source at
  a_param : (d : DefIn) {rule : Rule} {w : Word} {at : ℕ} → Contains (defs_of (decls_in units)) d
      → OneBreaks (map typed_root (roots_of (decls_in units))) d.def.type_params (param_types d.def.params) rule w at →
      DeclaresBreak units rule w d.source at
  a_result : (d : DefIn) {rule : Rule} {w : Word} {at : ℕ} → Contains (defs_of (decls_in units)) d
      → Breaks (map typed_root (roots_of (decls_in units))) d.def.type_params d.def.result rule w at
      → DeclaresBreak units rule w d.source at
