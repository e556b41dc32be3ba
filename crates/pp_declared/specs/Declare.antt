-- What units declare, or a fault in it. Source: own.
use Rattle.std.specs.Prelude.{ℕ, nat_eq, nat_lt, Bool, false, ◌&&◌, not, if◌then◌else◌, List, [], ◌∷◌, ◌++◌, Option}
use Rattle.std.specs.Prelude.{Some, None, Ok, length, map, count_by, slice_get}
use Rattle.pp_declared.specs.Declares.{are_params, class_names, def_names, field_names, param_types, typed_root}
use Rattle.pp_declared.specs.Listed.{DeclIn, ClassIn, DefIn, ImportIn, decls_in, imports_in, objects_in, roots_of}
use Rattle.pp_declared.specs.Listed.{ctors_of, defs_of}
use Rattle.pp_declared.specs.WellFormed.{is_taken, checked, most_ctors}
use Rattle.pp_fault.specs.Part.{Part, and_then, fault}
use Rattle.pp_fault.specs.declared.Rule.TheVariants.{Unknown, Duplicate, Arity, OverLimit}
use Rattle.pp_names.specs.Find.{owners_of}
use Rattle.pp_names.specs.Places.{Word, has, place_of}
use Rattle.pp_sorts.specs.SortOf.{sort_of, sorts_from}
use Rattle.pp_tree.specs.Plain.{TypeTree, type_text, TypeTrees, UnitTree}
use Rattle.pp_typed.specs.declared.declared.Declared.{Declared}
use Rattle.pp_typed.specs.declared.declared.Signature.{Signature}
use Rattle.pp_typed.specs.declared.sort.GenericSort.{GenericSort}
use Rattle.pp_typed.specs.declared.typed.TypedCtor.{TypedCtor}
use Rattle.pp_typed.specs.declared.typed.TypedRoot.{TypedRoot}

-- each import names one of these objects
abbrev pub imports_checked : List Word → List ImportIn → Part (Unit {0})
imports_checked objects [] = Ok tt
imports_checked objects (i ∷ is) = if has i.path.name objects then imports_checked objects is
    else fault Unknown i.path.name i.source i.path.at

-- each declaration is well formed by itself
abbrev pub all_checked : List DeclIn → Part (Unit {0})
all_checked [] = Ok tt
all_checked (d ∷ ds) = and_then (checked d.source d.decl) (λ done. all_checked ds)

-- the names of classes, or of functions, can be declared after these names and one another
abbrev pub classes_new_after : List Word → List ClassIn → Part (Unit {0})
classes_new_after before [] = Ok tt
classes_new_after before (c ∷ cs) =
    if is_taken before c.class.name then fault Duplicate c.class.name c.source c.class.at
    else classes_new_after (before ++ c.class.name ∷ []) cs

abbrev pub defs_new_after : List Word → List DefIn → Part (Unit {0})
defs_new_after before [] = Ok tt
defs_new_after before (d ∷ ds) =
    if is_taken before d.def.name then fault Duplicate d.def.name d.source d.def.at
    else defs_new_after (before ++ d.def.name ∷ []) ds

-- the names of classes, or of functions, where they can be declared
abbrev pub new_class_names : List ClassIn → Part (List Word)
new_class_names cs = and_then (classes_new_after [] cs) (λ done. Ok (class_names cs))

abbrev pub new_def_names : List DefIn → Part (List Word)
new_def_names ds = and_then (defs_new_after [] ds) (λ done. Ok (def_names ds))

-- what a constructor extends, by its name and its place: what is written, or else itself
abbrev pub parent_word : ClassIn → Option TypeTree → Word
parent_word c None = c.class.name
parent_word c (Some (type_text at w ts)) = w

abbrev pub parent_place : ClassIn → Option TypeTree → ℕ
parent_place c None = c.class.at
parent_place c (Some (type_text at w ts)) = at

-- a constructor may extend this root: it is sealed, and of the constructor's source
abbrev pub is_open_to : ClassIn → Option ClassIn → Bool
is_open_to c None = false
is_open_to c (Some root) = root.sealed && nat_eq root.source c.source

-- it extends this root with exactly its own type parameters
abbrev pub extends_whole : ClassIn → TypeTrees → Option ClassIn → Bool
extends_whole c ts None = false
extends_whole c ts (Some root) =
    nat_eq (length c.class.params) (length root.class.params) && are_params c.class.params ts

module _ (roots : List ClassIn) where
  -- the owner, where what is extended is the root at this place
  abbrev pub owner_at : ClassIn → ℕ → Option TypeTree → Part ℕ
  owner_at c r None = Ok r
  owner_at c r (Some (type_text at w ts)) =
      if not (has w c.class.params) && is_open_to c (slice_get roots r)
      then (if extends_whole c ts (slice_get roots r) then Ok r else fault Arity c.class.name c.source c.class.at)
      else fault Unknown w c.source at

  abbrev pub owner_found : ClassIn → Option ℕ → Part ℕ
  owner_found c None = fault Unknown (parent_word c c.class.parent) c.source (parent_place c c.class.parent)
  owner_found c (Some r) = owner_at c r c.class.parent

  -- the place of the root of a constructor
  abbrev pub owner_of : ClassIn → Part ℕ
  owner_of c = owner_found c (place_of (parent_word c c.class.parent) (class_names roots))

  -- the constructor of this root with these fields
  abbrev pub typed_ctor : ClassIn → ℕ → List GenericSort → TypedCtor
  typed_ctor c r fields = record { name = c.class.name; root = r; fields = fields; object = c.class.object }

  abbrev pub ctor_of_root : ClassIn → ℕ → Part TypedCtor
  ctor_of_root c r =
      and_then (sorts_from (map typed_root roots) c.class.params c.source [] (param_types c.class.fields))
      (λ fields. Ok (typed_ctor c r fields))

  -- the constructor of this root, after these constructors
  abbrev pub ctor_after : List TypedCtor → ClassIn → ℕ → Part TypedCtor
  ctor_after before c r =
      if nat_lt (count_by (nat_eq r) (owners_of before)) most_ctors
      then ctor_of_root c r
      else fault OverLimit c.class.name c.source c.class.at

  abbrev pub next_ctor : List TypedCtor → ClassIn → Part TypedCtor
  next_ctor before c = and_then (owner_of c) (ctor_after before c)

  -- these constructors, and then those that classes declare
  abbrev pub ctors_after : List TypedCtor → List ClassIn → Part (List TypedCtor)
  ctors_after before [] = Ok before
  ctors_after before (c ∷ cs) = and_then (next_ctor before c) (λ t. ctors_after (before ++ t ∷ []) cs)

-- the function that a definition declares, with parameters of these sorts
abbrev pub typed_signature : DefIn → List GenericSort → GenericSort → Signature
typed_signature d params result = record {
  name = d.def.name;
  type_params = length d.def.type_params;
  params = params;
  list = d.def.list;
  result = result;
}

module _ (roots : List TypedRoot) where
  abbrev pub signature : DefIn → Part Signature
  signature d =
      and_then (sorts_from roots d.def.type_params d.source [] (param_types d.def.params))
      (λ params. and_then (sort_of roots d.def.type_params d.source d.def.result) (λ result. Ok
      (typed_signature d params result)))

  -- these functions, and then those that definitions declare
  abbrev pub signatures_after : List Signature → List DefIn → Part (List Signature)
  signatures_after before [] = Ok before
  signatures_after before (d ∷ ds) = and_then (signature d) (λ s. signatures_after (before ++ s ∷ []) ds)

-- what these roots, constructors and functions declare
abbrev pub with_sorts : List ClassIn → List ClassIn → List DefIn → Part Declared
with_sorts roots ctors defs =
    and_then (ctors_after roots [] ctors) (λ cs.
    and_then (signatures_after (map typed_root roots) [] defs) (λ fs.
    Ok (record { roots = map typed_root roots; ctors = cs; field_names = map field_names ctors; functions = fs })))

abbrev pub with_names : List ClassIn → List ClassIn → List DefIn → Part Declared
with_names roots ctors defs =
    and_then (classes_new_after [] roots) (λ a.
    and_then (classes_new_after [] ctors) (λ b.
    and_then (defs_new_after [] defs) (λ c.
    with_sorts roots ctors defs)))

abbrev pub of_decls : List DeclIn → Part Declared
of_decls ds = and_then (all_checked ds) (λ done. with_names (roots_of ds) (ctors_of ds) (defs_of ds))

-- what units declare, or a fault
abbrev pub declare : List UnitTree → Part Declared
declare units = and_then (imports_checked (objects_in units) (imports_in units)) (λ done. of_decls (decls_in units))
