-- Units that have a typing are well sorted.
use Rattle.std.proofs.Common.{◌≡◌, ◌∙◌, ℕ, zero, suc, ◌≤◌, List, [], ◌∷◌, All, Option, Some, None, map, option_map}
use Rattle.std.proofs.Common.{get_or, slice_get, refl, sym, ap, subst, arith}
use Rattle.std.proofs.lemmas.List.Elements.{All-nil, All-cons, All-get_or}
use Rattle.std.proofs.lemmas.Option.{get_or_from_slice_get, slice_get-get_or, slice_get-map, slice_get_within}
use Rattle.pp_declared.proofs.Steps.{all_first, all_rest}
use Rattle.pp_declared.specs.Declares.{AreSignatures, no_signatures, more_signatures, Declares, class_names, def_names}
use Rattle.pp_declared.specs.Declares.{typed_root}
use Rattle.pp_declared.specs.Listed.{ClassIn, DefIn, decls_in, defs_of, roots_of}
use Rattle.pp_declared.specs.WellFormed.{AreNew}
use Rattle.pp_inhabited.specs.Value.{AreInhabited}
use Rattle.pp_rules.specs.Bodies.{TypesDef, a_def}
use Rattle.pp_tree.specs.Plain.{UnitTree}
use Rattle.pp_typed.specs.WellSorted.{IsWellSorted, IsRoot, IsCtor, IsDef, IsPlain, DefsDiffer, RootsDiffer}
use Rattle.pp_typed.specs.WellSorted.{boolean_name, int_name}
use Rattle.pp_typed.specs.declared.declared.Declared.{Declared}
use Rattle.pp_typed.specs.declared.declared.Signature.{Signature}
use Rattle.pp_typed.specs.declared.typed.Typed.{Typed}
use Rattle.pp_typed.specs.declared.typed.TypedCtor.{TypedCtor}
use Rattle.pp_typed.specs.declared.typed.TypedDef.{TypedDef}
use Rattle.pp_typed.specs.declared.typed.TypedRoot.{TypedRoot}
use Rattle.pp_types_laws.proofs.Callees.{IsFunctionAs}
use Rattle.pp_types_laws.proofs.Declarations.{ClassHead, CtorFacts, DefHead, all_ctor_facts, ctor_heads, def_heads}
use Rattle.pp_types_laws.proofs.Declarations.{few_ctors, functions_as, own_roots, root_heads, signature_facts}
use Rattle.pp_types_laws.proofs.Defs.{def_well}
use Rattle.pp_types_laws.proofs.Names.{names_differ, names_plain, not_reserved}
use Rattle.pp_types_laws.proofs.Patterns.{HasFields, typed_of}
use Rattle.pp_types_laws.specs.Literals.{DefInts, UnitsInts}
use Rattle.pp_types_laws.specs.Typing.{HasTyping, TypesDefs, no_defs, more_defs}

pub all_at : {X : Type 0} (P : X → Type 0) (xs : List X) (i : ℕ) (x : X) → slice_get xs i ≡ Some x → All P xs → P x
all_at P xs i x e h =
    subst P (get_or_from_slice_get xs i x x e) (All-get_or P xs i x (slice_get_within xs i x e) h)

-- what stands at a place of a list that was mapped
record IsImage {X Y : Type 0} (f : X → Y) (xs : List X) (i : ℕ) (y : Y) : Type 0 where
  origin : X
  there : slice_get xs i ≡ Some origin
  is : f origin ≡ y

image_of : {X Y : Type 0} (f : X → Y) (xs : List X) (i : ℕ) (y : Y) (o : Option X) → slice_get xs i ≡ o
    → option_map f o ≡ Some y → IsImage f xs i y
image_of f xs i y None g e = cc
image_of f xs i y (Some x) g e = record { origin = x; there = g; is = cc }

image_at : {X Y : Type 0} (f : X → Y) (xs : List X) (i : ℕ) (y : Y) → slice_get (map f xs) i ≡ Some y → IsImage f xs i y
image_at f xs i y e = image_of f xs i y (slice_get xs i) refl (sym (slice_get-map f xs i) ∙ e)

-- the name of a typed function is that of its definition
name_of_def : (declared : Declared) (source : ℕ) (d : DefIn) (s : Signature) (t : TypedDef)
    → TypesDef declared source d.def s t
    → t.name ≡ d.def.name
name_of_def declared source d s t (a_def conditions measure body post) = refl

name_at : (declared : Declared) {ds : List DefIn} {ss : List Signature} {ts : List TypedDef}
    → TypesDefs declared ds ss ts
    → (i : ℕ) (t : TypedDef) → slice_get ts i ≡ Some t → slice_get (def_names ds) i ≡ Some t.name
name_at declared no_defs i t e = cc
name_at declared (more_defs {d} {ds} {s} {ss} {t = u} first rest) zero t e =
    let same : u ≡ t = cc in ap Some (sym (name_of_def declared d.source d s u first)
    ∙ ap (λ (x : TypedDef). x.name) same)
name_at declared (more_defs first rest) (suc i) t e = name_at declared rest i t e

abbrev PlainDef : DefIn → Type 0
PlainDef d = IsPlain d.def.name

-- functions whose names can be declared have plain names
defs_plain : (ds : List DefIn) → AreNew (def_names ds) → All PlainDef ds
defs_plain ds new k d lt =
    let there : slice_get ds k ≡ Some (get_or ds k d) = slice_get-get_or ds k d lt in
    names_plain (def_names ds) new k (get_or ds k d).def.name
    (slice_get-map (λ (x : DefIn). x.def.name) ds k ∙ ap (option_map (λ (x : DefIn). x.def.name)) there)

abbrev IntsDef : DefIn → Type 0
IntsDef d = DefInts d.def

module _ (units : List UnitTree) (d : Declared) (defs : List TypedDef) (declares : Declares units d)
    (types : TypesDefs d (defs_of (decls_in units)) d.functions defs) (inhabited : AreInhabited d.roots d.ctors)
    (ints : UnitsInts units) where
  abbrev t : Typed
  t = typed_of d defs

  abbrev classes : List ClassIn
  classes = roots_of (decls_in units)

  ctor_facts : All (CtorFacts classes declares.types_new) d.ctors
  ctor_facts =
      all_ctor_facts classes declares.types_new declares.ctors (ctor_heads (decls_in units) declares.well_formed)
      (own_roots (decls_in units))

  facts_at : (i : ℕ) (c : TypedCtor) → slice_get d.ctors i ≡ Some c → CtorFacts classes declares.types_new c
  facts_at i c e = all_at (CtorFacts classes declares.types_new) d.ctors i c e ctor_facts

  fields_of : (c : TypedCtor) → CtorFacts classes declares.types_new c → HasFields d.roots c
  fields_of c f = subst (λ l. HasFields l c) (sym declares.roots) f.fields

  ctors_have : (i : ℕ) (c : TypedCtor) → slice_get d.ctors i ≡ Some c → HasFields d.roots c
  ctors_have i c e = fields_of c (facts_at i c e)

  functions_are : (i : ℕ) (s : Signature) → slice_get d.functions i ≡ Some s → IsFunctionAs d defs i s
  functions_are = functions_as d declares.functions types

  class_at : (r : ℕ) (root : TypedRoot) → slice_get d.roots r ≡ Some root → IsImage typed_root classes r root
  class_at r root e = image_at typed_root classes r root (ap (λ l. slice_get l r) (sym declares.roots) ∙ e)

  root_name_at : (r : ℕ) (root : TypedRoot) → slice_get d.roots r ≡ Some root
      → slice_get (class_names classes) r ≡ Some root.name
  root_name_at r root e =
      let c = class_at r root e in
      slice_get-map (λ (k : ClassIn). k.class.name) classes r ∙ ap (option_map (λ (k : ClassIn). k.class.name)) c.there
      ∙ ap (λ (x : TypedRoot). Some x.name) c.is

  root_well : (r : ℕ) (root : TypedRoot) → slice_get d.roots r ≡ Some root → IsRoot t r root
  root_well r root e =
      let c = class_at r root e in
      let head = all_at ClassHead classes r c.origin c.there (root_heads (decls_in units) declares.well_formed) in
      record {
        few_ctors = few_ctors classes declares.ctors r (omega arith);
        few_params = subst (λ (x : TypedRoot). x.type_params ≤ 4) c.is head.few_type_params;
        inhabited = inhabited r root e;
        plain = names_plain (class_names classes) declares.types_new r root.name (root_name_at r root e);
        no_int = not_reserved (class_names classes) declares.types_new r root.name int_name
            (root_name_at r root e) refl;
        no_boolean = not_reserved (class_names classes) declares.types_new r root.name boolean_name
            (root_name_at r root e) refl;
      }

  ctor_well : (c : TypedCtor) → CtorFacts classes declares.types_new c → IsCtor t c
  ctor_well c f =
      let own = fields_of c f in
      record { owner = own.owner; declared = own.there; few_fields = f.few; fields = own.fields }

  ctors_well : (cs : List TypedCtor) → All (CtorFacts classes declares.types_new) cs → All (IsCtor t) cs
  ctors_well [] h = All-nil (IsCtor t)
  ctors_well (c ∷ cs) h =
      All-cons (IsCtor t) c cs (ctor_well c (all_first (CtorFacts classes declares.types_new) c cs h))
      (ctors_well cs (all_rest (CtorFacts classes declares.types_new) c cs h))

  defs_well : {ds : List DefIn} {ss : List Signature} {ts : List TypedDef} → AreSignatures d.roots ds ss
      → TypesDefs d ds ss ts → All DefHead ds → All PlainDef ds → All IntsDef ds → All (IsDef t) ts
  defs_well no_signatures no_defs heads plain ints = All-nil (IsDef t)
  defs_well (more_signatures one rest)
      (more_defs {d = e} {ds = es} {s = s} {ss = ss} {t = u} {ts = us} first more) heads plain ints =
      let f = signature_facts d.roots e s one in
      let head = all_first DefHead e es heads in
      All-cons (IsDef t) u us
      (def_well d defs functions_are ctors_have e.source e.def s u first
      (record {
        type_params = f.type_params;
        count = f.count;
        params = f.params;
        result = f.result;
        few_type_params = head.few_type_params;
        few_params = head.few_params;
        plain = all_first PlainDef e es plain;
      }) (all_first IntsDef e es ints))
      (defs_well rest more (all_rest DefHead e es heads) (all_rest PlainDef e es plain) (all_rest IntsDef e es ints))

  roots_differ : RootsDiffer d.roots
  roots_differ i j a b e f same =
      names_differ [] (class_names classes) declares.types_new i j b.name
      (root_name_at i a e ∙ ap Some same) (root_name_at j b f)

  defs_differ : DefsDiffer defs
  defs_differ i j a b e f same =
      names_differ [] (def_names (defs_of (decls_in units))) declares.functions_new i j b.name
      (name_at d types i a e ∙ ap Some same) (name_at d types j b f)

  well_sorted : IsWellSorted t
  well_sorted = record {
    roots = root_well;
    ctors = ctors_well d.ctors ctor_facts;
    defs = defs_well declares.functions types (def_heads (decls_in units) declares.well_formed)
        (defs_plain (defs_of (decls_in units)) declares.functions_new) ints;
    roots_differ = roots_differ;
    defs_differ = defs_differ;
  }

-- a typing of units whose numbers are Ints is well sorted
pub typing_well_sorted : (units : List UnitTree) (t : Typed) → UnitsInts units → HasTyping units t → IsWellSorted t
typing_well_sorted units t ints h =
    let same : typed_of h.declared t.defs ≡ t =
    λ j. record { roots = sym h.roots j; ctors = sym h.ctors j; defs = t.defs } in
    subst IsWellSorted same (well_sorted units h.declared t.defs h.declares h.defs h.inhabited ints)
