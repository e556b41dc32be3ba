-- What is computed is what units declare.
use Rattle.std.proofs.Common.{◌≡◌, ◌∙◌, ℕ, ◌<◌, Bool, true, false, ◌&&◌, not, List, [], ◌∷◌, ◌++◌, All, Option, Some}
use Rattle.std.proofs.Common.{None, Ok, refl, subst, true≢false, sym, map, append_assoc, count_by, nat_eq, nat_lt}
use Rattle.std.proofs.Common.{length, slice_get, if◌then◌else◌}
use Rattle.std.proofs.lemmas.Bool.{and_parts, eqb-true, leb-true, ltb-true, not-true}
use Rattle.std.proofs.lemmas.List.{append-nil}
use Rattle.std.proofs.lemmas.List.Elements.{All-nil, All-cons}
use Rattle.pp_declared.specs.Declare.{imports_checked, all_checked, classes_new_after, defs_new_after, parent_word}
use Rattle.pp_declared.specs.Declare.{is_open_to, extends_whole, owner_at, owner_found, owner_of, typed_ctor}
use Rattle.pp_declared.specs.Declare.{ctor_of_root, ctor_after, next_ctor, ctors_after, typed_signature, signature}
use Rattle.pp_declared.specs.Declare.{signatures_after, with_sorts, with_names, of_decls, declare}
use Rattle.pp_declared.specs.Declares.{Declares, IsOwner, itself, extended, IsCtor, AreCtors, no_ctors, more_ctors}
use Rattle.pp_declared.specs.Declares.{IsSignature, AreSignatures, no_signatures, more_signatures, are_params}
use Rattle.pp_declared.specs.Declares.{class_names, def_names, field_names, param_types, typed_root}
use Rattle.pp_declared.specs.Listed.{DeclIn, ClassIn, DefIn, ImportIn, decls_in, imports_in, objects_in, roots_of}
use Rattle.pp_declared.specs.Listed.{ctors_of, defs_of}
use Rattle.pp_declared.specs.WellFormed.{AreNewAfter, IsHead, IsWellFormed, are_new_after, checked, head_checked}
use Rattle.pp_declared.specs.WellFormed.{is_taken, most_ctors, params_new_after, param_names}
use Rattle.pp_declared.proofs.Steps.{two_steps, held, failed}
use Rattle.pp_fault.specs.Part.{Part, and_then, fault}
use Rattle.pp_fault.specs.declared.Rule.TheVariants.{Unknown, Arity}
use Rattle.pp_names.specs.Find.{owners_of}
use Rattle.pp_names.specs.Places.{Word, has, place_of}
use Rattle.pp_sorts.proofs.Computed.{sound, sorts_sound}
use Rattle.pp_sorts.specs.SortOf.{sort_of, sorts_from}
use Rattle.pp_tree.specs.Plain.{TypeTree, type_text, TypeTrees, ParamTree, DeclTree, root, ctor, other, def, UnitTree}
use Rattle.pp_typed.specs.declared.declared.Declared.{Declared}
use Rattle.pp_typed.specs.declared.declared.Signature.{Signature}
use Rattle.pp_typed.specs.declared.typed.TypedCtor.{TypedCtor}
use Rattle.pp_typed.specs.declared.typed.TypedRoot.{TypedRoot}

-- names
are_new : (before ws : List Word) → are_new_after before ws ≡ true → AreNewAfter before ws
are_new before [] e = tt
are_new before (w ∷ ws) e = by (is_taken before w) refl (are_new (before ++ w ∷ []) ws) e
  where
    by : (b : Bool) → is_taken before w ≡ b → (are_new_after (before ++ w ∷ []) ws ≡ true
        → AreNewAfter (before ++ w ∷ []) ws)
        → (if b then false else are_new_after (before ++ w ∷ []) ws) ≡ true → AreNewAfter before (w ∷ ws)
    by true t more h = cc
    by false t more h = (t, more h)

params_new : (source : ℕ) (before : List Word) (ps : List ParamTree) → params_new_after source before ps ≡ Ok tt
    → AreNewAfter before (param_names ps)
params_new source before [] e = tt
params_new source before (p ∷ ps) e =
    let s = failed (is_taken before p.name) (params_new_after source (before ++ p.name ∷ []) ps) _ tt e in
    (s.0, params_new source (before ++ p.name ∷ []) ps s.1)

pub classes_new : (before : List Word) (cs : List ClassIn) → classes_new_after before cs ≡ Ok tt
    → AreNewAfter before (class_names cs)
classes_new before [] e = tt
classes_new before (c ∷ cs) e =
    let s = failed (is_taken before c.class.name) (classes_new_after (before ++ c.class.name ∷ []) cs) _ tt e in
    (s.0, classes_new (before ++ c.class.name ∷ []) cs s.1)

pub defs_new : (before : List Word) (ds : List DefIn) → defs_new_after before ds ≡ Ok tt
    → AreNewAfter before (def_names ds)
defs_new before [] e = tt
defs_new before (d ∷ ds) e =
    let s = failed (is_taken before d.def.name) (defs_new_after (before ++ d.def.name ∷ []) ds) _ tt e in
    (s.0, defs_new (before ++ d.def.name ∷ []) ds s.1)

-- declarations by themselves
head_sound : (source at : ℕ) (w : Word) (ts : List Word) (ps : List ParamTree)
    → head_checked source at w ts ps ≡ Ok tt → IsHead ts ps
head_sound source at w ts ps e =
    let a = held _ _ _ tt e in let b = held _ _ _ tt a.1 in let c = held _ _ _ tt b.1 in
    record {
      few_type_params = leb-true (length ts) 4 a.0;
      type_params_new = are_new [] ts b.0;
      few_params = leb-true (length ps) 16 c.0;
      params_new = params_new source [] ps c.1;
    }

pub well_formed : (source : ℕ) (d : DeclTree) → checked source d ≡ Ok tt → IsWellFormed d
well_formed source (root c) e = head_sound source c.at c.name c.params c.fields e
well_formed source (ctor c) e = head_sound source c.at c.name c.params c.fields e
well_formed source (other c) e = cc
well_formed source (def d) e = head_sound source d.at d.name d.type_params d.params e

pub all_well_formed : (ds : List DeclIn) → all_checked ds ≡ Ok tt → All (λ (d : DeclIn). IsWellFormed d.decl) ds
all_well_formed [] e = All-nil (λ (d : DeclIn). IsWellFormed d.decl)
all_well_formed (d ∷ ds) e =
    let s = two_steps (checked d.source d.decl) (λ done. all_checked ds) tt e in
    All-cons (λ (x : DeclIn). IsWellFormed x.decl) d ds (well_formed d.source d.decl s.done) (all_well_formed ds s.rest)

imports_sound : (objects : List Word) (is : List ImportIn) → imports_checked objects is ≡ Ok tt
    → All (λ (i : ImportIn). has i.path.name objects ≡ true) is
imports_sound objects [] e = All-nil (λ (i : ImportIn). has i.path.name objects ≡ true)
imports_sound objects (i ∷ is) e =
    let s = held (has i.path.name objects) (imports_checked objects is) _ tt e in
    All-cons (λ (x : ImportIn). has x.path.name objects ≡ true) i is s.0 (imports_sound objects is s.1)

-- constructors
module _ (roots : List ClassIn) (c : ClassIn) where
  -- the answer where a constructor extends what may stand at this place
  abbrev extended_by : ℕ → ℕ → Word → TypeTrees → Option ClassIn → Part ℕ
  extended_by r at w ts o =
      if not (has w c.class.params) && is_open_to c o
      then (if extends_whole c ts o then Ok r else fault Arity c.class.name c.source c.class.at)
      else fault Unknown w c.source at

  extends_sound : (r q at : ℕ) (w : Word) (ts : TypeTrees) (o : Option ClassIn) → slice_get roots r ≡ o
      → c.class.parent ≡ Some (type_text at w ts)
      → place_of w (class_names roots) ≡ Some r → extended_by r at w ts o ≡ Ok q → (q ≡ r) × IsOwner roots c r
  extends_sound r q at w ts None there parent found e =
      let s = held (not (has w c.class.params) && false) _ _ q e in let b =
      and_parts (not (has w c.class.params)) false s.0 in absurd (true≢false (sym b.1))
  extends_sound r q at w ts (Some r0) there parent found e =
      let s = held (not (has w c.class.params) && (r0.sealed && nat_eq r0.source c.source)) _ _ q e in
      let t = held (nat_eq (length c.class.params) (length r0.class.params) && are_params c.class.params ts) _ _ q s.1
      in
      let a = and_parts (not (has w c.class.params)) (r0.sealed && nat_eq r0.source c.source) s.0 in
      let b = and_parts r0.sealed (nat_eq r0.source c.source) a.1 in
      let d = and_parts (nat_eq (length c.class.params) (length r0.class.params)) (are_params c.class.params ts) t.0 in
      let same : q ≡ r = (let f = t.1 in cc) in (
        same,
        extended r at w ts r0 parent (not-true (has w c.class.params) a.0) found there b.0
            (eqb-true r0.source c.source b.1)
            (eqb-true (length c.class.params) (length r0.class.params) d.0) d.1,
      )

  at_sound : (r q : ℕ) (o : Option TypeTree) → c.class.parent ≡ o
      → place_of (parent_word c o) (class_names roots) ≡ Some r → owner_at roots c r o ≡ Ok q
      → (q ≡ r) × IsOwner roots c r
  at_sound r q None parent found e = (let same : q ≡ r = cc in same, itself r parent found)
  at_sound r q (Some (type_text at w ts)) parent found e =
      extends_sound r q at w ts (slice_get roots r) refl parent found e

  found_sound : (q : ℕ) (o : Option ℕ) → place_of (parent_word c c.class.parent) (class_names roots) ≡ o
      → owner_found roots c o ≡ Ok q → IsOwner roots c q
  found_sound q None found e = cc
  found_sound q (Some r) found e =
      let s = at_sound r q c.class.parent refl found e in subst (IsOwner roots c) (sym s.0) s.1

  pub owner_sound : (q : ℕ) → owner_of roots c ≡ Ok q → IsOwner roots c q
  owner_sound q e = found_sound q (place_of (parent_word c c.class.parent) (class_names roots)) refl e

  pub ctor_sound : (before : List TypedCtor) (t : TypedCtor) → next_ctor roots before c ≡ Ok t
      → IsCtor roots c t × (count_by (nat_eq t.root) (owners_of before) < most_ctors)
  ctor_sound before t e =
      let s = two_steps (owner_of roots c) (ctor_after roots before c) t e in
      let r = s.first in
      let room = held (nat_lt (count_by (nat_eq r) (owners_of before)) most_ctors) (ctor_of_root roots c r) _ t s.rest
      in
      let fields = two_steps (sorts_from (map typed_root roots) c.class.params c.source []
      (param_types c.class.fields)) (λ fs. Ok (typed_ctor roots c r fs)) t room.1 in
      let is : typed_ctor roots c r fields.first ≡ t = (let f = fields.rest in cc) in
      subst (λ (x : TypedCtor). IsCtor roots c x × (count_by (nat_eq x.root) (owners_of before) < most_ctors)) is (
        record {
          name = refl;
          owner = owner_sound r s.done;
          fields = sorts_sound (map typed_root roots) c.class.params c.source (param_types c.class.fields) fields.first
              fields.done;
          object = refl;
        },
        ltb-true (count_by (nat_eq r) (owners_of before)) most_ctors room.0,
      )

module _ (roots : List ClassIn) where
  -- the constructors that classes declare, which stand after these
  pub record CtorsAfter (before : List TypedCtor) (cs : List ClassIn) (out : List TypedCtor) : Type 0 where
    pub ctors : List TypedCtor
    pub are : AreCtors roots before cs ctors
    pub all : out ≡ before ++ ctors

  pub ctors_sound : (cs : List ClassIn) (before out : List TypedCtor) → ctors_after roots before cs ≡ Ok out
      → CtorsAfter before cs out
  ctors_sound [] before out e = record {
    ctors = [];
    are = no_ctors before;
    all = (let is : out ≡ before = cc in is ∙ sym (append-nil before));
  }
  ctors_sound (c ∷ cs) before out e =
      let s = two_steps (next_ctor roots before c) (λ t. ctors_after roots (before ++ t ∷ []) cs) out e in
      let own = ctor_sound roots c before s.first s.done in
      let r = ctors_sound cs (before ++ s.first ∷ []) out s.rest in
      record {
        ctors = s.first ∷ r.ctors;
        are = more_ctors before own.0 own.1 r.are;
        all = r.all ∙ append_assoc before (s.first ∷ []) r.ctors;
      }

-- functions
module _ (roots : List TypedRoot) where
  signature_sound : (d : DefIn) (x : Signature) → signature roots d ≡ Ok x → IsSignature roots d x
  signature_sound d x e =
      let p = two_steps (sorts_from roots d.def.type_params d.source [] (param_types d.def.params))
      (λ params. and_then (sort_of roots d.def.type_params d.source d.def.result) (λ result. Ok
      (typed_signature d params result))) x e in
      let r = two_steps (sort_of roots d.def.type_params d.source d.def.result) (λ result. Ok
      (typed_signature d p.first result)) x p.rest in
      let is : typed_signature d p.first r.first ≡ x = (let f = r.rest in cc) in
      subst (IsSignature roots d) is (record {
        name = refl;
        type_params = refl;
        params = sorts_sound roots d.def.type_params d.source (param_types d.def.params) p.first p.done;
        list = refl;
        result = sound roots d.def.type_params d.source d.def.result r.first r.done;
      })

  pub record SignaturesAfter (before : List Signature) (ds : List DefIn) (out : List Signature) : Type 0 where
    pub functions : List Signature
    pub are : AreSignatures roots ds functions
    pub all : out ≡ before ++ functions

  pub signatures_sound : (ds : List DefIn) (before out : List Signature)
      → signatures_after roots before ds ≡ Ok out → SignaturesAfter before ds out
  signatures_sound [] before out e = record {
    functions = [];
    are = no_signatures;
    all = (let is : out ≡ before = cc in is ∙ sym (append-nil before));
  }
  signatures_sound (d ∷ ds) before out e =
      let s = two_steps (signature roots d) (λ x. signatures_after roots (before ++ x ∷ []) ds) out e in
      let r = signatures_sound ds (before ++ s.first ∷ []) out s.rest in
      record {
        functions = s.first ∷ r.functions;
        are = more_signatures (signature_sound d s.first s.done) r.are;
        all = r.all ∙ append_assoc before (s.first ∷ []) r.functions;
      }

pub declares_sound : (units : List UnitTree) (d : Declared) → declare units ≡ Ok d → Declares units d
declares_sound units d e =
    let ds = decls_in units in
    let roots = roots_of ds in
    let imports = two_steps (imports_checked (objects_in units) (imports_in units)) (λ done. of_decls ds) d e in
    let shapes = two_steps (all_checked ds) (λ done. with_names roots (ctors_of ds) (defs_of ds)) d imports.rest in
    let a = two_steps (classes_new_after [] roots)
    (λ x. and_then (classes_new_after [] (ctors_of ds)) (λ y. and_then (defs_new_after [] (defs_of ds))
    (λ z. with_sorts roots (ctors_of ds) (defs_of ds)))) d shapes.rest in
    let b = two_steps (classes_new_after [] (ctors_of ds)) (λ y. and_then (defs_new_after [] (defs_of ds))
    (λ z. with_sorts roots (ctors_of ds) (defs_of ds))) d a.rest in
    let c = two_steps (defs_new_after [] (defs_of ds)) (λ z. with_sorts roots (ctors_of ds) (defs_of ds)) d b.rest in
    let cs = two_steps (ctors_after roots [] (ctors_of ds))
    (λ xs. and_then (signatures_after (map typed_root roots) [] (defs_of ds))
    (λ fs. Ok (record {
      roots = map typed_root roots;
      ctors = xs;
      field_names = map field_names (ctors_of ds);
      functions = fs;
    }))) d c.rest in
    let fs = two_steps (signatures_after (map typed_root roots) [] (defs_of ds))
    (λ fs. Ok (record {
      roots = map typed_root roots;
      ctors = cs.first;
      field_names = map field_names (ctors_of ds);
      functions = fs;
    })) d cs.rest in
    let ctors = ctors_sound roots (ctors_of ds) [] cs.first cs.done in
    let functions = signatures_sound (map typed_root roots) (defs_of ds) [] fs.first fs.done in
    let whole : Declared = record {
      roots = map typed_root roots;
      ctors = cs.first;
      field_names = map field_names (ctors_of ds);
      functions = fs.first;
    } in
    let is : whole ≡ d = (let f = fs.rest in cc) in
    subst (Declares units) {x = whole} is (record {
      imports = imports_sound (objects_in units) (imports_in units) imports.done;
      well_formed = all_well_formed ds shapes.done;
      types_new = classes_new [] roots a.done;
      ctors_new = classes_new [] (ctors_of ds) b.done;
      functions_new = defs_new [] (defs_of ds) c.done;
      roots = refl;
      ctors = subst (AreCtors roots [] (ctors_of ds)) (sym ctors.all) ctors.are;
      fields_named = refl;
      functions = subst (AreSignatures (map typed_root roots) (defs_of ds)) (sym functions.all) functions.are;
    })
