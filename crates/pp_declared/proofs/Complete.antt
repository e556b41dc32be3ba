-- What units declare is what is computed.
use Rattle.std.proofs.Common.{◌≡◌, ◌∙◌, ℕ, ◌<◌, true, false, ◌&&◌, not, List, [], ◌∷◌, ◌++◌, All, Option, Some, None}
use Rattle.std.proofs.Common.{Ok, refl, sym, ap, subst, map, append_assoc, count_by, eq-eqb, nat_eq, length}
use Rattle.std.proofs.Common.{if◌then◌else◌}
use Rattle.std.proofs.lemmas.Bool.{le-leb, lt-ltb}
use Rattle.std.proofs.lemmas.List.{append-nil}
use Rattle.pp_declared.specs.Declare.{imports_checked, all_checked, classes_new_after, defs_new_after, parent_word}
use Rattle.pp_declared.specs.Declare.{parent_place, is_open_to, extends_whole, owner_at, owner_found, owner_of}
use Rattle.pp_declared.specs.Declare.{typed_ctor, ctor_of_root, ctor_after, next_ctor, ctors_after, typed_signature}
use Rattle.pp_declared.specs.Declare.{signature, signatures_after, with_sorts, with_names, of_decls, declare}
use Rattle.pp_declared.specs.Declares.{Declares, IsOwner, itself, extended, IsCtor, AreCtors, no_ctors, more_ctors}
use Rattle.pp_declared.specs.Declares.{IsSignature, AreSignatures, no_signatures, more_signatures, are_params}
use Rattle.pp_declared.specs.Declares.{class_names, def_names, field_names, typed_root}
use Rattle.pp_declared.specs.Listed.{DeclIn, ClassIn, DefIn, ImportIn, decls_in, imports_in, objects_in, roots_of}
use Rattle.pp_declared.specs.Listed.{ctors_of, defs_of}
use Rattle.pp_declared.specs.WellFormed.{AreNewAfter, IsHead, IsWellFormed, are_new_after, checked, head_checked}
use Rattle.pp_declared.specs.WellFormed.{most_ctors, params_checked, params_new_after, param_names}
use Rattle.pp_declared.proofs.Steps.{all_first, all_rest}
use Rattle.pp_fault.specs.Part.{Part, and_then, fault}
use Rattle.pp_fault.specs.declared.Rule.TheVariants.{Unknown, Duplicate, Arity, OverLimit}
use Rattle.pp_names.specs.Find.{owners_of}
use Rattle.pp_names.specs.Places.{Word, has, place_of}
use Rattle.pp_sorts.proofs.Computed.{complete, sorts_complete}
use Rattle.pp_sorts.specs.SortOf.{sort_of}
use Rattle.pp_tree.specs.Plain.{TypeTree, type_text, ParamTree, DeclTree, root, ctor, other, def, UnitTree}
use Rattle.pp_typed.specs.declared.declared.Declared.{Declared}
use Rattle.pp_typed.specs.declared.declared.Signature.{Signature}
use Rattle.pp_typed.specs.declared.typed.TypedCtor.{TypedCtor}
use Rattle.pp_typed.specs.declared.typed.TypedRoot.{TypedRoot}

pub are_new : (before ws : List Word) → AreNewAfter before ws → are_new_after before ws ≡ true
are_new before [] h = refl
are_new before (w ∷ ws) h = ap (λ b. if b then false else are_new_after (before ++ w ∷ []) ws) h.0
    ∙ are_new (before ++ w ∷ []) ws h.1

params_new : (source : ℕ) (before : List Word) (ps : List ParamTree) → AreNewAfter before (param_names ps)
    → params_new_after source before ps ≡ Ok tt
params_new source before [] h = refl
params_new source before (p ∷ ps) h =
    ap (λ b. if b then fault Duplicate p.name source p.at else params_new_after source (before ++ p.name ∷ []) ps) h.0
    ∙ params_new source (before ++ p.name ∷ []) ps h.1

classes_new : (before : List Word) (cs : List ClassIn) → AreNewAfter before (class_names cs)
    → classes_new_after before cs ≡ Ok tt
classes_new before [] h = refl
classes_new before (c ∷ cs) h =
    ap (λ b. if b then fault Duplicate c.class.name c.source c.class.at
    else classes_new_after (before ++ c.class.name ∷ []) cs) h.0
    ∙ classes_new (before ++ c.class.name ∷ []) cs h.1

defs_new : (before : List Word) (ds : List DefIn) → AreNewAfter before (def_names ds) → defs_new_after before ds ≡ Ok tt
defs_new before [] h = refl
defs_new before (d ∷ ds) h =
    ap (λ b. if b then fault Duplicate d.def.name d.source d.def.at
    else defs_new_after (before ++ d.def.name ∷ []) ds) h.0
    ∙ defs_new (before ++ d.def.name ∷ []) ds h.1

head_complete : (source at : ℕ) (w : Word) (ts : List Word) (ps : List ParamTree) → IsHead ts ps
    → head_checked source at w ts ps ≡ Ok tt
head_complete source at w ts ps h =
    ap (λ b. if b then (if are_new_after [] ts then params_checked source at w ps
    else fault Duplicate w source at) else fault OverLimit w source at)
    (le-leb (length ts) 4 h.few_type_params)
    ∙ ap (λ b. if b then params_checked source at w ps else fault Duplicate w source at)
    (are_new [] ts h.type_params_new)
    ∙ ap (λ b. if b then params_new_after source [] ps
    else fault OverLimit w source at) (le-leb (length ps) 16 h.few_params)
    ∙ params_new source [] ps h.params_new

well_formed : (source : ℕ) (d : DeclTree) → IsWellFormed d → checked source d ≡ Ok tt
well_formed source (root c) h = head_complete source c.at c.name c.params c.fields h
well_formed source (ctor c) h = head_complete source c.at c.name c.params c.fields h
well_formed source (other c) h = absurd h
well_formed source (def d) h = head_complete source d.at d.name d.type_params d.params h

all_well_formed : (ds : List DeclIn) → All (λ (d : DeclIn). IsWellFormed d.decl) ds → all_checked ds ≡ Ok tt
all_well_formed [] h = refl
all_well_formed (d ∷ ds) h =
    ap (λ p. and_then p (λ done. all_checked ds)) (well_formed d.source d.decl (all_first (λ
    (x : DeclIn). IsWellFormed x.decl) d ds h))
    ∙ all_well_formed ds (all_rest (λ (x : DeclIn). IsWellFormed x.decl) d ds h)

imports_complete : (objects : List Word) (is : List ImportIn)
    → All (λ (i : ImportIn). has i.path.name objects ≡ true) is → imports_checked objects is ≡ Ok tt
imports_complete objects [] h = refl
imports_complete objects (i ∷ is) h =
    ap (λ b. if b then imports_checked objects is
    else fault Unknown i.path.name i.source i.path.at) (all_first (λ (x : ImportIn). has x.path.name objects
    ≡ true) i is h)
    ∙ imports_complete objects is (all_rest (λ (x : ImportIn). has x.path.name objects ≡ true) i is h)

module _ (roots : List ClassIn) (c : ClassIn) where
  -- the owner, where this is written as its parent
  abbrev by_place : Option TypeTree → Option ℕ → Part ℕ
  by_place o None = fault Unknown (parent_word c o) c.source (parent_place c o)
  by_place o (Some r) = owner_at roots c r o

  abbrev by_parent : Option TypeTree → Part ℕ
  by_parent o = by_place o (place_of (parent_word c o) (class_names roots))

  same_owner : (x : Option ℕ) → owner_found roots c x ≡ by_place c.class.parent x
  same_owner None = refl
  same_owner (Some r) = refl

  owner_as : (o : Option TypeTree) → c.class.parent ≡ o → owner_of roots c ≡ by_parent o
  owner_as o e = same_owner (place_of (parent_word c c.class.parent) (class_names roots)) ∙ ap by_parent e

  pub owner_complete : (r : ℕ) → IsOwner roots c r → owner_of roots c ≡ Ok r
  owner_complete q (itself r parent found) = owner_as None parent ∙ ap (by_place None) found
  owner_complete q (extended r at w ts r0 parent hidden found there sealed source count params) =
      owner_as (Some (type_text at w ts)) parent ∙ ap (by_place (Some (type_text at w ts))) found
      ∙ ap (λ o. if not (has w c.class.params) && is_open_to c o then (if extends_whole c ts o then Ok r
      else fault Arity c.class.name c.source c.class.at) else fault Unknown w c.source at) there
      ∙ ap (λ b. if not b && (r0.sealed && nat_eq r0.source c.source) then inner else outer) hidden
      ∙ ap (λ b. if b && nat_eq r0.source c.source then inner else outer) sealed
      ∙ ap (λ b. if b then inner else outer) (eq-eqb r0.source c.source source)
      ∙ ap (λ b. if b && are_params c.class.params ts then Ok r else fault Arity c.class.name c.source c.class.at)
      (eq-eqb (length c.class.params) (length r0.class.params) count)
      ∙ ap (λ b. if b then Ok r else fault Arity c.class.name c.source c.class.at) params
    where
      inner : Part ℕ
      inner = if extends_whole c ts (Some r0) then Ok r else fault Arity c.class.name c.source c.class.at

      outer : Part ℕ
      outer = fault Unknown w c.source at

  ctor_complete : (before : List TypedCtor) (t : TypedCtor) → IsCtor roots c t
      → count_by (nat_eq t.root) (owners_of before) < most_ctors → next_ctor roots before c ≡ Ok t
  ctor_complete before t own room =
      let name = own.name in
      let object = own.object in
      let whole : typed_ctor roots c t.root t.fields
      ≡ t = (λ j. record { name = sym name j; root = t.root; fields = t.fields; object = sym object j }) in
      ap (λ p. and_then p (ctor_after roots before c)) (owner_complete t.root own.owner)
      ∙ ap (λ b. if b then ctor_of_root roots c t.root
      else fault OverLimit c.class.name c.source c.class.at) (lt-ltb (count_by (nat_eq t.root) (owners_of before))
      most_ctors room)
      ∙ ap (λ p. and_then p (λ fs. Ok (typed_ctor roots c t.root fs))) (sorts_complete
      (map typed_root roots) c.class.params c.source own.fields)
      ∙ ap Ok whole

module _ (roots : List ClassIn) where
  ctors_complete : (before : List TypedCtor) {cs : List ClassIn} {ts : List TypedCtor}
      → AreCtors roots before cs ts → ctors_after roots before cs ≡ Ok (before ++ ts)
  ctors_complete before (no_ctors _) = ap Ok (sym (append-nil before))
  ctors_complete before (more_ctors _ {c} {cs} {t} {ts} own room more) =
      ap (λ p. and_then p (λ x. ctors_after roots (before ++ x ∷ []) cs)) (ctor_complete roots c before t own room)
      ∙ ctors_complete (before ++ t ∷ []) more ∙ ap Ok (append_assoc before (t ∷ []) ts)

module _ (roots : List TypedRoot) where
  signature_complete : (d : DefIn) (x : Signature) → IsSignature roots d x → signature roots d ≡ Ok x
  signature_complete d x h =
      let name = h.name in
      let count = h.type_params in
      let list = h.list in
      let whole : typed_signature d x.params x.result ≡ x =
      (λ j. record {
        name = sym name j;
        type_params = sym count j;
        params = x.params;
        list = sym list j;
        result = x.result;
      }) in
      ap (λ p. and_then p (λ params. and_then (sort_of roots d.def.type_params d.source d.def.result) (λ result. Ok
      (typed_signature d params result))))
      (sorts_complete roots d.def.type_params d.source h.params)
      ∙ ap (λ p. and_then p (λ result. Ok (typed_signature d x.params result)))
      (complete roots d.def.type_params d.source h.result)
      ∙ ap Ok whole

  signatures_complete : (before : List Signature) {ds : List DefIn} {xs : List Signature}
      → AreSignatures roots ds xs → signatures_after roots before ds ≡ Ok (before ++ xs)
  signatures_complete before no_signatures = ap Ok (sym (append-nil before))
  signatures_complete before (more_signatures {d} {ds} {s} {ss} own more) =
      ap (λ p. and_then p (λ x. signatures_after roots (before ++ x ∷ []) ds)) (signature_complete d s own)
      ∙ signatures_complete (before ++ s ∷ []) more ∙ ap Ok (append_assoc before (s ∷ []) ss)

pub declares_complete : (units : List UnitTree) (d : Declared) → Declares units d → declare units ≡ Ok d
declares_complete units d h =
    let ds = decls_in units in
    let roots = roots_of ds in
    let functions : AreSignatures (map typed_root roots) (defs_of ds) d.functions =
    subst (λ (l : List TypedRoot). AreSignatures l (defs_of ds) d.functions) h.roots h.functions in
    let rooted = h.roots in
    let named = h.fields_named in
    let whole : Declared = record {
      roots = map typed_root roots;
      ctors = d.ctors;
      field_names = map field_names (ctors_of ds);
      functions = d.functions;
    } in
    let is : whole ≡ d = (λ j. record {
      roots = sym rooted j;
      ctors = d.ctors;
      field_names = sym named j;
      functions = d.functions;
    }) in
    ap (λ p. and_then p (λ done. of_decls ds)) (imports_complete (objects_in units) (imports_in units) h.imports)
    ∙ ap (λ p. and_then p (λ done. with_names roots (ctors_of ds) (defs_of ds))) (all_well_formed ds h.well_formed)
    ∙ ap (λ p. and_then p (λ x. and_then (classes_new_after [] (ctors_of ds)) (λ y. and_then (defs_new_after []
    (defs_of ds)) (λ z. with_sorts roots (ctors_of ds) (defs_of ds)))))
    (classes_new [] roots h.types_new)
    ∙ ap (λ p. and_then p (λ y. and_then (defs_new_after [] (defs_of ds)) (λ z. with_sorts roots (ctors_of ds)
    (defs_of ds)))) (classes_new [] (ctors_of ds) h.ctors_new)
    ∙ ap (λ p. and_then p (λ z. with_sorts roots (ctors_of ds) (defs_of ds))) (defs_new [] (defs_of ds) h.functions_new)
    ∙ ap (λ p. and_then p (λ xs. and_then (signatures_after (map typed_root roots) [] (defs_of ds))
    (λ fs. Ok (record {
      roots = map typed_root roots;
      ctors = xs;
      field_names = map field_names (ctors_of ds);
      functions = fs;
    }))))
    (ctors_complete roots [] h.ctors)
    ∙ ap (λ p. and_then p (λ fs. Ok (record {
      roots = map typed_root roots;
      ctors = d.ctors;
      field_names = map field_names (ctors_of ds);
      functions = fs;
    })))
    (signatures_complete (map typed_root roots) [] functions)
    ∙ ap Ok is
