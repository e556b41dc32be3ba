-- A fault of whole units stands there.
use Rattle.std.proofs.Common.{◌≡◌, ◌∙◌, ◌⊎◌, inl, inr, ℕ, ◌<◌, ◌≤◌, true, false, List, [], ◌∷◌, ◌++◌, Contains, Ok, Err}
use Rattle.std.proofs.Common.{refl, sym, subst, map, append_assoc, count_by, nat_eq, nat_lt}
use Rattle.std.proofs.lemmas.Bool.{ltb-false}
use Rattle.std.proofs.lemmas.List.{append-nil}
use Rattle.std.proofs.lemmas.List.Elements.{Contains-append_right}
use Rattle.pp_declared.specs.Declare.{imports_checked, all_checked, classes_new_after, defs_new_after, owner_of}
use Rattle.pp_declared.specs.Declare.{typed_ctor, ctor_of_root, ctor_after, next_ctor, ctors_after, typed_signature}
use Rattle.pp_declared.specs.Declare.{signature, signatures_after, with_sorts, with_names, of_decls, declare}
use Rattle.pp_declared.specs.Declares.{IsOwner, IsCtor, AreCtors, no_ctors, more_ctors, field_names, param_types}
use Rattle.pp_declared.specs.Declares.{typed_root}
use Rattle.pp_declared.specs.Fault as broken
use Rattle.pp_declared.specs.Fault.{DeclaresBreak}
use Rattle.pp_declared.specs.Listed.{ClassIn, DefIn, decls_in, imports_in, objects_in, roots_of, ctors_of, defs_of}
use Rattle.pp_declared.specs.WellFormed.{most_ctors}
use Rattle.pp_declared.proofs.Broken.{fault_at, decls_fail, imports_fail, classes_fail, defs_fail, OwnerFails}
use Rattle.pp_declared.proofs.Broken.{owner_fails}
use Rattle.pp_declared.proofs.Sound.{owner_sound, ctor_sound}
use Rattle.pp_declared.proofs.Steps.{step_breaks, held_breaks, has_first, has_later}
use Rattle.pp_fault.specs.Part.{and_then}
use Rattle.pp_fault.specs.declared.Fault.{Fault}
use Rattle.pp_fault.specs.declared.Rule.TheVariants.{OverLimit}
use Rattle.pp_names.specs.Find.{owners_of}
use Rattle.pp_sorts.proofs.Broken.{StandsInOne, one_stands, stands}
use Rattle.pp_sorts.specs.Laws.{StandsIn}
use Rattle.pp_sorts.specs.SortOf.{sort_of, sorts_from}
use Rattle.pp_tree.specs.Plain.{UnitTree}
use Rattle.pp_typed.specs.declared.declared.Declared.{Declared}
use Rattle.pp_typed.specs.declared.declared.Signature.{Signature}
use Rattle.pp_typed.specs.declared.sort.GenericSort.{GenericSort}
use Rattle.pp_typed.specs.declared.typed.TypedCtor.{TypedCtor}
use Rattle.pp_typed.specs.declared.typed.TypedRoot.{TypedRoot}

module _ (roots : List ClassIn) where
  -- one more constructor at the end
  ctors_push : {before : List TypedCtor} {cs : List ClassIn} {ts : List TypedCtor} (k : ClassIn) (x : TypedCtor)
      → AreCtors roots before cs ts → IsCtor roots k x
      → count_by (nat_eq x.root) (owners_of (before ++ ts)) < most_ctors
      → AreCtors roots before (cs ++ k ∷ []) (ts ++ x ∷ [])
  ctors_push k x (no_ctors before) own room =
      more_ctors before own (subst (λ (l : List TypedCtor). count_by (nat_eq x.root) (owners_of l) < most_ctors)
      (append-nil before) room) (no_ctors (before ++ x ∷ []))
  ctors_push k x (more_ctors before {c} {cs} {t} {ts} first space more) own room =
      more_ctors before first space
      (ctors_push k x more own (subst (λ (l : List TypedCtor). count_by (nat_eq x.root) (owners_of l) < most_ctors)
      (sym (append_assoc before (t ∷ []) ts)) room))

  -- how a constructor fails, after these classes and their constructors
  pub data CtorFails (done : List ClassIn) (before : List TypedCtor) (c : ClassIn) (f : Fault) : Type 0 where
    its_owner : OwnerFails roots c f → CtorFails done before c f
    its_number : (r : ℕ) → IsOwner roots c r → most_ctors ≤ count_by (nat_eq r) (owners_of before)
        → fault_at OverLimit c.class.name c.source c.class.at ≡ f → CtorFails done before c f
    its_fields : StandsInOne (map typed_root roots) c.class.params c.source (param_types c.class.fields) f
        → CtorFails done before c f

  fields_fail : (done : List ClassIn) (before : List TypedCtor) (c : ClassIn) (r : ℕ) (f : Fault)
      → ctor_of_root roots c r ≡ Err f → CtorFails done before c f
  fields_fail done before c r f e =
      by (step_breaks (sorts_from (map typed_root roots) c.class.params c.source [] (param_types c.class.fields))
      (λ fs. Ok (typed_ctor roots c r fs)) f e)
    where
      by : (sorts_from (map typed_root roots) c.class.params c.source [] (param_types c.class.fields) ≡ Err f)
          ⊎ ((a : List GenericSort)
          × (sorts_from (map typed_root roots) c.class.params c.source [] (param_types c.class.fields) ≡ Ok a)
          × (Ok (typed_ctor roots c r a) ≡ Err f))
          → CtorFails done before c f
      by (inl h) = its_fields (one_stands (map typed_root roots) c.class.params c.source (param_types c.class.fields) f
          h)
      by (inr h) = let g = h.2 in cc

  ctor_fails : (done : List ClassIn) (before : List TypedCtor) (c : ClassIn) (f : Fault)
      → next_ctor roots before c ≡ Err f → CtorFails done before c f
  ctor_fails done before c f e = by (step_breaks (owner_of roots c) (ctor_after roots before c) f e)
    where
      counted : (r : ℕ) → owner_of roots c ≡ Ok r
          → ((nat_lt (count_by (nat_eq r) (owners_of before)) most_ctors ≡ true) × (ctor_of_root roots c r ≡ Err f))
          ⊎ ((nat_lt (count_by (nat_eq r) (owners_of before)) most_ctors ≡ false)
          × (fault_at OverLimit c.class.name c.source c.class.at ≡ f)) → CtorFails done before c f
      counted r o (inl h) = fields_fail done before c r f h.1
      counted r o (inr h) = its_number r (owner_sound roots c r o) (ltb-false (count_by (nat_eq r) (owners_of before))
          most_ctors h.0) h.1

      by : (owner_of roots c ≡ Err f)
          ⊎ ((r : ℕ) × (owner_of roots c ≡ Ok r) × (ctor_after roots before c r ≡ Err f)) → CtorFails done before c f
      by (inl h) = its_owner (owner_fails roots c f h)
      by (inr h) = counted h.0 h.1 (held_breaks (nat_lt (count_by (nat_eq h.0) (owners_of before)) most_ctors)
          (ctor_of_root roots c h.0) (fault_at OverLimit c.class.name c.source c.class.at) f h.2)

  pub record OneCtorFails (all : List ClassIn) (f : Fault) : Type 0 where
    pub done : List ClassIn
    pub class : ClassIn
    pub after : List ClassIn
    pub before : List TypedCtor
    pub split : all ≡ done ++ class ∷ after
    pub are : AreCtors roots [] done before
    pub fails : CtorFails done before class f

  ctors_fail : (all done cs : List ClassIn) (before : List TypedCtor) (f : Fault) → all ≡ done ++ cs
      → AreCtors roots [] done before → ctors_after roots before cs ≡ Err f → OneCtorFails all f
  ctors_fail all done [] before f split are e = cc
  ctors_fail all done (c ∷ cs) before f split are e =
      by (step_breaks (next_ctor roots before c) (λ t. ctors_after roots (before ++ t ∷ []) cs) f e)
      (λ t h g. let own = ctor_sound roots c before t h in
      ctors_fail all (done ++ c ∷ []) cs (before ++ t ∷ []) f (split
      ∙ sym (append_assoc done (c ∷ []) cs)) (ctors_push c t are own.0 own.1) g)
    where
      by : (next_ctor roots before c ≡ Err f)
          ⊎ ((t : TypedCtor) × (next_ctor roots before c ≡ Ok t) × (ctors_after roots (before ++ t ∷ []) cs ≡ Err f))
          → ((t : TypedCtor) → next_ctor roots before c ≡ Ok t → ctors_after roots (before ++ t ∷ []) cs ≡ Err f
          → OneCtorFails all f) → OneCtorFails all f
      by (inl h) later = record {
        done = done;
        class = c;
        after = cs;
        before = before;
        split = split;
        are = are;
        fails = ctor_fails done before c f h;
      }
      by (inr h) later = later h.0 h.1 h.2

-- how a function fails
module _ (roots : List TypedRoot) where
  pub data DefFails (d : DefIn) (f : Fault) : Type 0 where
    its_params : StandsInOne roots d.def.type_params d.source (param_types d.def.params) f → DefFails d f
    its_result : StandsIn roots d.def.type_params d.source d.def.result f → DefFails d f

  def_fails : (d : DefIn) (f : Fault) → signature roots d ≡ Err f → DefFails d f
  def_fails d f e =
      by (step_breaks (sorts_from roots d.def.type_params d.source [] (param_types d.def.params))
      (λ params. and_then (sort_of roots d.def.type_params d.source d.def.result) (λ result. Ok
      (typed_signature d params result))) f e)
    where
      last : (ps : List GenericSort) → (sort_of roots d.def.type_params d.source d.def.result ≡ Err f)
          ⊎ ((r : GenericSort) × (sort_of roots d.def.type_params d.source d.def.result ≡ Ok r)
          × (Ok (typed_signature d ps r) ≡ Err f)) → DefFails d f
      last ps (inl h) = its_result (stands roots d.def.type_params d.source d.def.result f h)
      last ps (inr h) = let g = h.2 in cc

      by : (sorts_from roots d.def.type_params d.source [] (param_types d.def.params) ≡ Err f)
          ⊎ ((ps : List GenericSort)
          × (sorts_from roots d.def.type_params d.source [] (param_types d.def.params) ≡ Ok ps)
          × (and_then (sort_of roots d.def.type_params d.source d.def.result) (λ result. Ok
          (typed_signature d ps result)) ≡ Err f)) → DefFails d f
      by (inl h) = its_params (one_stands roots d.def.type_params d.source (param_types d.def.params) f h)
      by (inr h) = last h.0 (step_breaks (sort_of roots d.def.type_params d.source d.def.result) (λ result. Ok
          (typed_signature d h.0 result)) f h.2)

  pub record OneDefFails (ds : List DefIn) (f : Fault) : Type 0 where
    pub def : DefIn
    pub among : Contains ds def
    pub fails : DefFails def f

  functions_fail : (before : List Signature) (ds : List DefIn) (f : Fault)
      → signatures_after roots before ds ≡ Err f → OneDefFails ds f
  functions_fail before [] f e = cc
  functions_fail before (d ∷ ds) f e =
      by (step_breaks (signature roots d) (λ s. signatures_after roots (before ++ s ∷ []) ds) f e)
      (λ s h. functions_fail (before ++ s ∷ []) ds f h)
    where
      by : (signature roots d ≡ Err f)
          ⊎ ((s : Signature) × (signature roots d ≡ Ok s) × (signatures_after roots (before ++ s ∷ []) ds ≡ Err f))
          → ((s : Signature) → signatures_after roots (before ++ s ∷ []) ds ≡ Err f → OneDefFails ds f)
          → OneDefFails (d ∷ ds) f
      by (inl h) later = record { def = d; among = has_first d ds; fails = def_fails d f h }
      by (inr h) later = let r = later h.0 h.2 in record {
        def = r.def;
        among = has_later d ds r.def r.among;
        fails = r.fails;
      }

module _ (units : List UnitTree) (f : Fault) where
  abbrev pub Stands : Fault → Type 0
  Stands g = DeclaresBreak units g.rule g.name g.source g.at

  abbrev roots : List ClassIn
  roots = roots_of (decls_in units)

  abbrev ctors : List ClassIn
  ctors = ctors_of (decls_in units)

  abbrev defs : List DefIn
  defs = defs_of (decls_in units)

  abbrev made : List TypedCtor → List Signature → Declared
  made cs fs = record { roots = map typed_root roots; ctors = cs; field_names = map field_names ctors; functions = fs }

  at_source : (n : ℕ) → f.source ≡ n → DeclaresBreak units f.rule f.name n f.at → Stands f
  at_source n e h = subst (λ (k : ℕ). DeclaresBreak units f.rule f.name k f.at) (sym e) h

  among : {X : Type 0} (all done : List X) (x : X) (after : List X) → all ≡ done ++ x ∷ after → Contains all x
  among all done x after e =
      subst (λ l. Contains l x) (sym e) (Contains-append_right done (x ∷ after) x (has_first x after))

  ctor_stands : (done : List ClassIn) (c : ClassIn) (after : List ClassIn) (before : List TypedCtor)
      → ctors ≡ done ++ c ∷ after → AreCtors roots [] done before
      → CtorFails roots done before c f → Stands f
  ctor_stands done c after before split are (its_owner h) =
      at_source c.source h.in_source (broken.an_owner c (among ctors done c after split) h.breaks)
  ctor_stands done c after before split are (its_number r owner many is) =
      subst Stands is (broken.many_ctors done c after before r split are owner many)
  ctor_stands done c after before split are (its_fields h) =
      at_source c.source h.in_source (broken.a_field c (among ctors done c after split) h.broken)

  def_stands : (d : DefIn) → Contains defs d → DefFails (map typed_root roots) d f → Stands f
  def_stands d has (its_params h) = at_source d.source h.in_source (broken.a_param d has h.broken)
  def_stands d has (its_result h) = at_source d.source h.in_source (broken.a_result d has h.broken)

  sorts_stand : with_sorts roots ctors defs ≡ Err f → Stands f
  sorts_stand e =
      by (step_breaks (ctors_after roots [] ctors) (λ cs. and_then (signatures_after (map typed_root roots) [] defs)
      (λ fs. Ok (made cs fs))) f e)
    where
      last : (cs : List TypedCtor) → (signatures_after (map typed_root roots) [] defs ≡ Err f)
          ⊎ ((fs : List Signature) × (signatures_after (map typed_root roots) [] defs ≡ Ok fs)
          × (Ok (made cs fs) ≡ Err f)) → Stands f
      last cs (inl h) = let r = functions_fail (map typed_root roots) [] defs f h in def_stands r.def r.among r.fails
      last cs (inr h) = let g = h.2 in cc

      by : (ctors_after roots [] ctors ≡ Err f) ⊎ ((cs : List TypedCtor) × (ctors_after roots [] ctors ≡ Ok cs)
          × (and_then (signatures_after (map typed_root roots) [] defs)
          (λ fs. Ok (made cs fs)) ≡ Err f)) → Stands f
      by (inl h) = let r = ctors_fail roots ctors [] ctors [] f refl (no_ctors []) h in
          ctor_stands r.done r.class r.after r.before r.split r.are r.fails
      by (inr h) = last h.0 (step_breaks (signatures_after (map typed_root roots) [] defs)
          (λ fs. Ok (made h.0 fs)) f h.2)

  functions_stand : and_then (defs_new_after [] defs) (λ z. with_sorts roots ctors defs) ≡ Err f → Stands f
  functions_stand e = by (step_breaks (defs_new_after [] defs) (λ z. with_sorts roots ctors defs) f e)
    where
      by : (defs_new_after [] defs ≡ Err f)
          ⊎ ((a : Unit {0}) × (defs_new_after [] defs ≡ Ok a) × (with_sorts roots ctors defs ≡ Err f)) → Stands f
      by (inl h) = let r = defs_fail defs [] defs f refl h in
          subst Stands r.is (broken.function_twice r.before r.def r.after r.split r.taken)
      by (inr h) = sorts_stand h.2

  ctors_stand : and_then (classes_new_after [] ctors) (λ y. and_then (defs_new_after [] defs)
      (λ z. with_sorts roots ctors defs)) ≡ Err f → Stands f
  ctors_stand e = by (step_breaks (classes_new_after [] ctors) (λ y. and_then (defs_new_after [] defs)
      (λ z. with_sorts roots ctors defs)) f e)
    where
      by : (classes_new_after [] ctors ≡ Err f)
          ⊎ ((a : Unit {0}) × (classes_new_after [] ctors ≡ Ok a)
          × (and_then (defs_new_after [] defs) (λ z. with_sorts roots ctors defs) ≡ Err f)) → Stands f
      by (inl h) = let r = classes_fail ctors [] ctors f refl h in
          subst Stands r.is (broken.ctor_twice r.before r.class r.after r.split r.taken)
      by (inr h) = functions_stand h.2

  names_stand : with_names roots ctors defs ≡ Err f → Stands f
  names_stand e = by (step_breaks (classes_new_after [] roots) (λ x. and_then (classes_new_after [] ctors)
      (λ y. and_then (defs_new_after [] defs) (λ z. with_sorts roots ctors defs))) f e)
    where
      by : (classes_new_after [] roots ≡ Err f) ⊎ ((a : Unit {0}) × (classes_new_after [] roots ≡ Ok a)
          × (and_then (classes_new_after [] ctors) (λ y. and_then (defs_new_after [] defs)
          (λ z. with_sorts roots ctors defs)) ≡ Err f)) → Stands f
      by (inl h) = let r = classes_fail roots [] roots f refl h in
          subst Stands r.is (broken.type_twice r.before r.class r.after r.split r.taken)
      by (inr h) = ctors_stand h.2

  decls_stand : of_decls (decls_in units) ≡ Err f → Stands f
  decls_stand e = by (step_breaks (all_checked (decls_in units)) (λ done. with_names roots ctors defs) f e)
    where
      by : (all_checked (decls_in units) ≡ Err f)
          ⊎ ((a : Unit {0}) × (all_checked (decls_in units) ≡ Ok a) × (with_names roots ctors defs ≡ Err f)) → Stands f
      by (inl h) = let r = decls_fail (decls_in units) f h in let own = r.fails in
          at_source r.decl.source own.in_source (broken.by_itself r.decl r.among own.breaks)
      by (inr h) = names_stand h.2

  pub whole_stands : declare units ≡ Err f → Stands f
  whole_stands e = by (step_breaks (imports_checked (objects_in units) (imports_in units)) (λ done. of_decls
      (decls_in units)) f e)
    where
      by : (imports_checked (objects_in units) (imports_in units) ≡ Err f)
          ⊎ ((a : Unit {0}) × (imports_checked (objects_in units) (imports_in units) ≡ Ok a)
          × (of_decls (decls_in units) ≡ Err f)) → Stands f
      by (inl h) = let r = imports_fail (objects_in units) (imports_in units) f h in
          subst Stands r.3 (broken.an_import r.0 r.1 r.2)
      by (inr h) = decls_stand h.2
