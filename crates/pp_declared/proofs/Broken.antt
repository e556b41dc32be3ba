-- A fault that is computed stands there.
use Rattle.std.proofs.Common.{◌≡◌, ◌∙◌, ◌⊎◌, inl, inr, ℕ, ◌<◌, Bool, true, false, ◌&&◌, not, List, [], ◌∷◌, ◌++◌}
use Rattle.std.proofs.Common.{Contains, Option, Some, None, Ok, Err, refl, sym, ap, subst, true≢false, append_assoc}
use Rattle.std.proofs.Common.{nat_le, length, slice_get, if◌then◌else◌}
use Rattle.std.proofs.lemmas.Bool.{leb-false}
use Rattle.std.proofs.lemmas.List.{map_push}
use Rattle.pp_declared.specs.Declare.{imports_checked, all_checked, classes_new_after, defs_new_after, parent_word}
use Rattle.pp_declared.specs.Declare.{parent_place, is_open_to, extends_whole, owner_at, owner_found, owner_of}
use Rattle.pp_declared.specs.Declares.{class_names, def_names}
use Rattle.pp_declared.specs.Fault as broken
use Rattle.pp_declared.specs.Fault.{HeadBreaks, DeclBreaks, OwnerBreaks, DeclaresBreak}
use Rattle.pp_declared.specs.Listed.{DeclIn, ClassIn, DefIn, ImportIn}
use Rattle.pp_declared.specs.WellFormed.{AreNew, are_new_after, checked, head_checked, is_taken, most_params}
use Rattle.pp_declared.specs.WellFormed.{most_type_params, params_checked, params_new_after, param_names}
use Rattle.pp_declared.proofs.Complete.{are_new}
use Rattle.pp_declared.proofs.Steps.{step_breaks, held_breaks, failed_breaks, fault_is, has_first, has_later}
use Rattle.pp_fault.specs.Part.{fault}
use Rattle.pp_fault.specs.declared.Fault.{Fault}
use Rattle.pp_fault.specs.declared.Rule.{Rule}
use Rattle.pp_fault.specs.declared.Rule.TheVariants.{Unknown, Duplicate, Mismatch, Arity, OverLimit}
use Rattle.pp_names.specs.Places.{Word, has, place_of}
use Rattle.pp_tree.specs.Plain.{TypeTree, type_text, ParamTree, DeclTree, root, ctor, other, def}

-- the fault of a rule
abbrev pub fault_at : Rule → Word → ℕ → ℕ → Fault
fault_at rule name source at = record { rule = rule; name = name; source = source; at = at }

-- not new as a test, not new as a fact
not_new : (ts : List Word) → are_new_after [] ts ≡ false → AreNew ts → ⊥
not_new ts e h = true≢false (sym (are_new [] ts h) ∙ e)

above : (a b : ℕ) → nat_le a b ≡ false → b < a
above a b e = leb-false a b e

-- a fault of a declaration by itself
pub record HeadFails (source at : ℕ) (w : Word) (ts : List Word) (ps : List ParamTree) (f : Fault) : Type 0 where
  pub in_source : f.source ≡ source
  pub breaks : HeadBreaks at w ts ps f.rule f.name f.at

params_fail : (source at : ℕ) (w : Word) (ts : List Word) (all done ps : List ParamTree) (f : Fault) → all ≡ done ++ ps
    → params_new_after source (param_names done) ps ≡ Err f → HeadFails source at w ts all f
params_fail source at w ts all done [] f is e = cc
params_fail source at w ts all done (p ∷ ps) f is e =
    by (failed_breaks (is_taken (param_names done) p.name) (params_new_after source (param_names done ++ p.name ∷ [])
    ps) (fault_at Duplicate p.name source p.at) f e)
    (λ h. params_fail source at w ts all (done ++ p ∷ []) ps f (is ∙ sym (append_assoc done (p ∷ []) ps))
    (ap (λ l. params_new_after source l ps) (map_push (λ (x : ParamTree). x.name) done p) ∙ h))
  where
    by : ((is_taken (param_names done) p.name ≡ true) × (fault_at Duplicate p.name source p.at ≡ f))
        ⊎ ((is_taken (param_names done) p.name ≡ false)
        × (params_new_after source (param_names done ++ p.name ∷ []) ps ≡ Err f))
        → (params_new_after source (param_names done ++ p.name ∷ []) ps ≡ Err f → HeadFails source at w ts all f)
        → HeadFails source at w ts all f
    by (inl h) later = subst (HeadFails source at w ts all) h.1 (record {
      in_source = refl;
      breaks = broken.param_twice done p ps is h.0;
    })
    by (inr h) later = later h.1

head_fails : (source at : ℕ) (w : Word) (ts : List Word) (ps : List ParamTree) (f : Fault)
    → head_checked source at w ts ps ≡ Err f → HeadFails source at w ts ps f
head_fails source at w ts ps f e =
    by_types (held_breaks (nat_le (length ts) most_type_params) _ (fault_at OverLimit w source at) f e)
  where
    by_params : ((nat_le (length ps) most_params ≡ true) × (params_new_after source [] ps ≡ Err f))
        ⊎ ((nat_le (length ps) most_params ≡ false) × (fault_at OverLimit w source at ≡ f))
        → HeadFails source at w ts ps f
    by_params (inl h) = params_fail source at w ts ps [] ps f refl h.1
    by_params (inr h) = subst (HeadFails source at w ts ps) h.1 (record {
      in_source = refl;
      breaks = broken.many_params (above (length ps) most_params h.0);
    })

    by_names : ((are_new_after [] ts ≡ true) × (params_checked source at w ps ≡ Err f))
        ⊎ ((are_new_after [] ts ≡ false) × (fault_at Duplicate w source at ≡ f)) → HeadFails source at w ts ps f
    by_names (inl h) = by_params (held_breaks (nat_le (length ps) most_params) (params_new_after source [] ps)
        (fault_at OverLimit w source at) f h.1)
    by_names (inr h) = subst (HeadFails source at w ts ps) h.1 (record {
      in_source = refl;
      breaks = broken.type_param_twice (not_new ts h.0);
    })

    by_types : ((nat_le (length ts) most_type_params ≡ true)
        × ((if are_new_after [] ts then params_checked source at w ps else fault Duplicate w source at) ≡ Err f))
        ⊎ ((nat_le (length ts) most_type_params ≡ false) × (fault_at OverLimit w source at ≡ f))
        → HeadFails source at w ts ps f
    by_types (inl h) = by_names (held_breaks (are_new_after [] ts) (params_checked source at w ps)
        (fault_at Duplicate w source at) f h.1)
    by_types (inr h) = subst (HeadFails source at w ts ps) h.1 (record {
      in_source = refl;
      breaks = broken.many_type_params (above (length ts) most_type_params h.0);
    })

pub record DeclFails (source : ℕ) (d : DeclTree) (f : Fault) : Type 0 where
  pub in_source : f.source ≡ source
  pub breaks : DeclBreaks d f.rule f.name f.at

decl_fails : (source : ℕ) (d : DeclTree) (f : Fault) → checked source d ≡ Err f → DeclFails source d f
decl_fails source (root c) f e = let h = head_fails source c.at c.name c.params c.fields f e in
    record { in_source = h.in_source; breaks = broken.a_root h.breaks }
decl_fails source (ctor c) f e = let h = head_fails source c.at c.name c.params c.fields f e in
    record { in_source = h.in_source; breaks = broken.a_ctor h.breaks }
decl_fails source (other c) f e =
    subst (DeclFails source (other c)) (fault_is (checked source (other c)) (fault_at Mismatch c.name source c.at) f
    refl e) (record { in_source = refl; breaks = broken.another c })
decl_fails source (def d) f e = let h = head_fails source d.at d.name d.type_params d.params f e in
    record { in_source = h.in_source; breaks = broken.a_def h.breaks }

-- some declaration fails
pub record OneFails (ds : List DeclIn) (f : Fault) : Type 0 where
  pub decl : DeclIn
  pub among : Contains ds decl
  pub fails : DeclFails decl.source decl.decl f

pub decls_fail : (ds : List DeclIn) (f : Fault) → all_checked ds ≡ Err f → OneFails ds f
decls_fail [] f e = cc
decls_fail (d ∷ ds) f e = by (step_breaks (checked d.source d.decl) (λ done. all_checked ds) f e) (decls_fail ds f)
  where
    by : (checked d.source d.decl ≡ Err f)
        ⊎ ((a : Unit {0}) × (checked d.source d.decl ≡ Ok a) × (all_checked ds ≡ Err f)) → (all_checked ds ≡ Err f
        → OneFails ds f) → OneFails (d ∷ ds) f
    by (inl h) later = record { decl = d; among = has_first d ds; fails = decl_fails d.source d.decl f h }
    by (inr h) later = let r = later h.2 in record {
      decl = r.decl;
      among = has_later d ds r.decl r.among;
      fails = r.fails;
    }

pub imports_fail : (objects : List Word) (is : List ImportIn) (f : Fault) → imports_checked objects is ≡ Err f
    → (i : ImportIn) × Contains is i × (has i.path.name objects ≡ false)
    × (fault_at Unknown i.path.name i.source i.path.at ≡ f)
imports_fail objects [] f e = cc
imports_fail objects (i ∷ is) f e =
    by (held_breaks (has i.path.name objects) (imports_checked objects is)
    (fault_at Unknown i.path.name i.source i.path.at) f e) (imports_fail objects is f)
  where
    by : ((has i.path.name objects ≡ true) × (imports_checked objects is ≡ Err f))
        ⊎ ((has i.path.name objects ≡ false) × (fault_at Unknown i.path.name i.source i.path.at ≡ f))
        → (imports_checked objects is ≡ Err f → (j : ImportIn) × Contains is j × (has j.path.name objects ≡ false)
        × (fault_at Unknown j.path.name j.source j.path.at ≡ f))
        → (j : ImportIn) × Contains (i ∷ is) j × (has j.path.name objects ≡ false)
        × (fault_at Unknown j.path.name j.source j.path.at ≡ f)
    by (inl h) later = let r = later h.1 in (r.0, has_later i is r.0 r.1, r.2, r.3)
    by (inr h) later = (i, has_first i is, h.0, h.1)

-- the first of classes, or of functions, whose name can't be declared after those before it
pub record TwiceIn (all : List ClassIn) (f : Fault) : Type 0 where
  pub before : List ClassIn
  pub class : ClassIn
  pub after : List ClassIn
  pub split : all ≡ before ++ class ∷ after
  pub taken : is_taken (class_names before) class.class.name ≡ true
  pub is : fault_at Duplicate class.class.name class.source class.class.at ≡ f

pub classes_fail : (all done cs : List ClassIn) (f : Fault) → all ≡ done ++ cs
    → classes_new_after (class_names done) cs ≡ Err f → TwiceIn all f
classes_fail all done [] f split e = cc
classes_fail all done (c ∷ cs) f split e =
    by (failed_breaks (is_taken (class_names done) c.class.name) (classes_new_after
    (class_names done ++ c.class.name ∷ []) cs) (fault_at Duplicate c.class.name c.source c.class.at) f e)
    (λ h. classes_fail all (done ++ c ∷ []) cs f (split ∙ sym (append_assoc done (c ∷ []) cs))
    (ap (λ l. classes_new_after l cs) (map_push (λ (x : ClassIn). x.class.name) done c) ∙ h))
  where
    by : ((is_taken (class_names done) c.class.name ≡ true) × (fault_at Duplicate c.class.name c.source c.class.at ≡ f))
        ⊎ ((is_taken (class_names done) c.class.name ≡ false)
        × (classes_new_after (class_names done ++ c.class.name ∷ []) cs ≡ Err f))
        → (classes_new_after (class_names done ++ c.class.name ∷ []) cs ≡ Err f → TwiceIn all f) → TwiceIn all f
    by (inl h) later = record { before = done; class = c; after = cs; split = split; taken = h.0; is = h.1 }
    by (inr h) later = later h.1

pub record DefTwiceIn (all : List DefIn) (f : Fault) : Type 0 where
  pub before : List DefIn
  pub def : DefIn
  pub after : List DefIn
  pub split : all ≡ before ++ def ∷ after
  pub taken : is_taken (def_names before) def.def.name ≡ true
  pub is : fault_at Duplicate def.def.name def.source def.def.at ≡ f

pub defs_fail : (all done ds : List DefIn) (f : Fault) → all ≡ done ++ ds
    → defs_new_after (def_names done) ds ≡ Err f → DefTwiceIn all f
defs_fail all done [] f split e = cc
defs_fail all done (d ∷ ds) f split e =
    by (failed_breaks (is_taken (def_names done) d.def.name) (defs_new_after (def_names done ++ d.def.name ∷ []) ds)
    (fault_at Duplicate d.def.name d.source d.def.at) f e)
    (λ h. defs_fail all (done ++ d ∷ []) ds f (split ∙ sym (append_assoc done (d ∷ []) ds))
    (ap (λ l. defs_new_after l ds) (map_push (λ (x : DefIn). x.def.name) done d) ∙ h))
  where
    by : ((is_taken (def_names done) d.def.name ≡ true) × (fault_at Duplicate d.def.name d.source d.def.at ≡ f))
        ⊎ ((is_taken (def_names done) d.def.name ≡ false)
        × (defs_new_after (def_names done ++ d.def.name ∷ []) ds ≡ Err f))
        → (defs_new_after (def_names done ++ d.def.name ∷ []) ds ≡ Err f → DefTwiceIn all f) → DefTwiceIn all f
    by (inl h) later = record { before = done; def = d; after = ds; split = split; taken = h.0; is = h.1 }
    by (inr h) later = later h.1

-- what a constructor extends
module _ (roots : List ClassIn) (c : ClassIn) where
  pub record OwnerFails (f : Fault) : Type 0 where
    pub in_source : f.source ≡ c.source
    pub breaks : OwnerBreaks roots c f.rule f.name f.at

  unknown_parent : (f : Fault) (o : Option TypeTree) → c.class.parent ≡ o
      → place_of (parent_word c o) (class_names roots) ≡ None
      → fault_at Unknown (parent_word c o) c.source (parent_place c o) ≡ f → OwnerFails f
  unknown_parent f None parent found e = subst OwnerFails e (record {
    in_source = refl;
    breaks = broken.nothing found parent;
  })
  unknown_parent f (Some (type_text at w ts)) parent found e = subst OwnerFails e (record {
    in_source = refl;
    breaks = broken.no_root at w ts parent found;
  })

  opened : (a b : Bool) → (not a && b) ≡ true → (a ≡ false) × (b ≡ true)
  opened true b e = cc
  opened false b e = (refl, e)

  closed_or_hidden : (a b : Bool) → (not a && b) ≡ false → (a ≡ true) ⊎ (b ≡ false)
  closed_or_hidden true b e = inl refl
  closed_or_hidden false b e = inr e

  at_fails : (f : Fault) (r : ℕ) (o : Option TypeTree) → c.class.parent ≡ o
      → place_of (parent_word c o) (class_names roots) ≡ Some r → owner_at roots c r o ≡ Err f → OwnerFails f
  at_fails f r None parent found e = cc
  at_fails f r (Some (type_text at w ts)) parent found e =
      by (held_breaks (not (has w c.class.params) && is_open_to c (slice_get roots r)) _
      (fault_at Unknown w c.source at) f e)
    where
      shut : (has w c.class.params ≡ true) ⊎ (is_open_to c (slice_get roots r) ≡ false)
          → OwnerFails (fault_at Unknown w c.source at)
      shut (inl h) = record { in_source = refl; breaks = broken.hidden at w ts parent h }
      shut (inr h) = record { in_source = refl; breaks = broken.closed at w ts r parent found h }

      whole : (has w c.class.params ≡ false) × (is_open_to c (slice_get roots r) ≡ true)
          → ((extends_whole c ts (slice_get roots r) ≡ true) × (Ok r ≡ Err f))
          ⊎ ((extends_whole c ts (slice_get roots r) ≡ false)
          × (fault_at Arity c.class.name c.source c.class.at ≡ f)) → OwnerFails f
      whole own (inl h) = let g = h.1 in cc
      whole own (inr h) = subst OwnerFails h.1 (record {
        in_source = refl;
        breaks = broken.not_whole at w ts r parent own.0 found own.1 h.0;
      })

      by : (((not (has w c.class.params) && is_open_to c (slice_get roots r)) ≡ true)
          × ((if extends_whole c ts (slice_get roots r) then Ok r
          else fault Arity c.class.name c.source c.class.at) ≡ Err f))
          ⊎ (((not (has w c.class.params) && is_open_to c (slice_get roots r)) ≡ false)
          × (fault_at Unknown w c.source at ≡ f)) → OwnerFails f
      by (inl h) = whole (opened (has w c.class.params) (is_open_to c (slice_get roots r)) h.0)
          (held_breaks (extends_whole c ts (slice_get roots r)) (Ok r)
          (fault_at Arity c.class.name c.source c.class.at) f h.1)
      by (inr h) = subst OwnerFails h.1 (shut (closed_or_hidden (has w c.class.params) (is_open_to c
          (slice_get roots r)) h.0))

  found_fails : (f : Fault) (o : Option ℕ) → place_of (parent_word c c.class.parent) (class_names roots) ≡ o
      → owner_found roots c o ≡ Err f → OwnerFails f
  found_fails f None found e =
      unknown_parent f c.class.parent refl found (fault_is (owner_found roots c None) (fault_at Unknown
      (parent_word c c.class.parent) c.source (parent_place c c.class.parent)) f refl e)
  found_fails f (Some r) found e = at_fails f r c.class.parent refl found e

  pub owner_fails : (f : Fault) → owner_of roots c ≡ Err f → OwnerFails f
  owner_fails f e = found_fails f (place_of (parent_word c c.class.parent) (class_names roots)) refl e
