-- What is known of declarations that were computed.
use Rattle.std.proofs.Common.{◌≡◌, ◌∙◌, ℕ, ◌<◌, ◌^◌, Bool, true, false, List, [], ◌∷◌, All, Ok, Some, refl, sym, ap}
use Rattle.std.proofs.Common.{subst, map, length, arith}
use Rattle.std.proofs.lemmas.List.{length-map}
use Rattle.std.proofs.lemmas.List.Elements.{All-nil, All-cons, All-append}
use Rattle.std.proofs.lemmas.List.Quantifiers.{position-Some}
use Rattle.std.specs.Str.{bytes_eq}
use Rattle.pp_declared.specs.Declare.{all_checked, ctors_after, signatures_after, with_sorts}
use Rattle.pp_declared.specs.Declares.{IsOwner, itself, extended, AreCtors, no_ctors, more_ctors, AreSignatures}
use Rattle.pp_declared.specs.Declares.{no_signatures, more_signatures, class_names, def_names, field_names, typed_root}
use Rattle.pp_declared.specs.Listed.{DeclIn, ClassIn, DefIn, ctor_of, ctors_of, def_of, defs_of, is_missing, root_of}
use Rattle.pp_declared.specs.Listed.{roots_of, unparented}
use Rattle.pp_declared.specs.Shown.{AreFew, AreFewOfDefs}
use Rattle.pp_declared.specs.WellFormed.{IsWellFormed, checked}
use Rattle.pp_declared.proofs.Owned.{names_of_roots}
use Rattle.pp_declared.proofs.Sound.{well_formed, ctors_sound, signatures_sound}
use Rattle.pp_declared.proofs.Steps.{two_steps}
use Rattle.pp_fault.specs.Part.{and_then}
use Rattle.pp_names.specs.Find.{AreNamesOf, HasOwners, owners_of}
use Rattle.pp_names.specs.Places.{Word, place_of}
use Rattle.pp_tree.specs.Plain.{DeclTree, root, ctor, other, def}
use Rattle.pp_typed.specs.declared.declared.Declared.{Declared}
use Rattle.pp_typed.specs.declared.declared.Signature.{Signature}
use Rattle.pp_typed.specs.declared.typed.TypedCtor.{TypedCtor}
use Rattle.pp_typed.specs.declared.typed.TypedRoot.{TypedRoot}

abbrev Few : ClassIn → Type 0
Few c = length c.class.params < 2 ^ 32

abbrev FewOfDef : DefIn → Type 0
FewOfDef d = length d.def.type_params < 2 ^ 32

few_ctor : (n : ℕ) (d : DeclTree) → IsWellFormed d → AreFew (ctor_of n d)
few_ctor n (root c) h = All-nil Few
few_ctor n (ctor c) h = let few = h.few_type_params in All-cons Few _ [] (omega arith) (All-nil Few)
few_ctor n (other c) h = All-nil Few
few_ctor n (def d) h = All-nil Few

few_root : (n : ℕ) (d : DeclTree) → IsWellFormed d → AreFew (root_of n d)
few_root n (root c) h = let few = h.few_type_params in All-cons Few _ [] (omega arith) (All-nil Few)
few_root n (ctor c) h = by (is_missing c.parent)
  where
    by : (b : Bool) → AreFew (unparented n c b)
    by true = let few = h.few_type_params in All-cons Few _ [] (omega arith) (All-nil Few)
    by false = All-nil Few
few_root n (other c) h = All-nil Few
few_root n (def d) h = All-nil Few

few_def : (n : ℕ) (d : DeclTree) → IsWellFormed d → AreFewOfDefs (def_of n d)
few_def n (root c) h = All-nil FewOfDef
few_def n (ctor c) h = All-nil FewOfDef
few_def n (other c) h = All-nil FewOfDef
few_def n (def d) h = let few = h.few_type_params in All-cons FewOfDef _ [] (omega arith) (All-nil FewOfDef)

pub few_roots : (ds : List DeclIn) → all_checked ds ≡ Ok tt → AreFew (roots_of ds)
few_roots [] e = All-nil Few
few_roots (d ∷ ds) e =
    let s = two_steps (checked d.source d.decl) (λ done. all_checked ds) tt e in
    All-append Few (root_of d.source d.decl) (roots_of ds) (few_root d.source d.decl
    (well_formed d.source d.decl s.done)) (few_roots ds s.rest)

pub few_ctors : (ds : List DeclIn) → all_checked ds ≡ Ok tt → AreFew (ctors_of ds)
few_ctors [] e = All-nil Few
few_ctors (d ∷ ds) e =
    let s = two_steps (checked d.source d.decl) (λ done. all_checked ds) tt e in
    All-append Few (ctor_of d.source d.decl) (ctors_of ds) (few_ctor d.source d.decl
    (well_formed d.source d.decl s.done)) (few_ctors ds s.rest)

pub few_defs : (ds : List DeclIn) → all_checked ds ≡ Ok tt → AreFewOfDefs (defs_of ds)
few_defs [] e = All-nil FewOfDef
few_defs (d ∷ ds) e =
    let s = two_steps (checked d.source d.decl) (λ done. all_checked ds) tt e in
    All-append FewOfDef (def_of d.source d.decl) (defs_of ds) (few_def d.source d.decl
    (well_formed d.source d.decl s.done)) (few_defs ds s.rest)

module _ (roots : List ClassIn) where
  place_within : (w : Word) (r : ℕ) → place_of w (class_names roots) ≡ Some r → r < length roots
  place_within w r e =
      let within = (position-Some (bytes_eq w) (class_names roots) r [] e).0 in
      omega (arith, within, length-map roots (λ (c : ClassIn). c.class.name))

  owner_within : (c : ClassIn) (r : ℕ) → IsOwner roots c r → r < length roots
  owner_within c q (itself r parent found) = place_within c.class.name r found
  owner_within c q (extended r at w ts r0 parent hidden found there sealed source count params) = place_within w r found

  pub owners_within : {before : List TypedCtor} {cs : List ClassIn} {ts : List TypedCtor}
      → AreCtors roots before cs ts → All (λ r. r < length roots) (owners_of ts)
  owners_within (no_ctors _) = All-nil (λ r. r < length roots)
  owners_within (more_ctors _ {c} {cs} {t} {ts} own room more) =
      All-cons (λ r. r < length roots) t.root (owners_of ts) (owner_within c t.root own.owner) (owners_within more)

  ctors_named : {before : List TypedCtor} {cs : List ClassIn} {ts : List TypedCtor} → AreCtors roots before cs ts
      → class_names cs ≡ map (λ (t : TypedCtor). t.name) ts
  ctors_named (no_ctors _) = refl
  ctors_named (more_ctors _ {c} {cs} {t} {ts} own room more) = let a = own.name in let b = ctors_named more in cc

functions_named : (roots : List TypedRoot) {ds : List DefIn} {fs : List Signature} → AreSignatures roots ds fs
    → def_names ds ≡ map (λ (f : Signature). f.name) fs
functions_named roots no_signatures = refl
functions_named roots (more_signatures own more) = let a = own.name in let b = functions_named roots more in cc

-- the names of what was computed, and the roots of its constructors
pub record IsKnown (roots ctors : List ClassIn) (defs : List DefIn) (d : Declared) : Type 0 where
  pub names : AreNamesOf d (class_names roots) (class_names ctors) (def_names defs)
  pub owners : HasOwners d

pub known : (roots ctors : List ClassIn) (defs : List DefIn) (d : Declared) → with_sorts roots ctors defs ≡ Ok d
    → IsKnown roots ctors defs d
known roots ctors defs d e =
    let cs = two_steps (ctors_after roots [] ctors)
    (λ xs. and_then (signatures_after (map typed_root roots) [] defs)
    (λ fs. Ok (record {
      roots = map typed_root roots;
      ctors = xs;
      field_names = map field_names ctors;
      functions = fs;
    }))) d e in
    let fs = two_steps (signatures_after (map typed_root roots) [] defs)
    (λ fs. Ok (record {
      roots = map typed_root roots;
      ctors = cs.first;
      field_names = map field_names ctors;
      functions = fs;
    })) d cs.rest in
    let made = ctors_sound roots ctors [] cs.first cs.done in
    let seen = signatures_sound (map typed_root roots) defs [] fs.first fs.done in
    let whole : Declared = record {
      roots = map typed_root roots;
      ctors = cs.first;
      field_names = map field_names ctors;
      functions = fs.first;
    } in
    let is : whole ≡ d = (let f = fs.rest in cc) in
    subst (IsKnown roots ctors defs) {x = whole} is (record {
      names = record {
        roots_named = sym (names_of_roots roots);
        ctors_named = ctors_named roots made.are ∙ ap (map (λ (t : TypedCtor). t.name)) (sym made.all);
        functions_named = functions_named (map typed_root roots) seen.are
            ∙ ap (map (λ (f : Signature). f.name)) (sym seen.all);
      };
      owners = subst (λ (l : List ℕ). All (λ r. r < length (map typed_root roots)) l) (ap owners_of (sym made.all))
          (subst (λ (n : ℕ). All (λ r. r < n) (owners_of made.ctors)) (sym (length-map roots typed_root))
          (owners_within roots made.are));
    })
