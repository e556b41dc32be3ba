-- The typings of all functions are those of the rules, and a fault is one of a function.
use Rattle.std.proofs.Common.{◌≡◌, ◌∙◌, ℕ, zero, suc, List, [], ◌∷◌, ◌++◌, Ok, Err, Some, refl, sym, ap, length}
use Rattle.std.proofs.Common.{slice_get, append_assoc}
use Rattle.std.proofs.lemmas.List.{append-nil}
use Rattle.pp_declared.proofs.Steps.{two_steps}
use Rattle.pp_declared.specs.Declares.{AreSignatures, no_signatures, more_signatures}
use Rattle.pp_declared.specs.Listed.{DefIn}
use Rattle.pp_fault.specs.declared.Fault.{Fault}
use Rattle.pp_fault.specs.Part.{Part, and_then}
use Rattle.pp_rules.specs.Bodies.{elab_def}
use Rattle.pp_typed.specs.declared.declared.Declared.{Declared}
use Rattle.pp_typed.specs.declared.declared.Signature.{Signature}
use Rattle.pp_typed.specs.declared.typed.TypedDef.{TypedDef}
use Rattle.pp_typed.specs.declared.typed.TypedRoot.{TypedRoot}
use Rattle.pp_types.specs.Functions.{defs_after}
use Rattle.pp_types_laws.specs.Typing.{TypesDefs, no_defs, more_defs}
use Rattle.pp_typing_laws.proofs.BodyStands.{def_stands}
use Rattle.pp_typing_laws.proofs.Functions.{def_is, def_ok}
use Rattle.pp_typing_laws.specs.BodyFaults.{BreaksDef}

pub same_length : (roots : List TypedRoot) {ds : List DefIn} {ss : List Signature} → AreSignatures roots ds ss
    → length ds ≡ length ss
same_length roots no_signatures = refl
same_length roots (more_signatures first rest) = ap suc (same_length roots rest)

ok_is : {A : Type 0} (a b : A) → let p : Part A = Ok a in let q : Part A = Ok b in p ≡ q → a ≡ b
ok_is a b h = cc

module _ (declared : Declared) where
  -- the functions after these have a typing
  pub record TypesAfter (done : List TypedDef) (ds : List DefIn) (ss : List Signature)
      (out : List TypedDef) : Type 0 where
    pub defs : List TypedDef
    pub types : TypesDefs declared ds ss defs
    pub all : out ≡ done ++ defs

  pub defs_sound : (ds : List DefIn) (ss : List Signature) (done out : List TypedDef) → length ds ≡ length ss
      → defs_after declared done ds ss ≡ Ok out → TypesAfter done ds ss out
  defs_sound [] [] done out n e =
      record { defs = []; types = no_defs; all = sym (ok_is done out e) ∙ sym (append-nil done) }
  defs_sound [] (s ∷ ss) done out n e = cc
  defs_sound (d ∷ ds) [] done out n e = cc
  defs_sound (d ∷ ds) (s ∷ ss) done out n e =
      let two = two_steps (elab_def declared d.source d.def s) (λ t. defs_after declared
      (done ++ t ∷ []) ds ss) out e in
      let rest = defs_sound ds ss (done ++ two.first ∷ []) out (cc) two.rest in
      record {
        defs = two.first ∷ rest.defs;
        types = more_defs (def_ok declared d.source d.def s two.first two.done) rest.types;
        all = rest.all ∙ append_assoc done (two.first ∷ []) rest.defs;
      }

  pub defs_complete : {ds : List DefIn} {ss : List Signature} {ts : List TypedDef} (done : List TypedDef)
      → TypesDefs declared ds ss ts → defs_after declared done ds ss ≡ Ok (done ++ ts)
  defs_complete done no_defs = ap Ok (sym (append-nil done))
  defs_complete done (more_defs {d} {ds} {s} {ss} {t} {ts} first rest) =
      ap (λ p. and_then p (λ u. defs_after declared (done ++ u ∷ []) ds ss)) (def_is declared d.source d.def s first)
      ∙ defs_complete (done ++ t ∷ []) rest ∙ ap Ok (append_assoc done (t ∷ []) ts)

  -- a function breaks a rule
  pub record OneBreaks (ds : List DefIn) (ss : List Signature) (f : Fault) : Type 0 where
    pub place : ℕ
    pub def : DefIn
    pub signature : Signature
    pub written : slice_get ds place ≡ Some def
    pub declares : slice_get ss place ≡ Some signature
    pub breaks : BreaksDef declared def.source def.def signature f

  one_step : (d : DefIn) (ds : List DefIn) (s : Signature) (ss : List Signature) (done : List TypedDef) (f : Fault)
      (p : Part TypedDef) → elab_def declared d.source d.def s ≡ p → defs_after declared done (d ∷ ds) (s ∷ ss) ≡ Err f
      → ((t : TypedDef) → defs_after declared (done ++ t ∷ []) ds ss ≡ Err f → OneBreaks ds ss f)
      → OneBreaks (d ∷ ds) (s ∷ ss) f
  one_step d ds s ss done f (Ok t) is e go =
      let rest = go t (sym (ap (λ q. and_then q (λ u. defs_after declared (done ++ u ∷ []) ds ss)) is) ∙ e) in
      record {
        place = suc rest.place;
        def = rest.def;
        signature = rest.signature;
        written = rest.written;
        declares = rest.declares;
        breaks = rest.breaks;
      }
  one_step d ds s ss done f (Err g) is e go =
      let same : Err g ≡ Err f = sym (ap (λ q. and_then q (λ u. defs_after declared (done ++ u ∷ []) ds ss)) is) ∙ e in
      let fault : g ≡ f = cc in
      record {
        place = zero;
        def = d;
        signature = s;
        written = refl;
        declares = refl;
        breaks = def_stands declared d.source d.def s f (is ∙ ap Err fault);
      }

  pub defs_break : (ds : List DefIn) (ss : List Signature) (done : List TypedDef) (f : Fault)
      → defs_after declared done ds ss ≡ Err f → OneBreaks ds ss f
  defs_break [] ss done f e = cc
  defs_break (d ∷ ds) [] done f e = cc
  defs_break (d ∷ ds) (s ∷ ss) done f e =
      one_step d ds s ss done f (elab_def declared d.source d.def s) refl e (λ t. defs_break ds ss (done ++ t ∷ []) f)
