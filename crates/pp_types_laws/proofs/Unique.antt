-- Units have at most one typing.
use Rattle.std.proofs.Common.{◌≡◌, ◌∙◌, List, Ok, refl, sym, ap, subst}
use Rattle.pp_declared.proofs.Complete.{declares_complete}
use Rattle.pp_declared.specs.Declare.{declare}
use Rattle.pp_declared.specs.Listed.{DefIn, decls_in, defs_of}
use Rattle.pp_fault.specs.Part.{Part}
use Rattle.pp_tree.specs.Plain.{UnitTree}
use Rattle.pp_typed.specs.declared.declared.Declared.{Declared}
use Rattle.pp_typed.specs.declared.declared.Signature.{Signature}
use Rattle.pp_typed.specs.declared.typed.Typed.{Typed}
use Rattle.pp_typed.specs.declared.typed.TypedDef.{TypedDef}
use Rattle.pp_types_laws.specs.Typing.{HasTyping, TypesDefs, no_defs, more_defs}
use Rattle.pp_typing_laws.proofs.Functions.{def_alone}

pub same_answer : {A : Type 0} (p : Part A) (a b : A) → p ≡ Ok a → p ≡ Ok b → a ≡ b
same_answer p a b e f = let g : Ok a ≡ Ok b = sym e ∙ f in cc

same_defs : (declared : Declared) {ds : List DefIn} {ss : List Signature} {ts us : List TypedDef}
    → TypesDefs declared ds ss ts → TypesDefs declared ds ss us → ts ≡ us
same_defs declared no_defs no_defs = refl
same_defs declared (more_defs {d} {ds} {s} first rest) (more_defs other more) =
    let a = def_alone declared d.source d.def s _ _ first other in let b = same_defs declared rest more in cc

pub unique : (units : List UnitTree) (t u : Typed) → HasTyping units t → HasTyping units u → t ≡ u
unique units t u h k =
    let same : h.declared ≡ k.declared =
    same_answer (declare units) h.declared k.declared (declares_complete units h.declared h.declares)
    (declares_complete units k.declared k.declares) in
    let roots : t.roots ≡ u.roots = h.roots ∙ ap (λ (d : Declared). d.roots) same ∙ sym k.roots in
    let ctors : t.ctors ≡ u.ctors = h.ctors ∙ ap (λ (d : Declared). d.ctors) same ∙ sym k.ctors in
    let defs : t.defs ≡ u.defs =
    same_defs k.declared (subst (λ (d : Declared). TypesDefs d (defs_of (decls_in units)) d.functions t.defs) same
    h.defs) k.defs in
    λ j. record { roots = roots j; ctors = ctors j; defs = defs j }
