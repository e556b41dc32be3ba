-- What each step of typing units tells of the units.
use Rattle.std.proofs.Common.{◌≡◌, ◌∙◌, List, [], Result, Ok, Err, length, sym, subst}
use Rattle.pp_declared.proofs.Complete.{declares_complete}
use Rattle.pp_declared.proofs.Sound.{declares_sound}
use Rattle.pp_declared.proofs.Whole.{whole_stands}
use Rattle.pp_declared.specs.Declare.{declare}
use Rattle.pp_declared.specs.Listed.{decls_in, defs_of}
use Rattle.pp_fault.specs.declared.Fault.{Fault}
use Rattle.pp_fault.specs.declared.Halt.{Halt}
use Rattle.pp_fault.specs.declared.Halt.TheVariants.{Memory, Broken}
use Rattle.pp_fault.specs.Part.{Part, Tells}
use Rattle.pp_inhabited.specs.Value.{AreInhabited}
use Rattle.pp_tree.specs.Plain.{UnitTree}
use Rattle.pp_typed.specs.declared.declared.Declared.{Declared}
use Rattle.pp_typed.specs.declared.typed.Typed.{Typed}
use Rattle.pp_typed.specs.declared.typed.TypedDef.{TypedDef}
use Rattle.pp_types.proofs.Functions.{defs_break, defs_complete, defs_sound, same_length}
use Rattle.pp_types_laws.proofs.Unique.{same_answer}
use Rattle.pp_types_laws.specs.Fault.{IsRefused, OnBroken, in_declarations, in_function, without_value, WithoutValue}
use Rattle.pp_types.specs.Functions.{defs_after}
use Rattle.pp_types_laws.specs.Typing.{HasTyping, TypesDefs}

not_both : {A : Type 0} (p : Part A) (a : A) (f : Fault) → p ≡ Ok a → p ≡ Err f → ⊥
not_both p a f e g = let h : Ok a ≡ Err f = sym e ∙ g in cc

broken_is : {A : Type 0} (f g : Fault) → let p : Part A = Err f in let q : Part A = Err g in p ≡ q → g ≡ f
broken_is f g h = cc

module _ (units : List UnitTree) where
  -- the declarations of a typing are those that are computed
  declared_is : (t : Typed) (h : HasTyping units t) → declare units ≡ Ok h.declared
  declared_is t h = declares_complete units h.declared h.declares

  abbrev pub typings : Declared → Part (List TypedDef)
  typings d = defs_after d [] (defs_of (decls_in units)) d.functions

  pub counted : (d : Declared) → declare units ≡ Ok d → length (defs_of (decls_in units)) ≡ length d.functions
  counted d e = same_length d.roots (declares_sound units d e).functions

  pub has_typing : (d : Declared) (t : Typed) → declare units ≡ Ok d → AreInhabited d.roots d.ctors
      → typings d ≡ Ok t.defs
      → t.roots ≡ d.roots → t.ctors ≡ d.ctors → HasTyping units t
  has_typing d t e inhabited typed roots ctors =
      let after = defs_sound d (defs_of (decls_in units)) d.functions [] t.defs (counted d e) typed in
      record {
        declared = d;
        declares = declares_sound units d e;
        inhabited = inhabited;
        roots = roots;
        ctors = ctors;
        defs = subst (TypesDefs d (defs_of (decls_in units)) d.functions) (sym after.all) after.types;
      }

  undeclared : (f : Fault) → declare units ≡ Err f → IsRefused units f
  undeclared f e = record {
    stands = in_declarations (whole_stands units f e);
    untyped = λ t h. not_both (declare units) h.declared f (declared_is t h) e;
  }

  module _ (d : Declared) (e : declare units ≡ Ok d) where
    same : (t : Typed) (h : HasTyping units t) → h.declared ≡ d
    same t h = same_answer (declare units) h.declared d (declared_is t h) e

    valueless : (f : Fault) → WithoutValue units d f → IsRefused units f
    valueless f w = record {
      stands = without_value d (declares_sound units d e) w;
      untyped = λ t h. w.uninhabited
          (subst (λ (x : Declared). AreInhabited x.roots x.ctors) (same t h) h.inhabited w.place w.root w.typed);
    }

    untypable : (f : Fault) → typings d ≡ Err f → IsRefused units f
    untypable f is =
        let one = defs_break d (defs_of (decls_in units)) d.functions [] f is in
        record {
          stands = in_function d one.place one.def one.signature (declares_sound units d e) one.written one.declares
              one.breaks;
          untyped = λ t h. not_both (typings d) t.defs f
              (defs_complete d []
              (subst (λ (x : Declared). TypesDefs x (defs_of (decls_in units)) x.functions t.defs)
              (same t h) h.defs)) is;
        }

    pub values_refused : {A : Type 0} (r : Result A Halt) (h : Halt) → r ≡ Err h
        → OnBroken {A = Unit {0}} (Err h) (WithoutValue units d) → OnBroken r (IsRefused units)
    values_refused r Memory is w = subst (λ q. OnBroken q (IsRefused units)) (sym is) tt
    values_refused r (Broken f) is w = subst (λ q. OnBroken q (IsRefused units)) (sym is) (valueless f w)

    pub defs_refused : {A : Type 0} (r : Result A Halt) (h : Halt) → r ≡ Err h
        → Tells {A = List TypedDef} (Err h) (typings d) → OnBroken r (IsRefused units)
    defs_refused r Memory is told = subst (λ q. OnBroken q (IsRefused units)) (sym is) tt
    defs_refused r (Broken f) is told = subst (λ q. OnBroken q (IsRefused units)) (sym is) (untypable f told)

  pub declare_refused : {A : Type 0} (r : Result A Halt) (h : Halt) → r ≡ Err h
      → Tells {A = Declared} (Err h) (declare units) → OnBroken r (IsRefused units)
  declare_refused r Memory is told = subst (λ q. OnBroken q (IsRefused units)) (sym is) tt
  declare_refused r (Broken f) is told = subst (λ q. OnBroken q (IsRefused units)) (sym is) (undeclared f told)

-- what typing units step by step asks for
pub ruleset typing_steps = (has_typing, declare_refused, values_refused, defs_refused)
