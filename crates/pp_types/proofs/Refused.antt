-- The refusal of a root without a value.
use Rattle.std.proofs.Common.{◌≡◌, ◌∙◌, ℕ, ◌<◌, List, Option, Some, Result, Ok, Err, MatchOption, get_or, length}
use Rattle.std.proofs.Common.{slice_get, refl, sym, ap, subst}
use Rattle.std.proofs.lemmas.Option.{slice_get-get_or, slice_get-map, slice_get_within}
use Rattle.std.specs.Option.{option_map}
use Rattle.pp_declared.specs.Listed.{decls_in, roots_of}
use Rattle.pp_declared.specs.Shown.{class_in, class_ins}
use Rattle.pp_declared.specs.declared.listed.ClassAt.{ClassAt}
use Rattle.pp_fault.specs.Part.{Tells}
use Rattle.pp_fault.specs.declared.Fault.{Fault}
use Rattle.pp_fault.specs.declared.Halt.{Halt}
use Rattle.pp_fault.specs.declared.Halt.TheVariants.{Memory, Broken}
use Rattle.pp_fault.specs.declared.Rule.TheVariants.{Uninhabited}
use Rattle.pp_inhabited.specs.Value.{AreInhabited, IsFirstUninhabited}
use Rattle.pp_tree.specs.Plain.{UnitTree}
use Rattle.pp_typed.specs.declared.declared.Declared.{Declared}
use Rattle.pp_typed.specs.declared.typed.TypedCtor.{TypedCtor}
use Rattle.pp_typed.specs.declared.typed.TypedRoot.{TypedRoot}
use Rattle.pp_types_laws.specs.Fault.{OnBroken, WithoutValue}
use Rattle.pp_types_laws.specs.Fault.{fault_of}

pub on_broken : {A : Type 0} (r : Result A Halt) (g : Fault) (P : Fault → Type 0) → Tells r (Err g) → P g → OnBroken r P
on_broken (Ok a) g P told p = tt
on_broken (Err Memory) g P told p = tt
on_broken {A} (Err (Broken f)) g P told p = subst P (let e : Err g ≡ Err f = told in cc) p

-- the root that was found is the first without a value
pub first_of : (roots : List TypedRoot) (ctors : List TypedCtor) (o : Option ℕ) (r : ℕ) → o ≡ Some r
    → MatchOption o (AreInhabited roots ctors) (IsFirstUninhabited roots ctors) → IsFirstUninhabited roots ctors r
first_of roots ctors o r e h =
    subst (λ x. MatchOption x (AreInhabited roots ctors) (IsFirstUninhabited roots ctors)) e h

pub first_within : (roots : List TypedRoot) (ctors : List TypedCtor) (r : ℕ) → IsFirstUninhabited roots ctors r
    → r < length roots
first_within roots ctors r h = slice_get_within roots r h.root h.there

-- the fault is that of the root without a value
pub without_value : (units : List UnitTree) (d : Declared) (classes : List ClassAt) (r : ℕ) (k : ClassAt)
    → class_ins classes ≡ roots_of (decls_in units) → r < length classes
    → IsFirstUninhabited d.roots d.ctors r
    → WithoutValue units d (fault_of Uninhabited (get_or classes r k).class.name.now (get_or classes r k).source
    (get_or classes r k).class.at)
without_value units d classes r k is lt h = record {
  place = r;
  class = class_in (get_or classes r k);
  root = h.root;
  written = ap (λ l. slice_get l r) (sym is) ∙ slice_get-map class_in classes r
      ∙ ap (option_map class_in) (slice_get-get_or classes r k lt);
  typed = h.there;
  uninhabited = h.uninhabited;
  is = refl;
}
