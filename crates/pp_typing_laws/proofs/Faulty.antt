-- What it tells that a step of the computation gives a fault.
use Rattle.std.proofs.Common.{◌≡◌, ℕ, Ok, Err, Bool, true, false, refl, sym, ap, nat_eq}
use Rattle.std.proofs.Common.{eq-eqb}
use Rattle.std.specs.Prelude.{◌≢◌, if◌then◌else◌}
use Rattle.pp_fault.specs.declared.Fault.{Fault}
use Rattle.pp_fault.specs.declared.Rule.{Rule}
use Rattle.pp_fault.specs.declared.Rule.TheVariants.{Mismatch}
use Rattle.pp_fault.specs.Part.{Part, and_then}
use Rattle.pp_fault.proofs.Parts.{same_err}
use Rattle.pp_generic.specs.declared.expected.Expected.{Expected}
use Rattle.pp_typed.specs.Equal.{equal}
use Rattle.pp_generic.specs.Expected.{fits}
use Rattle.pp_rules.specs.Elab.{agreed, flaw, of_sort, unless}
use Rattle.pp_rules.specs.Scope.{Env}
use Rattle.pp_tree.specs.Plain.{Word}
use Rattle.pp_typed.specs.declared.expr.TypedExpr.{TypedExpr}
use Rattle.pp_typed.specs.declared.sort.GenericSort.{GenericSort}
use Rattle.pp_typing_laws.proofs.Steps.{equal_of}
use Rattle.pp_typing_laws.specs.Faults.{flawed, Misfits}

pub then_err : {A B C : Type 0} (p : Part A) (go : A → Part B) (f : Fault) → and_then p go ≡ Err f
    → (p ≡ Err f → C) → ((a : A) → p ≡ Ok a → go a ≡ Err f → C) → C
then_err (Ok a) go f h first later = later a refl h
then_err {A} {B} (Err g) go f h first later = first (ap Err (same_err {A = B} g f h))

pub uneven : (m n : ℕ) → nat_eq m n ≡ false → m ≢ n
uneven m n h e = let t = eq-eqb m n e in cc

module _ (env : Env) where
  pub unless_err : {A C : Type 0} (b : Bool) (rule : Rule) (w : Word) (at : ℕ) (x : Part A) (f : Fault)
      → unless env b rule w at x ≡ Err f → (b ≡ false → flawed env rule w at ≡ f → C) → (b ≡ true → x ≡ Err f → C) → C
  unless_err true rule w at x f h first later = later refl h
  unless_err {A} false rule w at x f h first later = first refl (same_err {A = A} (flawed env rule w at) f h)

  pub fresh_err : {A C : Type 0} (b : Bool) (rule : Rule) (w : Word) (at : ℕ) (x : Part A) (f : Fault)
      → (if b then flaw env rule w at else x) ≡ Err f → (b ≡ true → flawed env rule w at ≡ f → C) → (b ≡ false
      → x ≡ Err f → C) → C
  fresh_err {A} true rule w at x f h first later = first refl (same_err {A = A} (flawed env rule w at) f h)
  fresh_err false rule w at x f h first later = later refl h

  pub differs : (s t : GenericSort) → equal s t ≡ false → t ≢ s
  differs s t h e = let b = equal_of env s t (sym e) in cc

  pub agreed_err : (x : Expected) (w : Word) (t : TypedExpr) (f : Fault) → agreed env x w t ≡ Err f
      → Misfits env x t.of × (flawed env Mismatch w t.at ≡ f)
  agreed_err x w t f h = unless_err (fits x t.of) Mismatch w t.at (Ok t) f h (λ b is. (b, is)) (λ b is. cc)

  pub of_sort_err : (rule : Rule) (s : GenericSort) (w : Word) (t : TypedExpr) (f : Fault)
      → of_sort env rule s w t ≡ Err f
      → (t.of ≢ s) × (flawed env rule w t.at ≡ f)
  of_sort_err rule s w t f h =
      unless_err (equal s t.of) rule w t.at (Ok t) f h (λ b is. (differs s t.of b, is)) (λ b is. cc)
